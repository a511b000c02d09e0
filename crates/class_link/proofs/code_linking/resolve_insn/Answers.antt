use Rattle.std.proofs.Common.{◌∙◌}
use Rattle.class_link.specs.Opcodes.{instruction_by}
use Rattle.class_link.proofs.Resolved.{table_switch_is, lookup_switch_is}
use Rattle.class_link.proofs.code_linking.resolve_insn.Goals as goal

pub returns-in-Table : goal.returns-in-Table
unfolding instruction_by
returns-in-Table c = rw c.in-Table.is (λ ss more h. c.table_switch.ensures c.args.entries.now ss ∙ table_switch_is c.args.insn.now.op c.args.next_switch ss more c.in-Table.field-0 c.in-Table.field-1.0 c.in-Table.field-1.1 h)

pub returns-in-Lookup : goal.returns-in-Lookup
unfolding instruction_by
returns-in-Lookup c = rw c.in-Lookup.is (λ ss more h. c.lookup_switch.ensures c.args.entries.now ss ∙ lookup_switch_is c.args.insn.now.op c.args.next_switch ss more c.in-Lookup.field-0 c.in-Lookup.field-1 h)
