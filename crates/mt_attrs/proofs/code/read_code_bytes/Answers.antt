use Rattle.std.proofs.Common.{◌∙◌}
use Rattle.mt_insn.proofs.LayoutLaws.{read_length}
use Rattle.mt_attrs.proofs.Starts.{taken}
use Rattle.mt_attrs.proofs.code.read_code_bytes.Goals as goal

pub returns-clause-sized : goal.returns-clause-sized
returns-clause-sized c = read_length c.in_ok-read_insns.field-0 c.in_ok-bytes.bytes.now c.in_ok-read_insns.ensures.found.1 ∙ taken c.args.len c.args.cur.now c.in_ok-bytes.bytes.now c.take.new.cur c.in_ok-bytes.ensures
