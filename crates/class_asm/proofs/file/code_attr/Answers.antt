use Rattle.class_asm.proofs.AssembledLaws.{insns_written}
use Rattle.class_asm.proofs.file.code_attr.Goals as goal

pub starts_of-requires-clause-forms : goal.starts_of-requires-clause-forms
starts_of-requires-clause-forms c = (insns_written c.args.code.now _ _ c.in_ok-insns.insns (rw c.as_slice.ensures at c.in_ok-insns.ensures) c.requires).0

pub starts_of-requires-clause-targets : goal.starts_of-requires-clause-targets
starts_of-requires-clause-targets c = (insns_written c.args.code.now _ _ c.in_ok-insns.insns (rw c.as_slice.ensures at c.in_ok-insns.ensures) c.requires).1
