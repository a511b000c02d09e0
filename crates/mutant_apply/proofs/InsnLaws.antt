-- New instructions one after the other.
use Rattle.std.proofs.Common.{◌≡◌, List, [], ◌∷◌, ◌++◌, Option, Some, None, refl, sym, ap, ◌∙◌, append_assoc, append-nil}
use Rattle.class_model.specs.declared.constant.Const.{Const}
use Rattle.class_model.specs.declared.edit.NewInsn.{NewInsn}
use Rattle.class_model.specs.declared.instruction.Insn.{Insn}
use Rattle.mutant_apply.specs.Entries.{◌>>=◌}
use Rattle.mutant_apply.specs.Edited.{new_insn, new_insns}

-- what comes behind others
abbrev pub with_first : List Insn → Option (List Insn × List Const) → Option (List Insn × List Const)
with_first front o = o >>= λ x. Some (front ++ x.0, x.1)
