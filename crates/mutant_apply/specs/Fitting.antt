-- Which edits can be made of a class (this project's own).
use Rattle.std.specs.Prelude.{◌≡◌, ◌≢◌, ◌⊎◌, ◌<◌, ◌^◌, ℕ, List, [], slice_get, Option, Some, None}
use Rattle.std.specs.List.{AllByRecursion}
use Rattle.class_model.specs.Pool.{HasMethodType, IsClassEntryName}
use Rattle.class_model.specs.Text.{IsUnits}
use Rattle.class_model.specs.declared.attribute.Code.{Code, out-Code}
use Rattle.class_model.specs.declared.class.Class.{Class}
use Rattle.class_model.specs.declared.constant.Const.{Const}
use Rattle.class_model.specs.declared.edit.Edit.{Edit}
use Rattle.class_model.specs.declared.edit.NewInsn.{NewInsn}
use Rattle.class_model.specs.declared.edit.NewInsn.TheVariants.{Plain, Inc, EmptyText, Call}
use Rattle.class_model.specs.declared.instruction.Insn.{Insn}
use Rattle.mt_insn.specs.Code.{HasForm, NamesRight, targets_in}
use Rattle.mutant_apply.specs.Edited.{named_code}

-- An instruction that may stand in the place of another one: it has the form of its opcode, names
-- in the pool what that may name, and leads nowhere or where the other one leads.
pub record StandsFor (pool : List Const) (old new : Insn) : Type 0 where
  pub form : HasForm new
  pub names : NamesRight pool new
  pub leads : (targets_in new.arg ≡ []) ⊎ (targets_in new.arg ≡ targets_in old.arg)

-- What a method is called by: the name of a class, a name and a method's descriptor.
pub record IsCall (class name desc : List ℕ) : Type 0 where
  pub class_units : IsUnits class
  pub class_name : IsClassEntryName class
  pub name_units : IsUnits name
  pub desc_units : IsUnits desc
  pub desc_type : HasMethodType desc

abbrev pub CanReplace : List Const → Insn → NewInsn → Type 0
CanReplace pool old (Plain new) = StandsFor pool old new
CanReplace pool old (Inc local by) = local < 2 ^ 16
CanReplace pool old EmptyText = Unit {0}
CanReplace pool old (Call class name desc) = IsCall class name desc

abbrev pub FitsInsn : List Const → List NewInsn → Option Insn → Type 0
FitsInsn pool with None = ⊥
FitsInsn pool with (Some old) = (with ≢ []) × AllByRecursion (CanReplace pool old) with

abbrev pub FitsCode : List Const → Edit → Option Code → Type 0
FitsCode pool edit None = ⊥
FitsCode pool edit (Some code) = FitsInsn pool edit.with (slice_get (out-Code code).insns edit.at)

-- The edit names an instruction of a method with Code, and puts at least one in its place, each of
-- which may stand there.
abbrev pub Fits : Class → Edit → Type 0
Fits class edit = FitsCode class.pool edit (named_code edit class)
