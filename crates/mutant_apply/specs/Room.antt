-- What numbers have room while an edit is made (this project's own): places in a code of at most
-- 65,535 instructions that moved by at most as many.
use Rattle.std.specs.Prelude.{◌≡◌, ◌≢◌, ℕ, ◌<◌, ◌^◌, List, All, Option, Some, None, Result, Ok, Err}
use Rattle.std.specs.List.{AllByRecursion}
use Rattle.class_model.specs.declared.attribute.Attr.{Attr}
use Rattle.class_model.specs.declared.attribute.Code.{Code}
use Rattle.class_model.specs.declared.attribute.Row.{Row}
use Rattle.class_model.specs.declared.attribute.Body.{Body}
use Rattle.class_model.specs.declared.attribute.Body.TheOpen.{Body-F, Code-F}
use Rattle.class_model.specs.declared.constant.Const.{Const}
use Rattle.class_model.specs.declared.edit.NewInsn.{NewInsn}
use Rattle.class_model.specs.declared.edit.NewInsn.TheVariants.{Plain}
use Rattle.class_model.specs.declared.frame.Frame.{Frame}
use Rattle.class_model.specs.declared.frame.Shape.{Shape}
use Rattle.class_model.specs.declared.frame.Shape.TheVariants as shape
use Rattle.class_model.specs.declared.frame.VItem.{VItem}
use Rattle.class_model.specs.declared.frame.VItem.TheVariants as vitem
use Rattle.class_model.specs.declared.instruction.Insn.{Insn}
use Rattle.mt_insn.specs.Code.{targets_in}
use Rattle.mt_attrs.specs.CodeParts.{body_of}
use Rattle.mutant_apply.specs.declared.refusal.Refusal.{Refusal}
use Rattle.mutant_apply.specs.declared.refusal.Refusal.TheVariants as refusal

-- ---- places

abbrev pub IsNear : ℕ → Type 0
IsNear place = place < 2 ^ 17

abbrev pub LeadsNear : Insn → Type 0
LeadsNear insn = AllByRecursion IsNear (targets_in insn.arg)

abbrev pub IsNearNew : NewInsn → Type 0
IsNearNew (Plain insn) = LeadsNear insn
IsNearNew other = Unit {0}

pub record IsNearRow (row : Row) : Type 0 where
  pub start : IsNear row.start
  pub last : IsNear row.end
  pub handler : IsNear row.handler

abbrev pub IsNearLine : ℕ × ℕ → Type 0
IsNearLine line = IsNear line.0

abbrev pub IsNearItem : VItem → Type 0
IsNearItem (vitem.Uninitialized n) = IsNear n
IsNearItem other = Unit {0}

abbrev pub IsNearShape : Shape → Type 0
IsNearShape (shape.One far item) = IsNearItem item
IsNearShape (shape.Append items) = All IsNearItem items
IsNearShape (shape.Full locals stack) = All IsNearItem locals × All IsNearItem stack
IsNearShape other = Unit {0}

pub record IsNearFrame (frame : Frame) : Type 0 where
  pub at : IsNear frame.at
  pub shape : IsNearShape frame.shape

abbrev pub IsNearTable : Body-F Body Attr Code → Type 0
IsNearTable (Body-F.Lines lines) = All IsNearLine lines
IsNearTable (Body-F.Frames frames) = All IsNearFrame frames
IsNearTable other = Unit {0}

pub record IsNearCode (c : Code-F Body Attr Code) : Type 0 where
  pub insns : All LeadsNear c.insns
  pub rows : All IsNearRow c.rows
  pub attrs : All (λ attr. IsNearTable (body_of attr)) c.attrs

-- ---- what a call answers

-- It gives what is meant, or runs out of memory.
abbrev pub Makes : {A : Type 0} → Option A → Result A Refusal → Type 0
Makes meant (Ok value) = meant ≡ Some value
Makes meant (Err e) = e ≢ refusal.Memory → meant ≡ None

-- The same of a call that adds entries to a pool: these are added then.
abbrev pub Adds : {A : Type 0} → Option (A × List Const) → List Const → Result A Refusal → Type 0
Adds meant new (Ok value) = meant ≡ Some (value, new)
Adds meant new (Err e) = e ≢ refusal.Memory → meant ≡ None
