-- What an edit gives.
use Rattle.std.proofs.Common.{◌≡◌, ℕ, List, Some, None, Result, Ok, Err, refl, subst}
use Rattle.class_model.specs.declared.class.Class.{Class}
use Rattle.class_model.specs.declared.edit.Edit.{Edit}
use Rattle.class_model.specs.declared.fault.LayoutFault.{LayoutFault}
use Rattle.class_writer.specs.Writing.{layout}
use Rattle.mutant_apply.specs.Edited.{edited_parts, class_with, with_layout}
use Rattle.mutant_apply.specs.Laws.{IsMade, AppliedIsMade}
use Rattle.mutant_apply.specs.declared.parts.Parts.{Parts}
use Rattle.mutant_apply.proofs.CodeForms.{first_was}

made_case : (class : Class) (edit : Edit) (made : Class × List ℕ) (parts : Parts) (bytes : Result (List ℕ) LayoutFault) → edited_parts edit class ≡ Some parts → layout (class_with edit class parts) ≡ bytes → with_layout (class_with edit class parts) bytes ≡ Some made → IsMade class edit made
made_case class edit made parts (Ok bytes) edited is e =
    let same : (class_with edit class parts, bytes) ≡ made = cc in
    subst (IsMade class edit) same (record { parts = parts; edited = edited; is = refl; bytes = is; named = record { pool = refl; this = refl; parent = refl; interfaces = refl } })
made_case class edit made parts (Err fault) edited is e = absurd cc

pub applied_made : AppliedIsMade
applied_made class edit made e =
    let a = first_was (edited_parts edit class) (λ parts. with_layout (class_with edit class parts) (layout (class_with edit class parts))) made e in
    made_case class edit made a.0 (layout (class_with edit class a.0)) a.1 refl a.2
