-- The parts and the bytes are those of the class that the edit makes.
use Rattle.std.proofs.Common.{◌≡◌, refl, ℕ, List, Option, Some, None, Result, Ok, Err}
use Rattle.std.specs.Prelude.{option_and_then}
use Rattle.std.specs.Option.{option_map}
use Rattle.class_model.specs.declared.class.Class.{Class}
use Rattle.class_model.specs.declared.edit.Edit.{Edit}
use Rattle.class_model.specs.declared.fault.LayoutFault.{LayoutFault}
use Rattle.class_writer.specs.Writing.{layout}
use Rattle.mutant_apply.specs.Edited.{edited_parts, class_with, with_layout}
use Rattle.mutant_apply.specs.declared.parts.Parts.{Parts}
use Rattle.mutant_apply.specs.Spliced.{with_bytes}
use Rattle.mutant_apply.specs.BytesLaws.{PartsAreOfApplied}

abbrev with_class : Class → Edit → Parts × List ℕ → Class × List ℕ
with_class class edit made = (class_with edit class made.0, made.1)

bytes_case : (class : Class) (edit : Edit) (parts : Parts) (bytes : Result (List ℕ) LayoutFault) → option_map (with_class class edit) (with_bytes parts bytes) ≡ with_layout (class_with edit class parts) bytes
bytes_case class edit parts (Ok bytes) = refl
bytes_case class edit parts (Err fault) = refl

parts_case : (class : Class) (edit : Edit) (o : Option Parts) → option_map (with_class class edit) (option_and_then (λ parts. with_bytes parts (layout (class_with edit class parts))) o) ≡ option_and_then (λ parts. with_layout (class_with edit class parts) (layout (class_with edit class parts))) o
parts_case class edit None = refl
parts_case class edit (Some parts) = bytes_case class edit parts (layout (class_with edit class parts))

pub parts_applied : PartsAreOfApplied
parts_applied class edit = parts_case class edit (edited_parts edit class)
