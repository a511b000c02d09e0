-- The other lines are read as what was printed (this project's own). Words are those of a line,
-- which parts them at spaces.
use Rattle.std.specs.Prelude.{◌≡◌, ℕ, Some}
use Rattle.std.specs.Option.{option_map}
use Rattle.asm_words.specs.Labels.{end_in}
use Rattle.asm_words.specs.declared.labels.Labels.{Labels}
use Rattle.asm_words.specs.declared.stated.StatedClass.{StatedClass}
use Rattle.asm_words.specs.declared.stated.StatedCode.{StatedCode}
use Rattle.asm_words.specs.declared.stated.StatedMember.{StatedMember}
use Rattle.asm_words.specs.declared.stated.StatedNote.{StatedNote}
use Rattle.asm_words.specs.declared.stated.StatedRow.{StatedRow}
use Rattle.asm_words.specs.declared.stated.StatedShape.{StatedShape}
use Rattle.class_asm.specs.Classes.{empty_class, class_in}
use Rattle.class_asm.specs.Codes.{line_in, row_in}
use Rattle.class_asm.specs.Frames.{shape_of}
use Rattle.class_asm.specs.Members.{empty_code, named_member, note_in, field_in, method_in}
use Rattle.std.specs.Prelude.{None, ◌<◌, ◌≤◌, ◌^◌}
use Rattle.asm_laws.specs.Lines.{class_line, note_line, field_line, method_line, number_line, handler_line, frame_line}
use Rattle.asm_laws.specs.LinesHaveText.{HeadHasText, NoteHasText, FieldHasText, MethodHasText, RowHasText, ShapeHasText}
use Rattle.asm_laws.specs.Statement.{AreLabelled}
use Rattle.asm_laws.specs.Words.{label}

-- the first line of a class: its names, flags and version, and nothing else
abbrev pub HeadsAreReadBack : Type 0
HeadsAreReadBack =
    (class : StatedClass) → HeadHasText class →
    class_in (class_line class) ≡ Some (empty_class class.name class.parent class.flags class.major)

abbrev pub NotesAreReadBack : Type 0
NotesAreReadBack = (note : StatedNote) → NoteHasText note → note_in (note_line note) ≡ Some note

abbrev pub FieldsAreReadBack : Type 0
FieldsAreReadBack =
    (field : StatedMember) → FieldHasText field →
    field_in (field_line field) ≡ Some (named_member field.flags field.name field.desc None)

-- the code of a method's first line: its sizes, and no lines
abbrev pub sizes_of : StatedCode → StatedCode
sizes_of code = empty_code code.max_stack code.max_locals

abbrev pub MethodsAreReadBack : Type 0
MethodsAreReadBack =
    (method : StatedMember) → MethodHasText method →
    method_in (method_line method) ≡ Some
    (named_member method.flags method.name method.desc (option_map sizes_of method.code))

abbrev pub NumbersAreReadBack : Type 0
NumbersAreReadBack = (number : ℕ) → number < 2 ^ 16 → line_in (number_line number) ≡ Some number

-- Each of so many instructions has its label, and so has the code's end.
abbrev pub AreEndsLabelled : ℕ → Labels → Type 0
AreEndsLabelled total labels = (n : ℕ) → n ≤ total → end_in labels (label n) ≡ Some n

abbrev pub RowsAreReadBack : Type 0
RowsAreReadBack =
    (total : ℕ) (labels : Labels) (row : StatedRow) → AreLabelled total labels →
    AreEndsLabelled total labels → RowHasText total row →
    row_in labels (handler_line row) ≡ Some row

abbrev pub FramesAreReadBack : Type 0
FramesAreReadBack =
    (total : ℕ) (labels : Labels) (shape : StatedShape) → AreLabelled total labels →
    ShapeHasText total shape → shape_of labels (frame_line shape) ≡ Some shape
