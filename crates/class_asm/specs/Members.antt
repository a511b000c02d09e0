-- Fields and methods, with the lines behind theirs (this project's own). The notes of a method with
-- code stand before its code or behind it.
use Rattle.std.specs.Prelude.{ℕ, ◌==◌, Bool, true, false, ◌&&◌, List, [], ◌∷◌, ◌++◌, codes, Option, Some, None, ok_or, option_and_then, Result, Ok, Err, if◌then◌else◌}
use Rattle.std.specs.Option.{option_map}
use Rattle.codec_rules.specs.Sequence.{◌>>=◌}
use Rattle.class_model.specs.DeclaredName.{is_field_name, is_method_name}
use Rattle.class_model.specs.DescriptorReading.{field_kind, method_kinds}
use Rattle.std.specs.Result.{is_ok}
use Rattle.asm_words.specs.Words.{says}
use Rattle.asm_words.specs.Numbers.{up_to}
use Rattle.asm_words.specs.Keywords.{line_kind}
use Rattle.asm_words.specs.Labels.{insns_in, labels_of}
use Rattle.asm_words.specs.Entries.{is_result_desc}
use Rattle.asm_words.specs.Operands.{both}
use Rattle.class_asm.specs.Codes.{numbered, framed, guarded, with_insn, is_first_label}
use Rattle.asm_words.specs.declared.line.Line.{Line}
use Rattle.asm_words.specs.declared.labels.Labels.{Labels}
use Rattle.asm_words.specs.declared.keyword.LineKind.{LineKind}
use Rattle.asm_words.specs.declared.keyword.LineKind.TheVariants as kind
use Rattle.class_asm.specs.declared.fault.AsmFault.{AsmFault}
use Rattle.class_asm.specs.declared.fault.AsmFault.TheVariants as asm_fault
use Rattle.asm_words.specs.declared.stated.StatedCode.{StatedCode}
use Rattle.asm_words.specs.declared.stated.StatedNote.{StatedNote}
use Rattle.asm_words.specs.declared.stated.StatedMember.{StatedMember}
use Rattle.class_asm.specs.declared.member.Sizes.{Sizes}
use Rattle.class_asm.specs.declared.member.MemberHead.{MemberHead}
use Rattle.class_asm.specs.declared.member.Stage.{Stage}
use Rattle.class_asm.specs.declared.member.Stage.TheVariants as stage
use Rattle.class_asm.specs.declared.member.Progress.{Progress}

-- ---- notes

abbrev pub plain_note : List ℕ → Option StatedNote
plain_note desc =
    if is_ok (field_kind desc) then Some (record { kind = desc; expected = None }) else None

-- an annotation without elements
abbrev pub class_note_in : List (List ℕ) → Option StatedNote
class_note_in words = both (λ keyword desc. plain_note desc) words

abbrev pub expecting_note : List ℕ → List ℕ → List ℕ → Option StatedNote
expecting_note desc keyword expected =
    if says keyword (codes "expected") && is_ok (field_kind desc) && is_result_desc expected
    then Some (record { kind = desc; expected = Some expected })
    else None

-- an annotation, which may have a class as its element `expected`
abbrev pub note_in : List (List ℕ) → Option StatedNote
note_in (first ∷ desc ∷ keyword ∷ expected ∷ []) = expecting_note desc keyword expected
note_in words = class_note_in words

-- ---- the first lines of members

abbrev pub named_member : ℕ → List ℕ → List ℕ → Option StatedCode → StatedMember
named_member flags name desc code =
    record { flags = flags; name = name; desc = desc; code = code; notes = [] }

abbrev pub field_by : List ℕ → List ℕ → List ℕ → Option StatedMember
field_by flags name desc =
    option_and_then
    (λ n.
    if is_field_name name
    then (if is_ok (field_kind desc) then Some (named_member n name desc None) else None)
    else None) (up_to 0xFFFF flags)

abbrev pub field_in : List (List ℕ) → Option StatedMember
field_in (keyword ∷ flags ∷ name ∷ desc ∷ []) = field_by flags name desc
field_in other = None

abbrev pub empty_code : ℕ → ℕ → StatedCode
empty_code stack locals =
    record {
      max_stack = stack;
      max_locals = locals;
      insns = [];
      rows = [];
      lines = [];
      frames = [];
    }

abbrev pub sized : Sizes → StatedCode
sized sizes = empty_code sizes.max_stack sizes.max_locals

-- the code of a member, where it has one
abbrev pub code_with : Option Sizes → Option StatedCode
code_with sizes = option_map sized sizes

-- a member of which only the first line was stated
abbrev pub member_of : MemberHead → StatedMember
member_of head = named_member head.flags head.name head.desc (code_with head.sizes)

-- A code without lines, by the words of its sizes; no words are no code.
abbrev pub code_in : List (List ℕ) → Option (Option StatedCode)
code_in [] = Some None
code_in (first ∷ stack ∷ second ∷ locals ∷ []) =
    if says first (codes "stack") && says second (codes "locals")
    then option_and_then (λ s. option_map (λ l. Some (empty_code s l)) (up_to 0xFFFF locals))
    (up_to 0xFFFF stack)
    else None
code_in other = None

abbrev pub method_by : List ℕ → List ℕ → List ℕ → Option StatedCode → Option StatedMember
method_by flags name desc code =
    option_and_then
    (λ n.
    if is_method_name name
    then (if is_ok (method_kinds desc) then Some (named_member n name desc code) else None)
    else None) (up_to 0xFFFF flags)

abbrev pub method_in : List (List ℕ) → Option StatedMember
method_in (keyword ∷ flags ∷ name ∷ desc ∷ sizes) =
    option_and_then (method_by flags name desc) (code_in sizes)
method_in other = None

-- ---- the lines of a method with code

abbrev pub labelled : Labels → StatedCode → Line → Option StatedCode
labelled labels code line = if is_first_label labels line then Some code else None

-- what a line of a code adds to it
abbrev pub code_by : Labels → StatedCode → Line → LineKind → Option StatedCode
code_by labels code line kind.LineNumber = numbered labels code line
code_by labels code line kind.Frame = framed labels code line
code_by labels code line kind.Handler = guarded labels code line
code_by labels code line kind.Instruction = with_insn labels code line
code_by labels code line kind.Label = labelled labels code line
code_by labels code line other = None

abbrev pub code_step : Labels → StatedCode → Line → Option StatedCode
code_step labels code line = code_by labels code line (line_kind line)

abbrev pub noting : Stage → Stage
noting stage.Before = stage.Before
noting stage.Inside = stage.Behind
noting stage.Behind = stage.Behind

abbrev pub noted : Progress → Line → Option Progress
noted progress line =
    option_map
    (λ note.
    record {
      code = progress.code;
      notes = progress.notes ++ note ∷ [];
      stage = noting progress.stage;
    }) (note_in line.words)

abbrev pub is_over : Stage → Bool
is_over stage.Behind = true
is_over other = false

abbrev pub coded : Labels → Progress → Line → Option Progress
coded labels progress line =
    if is_over progress.stage then None
    else option_map (λ code. record { code = code; notes = progress.notes; stage = stage.Inside })
    (code_step labels progress.code line)

abbrev pub is_note : LineKind → Bool
is_note kind.Note = true
is_note other = false

abbrev pub body_step : Labels → Progress → Line → Option Progress
body_step labels progress line =
    if is_note (line_kind line) then noted progress line else coded labels progress line

abbrev pub beginning : StatedCode → Progress
beginning code = record { code = code; notes = []; stage = stage.Before }

-- the lines of a method with code, up to the first that is wrong
abbrev pub body_from : Labels → Progress → List Line → Result Progress AsmFault
body_from labels progress [] = Ok progress
body_from labels progress (line ∷ lines) =
    ok_or (body_step labels progress line) (asm_fault.Line line.number) >>= λ next.
    body_from labels next lines

-- A method with code has an instruction; else its own line is wrong.
abbrev pub code_of : ℕ → StatedCode → List Line → Result Progress AsmFault
code_of number code lines =
    if insns_in lines == 0 then Err (asm_fault.Line number)
    else body_from (labels_of lines) (beginning code) lines

-- ---- members

abbrev pub note_of : Line → Option StatedNote
note_of line = if is_note (line_kind line) then note_in line.words else None

abbrev pub add_note : List StatedNote → Line → Option (List StatedNote)
add_note notes line = option_map (λ note. notes ++ note ∷ []) (note_of line)

abbrev pub notes_from : List StatedNote → List Line → Result (List StatedNote) AsmFault
notes_from notes [] = Ok notes
notes_from notes (line ∷ lines) =
    ok_or (add_note notes line) (asm_fault.Line line.number) >>= λ next. notes_from next lines

-- the lines of a member without code, which are notes
abbrev pub notes_of : List Line → Result (List StatedNote) AsmFault
notes_of lines = notes_from [] lines

-- a field by its line and the lines behind it
abbrev pub field_of : Line → List Line → Result StatedMember AsmFault
field_of first lines =
    ok_or (field_in first.words) (asm_fault.Line first.number) >>= λ field.
    notes_of lines >>= λ notes. Ok (record field { notes = notes })

abbrev pub with_code :
    StatedMember → ℕ → List Line → Option StatedCode → Result StatedMember AsmFault
with_code method number lines None =
    notes_of lines >>= λ notes. Ok (record method { code = None; notes = notes })
with_code method number lines (Some code) =
    code_of number code lines >>= λ progress.
    Ok (record method { code = Some progress.code; notes = progress.notes })

abbrev pub with_lines : StatedMember → ℕ → List Line → Result StatedMember AsmFault
with_lines method number lines = with_code method number lines method.code

-- a method by its line and the lines behind it
abbrev pub method_of : Line → List Line → Result StatedMember AsmFault
method_of first lines =
    ok_or (method_in first.words) (asm_fault.Line first.number) >>= λ method.
    with_lines method first.number lines
