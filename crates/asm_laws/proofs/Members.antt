-- The lines of a member state that member.
use Rattle.std.proofs.Common.{◌≡◌, ◌∙◌, refl, sym, ap, ℕ, ◌+◌, Bool, cond, List, [], ◌∷◌, ◌++◌, map, length, append_assoc, Option, Some, None, arith}
use Rattle.std.specs.Prelude.{IfSome, ok_or, Result, Ok, Err}
use Rattle.std.specs.List.{AllByRecursion}
use Rattle.std.specs.Option.{option_map}
use Rattle.std.proofs.lemmas.Bool.{ne_eqb}
use Rattle.std.proofs.lemmas.List.{append-nil}
use Rattle.codec_rules.specs.Sequence.{◌>>=◌}
use Rattle.asm_words.specs.Labels.{insns_in, labels_of}
use Rattle.asm_words.specs.declared.known_labels.Label.{Label}
use Rattle.asm_words.specs.declared.labels.Labels.{Labels}
use Rattle.asm_words.specs.declared.stated.StatedCode.{StatedCode}
use Rattle.asm_words.specs.declared.stated.StatedMember.{StatedMember}
use Rattle.asm_words.specs.declared.stated.StatedNote.{StatedNote}
use Rattle.class_asm.specs.Members.{named_member, beginning, body_from, code_of, notes_from, notes_of, field_of, with_code, with_lines, method_of}
use Rattle.class_asm.specs.declared.fault.AsmFault.{AsmFault}
use Rattle.class_asm.specs.declared.fault.AsmFault.TheVariants as asm_fault
use Rattle.asm_laws.specs.CodeText.{numbered, code_text, CodesAreLabelled}
use Rattle.asm_laws.specs.Lines.{note_line, field_line, method_line}
use Rattle.asm_laws.specs.LinesHaveText.{NoteHasText}
use Rattle.asm_laws.specs.LineStatement.{NotesAreReadBack, FieldsAreReadBack, sizes_of, MethodsAreReadBack, NumbersAreReadBack, RowsAreReadBack, FramesAreReadBack}
use Rattle.asm_laws.specs.Statement.{InsnsAreReadBack}
use Rattle.asm_laws.proofs.LabelLaws.{Words, line, AreQuiet, counted, count_quiet, total_is, many}
use Rattle.asm_laws.specs.ClassText.{code_lines, member_lines}
use Rattle.asm_laws.specs.ClassHasText.{CodeHasText, FieldIsText, MethodIsText}
use Rattle.asm_laws.proofs.Body.{Progress, within, at_stage, skip, code_stated, note_steps}

-- ---- annotations of a member without code

notes_are : (back : NotesAreReadBack) (notes : List StatedNote) (k : ℕ) (so_far : List StatedNote) → AllByRecursion NoteHasText notes → notes_from so_far (numbered k (map note_line notes)) ≡ Ok (so_far ++ notes)
notes_are back [] k so_far all = ap (λ (l : List StatedNote). Ok l) (sym (append-nil so_far))
notes_are back (note ∷ notes) k so_far all =
    ap (λ (o : Option StatedNote). ok_or (option_map (λ (x : StatedNote). so_far ++ x ∷ []) o) (asm_fault.Line k) >>= λ next. notes_from next (numbered (k + 1) (map note_line notes))) (back note all.0)
    ∙ notes_are back notes (k + 1) (so_far ++ note ∷ []) all.1
    ∙ ap (λ (l : List StatedNote). Ok l) (append_assoc so_far (note ∷ []) notes)

notes_alone : (back : NotesAreReadBack) (notes : List StatedNote) (k : ℕ) → AllByRecursion NoteHasText notes → notes_of (numbered k (map note_line notes ++ [])) ≡ Ok notes
notes_alone back notes k all = ap (λ (ws : List Words). notes_of (numbered k ws)) (append-nil (map note_line notes)) ∙ notes_are back notes k [] all

-- ---- fields

pub field_stated : (back : NotesAreReadBack) (fields_back : FieldsAreReadBack) (k : ℕ) (field : StatedMember) → FieldIsText field → field_of (line k (field_line field)) (numbered (k + 1) (member_lines field)) ≡ Ok field
field_stated back fields_back k field h = by field.code h.plain
  where
    by : (code : Option StatedCode) → code ≡ None → field_of (line k (field_line field)) (numbered (k + 1) (map note_line field.notes ++ code_lines code)) ≡ Ok (record field { code = code })
    by (Some code) e = absurd cc
    by None e =
        let lines = numbered (k + 1) (map note_line field.notes ++ []) in
        ap (λ (o : Option StatedMember). ok_or o (asm_fault.Line k) >>= λ first. notes_of lines >>= λ notes. Ok (record first { notes = notes })) (fields_back field h.first)
        ∙ ap (λ (r : Result (List StatedNote) AsmFault). r >>= λ notes. Ok (record field { code = None; notes = notes })) (notes_alone back field.notes (k + 1) h.notes)

-- ---- methods

pub quiet_notes : (notes : List StatedNote) → AreQuiet (map note_line notes)
quiet_notes [] = tt
quiet_notes (note ∷ notes) = (record { label = refl; instruction = refl }, quiet_notes notes)

module _ (insns_back : InsnsAreReadBack) (back : NotesAreReadBack) (methods_back : MethodsAreReadBack) (numbers_back : NumbersAreReadBack) (rows_back : RowsAreReadBack) (frames_back : FramesAreReadBack) (labelled : CodesAreLabelled) where
  code_is : (number k : ℕ) (notes : List StatedNote) (code : StatedCode) → CodeHasText code → AllByRecursion NoteHasText notes → code_of number (sizes_of code) (numbered k (map note_line notes ++ code_text code)) ≡ Ok (at_stage code notes within)
  code_is number k notes code h all =
      let total = length code.insns in
      let words = map note_line notes ++ code_text code in
      let lines = numbered k words in
      let from = k + length (map note_line notes) in
      let labels = labels_of (numbered from (code_text code)) in
      let size : insns_in lines ≡ total = counted k words ∙ count_quiet (map note_line notes) (code_text code) (quiet_notes notes) ∙ total_is code total 0 code.insns h.insns in
      let sized : labels.total ≡ total = many code from h.insns in
      let some = h.some in
      let same : labels_of lines ≡ labels =
      ap (λ (known : List Label). record { known = known; total = insns_in lines }) (skip 0 k (map note_line notes) (code_text code) (quiet_notes notes))
      ∙ ap (λ (n : ℕ). record { known = labels.known; total = n }) (size ∙ sym sized)
      in
      let known = labelled code from h.few h.insns in
      ap (λ (b : Bool). cond b (Err (asm_fault.Line number)) (body_from (labels_of lines) (beginning (sizes_of code)) lines)) (ne_eqb (insns_in lines) 0 (λ e. omega (arith, e, size, some)))
      ∙ ap (λ (ls : Labels). body_from ls (beginning (sizes_of code)) lines) same
      ∙ note_steps labels notes k (sizes_of code) [] (code_text code) back all
      ∙ code_stated labels total h.few sized known.0 known.1 insns_back numbers_back rows_back frames_back code notes from refl refl h.insns h.rows h.lines h.frames

  pub method_stated : (k : ℕ) (method : StatedMember) → MethodIsText method → method_of (line k (method_line method)) (numbered (k + 1) (member_lines method)) ≡ Ok method
  method_stated k method h =
      ap (λ (o : Option StatedMember). ok_or o (asm_fault.Line k) >>= λ first. with_lines first k (numbered (k + 1) (member_lines method))) (methods_back method h.first)
      ∙ by method.code h.code
    where
      by : (code : Option StatedCode) → IfSome code CodeHasText → with_code (named_member method.flags method.name method.desc (option_map sizes_of method.code)) k (numbered (k + 1) (map note_line method.notes ++ code_lines code)) (option_map sizes_of code) ≡ Ok (record method { code = code })
      by None e = ap (λ (r : Result (List StatedNote) AsmFault). r >>= λ notes. Ok (record method { code = None; notes = notes })) (notes_alone back method.notes (k + 1) h.notes)
      by (Some code) e = ap (λ (r : Result Progress AsmFault). r >>= λ progress. Ok (record method { code = Some progress.code; notes = progress.notes })) (code_is k (k + 1) method.notes code e h.notes)
