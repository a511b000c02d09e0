-- No definition of the assembler gives want of memory as its fault.
use Rattle.std.proofs.Common.{◌≡◌, ◌≢◌, ℕ, ◌+◌, Bool, true, false, List, [], ◌∷◌, length, Option, Some, None, Result, Ok, Err, refl, sym, ◌∙◌}
use Rattle.std.specs.Prelude.{ok_or, ◌==◌, if◌then◌else◌}
use Rattle.codec_rules.specs.Sequence.{◌>>=◌}
use Rattle.class_model.specs.declared.class.Class.{Class}
use Rattle.class_model.specs.declared.fault.LayoutFault.{LayoutFault}
use Rattle.class_writer.specs.Writing.{layout}
use Rattle.asm_words.specs.Keywords.{line_kind, begins_part}
use Rattle.asm_words.specs.Labels.{labels_of, insns_in}
use Rattle.asm_words.specs.Lines.{pieces, lines_from}
use Rattle.asm_words.specs.declared.line.Line.{Line}
use Rattle.asm_words.specs.declared.stated.StatedClass.{StatedClass}
use Rattle.asm_words.specs.declared.stated.StatedCode.{StatedCode}
use Rattle.asm_words.specs.declared.stated.StatedMember.{StatedMember}
use Rattle.asm_words.specs.declared.stated.StatedNote.{StatedNote}
use Rattle.class_asm.specs.Classes.{class_in, head_step, head_from, own, is_field, is_end, ended, part_step, parts_from, stated_by}
use Rattle.class_asm.specs.Members.{body_step, body_from, beginning, code_of, add_note, notes_from, notes_of, field_in, field_of, with_code, method_in, method_of}
use Rattle.class_asm.specs.declared.class.End.{End}
use Rattle.class_asm.specs.declared.fault.AsmFault.{AsmFault}
use Rattle.class_asm.specs.declared.fault.AsmFault.TheVariants as asm_fault
use Rattle.class_asm.specs.Assembled.{stated_in, no_entries, with_end, with_room, within_limits, AssembledClass}
use Rattle.class_asm.specs.ClassFile as class_file
use Rattle.asm_laws.specs.Faults.{FaultsAreLines}

-- The fault, if there is one, is a line.
abbrev IsTold : {X : Type 0} → Result X AsmFault → Type 0
IsTold r = r ≢ Err asm_fault.Memory

done : {X : Type 0} (x : X) → IsTold (Ok x)
done x e = absurd cc

line : {X : Type 0} (n : ℕ) → IsTold {X = X} (Err (asm_fault.Line n))
line n e = absurd cc

some : {X : Type 0} (o : Option X) (n : ℕ) → IsTold (ok_or o (asm_fault.Line n))
some None n e = absurd cc
some (Some x) n e = absurd cc

chain : {X Y : Type 0} (r : Result X AsmFault) (f : X → Result Y AsmFault) → IsTold r → ((x : X) → IsTold (f x)) → IsTold (r >>= f)
chain (Ok x) f told next e = next x e
chain (Err fault) f told next e = told (let g : fault ≡ asm_fault.Memory = cc in (λ i. Err (g i)))

either : {X : Type 0} (b : Bool) (x y : Result X AsmFault) → IsTold x → IsTold y → IsTold (if b then x else y)
either true x y p q = p
either false x y p q = q

-- ---- members

of_notes : (notes : List StatedNote) (lines : List Line) → IsTold (notes_from notes lines)
of_notes notes [] = done notes
of_notes notes (l ∷ lines) = chain (ok_or (add_note notes l) (asm_fault.Line l.number)) _ (some (add_note notes l) l.number) (λ next. of_notes next lines)

-- steps over lines, whatever they carry along
of_steps : {P : Type 0} (step : P → Line → Option P) (from : P → List Line → Result P AsmFault) → ((p : P) → from p [] ≡ Ok p)
    → ((p : P) (l : Line) (lines : List Line) → from p (l ∷ lines) ≡ (ok_or (step p l) (asm_fault.Line l.number) >>= λ next. from next lines))
    → (p : P) (lines : List Line) → IsTold (from p lines)
of_steps step from none more p [] = λ e. done p (sym (none p) ∙ e)
of_steps step from none more p (l ∷ lines) =
    λ e. chain (ok_or (step p l) (asm_fault.Line l.number)) (λ next. from next lines) (some (step p l) l.number) (λ next. of_steps step from none more next lines) (sym (more p l lines) ∙ e)

of_code : (number : ℕ) (code : StatedCode) (lines : List Line) → IsTold (code_of number code lines)
of_code number code lines = either (insns_in lines == 0) _ _ (line number) (of_steps (body_step (labels_of lines)) (body_from (labels_of lines)) (λ p. refl) (λ p l ls. refl) (beginning code) lines)

of_field : (first : Line) (lines : List Line) → IsTold (field_of first lines)
of_field first lines =
    chain (ok_or (field_in first.words) (asm_fault.Line first.number)) _ (some (field_in first.words) first.number)
    (λ field. chain (notes_of lines) _ (of_notes [] lines) (λ notes. done _))

by_code : (method : StatedMember) (number : ℕ) (lines : List Line) (o : Option StatedCode) → IsTold (with_code method number lines o)
by_code method number lines None = chain (notes_of lines) _ (of_notes [] lines) (λ notes. done _)
by_code method number lines (Some code) = chain (code_of number code lines) _ (of_code number code lines) (λ progress. done _)

of_method : (first : Line) (lines : List Line) → IsTold (method_of first lines)
of_method first lines =
    chain (ok_or (method_in first.words) (asm_fault.Line first.number)) _ (some (method_in first.words) first.number)
    (λ method. by_code method first.number lines method.code)

-- ---- classes

of_head : (class : StatedClass) (lines : List Line) → IsTold (head_from class lines)
of_head class [] = done class
of_head class (l ∷ lines) = chain (ok_or (head_step class l) (asm_fault.Line l.number)) _ (some (head_step class l) l.number) (λ next. of_head next lines)

of_end : (l : Line) (lines : List Line) → IsTold (ended l lines)
of_end l lines = either (length l.words == 1) _ _ (done _) (line l.number)

of_part : (class : StatedClass) (first : Line) (lines : List Line) → IsTold (part_step class first lines)
of_part class first lines =
    either (is_field (line_kind first)) _ _ (chain (field_of first lines) _ (of_field first lines) (λ field. done _))
    (chain (method_of first lines) _ (of_method first lines) (λ method. done _))

of_parts : (last : ℕ) (class : StatedClass) (lines : List Line) → IsTold (parts_from last class lines)
of_parts last class [] = line last
of_parts last class (l ∷ lines) =
    either (is_end (line_kind l)) _ _ (chain (ended l lines) _ (of_end l lines) (λ end. done _))
    (either (begins_part l) _ _ (chain (part_step class l (own lines)) _ (of_part class l (own lines)) (λ next. of_parts last next lines)) (of_parts last class lines))

of_lines : (last : ℕ) (lines : List Line) → IsTold (stated_by last lines)
of_lines last [] = line last
of_lines last (first ∷ lines) =
    chain (ok_or (class_in first.words) (asm_fault.Line first.number)) _ (some (class_in first.words) first.number)
    (λ class. chain (head_from class (own lines)) _ (of_head class (own lines)) (λ headed. of_parts last headed lines))

-- ---- the file

of_behind : (class : Class) (o : Option ℕ) → IsTold (with_end class o)
of_behind class None = done class
of_behind class (Some n) = line n

of_room : (class : Class) (end : End) (r : Result (List ℕ) LayoutFault) → IsTold (with_room class end r)
of_room class end (Ok bytes) = of_behind class end.behind
of_room class end (Err e) = line end.line

of_limits : (x : Class × Bool) (end : End) → IsTold (within_limits x end)
of_limits x end = either x.1 _ _ (line end.line) (of_room x.0 end (layout x.0))

pub faults_are_lines : FaultsAreLines
unfolding AssembledClass
faults_are_lines text =
    chain (stated_in text) _ (of_lines (length (pieces 10 text) + 1) (lines_from 1 (pieces 10 text)))
    (λ x. of_limits (class_file.class_of x.0 no_entries) x.1)
