-- What the lines of a field or a method state fits.
use Rattle.std.proofs.Common.{◌≡◌, ℕ, zero, suc, ◌+◌, ◌<◌, ◌≤◌, ◌^◌, Bool, true, false, cond, List, [], ◌∷◌, ◌++◌, length, Option, Some, None, Ok, Err, refl, arith}
use Rattle.std.specs.Prelude.{IfOk, IfSome, All, option_and_then, ◌&&◌, ◌==◌, codes}
use Rattle.std.specs.Option.{option_map}
use Rattle.std.specs.Result.{is_ok}
use Rattle.std.specs.List.{AllByRecursion}
use Rattle.std.proofs.lemmas.List.Elements.{All-push}
use Rattle.codec_rules.specs.Sequence.{◌>>=◌}
use Rattle.class_model.specs.Text.{IsUnits}
use Rattle.class_model.specs.DeclaredName.{is_field_name, is_method_name}
use Rattle.class_model.specs.DescriptorReading.{field_kind, method_kinds}
use Rattle.asm_words.specs.Words.{says}
use Rattle.asm_words.specs.Numbers.{up_to}
use Rattle.asm_words.specs.Keywords.{line_kind}
use Rattle.asm_words.specs.Labels.{insns_in, labels_of, weight, is_instruction}
use Rattle.asm_words.specs.Entries.{is_result_desc}
use Rattle.class_asm.specs.Members.{plain_note, class_note_in, expecting_note, note_in, named_member, field_by, field_in, empty_code, code_in, method_by, method_in, code_step, noted, is_over, coded, is_note, body_step, beginning, body_from, code_of, note_of, add_note, notes_from, notes_of, field_of, with_code, with_lines, method_of}
use Rattle.asm_words.specs.declared.keyword.LineKind.{LineKind}
use Rattle.asm_words.specs.declared.keyword.LineKind.TheVariants as kind
use Rattle.asm_words.specs.declared.line.Line.{Line}
use Rattle.asm_words.specs.declared.labels.Labels.{Labels}
use Rattle.class_asm.specs.declared.fault.AsmFault.{AsmFault}
use Rattle.class_asm.specs.declared.fault.AsmFault.TheVariants as asm_fault
use Rattle.asm_words.specs.declared.stated.StatedCode.{StatedCode}
use Rattle.asm_words.specs.declared.stated.StatedNote.{StatedNote}
use Rattle.asm_words.specs.declared.stated.StatedMember.{StatedMember}
use Rattle.asm_words.proofs.IfSome.{of_map, of_then, of_if, of_unless, weaker}
use Rattle.asm_words.proofs.NumberLaws.{up_to_is}
use Rattle.class_asm.proofs.CodeLaws.{all_none, of_step, of_bind, if_ok}
use Rattle.asm_laws.specs.Fit.{IsFitInsn, IsFitFrame, IsFitRow, IsFitCode, IsFitNote, IsFitField, IsFitMethod}
use Rattle.asm_laws.proofs.FittingUnits.{AreUnits, IsUnitLine, domain}
use Rattle.asm_laws.proofs.FittingInsns.{both_of}
use Rattle.asm_laws.proofs.FittingCode.{Fits, After, code_by_is}

-- ---- numbers of two bytes

abbrev pub IsShort : ℕ → Type 0
IsShort n = n < 2 ^ 16

pub short_is : (word : List ℕ) → IfSome (up_to 0xFFFF word) IsShort
short_is word = weaker (up_to 0xFFFF word) (λ n. n ≤ 0xFFFF) IsShort (λ n le. omega (arith, le)) (up_to_is 0xFFFF word)

-- ---- notes

pub class_note_is : (words : List (List ℕ)) → AreUnits words → IfSome (class_note_in words) IsFitNote
class_note_is words h = both_of (λ keyword desc. plain_note desc) words IsFitNote h
    (λ keyword desc units others. of_if (is_ok (field_kind desc)) (Some (record { kind = desc; expected = None })) IsFitNote (λ e. record { units = others; kind = e; expected = tt }))

two_of : (a b c : Bool) → a && b && c ≡ true → (b ≡ true) × (c ≡ true)
two_of true true c e = (refl, e)
two_of true false c e = absurd cc
two_of false b c e = absurd cc

expecting_is : (desc keyword expected : List ℕ) → IsUnits desc → IsUnits expected → IfSome (expecting_note desc keyword expected) IsFitNote
expecting_is desc keyword expected units others = of_if (says keyword (codes "expected") && is_ok (field_kind desc) && is_result_desc expected) (Some (record { kind = desc; expected = Some expected })) IsFitNote
    (λ e. let both = two_of (says keyword (codes "expected")) (is_ok (field_kind desc)) (is_result_desc expected) e in record { units = units; kind = both.0; expected = (others, both.1) })

note_is : (words : List (List ℕ)) → AreUnits words → IfSome (note_in words) IsFitNote
note_is (first ∷ desc ∷ keyword ∷ expected ∷ []) h = expecting_is desc keyword expected h.1.0 h.1.1.1.0
note_is [] h = tt
note_is (a ∷ []) h = tt
note_is (a ∷ b ∷ []) h = class_note_is (a ∷ b ∷ []) h
note_is (a ∷ b ∷ c ∷ []) h = tt
note_is (a ∷ b ∷ c ∷ d ∷ e ∷ words) h = tt

note_of_is : (line : Line) → IsUnitLine line → IfSome (note_of line) IsFitNote
note_of_is line h = of_if (is_note (line_kind line)) (note_in line.words) IsFitNote (λ e. note_is line.words h.words)

notes_are : (notes : List StatedNote) (lines : List Line) → AllByRecursion IsUnitLine lines → All IsFitNote notes → IfOk (notes_from notes lines) (All IsFitNote)
notes_are notes [] h all = all
notes_are notes (line ∷ lines) h all = of_step (add_note notes line) (asm_fault.Line line.number) (λ next. notes_from next lines) (All IsFitNote)
    (of_map (λ note. notes ++ note ∷ []) (note_of line) (λ next. IfOk (notes_from next lines) (All IsFitNote))
    (weaker (note_of line) IsFitNote (λ note. IfOk (notes_from (notes ++ note ∷ []) lines) (All IsFitNote)) (λ note is. notes_are (notes ++ note ∷ []) lines h.1 (All-push IsFitNote notes note all is)) (note_of_is line h.0)))

own_notes : (lines : List Line) → AllByRecursion IsUnitLine lines → IfOk (notes_of lines) (All IsFitNote)
own_notes lines h = notes_are [] lines h (all_none IsFitNote)

-- ---- the lines of a method with code

abbrev Progress : Type 0
Progress = domain noted

-- The later progress fits, and has so many more instructions.
pub record Follows (progress : Progress) (more : ℕ) (later : Progress) : Type 0 where
  pub code : After progress.code more later.code
  pub notes : All IsFitNote later.notes

note_has_none : (k : LineKind) → is_note k ≡ true → ◌≡◌ {A = ℕ} (cond (is_instruction k) 1 0) 0
note_has_none kind.Note e = refl
note_has_none kind.Instruction e = absurd cc
note_has_none other e = refl

made_of : {A B : Type 0} → (f : A → B) (o : Option A) (Q : A → Type 0) (P : B → Type 0) → IfSome o Q → ((x : A) → Q x → P (f x)) → IfSome (option_map f o) P
made_of f o Q P h k = of_map f o P (weaker o Q (λ x. P (f x)) k h)

noted_is : (progress : Progress) (line : Line) (more : ℕ) → more ≡ 0 → IsUnitLine line → Fits progress.code → All IsFitNote progress.notes → IfSome (noted progress line) (Follows progress more)
noted_is progress line more none h fits all = made_of _ (note_in line.words) IsFitNote (Follows progress more) (note_is line.words h.words)
    (λ note is. record { code = (fits, omega (arith, none)); notes = All-push IsFitNote progress.notes note all is })

coded_is : (labels : Labels) (progress : Progress) (line : Line) → IsUnitLine line → Fits progress.code → All IsFitNote progress.notes → IfSome (coded labels progress line) (Follows progress (weight line))
coded_is labels progress line h fits all = of_unless (is_over progress.stage) _ (Follows progress (weight line))
    (λ e. made_of _ (code_step labels progress.code line) (After progress.code (weight line)) (Follows progress (weight line)) (code_by_is labels progress.code line (line_kind line) h fits) (λ code is. record { code = is; notes = all }))

step_by : (labels : Labels) (progress : Progress) (line : Line) (b : Bool) → is_note (line_kind line) ≡ b → IsUnitLine line → Fits progress.code → All IsFitNote progress.notes
    → IfSome (cond b (noted progress line) (coded labels progress line)) (Follows progress (weight line))
step_by labels progress line true e h fits all = noted_is progress line (weight line) (note_has_none (line_kind line) e) h fits all
step_by labels progress line false e h fits all = coded_is labels progress line h fits all

joined_steps : (first next last : Progress) (a b : ℕ) → Follows first a next → Follows next b last → Follows first (a + b) last
joined_steps first next last a b h k = let e = h.code.1 in let f = k.code.1 in record { code = (k.code.0, omega (arith, e, f)); notes = k.notes }

body_is : (labels : Labels) (progress : Progress) (lines : List Line) → AllByRecursion IsUnitLine lines → Fits progress.code → All IsFitNote progress.notes → IfOk (body_from labels progress lines) (Follows progress (insns_in lines))
body_is labels progress [] h fits all = record { code = (fits, omega arith); notes = all }
body_is labels progress (line ∷ lines) h fits all =
    of_step (body_step labels progress line) (asm_fault.Line line.number) (λ next. body_from labels next lines) (Follows progress (weight line + insns_in lines))
    (weaker (body_step labels progress line) (Follows progress (weight line)) (λ next. IfOk (body_from labels next lines) (Follows progress (weight line + insns_in lines)))
    (λ next is. if_ok (body_from labels next lines) (Follows next (insns_in lines)) (Follows progress (weight line + insns_in lines)) (λ last k. joined_steps progress next last (weight line) (insns_in lines) is k)
    (body_is labels next lines h.1 is.code.0 is.notes)) (step_by labels progress line (is_note (line_kind line)) refl h.0 fits all))

-- a code without lines
abbrev IsFresh : StatedCode → Type 0
IsFresh code = Fits code × (length code.insns ≡ 0)

fresh : (stack locals : ℕ) → IsShort stack → IsShort locals → IsFresh (empty_code stack locals)
fresh stack locals s l = (record { stack = s; locals = l; insns = all_none IsFitInsn; rows = all_none IsFitRow; lines = all_none (λ (line : ℕ × ℕ). line.1 < 2 ^ 16); frames = all_none IsFitFrame }, refl)

abbrev IsBody : Progress → Type 0
IsBody p = IsFitCode p.code × All IsFitNote p.notes

nonzero : (count : ℕ) → count == 0 ≡ false → 0 < count
nonzero zero e = absurd cc
nonzero (suc count) e = omega arith

body_of : (code : StatedCode) (count : ℕ) (p : Progress) → length code.insns ≡ 0 → 0 < count → Follows (beginning code) count p → IsBody p
body_of code count p none lt h =
    let fits = h.code.0 in
    let sum = h.code.1 in
    (record { stack = fits.stack; locals = fits.locals; some = omega (arith, sum, none, lt); insns = fits.insns; rows = fits.rows; lines = fits.lines; frames = fits.frames }, h.notes)

code_by : (number : ℕ) (code : StatedCode) (lines : List Line) (b : Bool) → insns_in lines == 0 ≡ b → AllByRecursion IsUnitLine lines → IsFresh code
    → IfOk (cond b (Err (asm_fault.Line number)) (body_from (labels_of lines) (beginning code) lines)) IsBody
code_by number code lines true e h is = tt
code_by number code lines false e h is = if_ok (body_from (labels_of lines) (beginning code) lines) (Follows (beginning code) (insns_in lines)) IsBody
    (λ p k. body_of code (insns_in lines) p is.1 (nonzero (insns_in lines) e) k) (body_is (labels_of lines) (beginning code) lines h is.0 (all_none IsFitNote))

code_is : (number : ℕ) (code : StatedCode) (lines : List Line) → AllByRecursion IsUnitLine lines → IsFresh code → IfOk (code_of number code lines) IsBody
code_is number code lines h is = code_by number code lines (insns_in lines == 0) refl h is

-- ---- methods

-- a method, but for the lines behind its own
record IsBegun (method : StatedMember) : Type 0 where
  flags : IsShort method.flags
  name : IsUnits method.name
  named : is_method_name method.name ≡ true
  desc : IsUnits method.desc
  typed : is_ok (method_kinds method.desc) ≡ true
  code : IfSome method.code IsFresh

abbrev IsFreshIn : Option StatedCode → Type 0
IsFreshIn code = IfSome code IsFresh

code_in_is : (words : List (List ℕ)) → IfSome (code_in words) IsFreshIn
code_in_is [] = tt
code_in_is (a ∷ []) = tt
code_in_is (a ∷ b ∷ []) = tt
code_in_is (a ∷ b ∷ c ∷ []) = tt
code_in_is (first ∷ stack ∷ second ∷ locals ∷ []) = of_if (says first (codes "stack") && says second (codes "locals")) (option_and_then (λ s. option_map (λ l. Some (empty_code s l)) (up_to 0xFFFF locals)) (up_to 0xFFFF stack)) IsFreshIn
    (λ e. of_then (λ s. option_map (λ l. Some (empty_code s l)) (up_to 0xFFFF locals)) (up_to 0xFFFF stack) IsFreshIn
    (weaker (up_to 0xFFFF stack) IsShort (λ s. IfSome (option_map (λ l. Some (empty_code s l)) (up_to 0xFFFF locals)) IsFreshIn)
    (λ s few. of_map (λ l. Some (empty_code s l)) (up_to 0xFFFF locals) IsFreshIn (weaker (up_to 0xFFFF locals) IsShort (λ l. IsFresh (empty_code s l)) (λ l small. fresh s l few small) (short_is locals))) (short_is stack)))
code_in_is (a ∷ b ∷ c ∷ d ∷ e ∷ words) = tt

method_by_is : (flags name desc : List ℕ) (code : Option StatedCode) → IsUnits name → IsUnits desc → IsFreshIn code → IfSome (method_by flags name desc code) IsBegun
method_by_is flags name desc code units others is =
    of_then (λ n. cond (is_method_name name) (cond (is_ok (method_kinds desc)) (Some (named_member n name desc code)) None) None) (up_to 0xFFFF flags) IsBegun
    (weaker (up_to 0xFFFF flags) IsShort (λ n. IfSome (cond (is_method_name name) (cond (is_ok (method_kinds desc)) (Some (named_member n name desc code)) None) None) IsBegun)
    (λ n few. of_if (is_method_name name) (cond (is_ok (method_kinds desc)) (Some (named_member n name desc code)) None) IsBegun
    (λ named. of_if (is_ok (method_kinds desc)) (Some (named_member n name desc code)) IsBegun (λ typed. record { flags = few; name = units; named = named; desc = others; typed = typed; code = is }))) (short_is flags))

method_in_is : (words : List (List ℕ)) → AreUnits words → IfSome (method_in words) IsBegun
method_in_is [] h = tt
method_in_is (a ∷ []) h = tt
method_in_is (a ∷ b ∷ []) h = tt
method_in_is (a ∷ b ∷ c ∷ []) h = tt
method_in_is (keyword ∷ flags ∷ name ∷ desc ∷ sizes) h = of_then (method_by flags name desc) (code_in sizes) IsBegun
    (weaker (code_in sizes) IsFreshIn (λ code. IfSome (method_by flags name desc code) IsBegun) (λ code is. method_by_is flags name desc code h.1.1.0 h.1.1.1.0 is) (code_in_is sizes))

with_code_is : (method : StatedMember) (number : ℕ) (lines : List Line) (code : Option StatedCode) → AllByRecursion IsUnitLine lines → IsBegun method → IsFreshIn code → IfOk (with_code method number lines code) IsFitMethod
with_code_is method number lines None h is new = of_bind (notes_of lines) (λ notes. Ok (record method { code = None; notes = notes })) IsFitMethod
    (if_ok (notes_of lines) (All IsFitNote) (λ notes. IfOk {E = AsmFault} (Ok (record method { code = None; notes = notes })) IsFitMethod)
    (λ notes all. record { flags = is.flags; name = is.name; named = is.named; desc = is.desc; typed = is.typed; code = tt; notes = all }) (own_notes lines h))
with_code_is method number lines (Some code) h is new = of_bind (code_of number code lines) (λ p. Ok (record method { code = Some p.code; notes = p.notes })) IsFitMethod
    (if_ok (code_of number code lines) IsBody (λ p. IfOk {E = AsmFault} (Ok (record method { code = Some p.code; notes = p.notes })) IsFitMethod)
    (λ p body. record { flags = is.flags; name = is.name; named = is.named; desc = is.desc; typed = is.typed; code = body.0; notes = body.1 }) (code_is number code lines h new))

pub method_is : (first : Line) (lines : List Line) → IsUnitLine first → AllByRecursion IsUnitLine lines → IfOk (method_of first lines) IsFitMethod
method_is first lines units h = of_step (method_in first.words) (asm_fault.Line first.number) (λ method. with_lines method first.number lines) IsFitMethod
    (weaker (method_in first.words) IsBegun (λ m. IfOk (with_lines m first.number lines) IsFitMethod) (λ m is. with_code_is m first.number lines m.code h is is.code) (method_in_is first.words units.words))

-- ---- fields

-- a field, but for its notes
abbrev IsField : StatedMember → Type 0
IsField field = IsFitField (record field { notes = [] })

field_by_is : (flags name desc : List ℕ) → IsUnits name → IsUnits desc → IfSome (field_by flags name desc) IsField
field_by_is flags name desc units others =
    of_then (λ n. cond (is_field_name name) (cond (is_ok (field_kind desc)) (Some (named_member n name desc None)) None) None) (up_to 0xFFFF flags) IsField
    (weaker (up_to 0xFFFF flags) IsShort (λ n. IfSome (cond (is_field_name name) (cond (is_ok (field_kind desc)) (Some (named_member n name desc None)) None) None) IsField)
    (λ n few. of_if (is_field_name name) (cond (is_ok (field_kind desc)) (Some (named_member n name desc None)) None) IsField
    (λ named. of_if (is_ok (field_kind desc)) (Some (named_member n name desc None)) IsField
    (λ typed. record { flags = few; name = units; named = named; desc = others; typed = typed; code = refl; notes = all_none IsFitNote }))) (short_is flags))

field_in_is : (words : List (List ℕ)) → AreUnits words → IfSome (field_in words) IsField
field_in_is [] h = tt
field_in_is (a ∷ []) h = tt
field_in_is (a ∷ b ∷ []) h = tt
field_in_is (a ∷ b ∷ c ∷ []) h = tt
field_in_is (keyword ∷ flags ∷ name ∷ desc ∷ []) h = field_by_is flags name desc h.1.1.0 h.1.1.1.0
field_in_is (a ∷ b ∷ c ∷ d ∷ e ∷ words) h = tt

pub field_is : (first : Line) (lines : List Line) → IsUnitLine first → AllByRecursion IsUnitLine lines → IfOk (field_of first lines) IsFitField
field_is first lines units h = of_step (field_in first.words) (asm_fault.Line first.number) (λ field. notes_of lines >>= λ notes. Ok (record field { notes = notes })) IsFitField
    (weaker (field_in first.words) IsField (λ field. IfOk (notes_of lines >>= λ notes. Ok (record field { notes = notes })) IsFitField)
    (λ field is. of_bind (notes_of lines) (λ notes. Ok (record field { notes = notes })) IsFitField
    (if_ok (notes_of lines) (All IsFitNote) (λ notes. IfOk {E = AsmFault} (Ok (record field { notes = notes })) IsFitField)
    (λ notes all. record { flags = is.flags; name = is.name; named = is.named; desc = is.desc; typed = is.typed; code = is.code; notes = all }) (own_notes lines h))) (field_in_is first.words units.words))
