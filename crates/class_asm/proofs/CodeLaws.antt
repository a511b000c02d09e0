-- What the lines of a method state is in form: its instructions, rows, lines and frames.
use Rattle.std.proofs.Common.{◌≡◌, ℕ, zero, suc, ◌+◌, ◌-◌, ◌≤◌, ◌<◌, ◌^◌, Bool, true, false, cond, List, [], ◌∷◌, ◌++◌, length, length-append, Option, Some, None, Ok, Err, refl, sym, ap, subst, ◌∙◌, arith}
use Rattle.std.specs.Prelude.{nat_lt, nat_le, ◌&&◌, ◌||◌, ◌==◌, not, IfSome, All, codes, take, drop, slice_get, option_and_then}
use Rattle.std.specs.Option.{option_map}
use Rattle.std.proofs.lemmas.Bool.{ltb-true, ltb-false, leb-true}
use Rattle.std.proofs.lemmas.List.Elements.{All-push}
use Rattle.asm_words.specs.Words.{says}
use Rattle.asm_words.specs.Numbers.{up_to}
use Rattle.asm_words.specs.Keywords.{line_kind}
use Rattle.asm_words.specs.Labels.{start_in, end_in, insns_in, labels_of, weight, is_instruction}
use Rattle.asm_words.specs.Named.{class_in}
use Rattle.asm_words.specs.Insns.{insn_of}
use Rattle.class_asm.specs.Frames.{known_item, object_item, known_or_object, item_of, new_item, item_at, items_from, items_in, one_item, few, few_items, slash, full_shape, chopped, chop_shape, same_shape, shape_by, shape_of}
use Rattle.class_asm.specs.Codes.{here, line_in, numbered, is_behind, is_before, with_frame, framed, caught, row_of, row_in, guarded, with_insn, is_first_label}
use Rattle.class_asm.specs.Members.{code_by, code_step, noting, noted, is_over, coded, is_note, note_in, body_step, beginning, body_from, code_of, empty_code, code_in, named_member, field_by, field_in, method_by, method_in, notes_of, field_of, with_code, with_lines, method_of}
use Rattle.asm_words.specs.declared.keyword.LineKind.{LineKind}
use Rattle.asm_words.specs.declared.keyword.LineKind.TheVariants as kind
use Rattle.class_asm.specs.declared.member.Progress.{Progress}
use Rattle.class_asm.specs.declared.member.Stage.TheVariants as stage
use Rattle.class_asm.specs.declared.fault.AsmFault.{AsmFault}
use Rattle.class_asm.specs.declared.fault.AsmFault.TheVariants as asm_fault
use Rattle.asm_words.specs.declared.stated.StatedMember.{StatedMember}
use Rattle.codec_rules.specs.Sequence.{◌>>=◌}
use Rattle.class_model.specs.DeclaredName.{is_field_name, is_method_name}
use Rattle.class_model.specs.DescriptorReading.{field_kind, method_kinds}
use Rattle.std.specs.Result.{is_ok}
use Rattle.std.specs.Prelude.{Result, IfOk, ok_or}
use Rattle.asm_words.specs.Stated.{IsStatedCode, IsStatedMember, IsStatedInsn, IsKnownItem, IsStatedItem, IsStatedShape, IsStatedFrame, AreFrames, IsStatedRow, Keeps}
use Rattle.asm_words.specs.declared.line.Line.{Line}
use Rattle.asm_words.specs.declared.labels.Labels.{Labels}
use Rattle.asm_words.specs.declared.stated.StatedItem.{StatedItem}
use Rattle.asm_words.specs.declared.stated.StatedItem.TheVariants as item
use Rattle.asm_words.specs.declared.stated.StatedShape.{StatedShape}
use Rattle.asm_words.specs.declared.stated.StatedShape.TheVariants as shape
use Rattle.asm_words.specs.declared.stated.StatedFrame.{StatedFrame}
use Rattle.asm_words.specs.declared.stated.StatedCode.{StatedCode}
use Rattle.class_model.specs.declared.frame.VItem.{VItem}
use Rattle.class_model.specs.declared.frame.VItem.TheVariants as vitem
use Rattle.asm_words.proofs.IfSome.{of_map, of_then, of_if, of_unless, of_else, of_only, weaker, always}
use Rattle.asm_words.proofs.NumberLaws.{start_is, end_is, and_left, and_right}
use Rattle.asm_words.proofs.InsnLaws.{insn_is}

-- ---- verification types

known_is : (total : ℕ) (word : List ℕ) → IfSome (known_item word) (IsKnownItem total)
known_is total word =
    let other : Option VItem = None in
    of_else (says word (codes "int")) (Some vitem.Integer) _ (IsKnownItem total) tt
    (of_else (says word (codes "long")) (Some vitem.Long) _ (IsKnownItem total) tt
    (of_else (says word (codes "top")) (Some vitem.Top) _ (IsKnownItem total) tt
    (of_else (says word (codes "null")) (Some vitem.Null) _ (IsKnownItem total) tt
    (of_else (says word (codes "uthis")) (Some vitem.UninitializedThis) other (IsKnownItem total) tt tt))))

object_is : (total : ℕ) (word : List ℕ) → IfSome (object_item word) (IsStatedItem total)
object_is total word = of_unless (says word (codes "new") || says word (codes "/")) (option_map item.Object (class_in word)) (IsStatedItem total)
    (λ e. of_map item.Object (class_in word) (IsStatedItem total) (always (class_in word) (λ name. IsStatedItem total (item.Object name)) (λ name. tt)))

item_by : (total : ℕ) (word : List ℕ) (o : Option VItem) → IfSome o (IsKnownItem total) → IfSome (known_or_object word o) (IsStatedItem total)
item_by total word None h = object_is total word
item_by total word (Some i) h = h

item_is : (total : ℕ) (word : List ℕ) → IfSome (item_of word) (IsStatedItem total)
item_is total word = item_by total word (known_item word) (known_is total word)

new_is : (labels : Labels) (label : List ℕ) → IfSome (new_item labels label) (IsStatedItem labels.total)
new_is labels label = of_map (λ n. item.Done (vitem.Uninitialized n)) (start_in labels label) (IsStatedItem labels.total)
    (weaker (start_in labels label) (λ n. (n < labels.total) × (n < 2 ^ 32)) (λ n. n < labels.total) (λ n h. h.0) (start_is labels label))

item_at_is : (labels : Labels) (is_new : Bool) (word : List ℕ) → IfSome (item_at labels is_new word) (IsStatedItem labels.total)
item_at_is labels is_new word = of_else is_new (new_item labels word) (item_of word) (IsStatedItem labels.total) (new_is labels word) (item_is labels.total word)

pub all_none : {A : Type 0} → (P : A → Type 0) → All P []
all_none P k d lt = absurd (omega (arith, lt))

all_first : {A : Type 0} → (P : A → Type 0) (x : A) (xs : List A) → P x → All P xs → All P (x ∷ xs)
all_first P x xs p all zero d lt = p
all_first P x xs p all (suc k) d lt = all k d (omega (arith, lt))

items_are : (labels : Labels) (is_new : Bool) (words : List (List ℕ)) → IfSome (items_from labels is_new words) (All (IsStatedItem labels.total))
items_are labels true [] = tt
items_are labels false [] = all_none (IsStatedItem labels.total)
items_are labels is_new (word ∷ words) =
    of_else (not is_new && says word (codes "new")) (items_from labels true words) (option_and_then (λ first. option_map (λ items. first ∷ items) (items_from labels false words)) (item_at labels is_new word)) (All (IsStatedItem labels.total))
    (items_are labels true words)
    (of_then (λ first. option_map (λ items. first ∷ items) (items_from labels false words)) (item_at labels is_new word) (All (IsStatedItem labels.total))
    (weaker (item_at labels is_new word) (IsStatedItem labels.total) (λ first. IfSome (option_map (λ items. first ∷ items) (items_from labels false words)) (All (IsStatedItem labels.total)))
    (λ first is. of_map (λ (items : List StatedItem). first ∷ items) (items_from labels false words) (All (IsStatedItem labels.total))
    (weaker (items_from labels false words) (All (IsStatedItem labels.total)) (λ items. All (IsStatedItem labels.total) (first ∷ items)) (λ items all. all_first (IsStatedItem labels.total) first items is all) (items_are labels false words)))
    (item_at_is labels is_new word)))

-- ---- shapes

one_is : (labels : Labels) (words : List (List ℕ)) → IfSome (one_item labels words) (IsStatedItem labels.total)
one_is labels [] = tt
one_is labels (word ∷ []) = item_is labels.total word
one_is labels (keyword ∷ label ∷ []) = of_if (says keyword (codes "new")) (new_item labels label) (IsStatedItem labels.total) (λ e. new_is labels label)
one_is labels (keyword ∷ label ∷ other ∷ words) = tt

few_are : (labels : Labels) (words : List (List ℕ)) → IfSome (few_items labels words) (λ items. IsStatedShape labels.total (shape.Append items))
few_are labels words = of_then few (items_in labels words) (λ items. IsStatedShape labels.total (shape.Append items))
    (weaker (items_in labels words) (All (IsStatedItem labels.total)) (λ items. IfSome (few items) (λ items. IsStatedShape labels.total (shape.Append items)))
    (λ items all. of_if (nat_lt 0 (length items) && nat_le (length items) 3) (Some items) (λ items. IsStatedShape labels.total (shape.Append items))
    (λ e. (ltb-true _ _ (and_left (nat_lt 0 (length items)) (nat_le (length items) 3) e), leb-true _ _ (and_right (nat_lt 0 (length items)) (nat_le (length items) 3) e), all))) (items_are labels false words))

full_is : (labels : Labels) (words : List (List ℕ)) → IfSome (full_shape labels words) (IsStatedShape labels.total)
full_is labels words = of_then (λ place. option_and_then (λ locals. option_map (shape.Full locals) (items_in labels (drop (place + 1) words))) (items_in labels (take place words))) (slash words) (IsStatedShape labels.total)
    (always (slash words) (λ place. IfSome (option_and_then (λ locals. option_map (shape.Full locals) (items_in labels (drop (place + 1) words))) (items_in labels (take place words))) (IsStatedShape labels.total))
    (λ place. of_then (λ locals. option_map (shape.Full locals) (items_in labels (drop (place + 1) words))) (items_in labels (take place words)) (IsStatedShape labels.total)
    (weaker (items_in labels (take place words)) (All (IsStatedItem labels.total)) (λ locals. IfSome (option_map (shape.Full locals) (items_in labels (drop (place + 1) words))) (IsStatedShape labels.total))
    (λ locals all. of_map (shape.Full locals) (items_in labels (drop (place + 1) words)) (IsStatedShape labels.total)
    (weaker (items_in labels (drop (place + 1) words)) (All (IsStatedItem labels.total)) (λ stack. IsStatedShape labels.total (shape.Full locals stack)) (λ stack others. (all, others)) (items_are labels false (drop (place + 1) words)))) (items_are labels false (take place words)))))

nonzero : (count : ℕ) → count == 0 ≡ false → 0 < count
nonzero zero e = absurd cc
nonzero (suc count) e = omega arith

chopped_by : (total count : ℕ) (none many : Bool) → count == 0 ≡ none → nat_lt 3 count ≡ many → IfSome (cond (none || many) None (Some (shape.Chop count))) (IsStatedShape total)
chopped_by total count true many e f = tt
chopped_by total count false true e f = tt
chopped_by total count false false e f = (nonzero count e, ltb-false 3 count f)

chop_is : (total : ℕ) (words : List (List ℕ)) → IfSome (chop_shape words) (IsStatedShape total)
chop_is total words = of_only (λ word. option_and_then chopped (up_to 0xFF word)) words (IsStatedShape total)
    (λ word. of_then chopped (up_to 0xFF word) (IsStatedShape total) (always (up_to 0xFF word) (λ count. IfSome (chopped count) (IsStatedShape total)) (λ count. chopped_by total count (count == 0) (nat_lt 3 count) refl refl)))

shape_by_is : (labels : Labels) (keyword : List ℕ) (words : List (List ℕ)) → IfSome (shape_by labels keyword words) (IsStatedShape labels.total)
shape_by_is labels keyword words =
    let other : Option StatedShape = None in
    of_else (says keyword (codes "same")) (same_shape words) _ (IsStatedShape labels.total) (of_if (length words == 0) (Some shape.Same) (IsStatedShape labels.total) (λ e. tt))
    (of_else (says keyword (codes "one")) (option_map shape.One (one_item labels words)) _ (IsStatedShape labels.total) (of_map shape.One (one_item labels words) (IsStatedShape labels.total) (one_is labels words))
    (of_else (says keyword (codes "chop")) (chop_shape words) _ (IsStatedShape labels.total) (chop_is labels.total words)
    (of_else (says keyword (codes "append")) (option_map shape.Append (few_items labels words)) _ (IsStatedShape labels.total) (of_map shape.Append (few_items labels words) (IsStatedShape labels.total) (few_are labels words))
    (of_else (says keyword (codes "full")) (full_shape labels words) other (IsStatedShape labels.total) (full_is labels words) tt))))

shape_is : (labels : Labels) (words : List (List ℕ)) → IfSome (shape_of labels words) (IsStatedShape labels.total)
shape_is labels [] = tt
shape_is labels (word ∷ []) = tt
shape_is labels (word ∷ keyword ∷ words) = shape_by_is labels keyword words

-- ---- frames ascend

-- the first instruction that a frame behind these may stand for
abbrev state_after : ℕ → List StatedFrame → ℕ
state_after least [] = least
state_after least (frame ∷ frames) = state_after (frame.at + 1) frames

frames_push : (total least : ℕ) (frames : List StatedFrame) (frame : StatedFrame) → AreFrames total least frames → IsStatedFrame total (state_after least frames) frame → AreFrames total least (frames ++ frame ∷ [])
frames_push total least [] frame all is = (is, tt)
frames_push total least (first ∷ frames) frame all is = (all.0, frames_push total (first.at + 1) frames frame all.1 is)

place_before : (xs : List StatedFrame) (x y : StatedFrame) → slice_get (x ∷ y ∷ xs) (length (x ∷ y ∷ xs) - 1) ≡ slice_get (y ∷ xs) (length (y ∷ xs) - 1)
place_before xs x y = let same : length (x ∷ y ∷ xs) - 1 ≡ suc (length (y ∷ xs) - 1) = omega arith in rw same refl

behind_some : (frame : StatedFrame) (frames : List StatedFrame) (at : ℕ) → is_behind (frame ∷ frames) at ≡ true → state_after (frame.at + 1) frames ≤ at
behind_some frame [] at e = let lt = ltb-true frame.at at e in omega (arith, lt)
behind_some frame (next ∷ frames) at e = behind_some next frames at (ap (is_before at) (sym (place_before frames frame next)) ∙ e)

behind_is : (frames : List StatedFrame) (at : ℕ) → is_behind frames at ≡ true → state_after 0 frames ≤ at
behind_is [] at e = omega arith
behind_is (frame ∷ frames) at e = behind_some frame frames at e

-- ---- the lines of a code

abbrev IsHere : Labels → ℕ → Type 0
IsHere labels at = (at < labels.total) × (at < 2 ^ 32)

here_is : (labels : Labels) (code : StatedCode) → IfSome (here labels code) (IsHere labels)
here_is labels code = of_if (nat_lt (length code.insns) labels.total && nat_lt (length code.insns) (2 ^ 32)) (Some (length code.insns)) (IsHere labels)
    (λ e. (ltb-true _ _ (and_left (nat_lt (length code.insns) labels.total) (nat_lt (length code.insns) (2 ^ 32)) e), ltb-true _ _ (and_right (nat_lt (length code.insns) labels.total) (nat_lt (length code.insns) (2 ^ 32)) e)))

-- what a line leaves: a code in form, with so many instructions more
abbrev pub After : ℕ → StatedCode → ℕ → StatedCode → Type 0
After total code more later = Keeps total later × (length later.insns ≡ length code.insns + more)

numbered_is : (labels : Labels) (code : StatedCode) (line : Line) → Keeps labels.total code → IfSome (numbered labels code line) (After labels.total code 0)
numbered_is labels code line k = of_then (λ at. option_map (λ number. record code { lines = code.lines ++ (at, number) ∷ [] }) (line_in line.words)) (here labels code) (After labels.total code 0)
    (weaker (here labels code) (IsHere labels) (λ at. IfSome (option_map (λ number. record code { lines = code.lines ++ (at, number) ∷ [] }) (line_in line.words)) (After labels.total code 0))
    (λ at is. of_map (λ (number : ℕ). record code { lines = code.lines ++ (at, number) ∷ [] }) (line_in line.words) (After labels.total code 0)
    (always (line_in line.words) (λ number. After labels.total code 0 (record code { lines = code.lines ++ (at, number) ∷ [] }))
    (λ number. (record { insns = k.insns; rows = k.rows; lines = All-push (λ line. line.0 < labels.total) code.lines (at, number) k.lines is.0; frames = k.frames }, omega arith)))) (here_is labels code))

framed_is : (labels : Labels) (code : StatedCode) (line : Line) → Keeps labels.total code → IfSome (framed labels code line) (After labels.total code 0)
framed_is labels code line k = of_then (λ at. cond (is_behind code.frames at) (option_map (λ s. with_frame code at (record { at = at; shape = s })) (shape_of labels line.words)) None) (here labels code) (After labels.total code 0)
    (weaker (here labels code) (IsHere labels) (λ at. IfSome (cond (is_behind code.frames at) (option_map (λ s. with_frame code at (record { at = at; shape = s })) (shape_of labels line.words)) None) (After labels.total code 0))
    (λ at is. of_if (is_behind code.frames at) (option_map (λ s. with_frame code at (record { at = at; shape = s })) (shape_of labels line.words)) (After labels.total code 0)
    (λ e. of_map (λ s. with_frame code at (record { at = at; shape = s })) (shape_of labels line.words) (After labels.total code 0)
    (weaker (shape_of labels line.words) (IsStatedShape labels.total) (λ s. After labels.total code 0 (with_frame code at (record { at = at; shape = s })))
    (λ s fits. (record { insns = k.insns; rows = k.rows; lines = k.lines; frames = frames_push labels.total 0 code.frames (record { at = at; shape = s }) k.frames (behind_is code.frames at e, is.0, is.1, fits) }, omega arith)) (shape_is labels line.words)))) (here_is labels code))

row_by_is : (labels : Labels) (start end handler : ℕ) (catch : Option (Option (List ℕ))) → start < labels.total → end ≤ labels.total → handler < labels.total → IfSome (row_of start end handler catch) (IsStatedRow labels.total)
row_by_is labels start end handler catch s e h = of_unless (nat_le end start) (option_map (λ class. record { start = start; end = end; handler = handler; catch = class }) catch) (IsStatedRow labels.total)
    (λ test. of_map (λ class. record { start = start; end = end; handler = handler; catch = class }) catch (IsStatedRow labels.total) (always catch (λ class. IsStatedRow labels.total (record { start = start; end = end; handler = handler; catch = class })) (λ class. record { start = s; last = e; handler = h })))

row_handler : (labels : Labels) (handler : List ℕ) (catch : Option (Option (List ℕ))) (s e : ℕ) → s < labels.total → e ≤ labels.total → IfSome (option_and_then (λ h. row_of s e h catch) (start_in labels handler)) (IsStatedRow labels.total)
row_handler labels handler catch s e lt le = of_then (λ h. row_of s e h catch) (start_in labels handler) (IsStatedRow labels.total)
    (weaker (start_in labels handler) (IsHere labels) (λ h. IfSome (row_of s e h catch) (IsStatedRow labels.total)) (λ h is. row_by_is labels s e h catch lt le is.0) (start_is labels handler))

row_end : (labels : Labels) (end handler : List ℕ) (catch : Option (Option (List ℕ))) (s : ℕ) → s < labels.total → IfSome (option_and_then (λ e. option_and_then (λ h. row_of s e h catch) (start_in labels handler)) (end_in labels end)) (IsStatedRow labels.total)
row_end labels end handler catch s lt = of_then (λ e. option_and_then (λ h. row_of s e h catch) (start_in labels handler)) (end_in labels end) (IsStatedRow labels.total)
    (weaker (end_in labels end) (λ e. e ≤ labels.total) (λ e. IfSome (option_and_then (λ h. row_of s e h catch) (start_in labels handler)) (IsStatedRow labels.total)) (λ e le. row_handler labels handler catch s e lt le) (end_is labels end))

row_is : (labels : Labels) (words : List (List ℕ)) → IfSome (row_in labels words) (IsStatedRow labels.total)
row_is labels (keyword ∷ start ∷ end ∷ handler ∷ catch ∷ []) = of_then (λ s. option_and_then (λ e. option_and_then (λ h. row_of s e h (caught catch)) (start_in labels handler)) (end_in labels end)) (start_in labels start) (IsStatedRow labels.total)
    (weaker (start_in labels start) (IsHere labels) (λ s. IfSome (option_and_then (λ e. option_and_then (λ h. row_of s e h (caught catch)) (start_in labels handler)) (end_in labels end)) (IsStatedRow labels.total)) (λ s is. row_end labels end handler (caught catch) s is.0) (start_is labels start))
row_is labels [] = tt
row_is labels (a ∷ []) = tt
row_is labels (a ∷ b ∷ []) = tt
row_is labels (a ∷ b ∷ c ∷ []) = tt
row_is labels (a ∷ b ∷ c ∷ d ∷ []) = tt
row_is labels (a ∷ b ∷ c ∷ d ∷ e ∷ f ∷ words) = tt

guarded_is : (labels : Labels) (code : StatedCode) (line : Line) → Keeps labels.total code → IfSome (guarded labels code line) (After labels.total code 0)
guarded_is labels code line k = of_map (λ row. record code { rows = code.rows ++ row ∷ [] }) (row_in labels line.words) (After labels.total code 0)
    (weaker (row_in labels line.words) (IsStatedRow labels.total) (λ row. After labels.total code 0 (record code { rows = code.rows ++ row ∷ [] }))
    (λ row is. (record { insns = k.insns; rows = All-push (IsStatedRow labels.total) code.rows row k.rows is; lines = k.lines; frames = k.frames }, omega arith)) (row_is labels line.words))

with_insn_is : (labels : Labels) (code : StatedCode) (line : Line) → Keeps labels.total code → IfSome (with_insn labels code line) (After labels.total code 1)
with_insn_is labels code line k = of_map (λ insn. record code { insns = code.insns ++ insn ∷ [] }) (insn_of labels line) (After labels.total code 1)
    (weaker (insn_of labels line) (IsStatedInsn labels.total) (λ insn. After labels.total code 1 (record code { insns = code.insns ++ insn ∷ [] }))
    (λ insn is. (record { insns = All-push (IsStatedInsn labels.total) code.insns insn k.insns is; rows = k.rows; lines = k.lines; frames = k.frames }, length-append code.insns (insn ∷ []))) (insn_is labels line))

-- ---- the lines of a method

code_by_is : (labels : Labels) (code : StatedCode) (line : Line) (k : LineKind) → Keeps labels.total code → IfSome (code_by labels code line k) (After labels.total code (cond (is_instruction k) 1 0))
code_by_is labels code line kind.LineNumber keeps = numbered_is labels code line keeps
code_by_is labels code line kind.Frame keeps = framed_is labels code line keeps
code_by_is labels code line kind.Handler keeps = guarded_is labels code line keeps
code_by_is labels code line kind.Instruction keeps = with_insn_is labels code line keeps
code_by_is labels code line kind.Label keeps = of_if (is_first_label labels line) (Some code) (After labels.total code 0) (λ e. (keeps, omega arith))
code_by_is labels code line other keeps = tt

note_has_none : (k : LineKind) → is_note k ≡ true → ◌≡◌ {A = ℕ} (cond (is_instruction k) 1 0) 0
note_has_none kind.Note e = refl
note_has_none kind.Instruction e = absurd cc
note_has_none other e = refl

abbrev Follows : ℕ → Progress → ℕ → Progress → Type 0
Follows total progress more later = After total progress.code more later.code

noted_is : (total : ℕ) (progress : Progress) (line : Line) (more : ℕ) → more ≡ 0 → Keeps total progress.code → IfSome (noted progress line) (Follows total progress more)
noted_is total progress line more none keeps = of_map (λ note. record { code = progress.code; notes = progress.notes ++ note ∷ []; stage = noting progress.stage }) (note_in line.words) (Follows total progress more)
    (always (note_in line.words) (λ note. Follows total progress more (record { code = progress.code; notes = progress.notes ++ note ∷ []; stage = noting progress.stage })) (λ note. (keeps, omega (arith, none))))

coded_is : (labels : Labels) (progress : Progress) (line : Line) → Keeps labels.total progress.code → IfSome (coded labels progress line) (Follows labels.total progress (weight line))
coded_is labels progress line keeps = of_unless (is_over progress.stage) (option_map (λ code. record { code = code; notes = progress.notes; stage = stage.Inside }) (code_step labels progress.code line)) (Follows labels.total progress (weight line))
    (λ e. of_map (λ code. record { code = code; notes = progress.notes; stage = stage.Inside }) (code_step labels progress.code line) (Follows labels.total progress (weight line)) (code_by_is labels progress.code line (line_kind line) keeps))

step_by : (labels : Labels) (progress : Progress) (line : Line) (b : Bool) → is_note (line_kind line) ≡ b → Keeps labels.total progress.code → IfSome (cond b (noted progress line) (coded labels progress line)) (Follows labels.total progress (weight line))
step_by labels progress line true e keeps = noted_is labels.total progress line (weight line) (note_has_none (line_kind line) e) keeps
step_by labels progress line false e keeps = coded_is labels progress line keeps

step_is : (labels : Labels) (progress : Progress) (line : Line) → Keeps labels.total progress.code → IfSome (body_step labels progress line) (Follows labels.total progress (weight line))
step_is labels progress line keeps = step_by labels progress line (is_note (line_kind line)) refl keeps

-- ---- up to the first wrong line

pub of_step : {A B F : Type 0} → (o : Option A) (e : F) (f : A → Result B F) (P : B → Type 0) → IfSome o (λ x. IfOk (f x) P) → IfOk (ok_or o e >>= f) P
of_step None e f P h = tt
of_step (Some x) e f P h = h

pub of_bind : {A B F : Type 0} → (r : Result A F) (f : A → Result B F) (P : B → Type 0) → IfOk r (λ x. IfOk (f x) P) → IfOk (r >>= f) P
of_bind (Ok x) f P h = h
of_bind (Err e) f P h = tt

pub if_ok : {A F : Type 0} → (r : Result A F) (P Q : A → Type 0) → ((x : A) → P x → Q x) → IfOk r P → IfOk r Q
if_ok (Ok x) P Q f h = f x h
if_ok (Err e) P Q f h = tt

pub any_ok : {A F : Type 0} → (r : Result A F) (P : A → Type 0) → ((x : A) → P x) → IfOk r P
any_ok (Ok x) P f = f x
any_ok (Err e) P f = tt

joined_steps : (total : ℕ) (first next last : StatedCode) (a b : ℕ) → After total first a next → After total next b last → After total first (a + b) last
joined_steps total first next last a b h k = let e = h.1 in let f = k.1 in (k.0, omega (arith, e, f))

body_is : (labels : Labels) (progress : Progress) (lines : List Line) → Keeps labels.total progress.code → IfOk (body_from labels progress lines) (Follows labels.total progress (insns_in lines))
body_is labels progress [] keeps = (keeps, omega arith)
body_is labels progress (line ∷ lines) keeps = of_step (body_step labels progress line) (asm_fault.Line line.number) (λ next. body_from labels next lines) (Follows labels.total progress (weight line + insns_in lines))
    (weaker (body_step labels progress line) (Follows labels.total progress (weight line)) (λ next. IfOk (body_from labels next lines) (Follows labels.total progress (weight line + insns_in lines)))
    (λ next h. if_ok (body_from labels next lines) (Follows labels.total next (insns_in lines)) (Follows labels.total progress (weight line + insns_in lines))
    (λ last k. joined_steps labels.total progress.code next.code last.code (weight line) (insns_in lines) h k) (body_is labels next lines h.0)) (step_is labels progress line keeps))

-- ---- members

-- a code that has nothing yet
abbrev IsFresh : StatedCode → Type 0
IsFresh code = ((total : ℕ) → Keeps total code) × (length code.insns ≡ 0)

fresh : (stack locals : ℕ) → IsFresh (empty_code stack locals)
fresh stack locals = (λ total. record { insns = all_none (IsStatedInsn total); rows = all_none (IsStatedRow total); lines = all_none (λ (line : ℕ × ℕ). line.0 < total); frames = tt }, refl)

code_count : (number : ℕ) (code : StatedCode) (lines : List Line) (b : Bool) → IsFresh code → IfOk (cond b (Err (asm_fault.Line number)) (body_from (labels_of lines) (beginning code) lines)) (λ p. IsStatedCode p.code)
code_count number code lines true is = tt
code_count number code lines false is = if_ok (body_from (labels_of lines) (beginning code) lines) (Follows (insns_in lines) (beginning code) (insns_in lines)) (λ p. IsStatedCode p.code)
    (λ p h. let e = h.1 in let none = is.1 in let count : insns_in lines ≡ length p.code.insns = omega (arith, e, none) in subst (λ n. Keeps n p.code) count h.0) (body_is (labels_of lines) (beginning code) lines (is.0 (insns_in lines)))

code_is : (number : ℕ) (code : StatedCode) (lines : List Line) → IsFresh code → IfOk (code_of number code lines) (λ p. IsStatedCode p.code)
code_is number code lines is = code_count number code lines (insns_in lines == 0) is

abbrev IsFreshIn : Option StatedCode → Type 0
IsFreshIn None = Unit {0}
IsFreshIn (Some code) = IsFresh code

code_in_is : (words : List (List ℕ)) → IfSome (code_in words) IsFreshIn
code_in_is [] = tt
code_in_is (a ∷ []) = tt
code_in_is (a ∷ b ∷ []) = tt
code_in_is (a ∷ b ∷ c ∷ []) = tt
code_in_is (first ∷ stack ∷ second ∷ locals ∷ []) = of_if (says first (codes "stack") && says second (codes "locals")) (option_and_then (λ s. option_map (λ l. Some (empty_code s l)) (up_to 0xFFFF locals)) (up_to 0xFFFF stack)) IsFreshIn
    (λ e. of_then (λ s. option_map (λ l. Some (empty_code s l)) (up_to 0xFFFF locals)) (up_to 0xFFFF stack) IsFreshIn
    (always (up_to 0xFFFF stack) (λ s. IfSome (option_map (λ l. Some (empty_code s l)) (up_to 0xFFFF locals)) IsFreshIn)
    (λ s. of_map (λ l. Some (empty_code s l)) (up_to 0xFFFF locals) IsFreshIn (always (up_to 0xFFFF locals) (λ l. IsFresh (empty_code s l)) (λ l. fresh s l)))))
code_in_is (a ∷ b ∷ c ∷ d ∷ e ∷ words) = tt

method_by_is : (flags name desc : List ℕ) (code : Option StatedCode) → IsFreshIn code → IfSome (method_by flags name desc code) (λ m. IsFreshIn m.code)
method_by_is flags name desc code is =
    of_then (λ n. cond (is_method_name name) (cond (is_ok (method_kinds desc)) (Some (named_member n name desc code)) None) None) (up_to 0xFFFF flags) (λ m. IsFreshIn m.code)
    (always (up_to 0xFFFF flags) (λ n. IfSome (cond (is_method_name name) (cond (is_ok (method_kinds desc)) (Some (named_member n name desc code)) None) None) (λ m. IsFreshIn m.code))
    (λ n. of_if (is_method_name name) (cond (is_ok (method_kinds desc)) (Some (named_member n name desc code)) None) (λ m. IsFreshIn m.code)
    (λ e. of_if (is_ok (method_kinds desc)) (Some (named_member n name desc code)) (λ m. IsFreshIn m.code) (λ e. is))))

method_in_is : (words : List (List ℕ)) → IfSome (method_in words) (λ m. IsFreshIn m.code)
method_in_is [] = tt
method_in_is (a ∷ []) = tt
method_in_is (a ∷ b ∷ []) = tt
method_in_is (a ∷ b ∷ c ∷ []) = tt
method_in_is (keyword ∷ flags ∷ name ∷ desc ∷ sizes) = of_then (method_by flags name desc) (code_in sizes) (λ m. IsFreshIn m.code)
    (weaker (code_in sizes) IsFreshIn (λ code. IfSome (method_by flags name desc code) (λ m. IsFreshIn m.code)) (λ code is. method_by_is flags name desc code is) (code_in_is sizes))

with_code_is : (method : StatedMember) (number : ℕ) (lines : List Line) (code : Option StatedCode) → IsFreshIn code → IfOk (with_code method number lines code) IsStatedMember
with_code_is method number lines None is = of_bind (notes_of lines) (λ notes. Ok (record method { code = None; notes = notes })) IsStatedMember (any_ok (notes_of lines) (λ notes. IfOk {E = AsmFault} (Ok (record method { code = None; notes = notes })) IsStatedMember) (λ notes. tt))
with_code_is method number lines (Some code) is = of_bind (code_of number code lines) (λ p. Ok (record method { code = Some p.code; notes = p.notes })) IsStatedMember (code_is number code lines is)

pub method_is : (first : Line) (lines : List Line) → IfOk (method_of first lines) IsStatedMember
method_is first lines = of_step (method_in first.words) (asm_fault.Line first.number) (λ method. with_lines method first.number lines) IsStatedMember
    (weaker (method_in first.words) (λ m. IsFreshIn m.code) (λ m. IfOk (with_lines m first.number lines) IsStatedMember) (λ m is. with_code_is m first.number lines m.code is) (method_in_is first.words))

field_by_is : (flags name desc : List ℕ) → IfSome (field_by flags name desc) IsStatedMember
field_by_is flags name desc =
    of_then (λ n. cond (is_field_name name) (cond (is_ok (field_kind desc)) (Some (named_member n name desc None)) None) None) (up_to 0xFFFF flags) IsStatedMember
    (always (up_to 0xFFFF flags) (λ n. IfSome (cond (is_field_name name) (cond (is_ok (field_kind desc)) (Some (named_member n name desc None)) None) None) IsStatedMember)
    (λ n. of_if (is_field_name name) (cond (is_ok (field_kind desc)) (Some (named_member n name desc None)) None) IsStatedMember
    (λ e. of_if (is_ok (field_kind desc)) (Some (named_member n name desc None)) IsStatedMember (λ e. tt))))

field_in_is : (words : List (List ℕ)) → IfSome (field_in words) IsStatedMember
field_in_is [] = tt
field_in_is (a ∷ []) = tt
field_in_is (a ∷ b ∷ []) = tt
field_in_is (a ∷ b ∷ c ∷ []) = tt
field_in_is (keyword ∷ flags ∷ name ∷ desc ∷ []) = field_by_is flags name desc
field_in_is (a ∷ b ∷ c ∷ d ∷ e ∷ words) = tt

pub field_is : (first : Line) (lines : List Line) → IfOk (field_of first lines) IsStatedMember
field_is first lines = of_step (field_in first.words) (asm_fault.Line first.number) (λ field. notes_of lines >>= λ notes. Ok (record field { notes = notes })) IsStatedMember
    (weaker (field_in first.words) IsStatedMember (λ field. IfOk (notes_of lines >>= λ notes. Ok (record field { notes = notes })) IsStatedMember)
    (λ field is. of_bind (notes_of lines) (λ notes. Ok (record field { notes = notes })) IsStatedMember (any_ok (notes_of lines) (λ notes. IfOk {E = AsmFault} (Ok (record field { notes = notes })) IsStatedMember) (λ notes. is))) (field_in_is first.words))
