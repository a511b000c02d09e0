-- What the lines of a code state fits: frames, rows, line numbers and instructions.
use Rattle.std.proofs.Common.{◌≡◌, ℕ, ◌+◌, ◌<◌, ◌≤◌, ◌^◌, Bool, true, false, cond, List, [], ◌∷◌, ◌++◌, length, length-append, Option, Some, None, arith}
use Rattle.std.specs.Prelude.{nat_lt, nat_le, ◌&&◌, ◌||◌, ◌==◌, not, IfSome, All, codes, take, drop, option_and_then}
use Rattle.std.specs.Option.{option_map}
use Rattle.std.proofs.lemmas.Bool.{leb-false}
use Rattle.std.proofs.lemmas.List.Elements.{All-push, All-cons}
use Rattle.class_model.specs.Text.{IsUnits}
use Rattle.class_model.specs.declared.constant.Const.{Const}
use Rattle.class_model.specs.declared.frame.VItem.{VItem}
use Rattle.class_model.specs.declared.frame.VItem.TheVariants as vitem
use Rattle.mt_attrs.specs.Naming.{IsNamedVItem}
use Rattle.asm_words.specs.Words.{says}
use Rattle.asm_words.specs.Numbers.{up_to}
use Rattle.asm_words.specs.Labels.{start_in, end_in, is_instruction}
use Rattle.asm_words.specs.Named.{class_in}
use Rattle.asm_words.specs.Insns.{insn_of}
use Rattle.class_asm.specs.Frames.{known_item, object_item, known_or_object, item_of, new_item, item_at, items_from, items_in, one_item, few, few_items, slash, full_shape, chopped, chop_shape, same_shape, shape_by, shape_of}
use Rattle.class_asm.specs.Codes.{here, line_in, numbered, is_behind, with_frame, framed, caught, row_of, row_in, guarded, with_insn, is_first_label}
use Rattle.class_asm.specs.Members.{code_by}
use Rattle.asm_words.specs.declared.keyword.LineKind.{LineKind}
use Rattle.asm_words.specs.declared.keyword.LineKind.TheVariants as kind
use Rattle.asm_words.specs.declared.line.Line.{Line}
use Rattle.asm_words.specs.declared.labels.Labels.{Labels}
use Rattle.asm_words.specs.declared.stated.StatedItem.{StatedItem}
use Rattle.asm_words.specs.declared.stated.StatedItem.TheVariants as item
use Rattle.asm_words.specs.declared.stated.StatedShape.{StatedShape}
use Rattle.asm_words.specs.declared.stated.StatedShape.TheVariants as shape
use Rattle.asm_words.specs.declared.stated.StatedCode.{StatedCode}
use Rattle.asm_words.proofs.IfSome.{of_map, of_then, of_if, of_unless, of_else, of_only, weaker, always}
use Rattle.asm_words.proofs.NumberLaws.{up_to_is}
use Rattle.class_asm.proofs.CodeLaws.{all_none}
use Rattle.asm_laws.specs.Fit.{IsFitName, IsFitInsn, IsFitItem, IsFitShape, IsFitFrame, IsFitRow}
use Rattle.asm_laws.proofs.FittingUnits.{AreUnits, IsUnitLine, every_take, every_drop}
use Rattle.asm_laws.proofs.FittingNames.{class_in_is}
use Rattle.asm_laws.proofs.FittingInsns.{both_of, insn_is}

-- ---- verification types

-- It names no entry.
abbrev IsKnown : VItem → Type 0
IsKnown i = (pool : List Const) → IsNamedVItem pool i

known_is : (word : List ℕ) → IfSome (known_item word) IsKnown
known_is word =
    let other : Option VItem = None in
    of_else (says word (codes "int")) (Some vitem.Integer) _ IsKnown (λ pool. tt)
    (of_else (says word (codes "long")) (Some vitem.Long) _ IsKnown (λ pool. tt)
    (of_else (says word (codes "top")) (Some vitem.Top) _ IsKnown (λ pool. tt)
    (of_else (says word (codes "null")) (Some vitem.Null) _ IsKnown (λ pool. tt)
    (of_else (says word (codes "uthis")) (Some vitem.UninitializedThis) other IsKnown (λ pool. tt) tt))))

object_is : (word : List ℕ) → IsUnits word → IfSome (object_item word) IsFitItem
object_is word units = of_unless (says word (codes "new") || says word (codes "/")) (option_map item.Object (class_in word)) IsFitItem (λ e. of_map item.Object (class_in word) IsFitItem (class_in_is word units))

item_by : (word : List ℕ) (o : Option VItem) → IsUnits word → IfSome o IsKnown → IfSome (known_or_object word o) IsFitItem
item_by word None units h = object_is word units
item_by word (Some i) units h = h

item_is : (word : List ℕ) → IsUnits word → IfSome (item_of word) IsFitItem
item_is word units = item_by word (known_item word) units (known_is word)

new_is : (labels : Labels) (label : List ℕ) → IfSome (new_item labels label) IsFitItem
new_is labels label = of_map (λ n. item.Done (vitem.Uninitialized n)) (start_in labels label) IsFitItem (always (start_in labels label) (λ n. IsFitItem (item.Done (vitem.Uninitialized n))) (λ n pool. tt))

item_at_is : (labels : Labels) (is_new : Bool) (word : List ℕ) → IsUnits word → IfSome (item_at labels is_new word) IsFitItem
item_at_is labels is_new word units = of_else is_new (new_item labels word) (item_of word) IsFitItem (new_is labels word) (item_is word units)

items_are : (labels : Labels) (is_new : Bool) (words : List (List ℕ)) → AreUnits words → IfSome (items_from labels is_new words) (All IsFitItem)
items_are labels true [] h = tt
items_are labels false [] h = all_none IsFitItem
items_are labels is_new (word ∷ words) h =
    of_else (not is_new && says word (codes "new")) (items_from labels true words) (option_and_then (λ first. option_map (λ items. first ∷ items) (items_from labels false words)) (item_at labels is_new word)) (All IsFitItem)
    (items_are labels true words h.1)
    (of_then (λ first. option_map (λ items. first ∷ items) (items_from labels false words)) (item_at labels is_new word) (All IsFitItem)
    (weaker (item_at labels is_new word) IsFitItem (λ first. IfSome (option_map (λ items. first ∷ items) (items_from labels false words)) (All IsFitItem))
    (λ first is. of_map (λ (items : List StatedItem). first ∷ items) (items_from labels false words) (All IsFitItem)
    (weaker (items_from labels false words) (All IsFitItem) (λ items. All IsFitItem (first ∷ items)) (λ items all. All-cons IsFitItem first items is all) (items_are labels false words h.1)))
    (item_at_is labels is_new word h.0)))

-- ---- shapes

one_is : (labels : Labels) (words : List (List ℕ)) → AreUnits words → IfSome (one_item labels words) IsFitItem
one_is labels [] h = tt
one_is labels (word ∷ []) h = item_is word h.0
one_is labels (keyword ∷ label ∷ []) h = of_if (says keyword (codes "new")) (new_item labels label) IsFitItem (λ e. new_is labels label)
one_is labels (keyword ∷ label ∷ other ∷ words) h = tt

few_are : (labels : Labels) (words : List (List ℕ)) → AreUnits words → IfSome (few_items labels words) (All IsFitItem)
few_are labels words h = of_then few (items_in labels words) (All IsFitItem)
    (weaker (items_in labels words) (All IsFitItem) (λ items. IfSome (few items) (All IsFitItem))
    (λ items all. of_if (nat_lt 0 (length items) && nat_le (length items) 3) (Some items) (All IsFitItem) (λ e. all)) (items_are labels false words h))

full_is : (labels : Labels) (words : List (List ℕ)) → AreUnits words → IfSome (full_shape labels words) IsFitShape
full_is labels words h = of_then (λ place. option_and_then (λ locals. option_map (shape.Full locals) (items_in labels (drop (place + 1) words))) (items_in labels (take place words))) (slash words) IsFitShape
    (always (slash words) (λ place. IfSome (option_and_then (λ locals. option_map (shape.Full locals) (items_in labels (drop (place + 1) words))) (items_in labels (take place words))) IsFitShape)
    (λ place. of_then (λ locals. option_map (shape.Full locals) (items_in labels (drop (place + 1) words))) (items_in labels (take place words)) IsFitShape
    (weaker (items_in labels (take place words)) (All IsFitItem) (λ locals. IfSome (option_map (shape.Full locals) (items_in labels (drop (place + 1) words))) IsFitShape)
    (λ locals all. of_map (shape.Full locals) (items_in labels (drop (place + 1) words)) IsFitShape
    (weaker (items_in labels (drop (place + 1) words)) (All IsFitItem) (λ stack. IsFitShape (shape.Full locals stack)) (λ stack others. (all, others)) (items_are labels false (drop (place + 1) words) (every_drop IsUnits (place + 1) words h))))
    (items_are labels false (take place words) (every_take IsUnits place words h)))))

chop_is : (words : List (List ℕ)) → IfSome (chop_shape words) IsFitShape
chop_is words = of_only (λ word. option_and_then chopped (up_to 0xFF word)) words IsFitShape
    (λ word. of_then chopped (up_to 0xFF word) IsFitShape (always (up_to 0xFF word) (λ count. IfSome (chopped count) IsFitShape) (λ count. of_unless (count == 0 || nat_lt 3 count) (Some (shape.Chop count)) IsFitShape (λ e. tt))))

shape_by_is : (labels : Labels) (keyword : List ℕ) (words : List (List ℕ)) → AreUnits words → IfSome (shape_by labels keyword words) IsFitShape
shape_by_is labels keyword words h =
    let other : Option StatedShape = None in
    of_else (says keyword (codes "same")) (same_shape words) _ IsFitShape (of_if (length words == 0) (Some shape.Same) IsFitShape (λ e. tt))
    (of_else (says keyword (codes "one")) (option_map shape.One (one_item labels words)) _ IsFitShape (of_map shape.One (one_item labels words) IsFitShape (one_is labels words h))
    (of_else (says keyword (codes "chop")) (chop_shape words) _ IsFitShape (chop_is words)
    (of_else (says keyword (codes "append")) (option_map shape.Append (few_items labels words)) _ IsFitShape (of_map shape.Append (few_items labels words) IsFitShape (few_are labels words h))
    (of_else (says keyword (codes "full")) (full_shape labels words) other IsFitShape (full_is labels words h) tt))))

shape_is : (labels : Labels) (words : List (List ℕ)) → AreUnits words → IfSome (shape_of labels words) IsFitShape
shape_is labels [] h = tt
shape_is labels (word ∷ []) h = tt
shape_is labels (word ∷ keyword ∷ words) h = shape_by_is labels keyword words h.1.1

-- ---- the lines of a code

-- what a code keeps, but for having an instruction
pub record Fits (code : StatedCode) : Type 0 where
  pub stack : code.max_stack < 2 ^ 16
  pub locals : code.max_locals < 2 ^ 16
  pub insns : All IsFitInsn code.insns
  pub rows : All IsFitRow code.rows
  pub lines : All (λ line. line.1 < 2 ^ 16) code.lines
  pub frames : All IsFitFrame code.frames

-- The later code fits, and has so many more instructions.
abbrev pub After : StatedCode → ℕ → StatedCode → Type 0
After code more later = Fits later × (length later.insns ≡ length code.insns + more)

number_is : (words : List (List ℕ)) → AreUnits words → IfSome (line_in words) (λ n. n < 2 ^ 16)
number_is words h = both_of (λ keyword number. up_to 0xFFFF number) words (λ n. n < 2 ^ 16) h (λ keyword number units others. weaker (up_to 0xFFFF number) (λ n. n ≤ 0xFFFF) (λ n. n < 2 ^ 16) (λ n le. omega (arith, le)) (up_to_is 0xFFFF number))

numbered_is : (labels : Labels) (code : StatedCode) (line : Line) → IsUnitLine line → Fits code → IfSome (numbered labels code line) (After code 0)
numbered_is labels code line h fits = of_then (λ at. option_map (λ number. record code { lines = code.lines ++ (at, number) ∷ [] }) (line_in line.words)) (here labels code) (After code 0)
    (always (here labels code) (λ at. IfSome (option_map (λ number. record code { lines = code.lines ++ (at, number) ∷ [] }) (line_in line.words)) (After code 0))
    (λ at. of_map (λ number. record code { lines = code.lines ++ (at, number) ∷ [] }) (line_in line.words) (After code 0)
    (weaker (line_in line.words) (λ n. n < 2 ^ 16) (λ number. After code 0 (record code { lines = code.lines ++ (at, number) ∷ [] }))
    (λ number lt. (record { stack = fits.stack; locals = fits.locals; insns = fits.insns; rows = fits.rows; lines = All-push (λ (line : ℕ × ℕ). line.1 < 2 ^ 16) code.lines (at, number) fits.lines lt; frames = fits.frames }, omega arith))
    (number_is line.words h.words))))

frame_at : (labels : Labels) (code : StatedCode) (line : Line) (at : ℕ) → IsUnitLine line → Fits code
    → IfSome (option_map (λ shape. with_frame code at (record { at = at; shape = shape })) (shape_of labels line.words)) (After code 0)
frame_at labels code line at h fits = of_map (λ shape. with_frame code at (record { at = at; shape = shape })) (shape_of labels line.words) (After code 0)
    (weaker (shape_of labels line.words) IsFitShape (λ shape. After code 0 (with_frame code at (record { at = at; shape = shape })))
    (λ shape is. (record { stack = fits.stack; locals = fits.locals; insns = fits.insns; rows = fits.rows; lines = fits.lines; frames = All-push IsFitFrame code.frames (record { at = at; shape = shape }) fits.frames is }, omega arith))
    (shape_is labels line.words h.words))

framed_is : (labels : Labels) (code : StatedCode) (line : Line) → IsUnitLine line → Fits code → IfSome (framed labels code line) (After code 0)
framed_is labels code line h fits =
    of_then (λ at. cond (is_behind code.frames at) (option_map (λ shape. with_frame code at (record { at = at; shape = shape })) (shape_of labels line.words)) None) (here labels code) (After code 0)
    (always (here labels code) (λ at. IfSome (cond (is_behind code.frames at) (option_map (λ shape. with_frame code at (record { at = at; shape = shape })) (shape_of labels line.words)) None) (After code 0))
    (λ at. of_if (is_behind code.frames at) (option_map (λ shape. with_frame code at (record { at = at; shape = shape })) (shape_of labels line.words)) (After code 0) (λ e. frame_at labels code line at h fits)))

-- ---- rows

abbrev IsCaught : Option (List ℕ) → Type 0
IsCaught class = IfSome class IsFitName

caught_is : (word : List ℕ) → IsUnits word → IfSome (caught word) IsCaught
caught_is word units = of_else (says word (codes "any")) (Some None) (option_map Some (class_in word)) IsCaught tt (of_map Some (class_in word) IsCaught (class_in_is word units))

row_by_is : (start end handler : ℕ) (catch : Option (Option (List ℕ))) → IfSome catch IsCaught → IfSome (row_of start end handler catch) IsFitRow
row_by_is start end handler catch h = of_unless (nat_le end start) (option_map (λ class. record { start = start; end = end; handler = handler; catch = class }) catch) IsFitRow
    (λ e. of_map (λ class. record { start = start; end = end; handler = handler; catch = class }) catch IsFitRow
    (weaker catch IsCaught (λ class. IsFitRow (record { start = start; end = end; handler = handler; catch = class })) (λ class is. record { covers = leb-false end start e; catch = is }) h))

row_is : (labels : Labels) (words : List (List ℕ)) → AreUnits words → IfSome (row_in labels words) IsFitRow
row_is labels (keyword ∷ start ∷ end ∷ handler ∷ catch ∷ []) all =
    of_then (λ s. option_and_then (λ e. option_and_then (λ h. row_of s e h (caught catch)) (start_in labels handler)) (end_in labels end)) (start_in labels start) IsFitRow
    (always (start_in labels start) (λ s. IfSome (option_and_then (λ e. option_and_then (λ h. row_of s e h (caught catch)) (start_in labels handler)) (end_in labels end)) IsFitRow)
    (λ s. of_then (λ e. option_and_then (λ h. row_of s e h (caught catch)) (start_in labels handler)) (end_in labels end) IsFitRow
    (always (end_in labels end) (λ e. IfSome (option_and_then (λ h. row_of s e h (caught catch)) (start_in labels handler)) IsFitRow)
    (λ e. of_then (λ h. row_of s e h (caught catch)) (start_in labels handler) IsFitRow
    (always (start_in labels handler) (λ h. IfSome (row_of s e h (caught catch)) IsFitRow) (λ h. row_by_is s e h (caught catch) (caught_is catch all.1.1.1.1.0)))))))
row_is labels [] all = tt
row_is labels (a ∷ []) all = tt
row_is labels (a ∷ b ∷ []) all = tt
row_is labels (a ∷ b ∷ c ∷ []) all = tt
row_is labels (a ∷ b ∷ c ∷ d ∷ []) all = tt
row_is labels (a ∷ b ∷ c ∷ d ∷ e ∷ f ∷ words) all = tt

guarded_is : (labels : Labels) (code : StatedCode) (line : Line) → IsUnitLine line → Fits code → IfSome (guarded labels code line) (After code 0)
guarded_is labels code line h fits = of_map (λ row. record code { rows = code.rows ++ row ∷ [] }) (row_in labels line.words) (After code 0)
    (weaker (row_in labels line.words) IsFitRow (λ row. After code 0 (record code { rows = code.rows ++ row ∷ [] }))
    (λ row is. (record { stack = fits.stack; locals = fits.locals; insns = fits.insns; rows = All-push IsFitRow code.rows row fits.rows is; lines = fits.lines; frames = fits.frames }, omega arith)) (row_is labels line.words h.words))

with_insn_is : (labels : Labels) (code : StatedCode) (line : Line) → IsUnitLine line → Fits code → IfSome (with_insn labels code line) (After code 1)
with_insn_is labels code line h fits = of_map (λ insn. record code { insns = code.insns ++ insn ∷ [] }) (insn_of labels line) (After code 1)
    (weaker (insn_of labels line) IsFitInsn (λ insn. After code 1 (record code { insns = code.insns ++ insn ∷ [] }))
    (λ insn is. (record { stack = fits.stack; locals = fits.locals; insns = All-push IsFitInsn code.insns insn fits.insns is; rows = fits.rows; lines = fits.lines; frames = fits.frames }, length-append code.insns (insn ∷ []))) (insn_is labels line h))

pub code_by_is : (labels : Labels) (code : StatedCode) (line : Line) (k : LineKind) → IsUnitLine line → Fits code → IfSome (code_by labels code line k) (After code (cond (is_instruction k) 1 0))
code_by_is labels code line kind.LineNumber h fits = numbered_is labels code line h fits
code_by_is labels code line kind.Frame h fits = framed_is labels code line h fits
code_by_is labels code line kind.Handler h fits = guarded_is labels code line h fits
code_by_is labels code line kind.Instruction h fits = with_insn_is labels code line h fits
code_by_is labels code line kind.Label h fits = of_if (is_first_label labels line) (Some code) (After code 0) (λ e. (fits, omega arith))
code_by_is labels code line other h fits = tt
