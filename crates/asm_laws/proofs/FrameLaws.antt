-- The lines of frames are read as they are printed.
use Rattle.std.proofs.Common.{◌≡◌, ◌∙◌, refl, ap, ℕ, ◌+◌, ◌<◌, ◌≤◌, Bool, true, false, cond, List, [], ◌∷◌, ◌++◌, length, take, drop, Option, Some, None, length-append, arith}
use Rattle.std.specs.Prelude.{option_and_then, codes, nat_lt, nat_le, not, ◌&&◌, ◌||◌}
use Rattle.std.specs.Fmt.{decimal}
use Rattle.std.specs.List.{AllByRecursion, position_or_len}
use Rattle.std.specs.Option.{option_map}
use Rattle.std.proofs.Math.Seq.{take-append_seam, drop-append-add}
use Rattle.std.proofs.lemmas.Bool.{lt-ltb, le-ltb, le-leb, ne_eqb}
use Rattle.class_model.specs.declared.frame.VItem.TheVariants as vitem
use Rattle.asm_words.specs.Labels.{start_in}
use Rattle.asm_words.specs.Words.{says}
use Rattle.asm_words.specs.declared.labels.Labels.{Labels}
use Rattle.asm_words.specs.Named.{class_in}
use Rattle.asm_words.specs.declared.stated.StatedItem.{StatedItem}
use Rattle.asm_words.specs.declared.stated.StatedItem.TheVariants as item
use Rattle.asm_words.specs.declared.stated.StatedShape.TheVariants as shape
use Rattle.class_asm.specs.Frames.{known_or_object, item_of, new_item, items_from, items_in, one_item, few, slash, full_shape, chopped, chop_shape}
use Rattle.asm_laws.specs.Lines.{item_words, items_words}
use Rattle.asm_laws.specs.LinesHaveText.{IsTypeName, ItemHasText, ItemsHaveText}
use Rattle.asm_laws.specs.LineStatement.{FramesAreReadBack}
use Rattle.asm_laws.specs.Statement.{AreLabelled}
use Rattle.asm_laws.specs.Words.{label}
use Rattle.asm_laws.proofs.TextEntryLaws.{class_is}
use Rattle.asm_laws.proofs.NumberLaws.{up_to_is}

abbrev Items : Type 0
Items = List StatedItem

object_is : (name : List ℕ) → IsTypeName name → item_of name ≡ Some (item.Object name)
object_is name h =
    ap (known_or_object name) h.known
    ∙ ap (λ (b : Bool). cond (b || says name (codes "/")) None (option_map item.Object (class_in name))) h.new
    ∙ ap (λ (b : Bool). cond b None (option_map item.Object (class_in name))) h.slash
    ∙ ap (option_map item.Object) (class_is name h.entry)

new_is : (labels : Labels) (n : ℕ) → start_in labels (label n) ≡ Some n → new_item labels (label n) ≡ Some (item.Done (vitem.Uninitialized n))
new_is labels n e = ap (option_map (λ (k : ℕ). item.Done (vitem.Uninitialized k))) e

-- ---- one item

one_is : (total : ℕ) (labels : Labels) → AreLabelled total labels → (i : StatedItem) → ItemHasText total i → one_item labels (item_words i) ≡ Some i
one_is total labels known (item.Object name) h = object_is name h
one_is total labels known (item.Done vitem.Top) h = refl
one_is total labels known (item.Done vitem.Integer) h = refl
one_is total labels known (item.Done vitem.Long) h = refl
one_is total labels known (item.Done vitem.Null) h = refl
one_is total labels known (item.Done vitem.UninitializedThis) h = refl
one_is total labels known (item.Done (vitem.Object index)) h = absurd h
one_is total labels known (item.Done (vitem.Uninitialized n)) h = new_is labels n (known n h)

-- ---- several items

abbrev with_first : StatedItem → Option Items → Option Items
with_first i rest = option_map (λ (items : Items). i ∷ items) rest

first_is : (total : ℕ) (labels : Labels) → AreLabelled total labels → (i : StatedItem) → ItemHasText total i → (rest : List (List ℕ)) → items_in labels (item_words i ++ rest) ≡ with_first i (items_in labels rest)
first_is total labels known (item.Object name) h rest =
    ap (λ (b : Bool). cond b (items_from labels true rest) (option_and_then (λ (first : StatedItem). with_first first (items_from labels false rest)) (item_of name))) h.new
    ∙ ap (option_and_then (λ (first : StatedItem). with_first first (items_from labels false rest))) (object_is name h)
first_is total labels known (item.Done vitem.Top) h rest = refl
first_is total labels known (item.Done vitem.Integer) h rest = refl
first_is total labels known (item.Done vitem.Long) h rest = refl
first_is total labels known (item.Done vitem.Null) h rest = refl
first_is total labels known (item.Done vitem.UninitializedThis) h rest = refl
first_is total labels known (item.Done (vitem.Object index)) h rest = absurd h
first_is total labels known (item.Done (vitem.Uninitialized n)) h rest =
    ap (option_and_then (λ (first : StatedItem). with_first first (items_from labels false rest))) (new_is labels n (known n h))

items_are : (total : ℕ) (labels : Labels) → AreLabelled total labels → (items : Items) → ItemsHaveText total items → items_in labels (items_words items) ≡ Some items
items_are total labels known [] all = refl
items_are total labels known (i ∷ items) all = first_is total labels known i all.0 (items_words items) ∙ ap (with_first i) (items_are total labels known items all.1)

-- ---- the slash

abbrev is_slash : List ℕ → Bool
is_slash word = says word (codes "/")

abbrev NoSlash : List (List ℕ) → Type 0
NoSlash words = AllByRecursion (λ word. is_slash word ≡ false) words

no_slash_append : (xs ys : List (List ℕ)) → NoSlash xs → NoSlash ys → NoSlash (xs ++ ys)
no_slash_append [] ys p q = q
no_slash_append (x ∷ xs) ys p q = (p.0, no_slash_append xs ys p.1 q)

item_no_slash : (total : ℕ) (i : StatedItem) → ItemHasText total i → NoSlash (item_words i)
item_no_slash total (item.Object name) h = (h.slash, tt)
item_no_slash total (item.Done vitem.Top) h = (refl, tt)
item_no_slash total (item.Done vitem.Integer) h = (refl, tt)
item_no_slash total (item.Done vitem.Long) h = (refl, tt)
item_no_slash total (item.Done vitem.Null) h = (refl, tt)
item_no_slash total (item.Done vitem.UninitializedThis) h = (refl, tt)
item_no_slash total (item.Done (vitem.Object index)) h = absurd h
item_no_slash total (item.Done (vitem.Uninitialized n)) h = (refl, (refl, tt))

items_no_slash : (total : ℕ) (items : Items) → ItemsHaveText total items → NoSlash (items_words items)
items_no_slash total [] all = tt
items_no_slash total (i ∷ items) all = no_slash_append (item_words i) (items_words items) (item_no_slash total i all.0) (items_no_slash total items all.1)

before_slash : (xs ys : List (List ℕ)) → NoSlash xs → position_or_len is_slash (xs ++ codes "/" ∷ ys) ≡ length xs
before_slash [] ys p = refl
before_slash (x ∷ xs) ys p =
    ap (λ (b : Bool). cond (not b) (1 + position_or_len is_slash (xs ++ codes "/" ∷ ys)) 0) p.0 ∙ ap (λ (n : ℕ). 1 + n) (before_slash xs ys p.1) ∙ omega arith

slash_is : (xs ys : List (List ℕ)) → NoSlash xs → slash (xs ++ codes "/" ∷ ys) ≡ Some (length xs)
slash_is xs ys p =
    let words = xs ++ codes "/" ∷ ys in
    ap (λ (n : ℕ). cond (nat_lt n (length words)) (Some n) None) (before_slash xs ys p)
    ∙ ap (λ (b : Bool). cond b (Some (length xs)) None) (lt-ltb (length xs) (length words) (omega (arith, length-append xs (codes "/" ∷ ys))))

full_is : (total : ℕ) (labels : Labels) → AreLabelled total labels → (locals stack : Items) → ItemsHaveText total locals → ItemsHaveText total stack
    → full_shape labels (items_words locals ++ codes "/" ∷ items_words stack) ≡ Some (shape.Full locals stack)
full_is total labels known locals stack p q =
    let xs = items_words locals in
    let ys = items_words stack in
    let words = xs ++ codes "/" ∷ ys in
    ap (option_and_then (λ (place : ℕ). option_and_then (λ (l : Items). option_map (shape.Full l) (items_in labels (drop (place + 1) words))) (items_in labels (take place words)))) (slash_is xs ys (items_no_slash total locals p))
    ∙ ap (λ (ws : List (List ℕ)). option_and_then (λ (l : Items). option_map (shape.Full l) (items_in labels (drop (length xs + 1) words))) (items_in labels ws)) (take-append_seam xs (codes "/" ∷ ys))
    ∙ ap (option_and_then (λ (l : Items). option_map (shape.Full l) (items_in labels (drop (length xs + 1) words)))) (items_are total labels known locals p)
    ∙ ap (λ (ws : List (List ℕ)). option_map (shape.Full locals) (items_in labels ws)) (drop-append-add xs (codes "/" ∷ ys) 1)
    ∙ ap (option_map (shape.Full locals)) (items_are total labels known stack q)

few_is : (items : Items) → 0 < length items → length items ≤ 3 → few items ≡ Some items
few_is items some most =
    ap (λ (b : Bool). cond (b && nat_le (length items) 3) (Some items) None) (lt-ltb 0 (length items) some) ∙ ap (λ (b : Bool). cond b (Some items) None) (le-leb (length items) 3 most)

chop_is : (count : ℕ) → 0 < count → count ≤ 3 → chop_shape (decimal count ∷ []) ≡ Some (shape.Chop count)
chop_is count some most =
    ap (option_and_then chopped) (up_to_is 0xFF count (omega arith) (omega (arith, most)))
    ∙ ap (λ (b : Bool). cond (b || nat_lt 3 count) None (Some (shape.Chop count))) (ne_eqb count 0 (λ e. omega (arith, e, some)))
    ∙ ap (λ (b : Bool). cond b None (Some (shape.Chop count))) (le-ltb 3 count most)

pub frames_are_read_back : FramesAreReadBack
frames_are_read_back total labels shape.Same known h = refl
frames_are_read_back total labels (shape.One i) known h = ap (option_map shape.One) (one_is total labels known i h)
frames_are_read_back total labels (shape.Chop count) known h = chop_is count h.0 h.1
frames_are_read_back total labels (shape.Append items) known h =
    ap (λ (o : Option Items). option_map shape.Append (option_and_then few o)) (items_are total labels known items h.2) ∙ ap (option_map shape.Append) (few_is items h.0 h.1)
frames_are_read_back total labels (shape.Full locals stack) known h = full_is total labels known locals stack h.0 h.1
