-- Frames and their verification types (JVMS 4.7.4; their text is this project's own).
use Rattle.std.specs.Prelude.{ℕ, ◌+◌, ◌==◌, nat_lt, nat_le, Bool, true, false, not, ◌&&◌, ◌||◌, List, [], ◌∷◌, length, take, drop, position, codes, Option, Some, None, option_and_then, if◌then◌else◌}
use Rattle.std.specs.Option.{option_map}
use Rattle.class_model.specs.declared.frame.VItem.{VItem}
use Rattle.class_model.specs.declared.frame.VItem.TheVariants as vitem
use Rattle.asm_words.specs.Words.{says}
use Rattle.asm_words.specs.Numbers.{up_to}
use Rattle.asm_words.specs.Labels.{start_in}
use Rattle.asm_words.specs.Operands.{only}
use Rattle.asm_words.specs.Named.{class_in}
use Rattle.asm_words.specs.declared.labels.Labels.{Labels}
use Rattle.asm_words.specs.declared.stated.StatedItem.{StatedItem}
use Rattle.asm_words.specs.declared.stated.StatedItem.TheVariants as item
use Rattle.asm_words.specs.declared.stated.StatedShape.{StatedShape}
use Rattle.asm_words.specs.declared.stated.StatedShape.TheVariants as shape

abbrev pub known_item : List ℕ → Option VItem
known_item word =
    if says word (codes "int") then Some vitem.Integer
    else if says word (codes "long") then Some vitem.Long
    else if says word (codes "top") then Some vitem.Top
    else if says word (codes "null") then Some vitem.Null
    else if says word (codes "uthis") then Some vitem.UninitializedThis
    else None

-- `new` and `/` stand for no type.
abbrev pub object_item : List ℕ → Option StatedItem
object_item word =
    if says word (codes "new") || says word (codes "/") then None
    else option_map item.Object (class_in word)

abbrev pub known_or_object : List ℕ → Option VItem → Option StatedItem
known_or_object word (Some known) = Some (item.Done known)
known_or_object word None = object_item word

-- the type that a word states
abbrev pub item_of : List ℕ → Option StatedItem
item_of word = known_or_object word (known_item word)

-- what the `new` at a label made
abbrev pub new_item : Labels → List ℕ → Option StatedItem
new_item labels label = option_map (λ n. item.Done (vitem.Uninitialized n)) (start_in labels label)

-- the type that a word states, which is a label where `new` stood before it
abbrev pub item_at : Labels → Bool → List ℕ → Option StatedItem
item_at labels is_new word = if is_new then new_item labels word else item_of word

abbrev pub items_from : Labels → Bool → List (List ℕ) → Option (List StatedItem)
items_from labels is_new [] = if is_new then None else Some []
items_from labels is_new (word ∷ words) =
    if not is_new && says word (codes "new") then items_from labels true words
    else option_and_then
    (λ first. option_map (λ items. first ∷ items) (items_from labels false words))
    (item_at labels is_new word)

-- the types that words state
abbrev pub items_in : Labels → List (List ℕ) → Option (List StatedItem)
items_in labels words = items_from labels false words

-- the one type that words state
abbrev pub one_item : Labels → List (List ℕ) → Option StatedItem
one_item labels [] = None
one_item labels (word ∷ []) = item_of word
one_item labels (keyword ∷ label ∷ []) =
    if says keyword (codes "new") then new_item labels label else None
one_item labels (keyword ∷ label ∷ other ∷ words) = None

abbrev pub few : List StatedItem → Option (List StatedItem)
few items = if nat_lt 0 (length items) && nat_le (length items) 3 then Some items else None

abbrev pub few_items : Labels → List (List ℕ) → Option (List StatedItem)
few_items labels words = option_and_then few (items_in labels words)

abbrev pub slash : List (List ℕ) → Option ℕ
slash words = position (λ word. says word (codes "/")) words

-- locals and a stack, which a slash parts
abbrev pub full_shape : Labels → List (List ℕ) → Option StatedShape
full_shape labels words =
    option_and_then
    (λ place.
    option_and_then
    (λ locals. option_map (shape.Full locals) (items_in labels (drop (place + 1) words)))
    (items_in labels (take place words))) (slash words)

abbrev pub chopped : ℕ → Option StatedShape
chopped count = if count == 0 || nat_lt 3 count then None else Some (shape.Chop count)

abbrev pub chop_shape : List (List ℕ) → Option StatedShape
chop_shape words = only (λ word. option_and_then chopped (up_to 0xFF word)) words

abbrev pub same_shape : List (List ℕ) → Option StatedShape
same_shape words = if length words == 0 then Some shape.Same else None

abbrev pub shape_by : Labels → List ℕ → List (List ℕ) → Option StatedShape
shape_by labels keyword words =
    if says keyword (codes "same") then same_shape words
    else if says keyword (codes "one") then option_map shape.One (one_item labels words)
    else if says keyword (codes "chop") then chop_shape words
    else if says keyword (codes "append") then option_map shape.Append (few_items labels words)
    else if says keyword (codes "full") then full_shape labels words
    else None

-- the shape of the frame that a line states
abbrev pub shape_of : Labels → List (List ℕ) → Option StatedShape
shape_of labels [] = None
shape_of labels (word ∷ []) = None
shape_of labels (word ∷ keyword ∷ words) = shape_by labels keyword words
