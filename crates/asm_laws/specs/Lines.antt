-- The words of the other lines of a text (this project's own).
use Rattle.std.specs.Prelude.{ℕ, List, [], ◌∷◌, ◌++◌, codes, Option, Some, None}
use Rattle.std.specs.Fmt.{decimal}
use Rattle.std.specs.List.{flat_map}
use Rattle.class_model.specs.declared.frame.VItem.{VItem}
use Rattle.class_model.specs.declared.frame.VItem.TheVariants as vitem
use Rattle.asm_words.specs.declared.stated.StatedClass.{StatedClass}
use Rattle.asm_words.specs.declared.stated.StatedCode.{StatedCode}
use Rattle.asm_words.specs.declared.stated.StatedItem.{StatedItem}
use Rattle.asm_words.specs.declared.stated.StatedItem.TheVariants as item
use Rattle.asm_words.specs.declared.stated.StatedMember.{StatedMember}
use Rattle.asm_words.specs.declared.stated.StatedNote.{StatedNote}
use Rattle.asm_words.specs.declared.stated.StatedRow.{StatedRow}
use Rattle.asm_words.specs.declared.stated.StatedShape.{StatedShape}
use Rattle.asm_words.specs.declared.stated.StatedShape.TheVariants as shape
use Rattle.asm_laws.specs.Words.{label}

-- ---- the class and its members

abbrev pub class_line : StatedClass → List (List ℕ)
class_line class =
    codes "class" ∷ class.name ∷ codes "super" ∷ class.parent ∷ codes "flags" ∷
    decimal class.flags ∷ codes "major" ∷ decimal class.major ∷ []

abbrev pub expected_words : Option (List ℕ) → List (List ℕ)
expected_words None = []
expected_words (Some class) = codes "expected" ∷ class ∷ []

abbrev pub note_line : StatedNote → List (List ℕ)
note_line note = codes "note" ∷ note.kind ∷ expected_words note.expected

abbrev pub field_line : StatedMember → List (List ℕ)
field_line field = codes "field" ∷ decimal field.flags ∷ field.name ∷ field.desc ∷ []

abbrev pub size_words : Option StatedCode → List (List ℕ)
size_words None = []
size_words (Some code) =
    codes "stack" ∷ decimal code.max_stack ∷ codes "locals" ∷ decimal code.max_locals ∷ []

abbrev pub method_line : StatedMember → List (List ℕ)
method_line method =
    codes "method" ∷ decimal method.flags ∷ method.name ∷ method.desc ∷ size_words method.code

-- ---- code

abbrev pub number_line : ℕ → List (List ℕ)
number_line number = codes "line" ∷ decimal number ∷ []

abbrev pub catch_word : Option (List ℕ) → List ℕ
catch_word None = codes "any"
catch_word (Some class) = class

abbrev pub handler_line : StatedRow → List (List ℕ)
handler_line row =
    codes "handler" ∷ label row.start ∷ label row.end ∷ label row.handler ∷ catch_word row.catch ∷
    []

-- ---- frames

abbrev pub known_words : VItem → List (List ℕ)
known_words vitem.Top = codes "top" ∷ []
known_words vitem.Integer = codes "int" ∷ []
known_words vitem.Long = codes "long" ∷ []
known_words vitem.Null = codes "null" ∷ []
known_words vitem.UninitializedThis = codes "uthis" ∷ []
known_words (vitem.Object index) = []
known_words (vitem.Uninitialized n) = codes "new" ∷ label n ∷ []

abbrev pub item_words : StatedItem → List (List ℕ)
item_words (item.Done known) = known_words known
item_words (item.Object name) = name ∷ []

abbrev pub items_words : List StatedItem → List (List ℕ)
items_words items = flat_map item_words items

abbrev pub shape_words : StatedShape → List (List ℕ)
shape_words shape.Same = codes "same" ∷ []
shape_words (shape.One i) = codes "one" ∷ item_words i
shape_words (shape.Chop count) = codes "chop" ∷ decimal count ∷ []
shape_words (shape.Append items) = codes "append" ∷ items_words items
shape_words (shape.Full locals stack) =
    codes "full" ∷ (items_words locals ++ codes "/" ∷ items_words stack)

abbrev pub frame_line : StatedShape → List (List ℕ)
frame_line shape = codes "frame" ∷ shape_words shape
