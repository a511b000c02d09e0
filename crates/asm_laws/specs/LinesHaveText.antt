-- Which classes, members, notes, rows and frames have a text (JVMS 4, in this profile): the numbers
-- are in the ranges of their fields, and the names are those that the standard allows.
use Rattle.std.specs.Prelude.{◌≡◌, ℕ, ◌<◌, ◌≤◌, ◌^◌, true, false, IfSome, List, length, codes, None}
use Rattle.std.specs.List.{AllByRecursion}
use Rattle.std.specs.Result.{is_ok}
use Rattle.class_model.specs.DeclaredName.{is_class_name, is_field_name, is_method_name}
use Rattle.class_model.specs.DescriptorReading.{field_kind, method_kinds}
use Rattle.class_model.specs.declared.frame.VItem.{VItem}
use Rattle.class_model.specs.declared.frame.VItem.TheVariants as vitem
use Rattle.class_reader.specs.Reading.{is_major}
use Rattle.asm_words.specs.Words.{says}
use Rattle.asm_words.specs.Entries.{is_class_entry, is_result_desc}
use Rattle.asm_words.specs.declared.stated.StatedClass.{StatedClass}
use Rattle.asm_words.specs.declared.stated.StatedCode.{StatedCode}
use Rattle.asm_words.specs.declared.stated.StatedItem.{StatedItem}
use Rattle.asm_words.specs.declared.stated.StatedItem.TheVariants as item
use Rattle.asm_words.specs.declared.stated.StatedMember.{StatedMember}
use Rattle.asm_words.specs.declared.stated.StatedNote.{StatedNote}
use Rattle.asm_words.specs.declared.stated.StatedRow.{StatedRow}
use Rattle.asm_words.specs.declared.stated.StatedShape.{StatedShape}
use Rattle.asm_words.specs.declared.stated.StatedShape.TheVariants as shape
use Rattle.class_asm.specs.Frames.{known_item}

pub record HeadHasText (class : StatedClass) : Type 0 where
  pub flags : class.flags < 2 ^ 16
  pub major : class.major < 2 ^ 16
  pub version : is_major class.major ≡ true
  pub named : is_class_name class.name ≡ true
  pub parent : is_class_entry class.parent ≡ true

pub record NoteHasText (note : StatedNote) : Type 0 where
  pub kind : is_ok (field_kind note.kind) ≡ true
  pub expected : IfSome note.expected (λ class. is_result_desc class ≡ true)

pub record FieldHasText (field : StatedMember) : Type 0 where
  pub flags : field.flags < 2 ^ 16
  pub named : is_field_name field.name ≡ true
  pub typed : is_ok (field_kind field.desc) ≡ true

pub record HasSizes (code : StatedCode) : Type 0 where
  pub stack : code.max_stack < 2 ^ 16
  pub locals : code.max_locals < 2 ^ 16

pub record MethodHasText (method : StatedMember) : Type 0 where
  pub flags : method.flags < 2 ^ 16
  pub named : is_method_name method.name ≡ true
  pub typed : is_ok (method_kinds method.desc) ≡ true
  pub code : IfSome method.code HasSizes

-- A class that a handler may catch isn't named `any`.
pub record IsCaught (class : List ℕ) : Type 0 where
  pub entry : is_class_entry class ≡ true
  pub other : says class (codes "any") ≡ false

pub record RowHasText (total : ℕ) (row : StatedRow) : Type 0 where
  pub start : row.start < total
  pub end : row.end ≤ total
  pub covers : row.start < row.end
  pub handler : row.handler < total
  pub catch : IfSome row.catch IsCaught

-- A class in a frame has no name that stands for something else.
pub record IsTypeName (name : List ℕ) : Type 0 where
  pub entry : is_class_entry name ≡ true
  pub known : known_item name ≡ None
  pub new : says name (codes "new") ≡ false
  pub slash : says name (codes "/") ≡ false

abbrev pub KnownHasText : ℕ → VItem → Type 0
KnownHasText total (vitem.Object index) = ⊥
KnownHasText total (vitem.Uninitialized n) = n < total
KnownHasText total other = Unit {0}

abbrev pub ItemHasText : ℕ → StatedItem → Type 0
ItemHasText total (item.Done known) = KnownHasText total known
ItemHasText total (item.Object name) = IsTypeName name

abbrev pub ItemsHaveText : ℕ → List StatedItem → Type 0
ItemsHaveText total items = AllByRecursion (ItemHasText total) items

abbrev pub ShapeHasText : ℕ → StatedShape → Type 0
ShapeHasText total shape.Same = Unit {0}
ShapeHasText total (shape.One i) = ItemHasText total i
ShapeHasText total (shape.Chop count) = (0 < count) × (count ≤ 3)
ShapeHasText total (shape.Append items) =
    (0 < length items) × (length items ≤ 3) × ItemsHaveText total items
ShapeHasText total (shape.Full locals stack) =
    ItemsHaveText total locals × ItemsHaveText total stack
