-- What attributes need beside their form and room to have a spelling under a pool: their indices
-- name what they may, their kinds stand in their places and at most once, a row covers an
-- instruction, a code isn't empty, and their numbers are in the ranges of their fields.
use Rattle.std.specs.Prelude.{◌≡◌, ℕ, ◌<◌, ◌^◌, Bool, true, List, length, All, Option, Some, None, Ok}
use Rattle.std.specs.List.{AllByRecursion}
use Rattle.class_model.specs.declared.constant.Const.{Const}
use Rattle.class_model.specs.declared.attribute.Row.{Row}
use Rattle.class_model.specs.declared.attribute.Attr.{Attr}
use Rattle.class_model.specs.declared.attribute.Code.{Code, out-Code}
use Rattle.class_model.specs.declared.attribute.Body.{Body}
use Rattle.class_model.specs.declared.attribute.Body.TheOpen.{Body-F, Code-F}
use Rattle.class_model.specs.declared.frame.Frame.{Frame}
use Rattle.class_model.specs.declared.frame.Shape.{Shape}
use Rattle.class_model.specs.declared.frame.Shape.TheVariants as shape
use Rattle.class_model.specs.declared.frame.VItem.{VItem}
use Rattle.class_model.specs.declared.frame.VItem.TheVariants as vitem
use Rattle.mt_insn.specs.Code.{NamesRight, code}
use Rattle.mt_insn.specs.Named.{names, is_class}
use Rattle.mt_attrs.specs.Item.{AllBy}
use Rattle.mt_attrs.specs.Named.{is_text, is_value, is_caught, IsIndex}
use Rattle.mt_attrs.specs.Notes.{IsNote}
use Rattle.mt_attrs.specs.Kinds.{known_of, is_free, all_unseen, table_of, is_table_free}
use Rattle.mt_attrs.specs.CodeParts.{name_of, body_of, table_after}
use Rattle.mt_attrs.specs.Attributes.{attr_after, attrs_bytes, AreAttrs}
use Rattle.mt_attrs.specs.Layout.{attrs_layout, HasAttrForm}
use Rattle.mt_attrs.specs.declared.owner.Owner.{Owner}
use Rattle.mt_attrs.specs.declared.kinds.Known.{Known}
use Rattle.mt_attrs.specs.declared.kinds.Known.TheVariants as known
use Rattle.mt_attrs.specs.declared.kinds.CodeTable.{CodeTable}
use Rattle.mt_attrs.specs.declared.kinds.CodeTable.TheVariants as table
use Rattle.mt_attrs.specs.declared.kinds.Unseen.{Unseen}

abbrev pub IsNamedLine : ℕ × ℕ → Type 0
IsNamedLine line = line.1 < 2 ^ 16

pub record IsNamedRow (pool : List Const) (row : Row) : Type 0 where
  pub covers : row.start < row.end
  pub catch : IsIndex (is_caught pool) row.catch

abbrev pub IsNamedVItem : List Const → VItem → Type 0
IsNamedVItem pool (vitem.Object index) = IsIndex (names is_class pool) index
IsNamedVItem pool other = Unit {0}

abbrev pub IsNamedShape : List Const → Shape → Type 0
IsNamedShape pool (shape.Same far) = Unit {0}
IsNamedShape pool (shape.One far item) = IsNamedVItem pool item
IsNamedShape pool (shape.Chop count) = Unit {0}
IsNamedShape pool (shape.Append items) = AllByRecursion (IsNamedVItem pool) items
IsNamedShape pool (shape.Full locals stack) =
    AllByRecursion (IsNamedVItem pool) locals × AllByRecursion (IsNamedVItem pool) stack

abbrev pub IsNamedFrame : List Const → Frame → Type 0
IsNamedFrame pool frame = IsNamedShape pool frame.shape

-- ---- attributes

abbrev pub IsNamedTableBody : List Const → Option CodeTable → Body-F Body Attr Code → Type 0
IsNamedTableBody pool (Some table.Lines) (Body-F.Lines lines) = AllByRecursion IsNamedLine lines
IsNamedTableBody pool (Some table.Frames) (Body-F.Frames frames) =
    AllByRecursion (IsNamedFrame pool) frames
IsNamedTableBody pool None (Body-F.Raw bytes) = Unit {0}
IsNamedTableBody pool kind other = ⊥

pub record IsNamedTable (pool : List Const) (unseen : Bool) (attr : Attr) : Type 0 where
  pub name : IsIndex (names is_text pool) (name_of attr)
  pub free : is_table_free unseen (table_of pool (name_of attr)) ≡ true
  pub content : IsNamedTableBody pool (table_of pool (name_of attr)) (body_of attr)

pub record AreNamedParts (pool : List Const) (c : Code-F Body Attr Code) : Type 0 where
  pub stack : c.max_stack < 2 ^ 16
  pub locals : c.max_locals < 2 ^ 16
  pub some : 0 < length (code c.insns)
  pub insns : All (NamesRight pool) c.insns
  pub rows : AllByRecursion (IsNamedRow pool) c.rows
  pub attrs : AllBy (IsNamedTable pool) (table_after pool) true c.attrs

abbrev pub IsNamedBody : List Const → Option Known → Body-F Body Attr Code → Type 0
IsNamedBody pool (Some known.Code) (Body-F.Code c) = AreNamedParts pool (out-Code c)
IsNamedBody pool (Some known.Source) (Body-F.Source index) = IsIndex (names is_text pool) index
IsNamedBody pool (Some known.Value) (Body-F.Value index) = IsIndex (names is_value pool) index
IsNamedBody pool (Some known.Visible) (Body-F.Notes notes) = AllByRecursion (IsNote pool) notes
IsNamedBody pool (Some known.Invisible) (Body-F.Notes notes) = AllByRecursion (IsNote pool) notes
IsNamedBody pool None (Body-F.Raw bytes) = Unit {0}
IsNamedBody pool kind other = ⊥

pub record IsNamedAttr (pool : List Const) (owner : Owner) (unseen : Unseen) (attr : Attr) :
    Type 0 where
  pub name : IsIndex (names is_text pool) (name_of attr)
  pub free : is_free unseen (known_of pool owner (name_of attr)) ≡ true
  pub content : IsNamedBody pool (known_of pool owner (name_of attr)) (body_of attr)

abbrev pub AreNamed : List Const → Owner → List Attr → Type 0
AreNamed pool owner attrs = AllBy (IsNamedAttr pool owner) (attr_after pool owner) all_unseen attrs

-- Attributes that are written have a spelling, where they are named so.
abbrev pub WrittenIsSpelled : Type 0
WrittenIsSpelled =
    (pool : List Const) (owner : Owner) (attrs : List Attr) (bytes : List ℕ) →
    AreNamed pool owner attrs → All HasAttrForm attrs → attrs_layout attrs ≡ Ok bytes →
    AreAttrs pool owner attrs × (bytes ≡ attrs_bytes attrs)
