-- The attributes of a class, a field or a method (JVMS 4.7).
use Rattle.std.specs.Prelude.{◌≡◌, ℕ, ◌+◌, ◌<◌, ◌^◌, true, List, [], length, Option, Some, None, Ok}
use Rattle.std.specs.Int.{w16}
use Rattle.class_model.specs.declared.constant.Const.{Const}
use Rattle.class_model.specs.declared.attribute.Attr.{Attr}
use Rattle.class_model.specs.declared.attribute.Code.{Code}
use Rattle.class_model.specs.declared.attribute.Body.{Body}
use Rattle.class_model.specs.declared.attribute.Body.TheVariants as body
use Rattle.class_model.specs.declared.attribute.Body.TheOpen.{Body-F}
use Rattle.class_model.specs.declared.fault.ClassFault.{ClassFault}
use Rattle.class_model.specs.declared.fault.ClassFault.TheVariants as fault
use Rattle.codec_rules.specs.Sequence.{◌>>=◌, or_fault}
use Rattle.mt_bytes.specs.Items.{ItemReader}
use Rattle.mt_insn.specs.Named.{names}
use Rattle.mt_attrs.specs.Item.{PartReader, number, content, carried_at, many_by, AllBy, counted, u2}
use Rattle.mt_attrs.specs.Named.{is_text, is_value, index_at, IsIndex}
use Rattle.mt_attrs.specs.Notes.{notes_at, notes_bytes, AreNotes}
use Rattle.mt_attrs.specs.Kinds.{known_of, is_free, without, all_unseen}
use Rattle.mt_attrs.specs.CodeParts.{name_at, attr_of, name_of, body_of, code_content_at, code_content, attribute_bytes, IsCodeBody}
use Rattle.mt_attrs.specs.declared.owner.Owner.{Owner}
use Rattle.mt_attrs.specs.declared.kinds.Known.{Known}
use Rattle.mt_attrs.specs.declared.kinds.Known.TheVariants as known
use Rattle.mt_attrs.specs.declared.kinds.Unseen.{Unseen}
use Rattle.mt_attrs.specs.declared.fault.ItemFault.{ItemFault}
use Rattle.mt_attrs.specs.declared.fault.ItemFault.TheVariants as item_fault

-- what stands behind the name of an attribute that begins at `first`
abbrev pub body_at : ℕ → List Const → ℕ → Option Known → PartReader Body
body_at file_end pool first (Some known.Code) input =
    content file_end first (code_content_at file_end pool first) input >>= λ c.
    Ok (body.Code c.0, c.1)
body_at file_end pool first (Some known.Source) input =
    content file_end first (index_at is_text pool) input >>= λ index.
    Ok (body.Source index.0, index.1)
body_at file_end pool first (Some known.Value) input =
    content file_end first (index_at is_value pool) input >>= λ index.
    Ok (body.Value index.0, index.1)
body_at file_end pool first (Some known.Visible) input =
    content file_end first (notes_at pool) input >>= λ notes. Ok (body.Notes notes.0, notes.1)
body_at file_end pool first (Some known.Invisible) input =
    content file_end first (notes_at pool) input >>= λ notes. Ok (body.Notes notes.0, notes.1)
body_at file_end pool first None input =
    carried_at input >>= λ bytes. Ok (body.Raw bytes.0, bytes.1)

unfoldable pub attr_at : ℕ → List Const → Owner → Unseen → PartReader Attr
attr_at file_end pool owner unseen input = do
  name ← name_at pool (λ name. is_free unseen (known_of pool owner name)) input
  b ← body_at file_end pool input.at (known_of pool owner name.0) name.1
  Ok (attr_of name.0 b.0, b.1)

abbrev pub attr_after : List Const → Owner → Unseen → Attr → Unseen
attr_after pool owner unseen attr = without unseen (known_of pool owner (name_of attr))

-- the attributes from their count on, in a file that ends at `file_end`
abbrev pub all_at : ℕ → List Const → Owner → PartReader (List Attr)
all_at file_end pool owner input =
    number w16 input >>= λ count.
    many_by (attr_at file_end pool owner) (attr_after pool owner) all_unseen count.0 count.1

-- An item that no attribute's end cuts is cut by the file's.
abbrev pub fault_of : ItemFault → ClassFault
fault_of (item_fault.Short at need) = fault.Truncated at
fault_of (item_fault.Bad e) = e

-- The attributes of an owner from their count on, in a file that ends where the input does.
abbrev pub attrs_at : Owner → List Const → ItemReader (List Attr)
attrs_at owner pool input =
    or_fault fault_of (all_at (input.at + length input.bytes) pool owner input)

-- ---- bytes

abbrev pub body_content : Body-F Body Attr Code → List ℕ
body_content (Body-F.Code c) = code_content c
body_content (Body-F.Source index) = u2 index
body_content (Body-F.Value index) = u2 index
body_content (Body-F.Notes notes) = notes_bytes notes
body_content (Body-F.Raw bytes) = bytes
body_content (Body-F.Lines lines) = []
body_content (Body-F.Frames frames) = []

abbrev pub attr_bytes : Attr → List ℕ
attr_bytes attr = attribute_bytes (name_of attr) (body_content (body_of attr))

-- The count of the attributes, and the attributes.
abbrev pub attrs_bytes : List Attr → List ℕ
attrs_bytes attrs = counted attr_bytes attrs

-- ---- which attributes have bytes

-- the content of an attribute of this kind, or of one that is carried
abbrev pub IsBody : List Const → Option Known → Body-F Body Attr Code → Type 0
IsBody pool (Some known.Code) (Body-F.Code c) = IsCodeBody pool c
IsBody pool (Some known.Source) (Body-F.Source index) = IsIndex (names is_text pool) index
IsBody pool (Some known.Value) (Body-F.Value index) = IsIndex (names is_value pool) index
IsBody pool (Some known.Visible) (Body-F.Notes notes) = AreNotes pool notes
IsBody pool (Some known.Invisible) (Body-F.Notes notes) = AreNotes pool notes
IsBody pool None (Body-F.Raw bytes) = Unit {0}
IsBody pool kind other = ⊥

pub record IsAttr (pool : List Const) (owner : Owner) (unseen : Unseen) (attr : Attr) : Type 0 where
  pub name : IsIndex (names is_text pool) (name_of attr)
  pub free : is_free unseen (known_of pool owner (name_of attr)) ≡ true
  pub content : IsBody pool (known_of pool owner (name_of attr)) (body_of attr)
  pub size : length (body_content (body_of attr)) < 2 ^ 32

-- The attributes have a spelling at this owner.
abbrev pub AreAttrs : List Const → Owner → List Attr → Type 0
AreAttrs pool owner attrs =
    (length attrs < 2 ^ 16) × AllBy (IsAttr pool owner) (attr_after pool owner) all_unseen attrs
