-- Indices, counts, fields and methods are read as they are spelled.
use Rattle.std.proofs.Common.{◌≡◌, ℕ, ◌*◌, ◌^◌, ◌<◌, Bool, true, List, ◌++◌, length, Ok, refl, sym, subst}
use Rattle.std.specs.Int.{w16, byte_len, to_be_bytes}
use Rattle.std.specs.List.{flat_map, AllByRecursion}
use Rattle.class_model.specs.DeclaredName.{is_field_name, is_method_name}
use Rattle.class_model.specs.DescriptorReading.{field_kind, method_kinds}
use Rattle.class_model.specs.declared.constant.Const.{Const}
use Rattle.class_model.specs.declared.attribute.Attr.{Attr}
use Rattle.class_model.specs.declared.class.Member.{Member}
use Rattle.class_model.specs.declared.fault.ClassFault.{ClassFault}
use Rattle.class_model.specs.declared.fault.ClassFault.TheVariants as fault
use Rattle.codec_rules.specs.Sequence.{◌>>=◌}
use Rattle.codec_rules.specs.Reading.{many_at}
use Rattle.codec_rules.specs.Spelling.{IsCodecAt}
use Rattle.codec_rules.proofs.Codec.{chain, made, tested_by, renamed}
use Rattle.codec_rules.proofs.Numbers.{number_codec, wide16}
use Rattle.codec_rules.proofs.Many.{many_flat}
use Rattle.mt_bytes.specs.Items.{ItemReader, u2_at}
use Rattle.mt_attrs.specs.declared.owner.Owner.{Owner}
use Rattle.mt_attrs.specs.declared.owner.Owner.TheVariants.{OfField, OfMethod}
use Rattle.mt_attrs.specs.Attributes.{attrs_at, attrs_bytes, AreAttrs}
use Rattle.mt_attrs.proofs.AttrsLaws.{attrs_codec}
use Rattle.class_reader.specs.Indices.{index_at, names_class, no_class, names_name, no_name, names_desc, no_desc}
use Rattle.class_reader.specs.Reading.{member_at, field_at, method_at, counted_at}
use Rattle.class_reader.specs.Spells.{member_bytes, IsMember, IsField, IsMethod, IsInterface, counted_bytes, AreCounted}

abbrev pub Short : ℕ → Type 0
Short n = n < 2 ^ (8 * byte_len w16)

pub short_codec : IsCodecAt u2_at (λ at. to_be_bytes w16) Short
short_codec = number_codec fault.Truncated w16 wide16

pub index_codec : (test : ℕ → Bool) (refusal : ℕ → ℕ → ClassFault) → IsCodecAt (index_at test refusal) (λ at. to_be_bytes w16) (λ n. Short n × (test n ≡ true))
index_codec test refusal = record {
  takes = λ input y rest bytes e. (tested_by u2_at (λ at. to_be_bytes w16) Short test (λ n. refusal n input.at) short_codec).takes input y rest bytes e;
  again = λ y at rest q. (tested_by u2_at (λ at. to_be_bytes w16) Short test (λ n. refusal n at) short_codec).again y at rest q;
}

-- ---- a count, and so many values

pub counted_codec : {A : Type 0} (read : ItemReader A) (bytes : A → List ℕ) (P : A → Type 0) → IsCodecAt read (λ at. bytes) P → IsCodecAt (counted_at read) (λ at. counted_bytes bytes) (AreCounted P)
unfolding counted_at
counted_codec {A} read bytes P codec =
    chain u2_at (λ at. to_be_bytes w16) Short (λ i n j. many_at read n j) (λ (xs : List A). length xs) (λ at. flat_map bytes) (AreCounted P)
    short_codec
    (λ i n lt. renamed (many_at read n) (λ at. flat_map bytes) (λ xs. AllByRecursion P xs × (length xs ≡ n)) (λ xs. AreCounted P xs × (length xs ≡ n))
    (many_flat read bytes P codec n)
    (λ xs q. (record { few = subst Short (sym q.1) lt; each = q.0 }, q.1))
    (λ xs q. (q.0.each, q.1)))
    (λ xs q. q.few)

-- ---- members

abbrev member_of : ℕ → ℕ → ℕ → List Attr → Member
member_of flags name desc attrs = record { flags = flags; name = name; desc = desc; attrs = attrs }

abbrev from_attrs : Owner → List Const → ℕ → ℕ → ℕ → ItemReader Member
from_attrs owner pool flags name desc input = attrs_at owner pool input >>= λ attrs. Ok (member_of flags name desc attrs.0, attrs.1)

abbrev from_desc : Owner → (ℕ → Bool) → (ℕ → ℕ → ClassFault) → List Const → ℕ → ℕ → ItemReader Member
from_desc owner is_desc no_desc pool flags name input = index_at is_desc no_desc input >>= λ desc. from_attrs owner pool flags name desc.0 desc.1

abbrev from_name : Owner → (ℕ → Bool) → (ℕ → ℕ → ClassFault) → (ℕ → Bool) → (ℕ → ℕ → ClassFault) → List Const → ℕ → ItemReader Member
from_name owner is_name no_name is_desc no_desc pool flags input = index_at is_name no_name input >>= λ name. from_desc owner is_desc no_desc pool flags name.0 name.1

attrs_of : (owner : Owner) (is_name is_desc : ℕ → Bool) (pool : List Const) (flags name desc : ℕ) → Short flags → Short name → is_name name ≡ true → Short desc → is_desc desc ≡ true
    → IsCodecAt (from_attrs owner pool flags name desc) (λ at m. attrs_bytes m.attrs) (λ m. ((IsMember owner is_name is_desc pool m × (m.flags ≡ flags)) × (m.name ≡ name)) × (m.desc ≡ desc))
attrs_of owner is_name is_desc pool flags name desc lf ln named ld typed =
    made (attrs_at owner pool) (λ at. attrs_bytes) (AreAttrs pool owner) (member_of flags name desc) (λ m. m.attrs) (λ m. ((IsMember owner is_name is_desc pool m × (m.flags ≡ flags)) × (m.name ≡ name)) × (m.desc ≡ desc))
    (attrs_codec owner pool)
    (λ attrs p. ((((record { flags = lf; name = ln; named = named; desc = ld; typed = typed; attrs = p }, refl), refl), refl), refl))
    (λ m q. (q.0.0.0.attrs, λ i. member_of (sym q.0.0.1 i) (sym q.0.1 i) (sym q.1 i) m.attrs))

desc_of : (owner : Owner) (is_name is_desc : ℕ → Bool) (no_desc : ℕ → ℕ → ClassFault) (pool : List Const) (flags name : ℕ) → Short flags → Short name → is_name name ≡ true
    → IsCodecAt (from_desc owner is_desc no_desc pool flags name) (λ at m. to_be_bytes w16 m.desc ++ attrs_bytes m.attrs) (λ m. (IsMember owner is_name is_desc pool m × (m.flags ≡ flags)) × (m.name ≡ name))
desc_of owner is_name is_desc no_desc pool flags name lf ln named =
    chain (index_at is_desc no_desc) (λ at. to_be_bytes w16) (λ n. Short n × (is_desc n ≡ true)) (λ i desc j. from_attrs owner pool flags name desc j) (λ m. m.desc) (λ at m. attrs_bytes m.attrs) (λ m. (IsMember owner is_name is_desc pool m × (m.flags ≡ flags)) × (m.name ≡ name))
    (index_codec is_desc no_desc)
    (λ i desc p. attrs_of owner is_name is_desc pool flags name desc lf ln named p.0 p.1)
    (λ m q. (q.0.0.desc, q.0.0.typed))

name_of : (owner : Owner) (is_name : ℕ → Bool) (no_name : ℕ → ℕ → ClassFault) (is_desc : ℕ → Bool) (no_desc : ℕ → ℕ → ClassFault) (pool : List Const) (flags : ℕ) → Short flags
    → IsCodecAt (from_name owner is_name no_name is_desc no_desc pool flags) (λ at m. to_be_bytes w16 m.name ++ (to_be_bytes w16 m.desc ++ attrs_bytes m.attrs)) (λ m. IsMember owner is_name is_desc pool m × (m.flags ≡ flags))
name_of owner is_name no_name is_desc no_desc pool flags lf =
    chain (index_at is_name no_name) (λ at. to_be_bytes w16) (λ n. Short n × (is_name n ≡ true)) (λ i name j. from_desc owner is_desc no_desc pool flags name j) (λ m. m.name) (λ at m. to_be_bytes w16 m.desc ++ attrs_bytes m.attrs) (λ m. IsMember owner is_name is_desc pool m × (m.flags ≡ flags))
    (index_codec is_name no_name)
    (λ i name p. desc_of owner is_name is_desc no_desc pool flags name lf p.0 p.1)
    (λ m q. (q.0.name, q.0.named))

member_codec : (owner : Owner) (is_name : ℕ → Bool) (no_name : ℕ → ℕ → ClassFault) (is_desc : ℕ → Bool) (no_desc : ℕ → ℕ → ClassFault) (pool : List Const)
    → IsCodecAt (member_at owner is_name no_name is_desc no_desc pool) (λ at. member_bytes) (IsMember owner is_name is_desc pool)
unfolding member_at
member_codec owner is_name no_name is_desc no_desc pool =
    chain u2_at (λ at. to_be_bytes w16) Short (λ i flags j. from_name owner is_name no_name is_desc no_desc pool flags j) (λ m. m.flags) (λ at m. to_be_bytes w16 m.name ++ (to_be_bytes w16 m.desc ++ attrs_bytes m.attrs)) (IsMember owner is_name is_desc pool)
    short_codec
    (λ i flags lf. name_of owner is_name no_name is_desc no_desc pool flags lf)
    (λ m q. q.flags)

pub field_codec : (pool : List Const) → IsCodecAt (field_at pool) (λ at. member_bytes) (IsField pool)
field_codec pool = member_codec OfField (names_name is_field_name pool) (no_name pool) (names_desc field_kind pool) (no_desc field_kind pool) pool

pub method_codec : (pool : List Const) → IsCodecAt (method_at pool) (λ at. member_bytes) (IsMethod pool)
method_codec pool = member_codec OfMethod (names_name is_method_name pool) (no_name pool) (names_desc method_kinds pool) (no_desc method_kinds pool) pool

pub interface_codec : (pool : List Const) → IsCodecAt (index_at (names_class pool) no_class) (λ at. to_be_bytes w16) (IsInterface pool)
interface_codec pool = index_codec (names_class pool) no_class
