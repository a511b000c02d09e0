-- A class file (JVMS 4.1) read item by item in the order of the file, up to the first fault (this
-- project's own).
use Rattle.std.specs.Prelude.{ℕ, Bool, ◌||◌, ◌==◌, List, length, Result, Ok, Err, if◌then◌else◌}
use Rattle.class_model.specs.DeclaredName.{is_field_name, is_method_name}
use Rattle.class_model.specs.DescriptorReading.{field_kind, method_kinds}
use Rattle.class_model.specs.declared.constant.Const.{Const}
use Rattle.class_model.specs.declared.class.Class.{Class}
use Rattle.class_model.specs.declared.class.Member.{Member}
use Rattle.class_model.specs.declared.fault.ClassFault.{ClassFault}
use Rattle.class_model.specs.declared.fault.ClassFault.TheVariants as fault
use Rattle.codec_rules.specs.Sequence.{◌>>=◌}
use Rattle.codec_rules.specs.Reading.{many_at}
use Rattle.mt_bytes.specs.Items.{ItemReader, u2_at, u4_at}
use Rattle.mt_pool.specs.Whole.{pool_at}
use Rattle.mt_attrs.specs.declared.owner.Owner.{Owner}
use Rattle.mt_attrs.specs.declared.owner.Owner.TheVariants.{OfClass, OfField, OfMethod}
use Rattle.mt_attrs.specs.Attributes.{attrs_at}
use Rattle.class_reader.specs.Indices.{index_at, names_class, no_class, names_this, no_this, names_parent, names_name, no_name, names_desc, no_desc}

-- ---- the head

abbrev pub magic : ℕ
magic = 0xCAFEBABE

unfoldable pub magic_at : ItemReader ℕ
magic_at input = u4_at input >>= λ first. if first.0 == magic then Ok first else Err fault.BadMagic

-- Class files of Java SE 7 and 8 (JVMS 4.1).
abbrev pub is_major : ℕ → Bool
is_major major = major == 51 || major == 52

unfoldable pub major_at : ItemReader ℕ
major_at input =
    u2_at input >>= λ major. if is_major major.0 then Ok major else Err (fault.BadVersion major.0)

-- ---- fields and methods (JVMS 4.5, 4.6)

-- A member whose name and whose descriptor pass a test.
unfoldable pub member_at :
    Owner → (ℕ → Bool) → (ℕ → ℕ → ClassFault) → (ℕ → Bool) → (ℕ → ℕ → ClassFault) → List Const →
    ItemReader Member
member_at owner is_name no_name is_desc no_desc pool input = do
  flags ← u2_at input
  name ← index_at is_name no_name flags.1
  desc ← index_at is_desc no_desc name.1
  attrs ← attrs_at owner pool desc.1
  Ok (record { flags = flags.0; name = name.0; desc = desc.0; attrs = attrs.0 }, attrs.1)

abbrev pub field_at : List Const → ItemReader Member
field_at pool =
    member_at OfField (names_name is_field_name pool) (no_name pool) (names_desc field_kind pool)
    (no_desc field_kind pool) pool

abbrev pub method_at : List Const → ItemReader Member
method_at pool =
    member_at OfMethod (names_name is_method_name pool) (no_name pool)
    (names_desc method_kinds pool) (no_desc method_kinds pool) pool

-- ---- a count, and so many values

unfoldable pub counted_at : {A : Type 0} → ItemReader A → ItemReader (List A)
counted_at read input = do
  count ← u2_at input
  many_at read count.0 count.1

-- ---- the file

unfoldable pub class_at : ItemReader Class
class_at input = do
  first ← magic_at input
  minor ← u2_at first.1
  major ← major_at minor.1
  pool ← pool_at major.1
  flags ← u2_at pool.1
  this ← index_at (names_this pool.0) (no_this pool.0) flags.1
  parent ← index_at (names_parent pool.0 this.0) no_class this.1
  interfaces ← counted_at (index_at (names_class pool.0) no_class) parent.1
  fields ← counted_at (field_at pool.0) interfaces.1
  methods ← counted_at (method_at pool.0) fields.1
  attrs ← attrs_at OfClass pool.0 methods.1
  Ok (
    record {
      minor = minor.0;
      major = major.0;
      pool = pool.0;
      flags = flags.0;
      this = this.0;
      parent = parent.0;
      interfaces = interfaces.0;
      fields = fields.0;
      methods = methods.0;
      attrs = attrs.0;
    },
    attrs.1,
  )

-- The class that the bytes of a file are, or the first fault.
unfoldable pub class_of_file : List ℕ → Result Class ClassFault
class_of_file bytes = do
  class ← class_at (record { at = 0; bytes = bytes })
  if length class.1.bytes == 0 then Ok class.0 else Err (fault.TrailingBytes class.1.at)
