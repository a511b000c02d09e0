-- What a class file is (JVMS 4.1): a class of the profile, and its bytes. Each item has one case,
-- and nothing here tells how a file is read.
use Rattle.std.specs.Prelude.{◌≡◌, ℕ, ◌<◌, ◌^◌, Bool, IsTrue, List, ◌++◌, length}
use Rattle.std.specs.Int.{w16, w32, to_be_bytes}
use Rattle.std.specs.List.{flat_map, AllByRecursion}
use Rattle.class_model.specs.DeclaredName.{is_field_name, is_method_name}
use Rattle.class_model.specs.DescriptorReading.{field_kind, method_kinds}
use Rattle.class_model.specs.Pool.{IsPool}
use Rattle.class_model.specs.declared.constant.Const.{Const}
use Rattle.class_model.specs.declared.class.Class.{Class}
use Rattle.class_model.specs.declared.class.Member.{Member}
use Rattle.mt_pool.specs.Spelling.{pool_bytes}
use Rattle.mt_attrs.specs.declared.owner.Owner.{Owner}
use Rattle.mt_attrs.specs.declared.owner.Owner.TheVariants.{OfClass, OfField, OfMethod}
use Rattle.mt_attrs.specs.Attributes.{attrs_bytes, AreAttrs}
use Rattle.class_reader.specs.Indices.{names_class, names_this, names_parent, names_name, names_desc}
use Rattle.class_reader.specs.Reading.{magic, is_major}

-- ---- fields and methods (JVMS 4.5, 4.6)

abbrev pub member_bytes : Member → List ℕ
member_bytes member =
    to_be_bytes w16 member.flags
    ++ (to_be_bytes w16 member.name
    ++ (to_be_bytes w16 member.desc
    ++ attrs_bytes member.attrs))

pub record IsMember (owner : Owner) (is_name is_desc : ℕ → Bool) (pool : List Const)
    (member : Member) : Type 0 where
  pub flags : member.flags < 2 ^ 16
  pub name : member.name < 2 ^ 16
  pub named : IsTrue (is_name member.name)
  pub desc : member.desc < 2 ^ 16
  pub typed : IsTrue (is_desc member.desc)
  pub attrs : AreAttrs pool owner member.attrs

abbrev pub IsField : List Const → Member → Type 0
IsField pool = IsMember OfField (names_name is_field_name pool) (names_desc field_kind pool) pool

abbrev pub IsMethod : List Const → Member → Type 0
IsMethod pool =
    IsMember OfMethod (names_name is_method_name pool) (names_desc method_kinds pool) pool

-- ---- a count, and so many values

abbrev pub counted_bytes : {A : Type 0} → (A → List ℕ) → List A → List ℕ
counted_bytes bytes values = to_be_bytes w16 (length values) ++ flat_map bytes values

pub record AreCounted {A : Type 0} (P : A → Type 0) (values : List A) : Type 0 where
  pub few : length values < 2 ^ 16
  pub each : AllByRecursion P values

-- ---- the file

abbrev pub class_bytes : Class → List ℕ
class_bytes class =
    to_be_bytes w32 magic
    ++ (to_be_bytes w16 class.minor
    ++ (to_be_bytes w16 class.major
    ++ (pool_bytes class.pool
    ++ (to_be_bytes w16 class.flags
    ++ (to_be_bytes w16 class.this
    ++ (to_be_bytes w16 class.parent
    ++ (counted_bytes (to_be_bytes w16) class.interfaces
    ++ (counted_bytes member_bytes class.fields
    ++ (counted_bytes member_bytes class.methods
    ++ attrs_bytes class.attrs)))))))))

abbrev pub IsInterface : List Const → ℕ → Type 0
IsInterface pool index = (index < 2 ^ 16) × IsTrue (names_class pool index)

pub record IsClass (class : Class) : Type 0 where
  pub minor : class.minor < 2 ^ 16
  pub major : IsTrue (is_major class.major)
  pub pool : IsPool class.pool
  pub flags : class.flags < 2 ^ 16
  pub this : class.this < 2 ^ 16
  pub named : IsTrue (names_this class.pool class.this)
  pub parent : class.parent < 2 ^ 16
  pub extends : IsTrue (names_parent class.pool class.this class.parent)
  pub interfaces : AreCounted (IsInterface class.pool) class.interfaces
  pub fields : AreCounted (IsField class.pool) class.fields
  pub methods : AreCounted (IsMethod class.pool) class.methods
  pub attrs : AreAttrs class.pool OfClass class.attrs

-- The bytes are the class file of the class.
pub record Spells (bytes : List ℕ) (class : Class) : Type 0 where
  pub form : IsClass class
  pub text : bytes ≡ class_bytes class
