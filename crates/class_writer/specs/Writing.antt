-- Writing a class file (JVMS 4.1): its bytes, or the bound that is passed first in the order of the
-- file (JVMS 4.11).
use Rattle.std.specs.Prelude.{◌≡◌, ℕ, ◌<◌, ◌^◌, Bool, IsTrue, List, length, All, Option, Result, Ok}
use Rattle.std.specs.List.{AllByRecursion}
use Rattle.std.specs.Option.{option_map}
use Rattle.class_model.specs.DeclaredName.{is_field_name, is_method_name}
use Rattle.class_model.specs.DescriptorReading.{field_kind, method_kinds}
use Rattle.class_model.specs.Pool.{IsPoolForm}
use Rattle.class_model.specs.declared.constant.Const.{Const}
use Rattle.class_model.specs.declared.class.Class.{Class}
use Rattle.class_model.specs.declared.class.Member.{Member}
use Rattle.class_model.specs.declared.fault.Bound.{Bound}
use Rattle.class_model.specs.declared.fault.LayoutFault.{LayoutFault}
use Rattle.class_model.specs.declared.fault.LayoutFault.TheVariants as layout_fault
use Rattle.codec_rules.specs.Sequence.{unless}
use Rattle.mt_pool.specs.Whole.{layout as pool_layout}
use Rattle.mt_attrs.specs.declared.owner.Owner.{Owner}
use Rattle.mt_attrs.specs.declared.owner.Owner.TheVariants.{OfClass, OfField, OfMethod}
use Rattle.mt_attrs.specs.Naming.{AreNamed}
use Rattle.mt_attrs.specs.Layout.{or_bound, count_bound, list_bound, bound_in, attrs_bound, HasAttrForm}
use Rattle.class_reader.specs.Indices.{names_this, names_parent, names_name, names_desc}
use Rattle.class_reader.specs.Reading.{is_major}
use Rattle.class_reader.specs.Spells.{class_bytes, IsInterface, Spells}

abbrev pub pool_bound : List Const → Option Bound
pool_bound pool = bound_in (pool_layout pool)

abbrev pub member_bound : Member → Option Bound
member_bound member = attrs_bound member.attrs

abbrev pub members_bound : List Member → Option Bound
members_bound members = list_bound member_bound members

abbrev pub class_bound : Class → Option Bound
class_bound class =
    or_bound (pool_bound class.pool)
    (or_bound (count_bound (length class.interfaces))
    (or_bound (members_bound class.fields)
    (or_bound (members_bound class.methods) (attrs_bound class.attrs))))

-- The bytes of a class that has room, or the bound that is passed first.
abbrev pub layout : Class → Result (List ℕ) LayoutFault
layout class = unless (option_map layout_fault.TooLarge (class_bound class)) (class_bytes class)

-- The form of what may be written: that of what is read, but for sizes. What an index names in the
-- pool is not asked.
abbrev pub HasMemberForm : Member → Type 0
HasMemberForm member = All HasAttrForm member.attrs

pub record HasClassForm (class : Class) : Type 0 where
  pub fields : All HasMemberForm class.fields
  pub methods : All HasMemberForm class.methods
  pub attrs : All HasAttrForm class.attrs

-- What was read is written as it was: a class that has a spelling is one that `write_class` takes,
-- and it gives that spelling.
abbrev pub SpelledIsWritten : Type 0
SpelledIsWritten =
    (bytes : List ℕ) (class : Class) → Spells bytes class →
    HasClassForm class × (layout class ≡ Ok bytes)

-- What a class needs beside its form and room to have a spelling: its indices name what they have
-- to, and its numbers are in the ranges of their fields.
pub record IsNamedMember (owner : Owner) (is_name is_desc : ℕ → Bool) (pool : List Const)
    (member : Member) : Type 0 where
  pub flags : member.flags < 2 ^ 16
  pub name : member.name < 2 ^ 16
  pub named : IsTrue (is_name member.name)
  pub desc : member.desc < 2 ^ 16
  pub typed : IsTrue (is_desc member.desc)
  pub attrs : AreNamed pool owner member.attrs

abbrev pub IsNamedField : List Const → Member → Type 0
IsNamedField pool =
    IsNamedMember OfField (names_name is_field_name pool) (names_desc field_kind pool) pool

abbrev pub IsNamedMethod : List Const → Member → Type 0
IsNamedMethod pool =
    IsNamedMember OfMethod (names_name is_method_name pool) (names_desc method_kinds pool) pool

pub record IsNamedClass (class : Class) : Type 0 where
  pub minor : class.minor < 2 ^ 16
  pub major : IsTrue (is_major class.major)
  pub pool : IsPoolForm class.pool
  pub flags : class.flags < 2 ^ 16
  pub this : class.this < 2 ^ 16
  pub named : IsTrue (names_this class.pool class.this)
  pub parent : class.parent < 2 ^ 16
  pub extends : IsTrue (names_parent class.pool class.this class.parent)
  pub interfaces : AllByRecursion (IsInterface class.pool) class.interfaces
  pub fields : AllByRecursion (IsNamedField class.pool) class.fields
  pub methods : AllByRecursion (IsNamedMethod class.pool) class.methods
  pub attrs : AreNamed class.pool OfClass class.attrs

-- What was written is read again: a class that is named so and has room is spelled by what
-- `write_class` gives.
abbrev pub WrittenIsSpelled : Type 0
WrittenIsSpelled =
    (bytes : List ℕ) (class : Class) → IsNamedClass class → HasClassForm class →
    layout class ≡ Ok bytes → Spells bytes class
