-- What native methods need of a program.
use Rattle.std.specs.Prelude.{◌≡◌, true, false, List, [], ◌∷◌, is_none}
use Rattle.std.specs.List.{list_all}
use Rattle.program_rules.specs.declared.value.Value.{Value}
use Rattle.program_rules.specs.declared.making.Making.{Making}
use Rattle.program_rules.specs.declared.making.Making.TheVariants as making
use Rattle.program_rules.specs.Names.{string_name}
use Rattle.program_rules.specs.Kinds.{OfReference}
use Rattle.program_rules.specs.Outlines.{outline_of, is_interface_class}
use Rattle.program_rules.specs.Programs.{Look}
use Rattle.program_rules.specs.Objects.{Object, Plain}
use Rattle.program_rules.specs.Deeds.{making_name}
use Rattle.lib_table.specs.Library.{exceptions}
use Rattle.type_rules.specs.References.{classes_of, is_subtype, throwable_name}
use Rattle.type_laws.specs.Values.{field_kinds, KeptFits}
use Rattle.type_laws.specs.Soundness.{IsBuilt, HasLayout}

-- A class of which objects are made is there, has no fields, and what its objects keep fits.
pub record CanMake (p : Look) (m : Making) : Type 0 where
  pub there : is_none (p (making_name m)) ≡ false
  pub fields : field_kinds p (making_name m) ≡ []
  pub keeps :
      (h : List Object) (items : List Value) → KeptFits p h (Plain (making_name m)) items

-- What native methods need of a program, but those of classes that keep references. Who builds the
-- program gives `built` and `layout`, the table of library classes all else.
pub record IsNativeHost (p : Look) : Type 0 where
  pub built : IsBuilt (classes_of p)
  pub layout : HasLayout p
  -- Throwable has a message and a cause
  pub throwable_fields :
      field_kinds p throwable_name ≡ OfReference string_name ∷ OfReference throwable_name ∷ []
  -- it is a class, and above each exception of the library
  pub throwable : is_interface_class (outline_of (p throwable_name)) ≡ false
  pub thrown : list_all (λ c. is_subtype p c.name throwable_name) exceptions ≡ true
  pub text : CanMake p making.Text
  pub integer : CanMake p making.Integer
  pub long : CanMake p making.Long
  pub short : CanMake p making.Short
  pub byte : CanMake p making.Byte
  pub character : CanMake p making.Character
  pub boolean : CanMake p making.Boolean
