-- What the natives of the classes that keep items need of a program.
use Rattle.std.specs.Prelude.{◌≡◌, true, false, Some, codes}
use Rattle.program_rules.specs.declared.making.Making.TheVariants as making
use Rattle.program_rules.specs.Names.{Name}
use Rattle.program_rules.specs.Kinds.{OfReference}
use Rattle.program_rules.specs.Outlines.{outline_of, is_interface_class}
use Rattle.program_rules.specs.Programs.{Look}
use Rattle.type_rules.specs.References.{is_subtype, classes_of}
use Rattle.type_laws.specs.Values.{Keeping, Elements, Entries, Cursor, Constant, keeping_of}
use Rattle.type_laws.specs.Soundness.{IsBuilt, MakingFits}

-- A class, no interface, and all that are below it keep this.
pub record Keeps (p : Look) (n : Name) (k : Keeping) : Type 0 where
  pub class : is_interface_class (outline_of (p n)) ≡ false
  pub below : (m : Name) → is_subtype p m n ≡ true → keeping_of p m ≡ k

-- What the natives that keep items, and read them again, need of a program. Who builds the program
-- gives `built`, and that what is below a class keeps what that does; all else the table of library
-- classes.
pub record IsKeepingHost (p : Look) : Type 0 where
  pub built : IsBuilt (classes_of p)
  pub list : Keeps p (codes "java/util/ArrayList") Elements
  pub optional : Keeps p (codes "java/util/Optional") Elements
  pub hashed : Keeps p (codes "mt/Hashed") Entries
  pub iterator : Keeps p (codes "mt/Iter") Cursor
  pub enum : Keeps p (codes "java/lang/Enum") Constant
  -- maps and sets are below Hashed
  pub map : is_subtype p (codes "java/util/HashMap") (codes "mt/Hashed") ≡ true
  pub set : is_subtype p (codes "java/util/HashSet") (codes "mt/Hashed") ≡ true
  -- what is made is of the classes that descriptors name
  pub makes_list : MakingFits p making.List (Some (OfReference (codes "java/util/List")))
  pub makes_values : MakingFits p making.List (Some (OfReference (codes "java/util/Collection")))
  pub makes_set : MakingFits p making.Set (Some (OfReference (codes "java/util/Set")))
  pub makes_iterator :
      MakingFits p making.Iterator (Some (OfReference (codes "java/util/Iterator")))
  pub makes_optional :
      MakingFits p making.Optional (Some (OfReference (codes "java/util/Optional")))
