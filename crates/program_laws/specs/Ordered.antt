-- A program whose supers are as they have to be is built as accepted code asks.
use Rattle.std.specs.Prelude.{◌≡◌, ◌||◌, true, false, is_none}
use Rattle.program_rules.specs.Names.{Name, same, object_name, is_array_name}
use Rattle.program_rules.specs.Outlines.{outline_of, is_interface_class}
use Rattle.program_rules.specs.Programs.{Look}
use Rattle.type_rules.specs.References.{classes_of}
use Rattle.type_rules.specs.Assignability.{takes_arrays}
use Rattle.type_laws.specs.Soundness.{IsBuilt}
use Rattle.class_order.specs.Ranks.{IsOrdered}

-- What the library and the reader of class files give: Object and the supers of arrays are there,
-- and no class is named as an array.
pub record HasArrays (p : Look) : Type 0 where
  pub object : is_none (p object_name) ≡ false
  pub arrays :
      (t : Name) → takes_arrays t ≡ true →
      (same t object_name || is_interface_class (outline_of (p t))) ≡ true
  pub none : (n : Name) → is_array_name n ≡ true → is_none (p n) ≡ true

-- Such a program is built as accepted code asks.
abbrev pub OrderedIsBuilt : Type 0
OrderedIsBuilt = (p : Look) → IsOrdered p → HasArrays p → IsBuilt (classes_of p)
