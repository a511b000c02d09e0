-- What a program keeps is right (this project's own). No public clause cites it.
use Rattle.std.specs.Prelude.{ℕ, List}
use Rattle.std.specs.Arc.{arc_value}
use Rattle.std.specs.BTreeMap.{BTreeMap}
use Rattle.std.specs.declared.sync.Arc.{Arc}
use Rattle.program_rules.specs.Names.{Name}
use Rattle.class_link.specs.Info.{Info}
use Rattle.class_table.specs.declared.supers.Supers.{Supers}
use Rattle.class_table.specs.Adding.{shared}
use Rattle.class_table.specs.Numbers.{IsNumbering}
use Rattle.class_table.specs.Supers.{AreSupers}
use Rattle.class_table.specs.Table.{IsProgram}

module _ {A B : Type 0} where
  -- The classes are a program, and their numbers and what stands above them are theirs.
  abbrev pub IsKeptOf :
      List (Arc Info A)
      → Arc (BTreeMap Name ℕ) B
      → Arc Supers B
      → Type 0
  IsKeptOf cs numbers supers =
      IsProgram (shared cs)
      × IsNumbering (arc_value numbers) (shared cs)
      × AreSupers (shared cs) (arc_value supers)
