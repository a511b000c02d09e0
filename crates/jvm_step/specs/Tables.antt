-- What is found once for a program, and kept by number from run to run.
use Rattle.std.specs.Prelude.{List, ◌++◌}
use Rattle.program_rules.specs.Names.{Name}
use Rattle.class_link.specs.Info.{Info}
use Rattle.jvm_lines.specs.Below.{AreLookups}
use Rattle.jvm_lines.specs.Below.{AreSlots}
use Rattle.jvm_lines.specs.Below.{AreLayouts}
use Rattle.jvm_world.specs.Classes.{machine_names, AreMachineClasses}
use Rattle.jvm_lines.specs.Below.{made_names, AreNatives}
use Rattle.jvm_lines.specs.Below.{AreCodes}
use Rattle.jvm_step.specs.declared.tables.Tables.{Tables}

-- The names of the classes that are looked up: those of which the machine makes objects by itself,
-- and those of which native methods do.
abbrev pub looked_up : List Name
looked_up = machine_names ++ made_names

-- What they hold of a program by the names of its classes alone is right.
pub record AreNamedOf (p : List Info) (t : Tables) : Type 0 where
  pub classes : AreMachineClasses p t.classes
  pub natives : AreNatives p t.natives

-- They are those of a program, and all that they keep is right.
pub record AreTablesOf (p : List Info) (t : Tables) : Type 0 where
  pub classes : AreMachineClasses p t.classes
  pub natives : AreNatives p t.natives
  pub lookups : AreLookups p t.lookups
  pub slots : AreSlots p t.slots
  pub layouts : AreLayouts p t.layouts
  pub codes : AreCodes p t.codes
