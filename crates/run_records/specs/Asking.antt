-- A run that is asked for on a program, by the program's own class files (this project's own).
use Rattle.std.specs.Prelude.{ℕ, List, Option, Some, None, slice_get, option_and_then}
use Rattle.machine_rules.specs.declared.machine.Limits.{Limits}
use Rattle.class_link.specs.declared.loaded.ClassBody.{ClassBody}
use Rattle.class_link.specs.declared.loaded.ClassBody.TheVariants as body
use Rattle.class_link.specs.Info.{Info}
use Rattle.class_table.specs.declared.scripted.Test.{Test}
use Rattle.class_table.specs.Table.{look, number_of}
use Rattle.jvm_world.specs.View.{test_of}
use Rattle.record_rules.specs.Profiles.{Held}
use Rattle.record_rules.specs.Records.{Asked}

-- The bytes of the class file that a class is of. A class of the library has none.
abbrev pub bytes_in : ClassBody → Option (List ℕ)
bytes_in (body.File loaded) = Some loaded.bytes
bytes_in (body.Edited e) = Some e.bytes
bytes_in (body.Library c) = None

abbrev pub bytes_of : Info → Option (List ℕ)
bytes_of i = bytes_in i.body

-- Those of the class of each name of a program.
abbrev pub held_by : List Info → Held
held_by p n = option_and_then (λ id. option_and_then bytes_of (slice_get p id)) (number_of p n)

-- The run of a test on a program, under these limits, for so many steps at most.
abbrev pub asked : List Info → Test → Limits → ℕ → Asked
asked p test limits limit = record {
  look = look p;
  held = held_by p;
  test = test_of test;
  limits = limits;
  limit = limit;
}
