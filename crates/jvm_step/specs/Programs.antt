-- What is asked of a program that is to be run.
use Rattle.std.specs.Prelude.{◌≡◌, ◌⊎◌, ◌≤◌, ℕ, [], Some}
use Rattle.program_rules.specs.Names.{Name}
use Rattle.program_rules.specs.Linked.{LinkedCode, code_of, method_in}
use Rattle.program_rules.specs.Programs.{Look}
use Rattle.class_table.specs.Faults.{HasRightKinds}

-- A code that has exception rows has room for an object on its stack, as all code has that is
-- accepted (JVMS 4.10.1.6).
abbrev pub HasRoomToLand : LinkedCode → Type 0
HasRoomToLand code = (code.rows ≡ []) ⊎ (1 ≤ code.max_stack)

-- So it is of each code of a program.
abbrev pub HaveRoomToLand : Look → Type 0
HaveRoomToLand p =
    (class : Name) (place : ℕ) (code : LinkedCode) →
    code_of (method_in (p class) place) ≡ Some code → HasRoomToLand code

-- A program may be run whose classes name classes as superclasses and interfaces as interfaces, and
-- in whose codes an object may be thrown.
pub record IsRunnable (p : Look) : Type 0 where
  pub kinds : HasRightKinds p
  pub room : HaveRoomToLand p
