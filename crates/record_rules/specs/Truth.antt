-- When a record is true (this project's own).
use Rattle.std.specs.Prelude.{◌≡◌, ℕ, true, List, [], ◌∷◌, Option, Some, None, is_some, All, IsTrue}
use Rattle.std.specs.Prelude.{if◌then◌else◌}
use Rattle.program_rules.specs.Names.{Name, same}
use Rattle.program_rules.specs.Tests.{Test}
use Rattle.machine_rules.specs.declared.machine.Limits.{Limits}
use Rattle.record_rules.specs.declared.record.RunRecord.{RunRecord}
use Rattle.record_rules.specs.Profiles.{Held, Profile, class_by}
use Rattle.record_rules.specs.Records.{Asked, record_of}

-- The bytes of each name by a list of names with bytes: those of the first entry of the name.
abbrev pub held_in : List (Name × Option (List ℕ)) → Held
held_in [] n = None
held_in (c ∷ cs) n = if same c.0 n then c.1 else held_in cs n

-- The class files that a record names, in its order.
abbrev pub files_with : Name → Option (List ℕ) → List (Name × List ℕ) → List (Name × List ℕ)
files_with n None files = files
files_with n (Some bytes) files = (n, bytes) ∷ files

abbrev pub files_in : List (Name × Option (List ℕ)) → List (Name × List ℕ)
files_in [] = []
files_in (c ∷ cs) = files_with c.0 c.1 (files_in cs)

abbrev pub limits_of : RunRecord → Limits
limits_of r = record { heap = r.heap; depth = r.depth }

-- The run that a record tells of: its test, under its limits, on the program of its own class files
-- and the library.
abbrev pub own_run : Profile → RunRecord → Test → Asked
own_run m r t = record {
  look = class_by m (held_in r.consulted);
  held = held_in r.consulted;
  test = t;
  limits = limits_of r;
  limit = r.limit;
}

-- The bytes spell a class of this name.
abbrev pub IsSpelled : Profile → Name × List ℕ → Type 0
IsSpelled m f = IsTrue (is_some (m.class f.0 f.1))

-- A record is true where the bytes of its class files spell classes of their names, these are a
-- program with the library, its test is a test there, and it is the record of that test's run on
-- that program.
pub record IsTrueRecord (m : Profile) (r : RunRecord) : Type 0 where
  pub spelled : All (IsSpelled m) (files_in r.consulted)
  pub program : m.builds (files_in r.consulted) ≡ true
  pub test : Test
  pub found : m.test (held_in r.consulted) r.test_class r.test_method ≡ Some test
  pub run : record_of (own_run m r test) ≡ Some r
