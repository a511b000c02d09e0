-- The record of a run (this project's own).
use Rattle.std.specs.Prelude.{ℕ, zero, suc, Bool, ◌&&◌, ◌||◌, nat_eq, nat_lt, if◌then◌else◌, List}
use Rattle.std.specs.Prelude.{[], ◌∷◌, map, Option}
use Rattle.std.specs.List.{fold}
use Rattle.std.specs.Option.{option_map}
use Rattle.program_rules.specs.Names.{Name, same}
use Rattle.program_rules.specs.Programs.{Look}
use Rattle.program_rules.specs.Tests.{Test}
use Rattle.machine_rules.specs.declared.machine.Limits.{Limits}
use Rattle.class_model.specs.declared.outcome.Outcome.{Outcome}
use Rattle.machine_rules.specs.Runs.{Ran, run_of}
use Rattle.record_rules.specs.declared.record.RunRecord.{RunRecord}
use Rattle.record_rules.specs.Profiles.{Held}
use Rattle.record_rules.specs.Outcomes.{outcome_of}

-- A run that is asked for: a program and its class files, a test, and the limits.
pub record Asked : Type 0 where
  pub look : Look
  pub held : Held
  pub test : Test
  pub limits : Limits
  pub limit : ℕ

-- What it gives.
abbrev pub run : Asked → Ran
run x = run_of x.look x.test x.limits x.limit

-- ---- the lines that it reached

-- The place of a name among names, counted from 0: how many stand before it.
abbrev pub place_in : List Name → Name → ℕ
place_in [] n = zero
place_in (m ∷ ms) n = if same m n then zero else suc (place_in ms n)

-- Pairs in ascending order, by the first and then by the second.
abbrev pub is_before : ℕ × ℕ → ℕ × ℕ → Bool
is_before x y = nat_lt x.0 y.0 || (nat_eq x.0 y.0 && nat_lt x.1 y.1)

-- One pair more, in order, if it isn't there.
abbrev pub put_pair : List (ℕ × ℕ) → ℕ × ℕ → List (ℕ × ℕ)
put_pair [] x = x ∷ []
put_pair (y ∷ ys) x =
    if is_before x y then x ∷ y ∷ ys else if is_before y x then y ∷ put_pair ys x else y ∷ ys

-- The lines by the places of their classes, in ascending order, each once.
abbrev pub reached_in : List Name → List (Name × ℕ) → List (ℕ × ℕ)
reached_in names lines = fold put_pair [] (map (λ x. (place_in names x.0, x.1)) lines)

-- ---- the record

-- The names with the bytes of their class files.
abbrev pub with_bytes : Held → List Name → List (Name × Option (List ℕ))
with_bytes held names = map (λ n. (n, held n)) names

-- The record of a run that gave this, with this outcome.
abbrev pub record_with : Asked → Ran → Outcome → RunRecord
record_with x ran outcome = record {
  test_class = x.test.class;
  test_method = x.test.method;
  heap = x.limits.heap;
  depth = x.limits.depth;
  limit = x.limit;
  outcome = outcome;
  steps = ran.steps;
  consulted = with_bytes x.held ran.consulted;
  reached = reached_in ran.consulted ran.reached;
}

-- The record by what the run gave. One that is stuck has none.
abbrev pub record_by : Asked → Ran → Option RunRecord
record_by x ran = option_map (record_with x ran) (outcome_of ran)

-- The record of a run.
unfoldable pub record_of : Asked → Option RunRecord
record_of x = record_by x (run x)
