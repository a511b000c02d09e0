-- Which run a record matches (this project's own).
use Rattle.std.specs.Prelude.{ℕ, Bool, true, false, ◌&&◌, ◌||◌, is_some, is_none, nat_eq, nat_le}
use Rattle.std.specs.Prelude.{if◌then◌else◌, List, [], ◌∷◌, Option, Some, None}
use Rattle.std.specs.List.{list_all}
use Rattle.program_rules.specs.Names.{Name, same}
use Rattle.program_rules.specs.Programs.{Look}
use Rattle.class_model.specs.declared.outcome.Outcome.{Outcome}
use Rattle.class_model.specs.declared.outcome.Outcome.TheVariants.{TimedOut}
use Rattle.record_rules.specs.declared.record.RunRecord.{RunRecord}
use Rattle.record_rules.specs.Profiles.{Held}
use Rattle.record_rules.specs.Records.{Asked}

-- Two lists of bytes are equal, or both are absent.
abbrev pub same_bytes : Option (List ℕ) → Option (List ℕ) → Bool
same_bytes None None = true
same_bytes (Some a) (Some b) = same a b
same_bytes a b = false

-- A name has the recorded bytes among a program's class files, or the program has no class of it,
-- as recorded. A class of the library is one.
abbrev pub holds_as : Look → Held → Name × Option (List ℕ) → Bool
holds_as p held c = same_bytes (held c.0) c.1 && (is_some c.1 || is_none (p c.0))

abbrev pub holds_all : Look → Held → List (Name × Option (List ℕ)) → Bool
holds_all p held cs = list_all (holds_as p held) cs

-- The test is that of the record.
abbrev pub is_of_test : RunRecord → Name → Name → Bool
is_of_test r class method = same r.test_class class && same r.test_method method

abbrev pub is_timed_out : Outcome → Bool
is_timed_out TimedOut = true
is_timed_out other = false

-- A run that ended within its own limit ended so within this one too; one that didn't is known
-- under its own alone.
abbrev pub fits_limit : RunRecord → ℕ → Bool
fits_limit r limit = if is_timed_out r.outcome then nat_eq r.limit limit else nat_le r.steps limit

-- The record matches the run that is asked for: the test and the limits are its own, each consulted
-- name has the recorded bytes or is absent as recorded, and the steps fit.
unfoldable pub matches : RunRecord → Asked → Bool
matches r x =
    is_of_test r x.test.class x.test.method
    && (nat_eq r.heap x.limits.heap
    && (nat_eq r.depth x.limits.depth
    && (fits_limit r x.limit
    && holds_all x.look x.held r.consulted)))

-- The first of these records that matches.
unfoldable pub first_match : List RunRecord → Asked → Option RunRecord
first_match [] x = None
first_match (r ∷ rs) x = if matches r x then Some r else first_match rs x
