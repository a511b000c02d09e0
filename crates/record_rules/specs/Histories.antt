-- Which records a job leaves behind it, and how many of them it had (this project's own).
use Rattle.std.specs.Prelude.{ℕ, Bool, true, false, ◌&&◌, nat_eq, if◌then◌else◌, List, [], ◌∷◌, map}
use Rattle.std.specs.Prelude.{filter, length, Option, Some, None, is_some}
use Rattle.std.specs.List.{list_any, flat_map}
use Rattle.std.specs.Option.{option_or}
use Rattle.program_rules.specs.Names.{Name, same}
use Rattle.class_model.specs.declared.outcome.Cause.{Cause}
use Rattle.class_model.specs.declared.outcome.Cause.TheVariants.{Returned, Thrown}
use Rattle.class_model.specs.declared.outcome.Outcome.{Outcome}
use Rattle.class_model.specs.declared.outcome.Outcome.TheVariants.{Passed, Failed, TimedOut}
use Rattle.class_model.specs.declared.outcome.Outcome.TheVariants.{MemoryOut}
use Rattle.record_rules.specs.declared.record.RunRecord.{RunRecord}
use Rattle.record_rules.specs.Records.{Asked, record_of}
use Rattle.record_rules.specs.Matching.{same_bytes, first_match}

-- ---- equal records

abbrev pub same_cause : Cause → Cause → Bool
same_cause Returned Returned = true
same_cause (Thrown a) (Thrown b) = same a b
same_cause a b = false

abbrev pub same_outcome : Outcome → Outcome → Bool
same_outcome Passed Passed = true
same_outcome (Failed a) (Failed b) = same_cause a b
same_outcome TimedOut TimedOut = true
same_outcome MemoryOut MemoryOut = true
same_outcome a b = false

abbrev pub same_names : List (Name × Option (List ℕ)) → List (Name × Option (List ℕ)) → Bool
same_names [] [] = true
same_names (a ∷ xs) (b ∷ ys) = same a.0 b.0 && (same_bytes a.1 b.1 && same_names xs ys)
same_names xs ys = false

abbrev pub same_pairs : List (ℕ × ℕ) → List (ℕ × ℕ) → Bool
same_pairs [] [] = true
same_pairs (a ∷ xs) (b ∷ ys) = nat_eq a.0 b.0 && (nat_eq a.1 b.1 && same_pairs xs ys)
same_pairs xs ys = false

-- Two records agree in every field.
unfoldable pub same_record : RunRecord → RunRecord → Bool
same_record a b =
    same a.test_class b.test_class
    && (same a.test_method b.test_method
    && (nat_eq a.heap b.heap
    && (nat_eq a.depth b.depth
    && (nat_eq a.limit b.limit
    && (same_outcome a.outcome b.outcome
    && (nat_eq a.steps b.steps
    && (same_names a.consulted b.consulted && same_pairs a.reached b.reached)))))))

-- ---- new records

-- What is known of a run: the first record that matches, and else that of the run.
abbrev pub known : List RunRecord → Asked → Option RunRecord
known old x = option_or (first_match old x) (record_of x)

-- A record of a run that is needed, and whether an old record matches that run.
pub record Kept : Type 0 where
  pub entry : RunRecord
  pub is_old : Bool

abbrev pub kept_with : Bool → Option RunRecord → List Kept
kept_with b None = []
kept_with b (Some r) = record { entry = r; is_old = b } ∷ []

abbrev pub kept_of : List RunRecord → Asked → List Kept
kept_of old x = kept_with (is_some (first_match old x)) (record_of x)

-- Equal records once, at their first place.
abbrev pub once_behind : List RunRecord → List Kept → List Kept
once_behind seen [] = []
once_behind seen (k ∷ ks) =
    if list_any (same_record k.entry) seen then once_behind seen ks
    else k ∷ once_behind (k.entry ∷ seen) ks

-- The records of the runs that are needed, in the order of these; equal ones once.
unfoldable pub all_kept : List RunRecord → List Asked → List Kept
all_kept old needed = once_behind [] (flat_map (kept_of old) needed)

-- The new records. The old ones have no part in them.
abbrev pub new_records : List Asked → List RunRecord
new_records needed = map (λ k. k.entry) (all_kept [] needed)

-- How many of the new records stand for a run that an old one matches.
abbrev pub reused : List RunRecord → List Asked → ℕ
reused old needed = length (filter (λ k. k.is_old) (all_kept old needed))
