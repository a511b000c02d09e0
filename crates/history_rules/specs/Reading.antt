-- A record of a history, read item by item up to the first fault (this project's own).
use Rattle.std.specs.Prelude.{ℕ, Bool, false, ◌&&◌, ◌==◌, not, nat_eq, nat_le, nat_lt, List, []}
use Rattle.std.specs.Prelude.{◌∷◌, None, Ok, if◌then◌else◌}
use Rattle.codec_rules.specs.Sequence.{◌>>=◌}
use Rattle.program_rules.specs.Names.{Name}
use Rattle.class_model.specs.declared.outcome.Cause.{Cause}
use Rattle.class_model.specs.declared.outcome.Cause.TheVariants.{Returned, Thrown}
use Rattle.class_model.specs.declared.outcome.Outcome.{Outcome}
use Rattle.class_model.specs.declared.outcome.Outcome.TheVariants.{Passed, Failed, TimedOut}
use Rattle.class_model.specs.declared.outcome.Outcome.TheVariants.{MemoryOut}
use Rattle.record_rules.specs.declared.record.RunRecord.{RunRecord}
use Rattle.record_rules.specs.Matching.{is_timed_out}
use Rattle.history_rules.specs.Items.{FileReader, u1_at, u4_at, u8_at, where_at, text_at}
use Rattle.history_rules.specs.Items.{text_where, counted_by}
use Rattle.history_rules.specs.Entries.{Entry, entry_at, with_entry, pair_at, with_pair}

-- ---- how the run ended

-- A unit is a high surrogate (0xD800 to 0xDBFF), or a low one (0xDC00 to 0xDFFF).
abbrev pub is_high : ℕ → Bool
is_high u = nat_le 0xD800 u && nat_lt u 0xDC00

abbrev pub is_low : ℕ → Bool
is_low u = nat_le 0xDC00 u && nat_lt u 0xE000

-- Each high surrogate has a low one behind it, and each low one a high one before it.
abbrev pub is_paired_from : Bool → Name → Bool
is_paired_from high [] = not high
is_paired_from high (u ∷ us) =
    if high then is_low u && is_paired_from false us
    else if is_low u then false else is_paired_from (is_high u) us

abbrev pub is_paired : Name → Bool
is_paired name = is_paired_from false name

-- The cause of a failure. The first version doesn't tell it, and it counts as Returned.
unfoldable pub told_cause_at : FileReader Cause
told_cause_at input = do
  tag ← where_at u1_at (λ tag. nat_le tag 1) input
  if tag.0 == 0 then Ok (Returned, tag.1) else do
    name ← text_where is_paired tag.1
    Ok (Thrown name.0, name.1)

unfoldable pub cause_at : ℕ → FileReader Cause
cause_at version input = if version == 1 then Ok (Returned, input) else told_cause_at input

unfoldable pub failed_at : ℕ → FileReader Outcome
failed_at version input = cause_at version input >>= λ cause. Ok (Failed cause.0, cause.1)

abbrev pub outcome_behind : ℕ → ℕ → FileReader Outcome
outcome_behind version tag input =
    if tag == 0 then Ok (Passed, input)
    else if tag == 1 then failed_at version input
    else if tag == 2 then Ok (TimedOut, input)
    else Ok (MemoryOut, input)

unfoldable pub outcome_at : ℕ → FileReader Outcome
outcome_at version input = do
  tag ← where_at u1_at (λ tag. nat_le tag 3) input
  outcome_behind version tag.0 tag.1

-- ---- the record

-- Steps are at most the limit, and equal to it where the run is timed out.
abbrev pub are_steps : ℕ → Outcome → ℕ → Bool
are_steps limit outcome steps =
    if is_timed_out outcome then nat_eq steps limit else nat_le steps limit

abbrev pub entries_at : List (List ℕ) → ℕ → FileReader (List Entry)
entries_at pool used =
    counted_by (entry_at pool) (with_entry pool) (record { classes = used; names = [] })

abbrev pub pairs_at : List Entry → FileReader (List (ℕ × ℕ))
pairs_at entries = counted_by (pair_at entries) with_pair None

-- A record under classes of which so many count as used.
unfoldable pub record_at : ℕ → List (List ℕ) → ℕ → FileReader RunRecord
record_at version pool used input = do
  class ← text_at input
  method ← text_at class.1
  heap ← u4_at method.1
  depth ← u4_at heap.1
  limit ← u8_at depth.1
  outcome ← outcome_at version limit.1
  steps ← where_at u8_at (are_steps limit.0 outcome.0) outcome.1
  entries ← entries_at pool used steps.1
  pairs ← pairs_at entries.0 entries.1
  Ok (
    record {
      test_class = class.0;
      test_method = method.0;
      heap = heap.0;
      depth = depth.0;
      limit = limit.0;
      outcome = outcome.0;
      steps = steps.0;
      consulted = entries.0;
      reached = pairs.0;
    },
    pairs.1,
  )
