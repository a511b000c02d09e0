-- Which records fit the fields of a history: its numbers, its texts and their lengths, and its counts
-- (this project's own).
use Rattle.std.specs.Prelude.{◌<◌, ◌^◌, ℕ, All, length}
use Rattle.record_rules.specs.declared.record.RunRecord.{RunRecord}
use Rattle.history_rules.specs.Items.{IsText}
use Rattle.history_rules.specs.Entries.{Entry}
use Rattle.history_rules.specs.Laws.{HasShortClass}
use Rattle.history_rules.specs.Spelling.{IsOutcome}

-- A consulted name is a text, and its class file has a length of four bytes.
abbrev pub FitsEntry : Entry → Type 0
FitsEntry e = IsText e.0 × HasShortClass e.1

-- The number of a line has two bytes.
abbrev pub FitsPair : ℕ × ℕ → Type 0
FitsPair x = x.1 < 2 ^ 16

-- The class of what was thrown has no lone surrogate besides, and there are fewer than 2^32 names
-- and lines.
pub record FitsFields (r : RunRecord) : Type 0 where
  pub class : IsText r.test_class
  pub method : IsText r.test_method
  pub heap : r.heap < 2 ^ 32
  pub depth : r.depth < 2 ^ 32
  pub limit : r.limit < 2 ^ 64
  pub outcome : IsOutcome 2 r.outcome
  pub few_names : length r.consulted < 2 ^ 32
  pub names : All FitsEntry r.consulted
  pub few_lines : length r.reached < 2 ^ 32
  pub lines : All FitsPair r.reached
