-- What hands answer of the cells of a job, and what the records of runs say (this project's own).
use Rattle.std.specs.Prelude.{◌≡◌, ℕ, ◌+◌, ◌≤◌, List, [], Bool, Option, Some, is_some, slice_get, slice_index_or}
use Rattle.std.specs.Option.{option_map}
use Rattle.job_rules.specs.Tried.{Tried, cost_of_run}

-- What is asked of records: which record a made one is and which a found one, what a record says of
-- its mutant, and how many steps its run took.
pub record Reading (Made Found Rec S : Type 0) : Type 0 where
  pub made_of : Made → Rec
  pub found_of : Found → Rec
  pub say : Rec → Option S
  pub steps : Rec → ℕ

abbrev pub detects_found : {M F Rec S : Type 0} → Reading M F Rec S → F → Bool
detects_found r found = is_some (r.say (r.found_of found))

abbrev pub detects_made : {M F Rec S : Type 0} → Reading M F Rec S → M → Bool
detects_made r made = is_some (r.say (r.made_of made))

-- the runs of a job, by mutant
abbrev pub Runs : Type 0 → Type 0
Runs Rec = List (List (Tried Rec))

-- the run of this test on this mutant
pub record IsRunOf {Rec : Type 0} (ms : Runs Rec) (mutant test : ℕ) (t : Tried Rec) : Type 0 where
  pub place : ℕ
  pub stands : slice_get (slice_index_or ms mutant []) place ≡ Some t
  pub test_is : t.test ≡ test

pub record IsCellOf {Rec : Type 0} (ms : Runs Rec) (mutant test : ℕ) : Type 0 where
  pub run : Tried Rec
  pub is : IsRunOf ms mutant test run

module _ {M F Rec S : Type 0} (r : Reading M F Rec S) (ms : Runs Rec) where
  pub record Finds (mutant test : ℕ) (found : Option F) : Type 0 where
    pub finds : (t : Tried Rec) → IsRunOf ms mutant test t → t.found ≡ option_map r.found_of found

  pub record Makes (mutant test : ℕ) (made : M) : Type 0 where
    pub makes : (t : Tried Rec) → IsRunOf ms mutant test t → r.made_of made ≡ t.made

  pub record Counts (mutant test before after : ℕ) : Type 0 where
    pub counts : (t : Tried Rec) → IsRunOf ms mutant test t → after ≡ before + r.steps t.made

  pub record CountsAtMost (mutant test before after : ℕ) : Type 0 where
    pub most : (t : Tried Rec) → IsRunOf ms mutant test t → after ≤ before + r.steps t.made

  -- the same where old results may have the run
  pub record AtMost (mutant test before after : ℕ) : Type 0 where
    pub most : (t : Tried Rec) → IsRunOf ms mutant test t → after ≤ before + cost_of_run r.steps t
