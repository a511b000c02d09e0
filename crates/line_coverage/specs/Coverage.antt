-- Which tests reach a line of a class (this project's own).
use Rattle.std.specs.Prelude.{◌≡◌, ◌≤◌, ◌<◌, ◌+◌, ℕ, Bool, false, List, [], ◌∷◌, ◌++◌, length, map}
use Rattle.std.proofs.Common.{get_or}
use Rattle.std.specs.List.{filter, range_with_len}
use Rattle.std.specs.Map.{lookup}
use Rattle.std.specs.Option.{unwrap_or}
use Rattle.class_model.specs.declared.class.ClassId.{ClassId}
use Rattle.line_coverage.specs.Lines.{Line, Lines, is_listed, same_line}
use Rattle.line_coverage.specs.Words.{has_test}

-- How many tests there are, and for each line that some test reaches the words with a bit for each
-- test.
pub record Covered : Type 0 where
  pub tests : ℕ
  pub lines : List (Line × List ℕ)

-- The words of a line, none where no test reaches it.
abbrev pub words_of : Covered → Line → List ℕ
words_of cover p = unwrap_or (lookup (same_line p) cover.lines) []

-- Whether a test reaches a line of a class.
unfoldable pub reaches : Covered → ℕ → ℕ → ℕ → Bool
reaches cover class line test = has_test (words_of cover (class, line)) test

-- The tests that reach a line of a class, in their order.
abbrev pub tests_at : Covered → ℕ → ℕ → List ℕ
tests_at cover class line = filter (reaches cover class line) (range_with_len 0 cover.tests)

-- The tests that reach a line of a class are added to a list.
abbrev pub AddsTestsAt : Covered → ℕ → ℕ → List ℕ → List ℕ → Type 0
AddsTestsAt cover class line old new = new ≡ old ++ tests_at cover class line

-- These runs, one for each test, reached the lines.
pub record Covers (runs : List (List (ClassId × ℕ))) (cover : Covered) : Type 0 where
  pub count : cover.tests ≡ length runs
  pub lines :
      (class line test : ℕ) →
      reaches cover class line test ≡ is_listed (class, line) (get_or runs test [])

-- No test behind the last one reaches a line.
abbrev pub HasNoMore : Covered → Type 0
HasNoMore cover = (class line test : ℕ) → cover.tests ≤ test → reaches cover class line test ≡ false

-- This run is counted, behind those that the coverage has.
abbrev pub AddsRun : List (ClassId × ℕ) → Covered → Covered → Type 0
AddsRun reached old new =
    (runs : List (List (ClassId × ℕ))) → Covers runs old → Covers (runs ++ reached ∷ []) new

-- One run more is counted, and those before it reach what they did.
pub record KeepsRuns (old new : Covered) : Type 0 where
  pub count : new.tests ≡ old.tests + 1
  pub lines :
      (class line test : ℕ) → test < old.tests →
      reaches new class line test ≡ reaches old class line test

-- ---- as the code keeps it

abbrev pub covered : {S : Type 0} → ℕ → Lines S → Covered
covered tests lines = record { tests = tests; lines = map (λ e. (e.0, e.1.items)) lines.entries }
