-- Names, classes and tests of a history by number (this project's own).
use Rattle.std.specs.Prelude.{◌≡◌, ◌≤◌, ◌+◌, length, ℕ, Bool, ◌&&◌, nat_eq, List, Option, All, is_some, IsTrue}
use Rattle.std.specs.Prelude.{slice_get, Some, None, option_map, option_and_then, if◌then◌else◌}
use Rattle.std.specs.List.{position_from}
use Rattle.std.specs.Option.{option_or}
use Rattle.std.specs.BTreeMap as tree
use Rattle.class_model.specs.Text.{units_of}
use Rattle.std.specs.Cmp.Lexicographic.{slice_cmp}
use Rattle.std.specs.Ordering.{nat_cmp, ordering_then}
use Rattle.program_rules.specs.Names.{Name, same}
use Rattle.record_rules.specs.declared.record.RunRecord.{RunRecord}
use Rattle.history_file.specs.declared.row.Row.{Row}
use Rattle.history_file.specs.Rows.{Numbered, IsNumbered, name_or_empty}
use Rattle.history_file.specs.Rows.{record_of}
use Rattle.history_index.specs.declared.numbers.Numbers.{Numbers}
use Rattle.history_index.specs.declared.pairs.Pairs.{Pairs}

-- ---- numbers of slices

-- The number of some bytes among these: how many stand before them.
abbrev pub number_in : List (List ℕ) → List ℕ → Option ℕ
number_in slices bytes = position_from (λ s. same s bytes) 0 slices

-- The number that is kept of some bytes.
abbrev pub number_at : Numbers → List ℕ → Option ℕ
number_at n q = tree.get_by (λ k. slice_cmp nat_cmp q k.now) n.numbers

-- Each of these is found by its number, and nothing else is found.
abbrev pub AreNumbersOf : List (List ℕ) → Numbers → Type 0
AreNumbersOf slices n = (q : List ℕ) → number_at n q ≡ number_in slices q

-- A number is kept, unless one was.
abbrev pub NotesNumber : List ℕ → ℕ → Numbers → Numbers → Type 0
NotesNumber bytes number old new =
    (q : List ℕ) →
    number_at new q ≡ option_or (number_at old q) (if same bytes q then Some number else None)

-- The number of a name among texts.
abbrev pub name_number : List (List ℕ) → Name → Option ℕ
name_number texts name = position_from (λ t. same (name_or_empty (units_of t)) name) 0 texts

-- ---- tests

-- A history, and the tests of its records, each once, as pairs of the numbers of their names.
pub record Indexed : Type 0 where
  pub history : Numbered
  pub tests : List (ℕ × ℕ)

-- The test of a record.
abbrev pub pair_of : Row → ℕ × ℕ
pair_of r = (r.test_class, r.test_method)

abbrev pub is_pair : ℕ × ℕ → ℕ × ℕ → Bool
is_pair p q = nat_eq p.0 q.0 && nat_eq p.1 q.1

-- The number of a test among these, by the numbers of its names.
abbrev pub pair_number : List (ℕ × ℕ) → ℕ × ℕ → Option ℕ
pair_number tests p = position_from (λ q. is_pair q p) 0 tests

-- A record's test has a number.
abbrev pub HasPair : List (ℕ × ℕ) → Row → Type 0
HasPair tests r = IsTrue (is_some (pair_number tests (pair_of r)))

abbrev pub pairs_in : Pairs → List (ℕ × ℕ)
pairs_in p = p.pairs.items

-- Each test is found by its number, and no other is found.
abbrev pub ArePairs : Pairs → Type 0
ArePairs p =
    (q : ℕ × ℕ) →
    tree.get (λ x y. ordering_then (nat_cmp x.0 y.0) (nat_cmp x.1 y.1)) p.numbers q
    ≡ pair_number (pairs_in p) q

-- A test more, behind those that were there.
pub record AddsPair (pair : ℕ × ℕ) (old new : Pairs) : Type 0 where
  pub known : ArePairs new
  pub there : IsTrue (is_some (pair_number (pairs_in new) pair))
  pub kept :
      (q : ℕ × ℕ) → IsTrue (is_some (pair_number (pairs_in old) q)) →
      IsTrue (is_some (pair_number (pairs_in new) q))
  pub few : length (pairs_in new) ≤ length (pairs_in old) + 1

-- The number of a test by the numbers of its names, where it has these.
abbrev pub test_of_class : List (ℕ × ℕ) → Option ℕ → ℕ → Option ℕ
test_of_class tests method class = option_and_then (λ m. pair_number tests (class, m)) method

abbrev pub test_by : List (ℕ × ℕ) → Option ℕ → Option ℕ → Option ℕ
test_by tests class method = option_and_then (test_of_class tests method) class

-- By its names.
abbrev pub test_number : Indexed → Name → Name → Option ℕ
test_number n class method =
    test_by n.tests (name_number n.history.texts class) (name_number n.history.texts method)

-- The record of a number.
abbrev pub record_at : Numbered → ℕ → Option RunRecord
record_at n k = option_map (record_of n.texts n.classes) (slice_get n.rows k)

-- Each record's test has a number.
pub record IsIndexed (n : Indexed) : Type 0 where
  pub history : IsNumbered n.history
  pub tests : All (HasPair n.tests) n.history.rows
