-- What is said of the report and of the summary, over their definitions alone.
use Rattle.std.specs.Prelude.{◌≡◌, ℕ, ◌+◌, ◌<◌, ◌==◌, true, false, not, List, [], ◌∷◌, ◌++◌, map, codes, length, option_and_then}
use Rattle.std.specs.Char.Utf16.{has_unpaired_surrogate}
use Rattle.std.specs.Cmp.Lexicographic.{slice_cmp}
use Rattle.std.specs.List.{AllByRecursion, filter, list_all, list_any, zip}
use Rattle.std.specs.List.Sorted.{IsStrictlySortedBy}
use Rattle.std.specs.Option.{option_map_or}
use Rattle.std.specs.Ordering.{nat_cmp}
use Rattle.std.specs.Str.{bytes_eq}
use Rattle.serde_json.specs.Data.{Data, Items, no_items, item, Members, no_members, member}
use Rattle.serde_json.specs.Find.{get, as_array, as_object}
use Rattle.mutator_ops.specs.declared.mutant.Verdict.{Verdict}
use Rattle.report_pieces.specs.Groups.{Key, groups_of}
use Rattle.class_table.specs.declared.scripted.Test.{Test}
use Rattle.report_schema.specs.Report.{text_or_empty, mutant_entry, test_entry, test_id}
use Rattle.report_pieces.specs.Report.{report}
use Rattle.report_schema.specs.Summary.{is_killed, is_survived, is_not_covered, is_timed_out, is_not_viable, is_error, counted}
use Rattle.report_pieces.specs.declared.input.ReportInput.{ReportInput}

-- ---- what a report lists

abbrev pub list_of : Items → List Data
list_of no_items = []
list_of (item data_in others) = data_in ∷ list_of others

-- the members of the object at a name, none where there is no object
abbrev pub object_at : List ℕ → Data → Members
object_at name json =
    option_map_or (λ members. members) (option_and_then as_object (get name json)) no_members

-- the items of the array at a name, none where there is no array
abbrev pub array_at : List ℕ → Data → List Data
array_at name json = option_map_or list_of (option_and_then as_array (get name json)) []

-- the keys of files
abbrev pub keys_in : Members → List Key
keys_in no_members = []
keys_in (member key file files) = key ∷ keys_in files

-- the items that files list at a name, each with the key of its file
abbrev pub listed_at : List ℕ → Members → List (Key × Data)
listed_at name no_members = []
listed_at name (member key file files) =
    map (λ one. (key, one)) (array_at name file) ++ listed_at name files

-- the items under a key, in their order
abbrev pub under : Key → List (Key × Data) → List Data
under key listed = map (λ l. l.1) (filter (λ l. bytes_eq key l.0) listed)

-- ---- each item once, under its key

-- Files list items at a name, each item exactly once and under its key: no key stands twice, there
-- are no others than those of items, and under each key stand the items that have it, in their
-- order.
pub record ListsOnce (name : List ℕ) (keys : List Key) (items : List Data) (files : Members) :
    Type 0 where
  pub ascending : IsStrictlySortedBy (slice_cmp nat_cmp) (keys_in files)
  pub same_keys :
      (key : Key) → list_any (bytes_eq key) (keys_in files) ≡ list_any (bytes_eq key) keys
  pub items_under : (key : Key) → under key (listed_at name files) ≡ under key (zip keys items)

-- bytes that are UTF-8
abbrev pub IsText : Key → Type 0
IsText key = text_or_empty key ≡ key

abbrev pub AreTexts : List Key → Type 0
AreTexts keys = AllByRecursion IsText keys

-- the mutants with what the tests say of them, as far as there are verdicts
abbrev pub mutant_entries : ReportInput → List Data
mutant_entries input =
    map (λ m. mutant_entry input.tests m.0 m.1) (zip input.mutants input.verdicts)

-- Of a report by keys, one for each mutant: its files list each mutant once, under its key.
abbrev pub MutantsStandOnce : Type 0
MutantsStandOnce =
    (input : ReportInput) (keys : List Key) → AreTexts keys → input.files ≡ groups_of keys →
    ListsOnce (codes "mutants") keys (mutant_entries input)
    (object_at (codes "files") (report input))

-- Of a report by keys, one for each test: its files of tests list each test once, under its key.
abbrev pub TestsStandOnce : Type 0
TestsStandOnce =
    (input : ReportInput) (keys : List Key) → AreTexts keys → input.test_files ≡ groups_of keys →
    ListsOnce (codes "tests") keys (map test_entry input.tests)
    (object_at (codes "testFiles") (report input))

-- ---- the identifiers of tests

-- The names of a test have UTF-8, and that of its method has no `.`, as a class file declares them.
pub record HasPlainNames (t : Test) : Type 0 where
  pub class_units : AllByRecursion (λ unit. unit < 65536) t.class
  pub class_paired : has_unpaired_surrogate t.class ≡ false
  pub method_units : AllByRecursion (λ unit. unit < 65536) t.method
  pub method_paired : has_unpaired_surrogate t.method ≡ false
  pub undotted : list_all (λ unit. not (unit == 46)) t.method ≡ true

-- Two tests of one identifier in the report are of one class and one method.
abbrev pub IdsDiffer : Type 0
IdsDiffer =
    (t u : Test) → HasPlainNames t → HasPlainNames u → test_id t ≡ test_id u →
    (t.class ≡ u.class) × (t.method ≡ u.method)

-- ---- a report of which all this is said

-- Three mutants in two files, and a test in a third, are so.
abbrev pub TwoFilesAreMet : Type 0
TwoFilesAreMet =
    (input : ReportInput) × (keys : List Key) × (test_keys : List Key)
    × AreTexts keys × AreTexts test_keys
    × (input.files ≡ groups_of keys) × (input.test_files ≡ groups_of test_keys)
    × (length input.files ≡ 2) × (length (mutant_entries input) ≡ 3) × (length input.tests ≡ 1)
    × AllByRecursion HasPlainNames input.tests

-- ---- the summary

-- Each mutant is counted under exactly one word.
abbrev pub StatesAddUp : Type 0
StatesAddUp =
    (verdicts : List Verdict) →
    counted is_killed verdicts + counted is_survived verdicts + counted is_not_covered verdicts
    + counted is_timed_out verdicts + counted is_not_viable verdicts + counted is_error verdicts
    ≡ length verdicts
