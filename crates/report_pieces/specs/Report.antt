-- The report of a run, by the files in which its mutants and its tests stand: a JSON text in the
-- mutation testing report schema, version 1 (stryker-mutator/mutation-testing-elements). What
-- stands of a mutant and of a test is `report_schema`'s.
use Rattle.std.specs.Prelude.{ℕ, ◌+◌, List, [], ◌∷◌, codes, Option, option_map, option_and_then, slice_get}
use Rattle.std.specs.List.{flat_map}
use Rattle.std.specs.Option.{option_to_list}
use Rattle.serde_json.specs.Data.{Data, string, array, object, Members, no_members, member}
use Rattle.serde_json.specs.View.{items_of}
use Rattle.serde_json.specs.Written.{compact_text}
use Rattle.class_table.specs.declared.scripted.Test.{Test}
use Rattle.mutator_ops.specs.declared.mutant.Mutant.{Mutant}
use Rattle.mutator_ops.specs.declared.mutant.Verdict.{Verdict}
use Rattle.report_schema.specs.Report.{mutant_entry, test_entry, text_or_empty, source_of, tree}
use Rattle.report_pieces.specs.declared.input.Group.{Group}
use Rattle.report_pieces.specs.declared.input.ReportInput.{ReportInput}

-- ---- mutants

-- the mutant of a number, if there is one with a verdict
abbrev pub mutant_of : List Test → List Mutant → List Verdict → ℕ → Option Data
mutant_of tests mutants verdicts index =
    option_and_then
    (λ mutant. option_map (mutant_entry tests mutant) (slice_get verdicts index))
    (slice_get mutants index)

-- the mutants of some numbers
abbrev pub mutants_of : List Test → List Mutant → List Verdict → List ℕ → List Data
mutants_of tests mutants verdicts numbers =
    flat_map (λ index. option_to_list (mutant_of tests mutants verdicts index)) numbers

-- ---- files

-- a file of mutants, by its number
abbrev pub file : ReportInput → ℕ → List ℕ → Data
file input index numbers = object (
    member (codes "language") (string (codes "java"))
    (member (codes "mutants")
    (array (items_of (mutants_of input.tests input.mutants input.verdicts numbers)))
    (member (codes "source") (string (source_of input.sources index)) no_members)))

-- the files of mutants from a number on, each under its key
abbrev pub files_from : ReportInput → ℕ → List Group → Members
files_from input index [] = no_members
files_from input index (group ∷ groups) =
    member (text_or_empty group.key) (file input index group.numbers)
    (files_from input (index + 1) groups)

-- the tests of some numbers
abbrev pub tests_of : List Test → List ℕ → List Data
tests_of tests numbers =
    flat_map (λ index. option_to_list (option_map test_entry (slice_get tests index))) numbers

abbrev pub test_file : List Test → List ℕ → Data
test_file tests numbers =
    object (member (codes "tests") (array (items_of (tests_of tests numbers))) no_members)

-- the files of tests, each under its key
abbrev pub test_files_of : List Test → List Group → Members
test_files_of tests [] = no_members
test_files_of tests (group ∷ groups) =
    member (text_or_empty group.key) (test_file tests group.numbers) (test_files_of tests groups)

-- ---- the report

-- A file of mutants for each group of mutants, and a file of tests for each group of tests.
abbrev pub report : ReportInput → Data
report input = tree
    (object (files_from input 0 input.files))
    (object (test_files_of input.tests input.test_files))

-- The text of the report, with no space in it.
abbrev pub ReportText : ReportInput → List ℕ
ReportText input = compact_text (report input)
