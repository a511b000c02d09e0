-- For private clauses: the pieces in which the text of a report is written. Each list of JSON is
-- written piece by piece, where each piece is the text of an item or of a member.
use Rattle.std.specs.Prelude.{◌≡◌, ℕ, ◌+◌, List, [], ◌∷◌, ◌++◌, codes, decimal, Option, None, Some, option_map, option_and_then, is_some, slice_get, Bool, true, false, ◌||◌, map}
use Rattle.std.specs.List.{flat_map}
use Rattle.std.specs.Option.{option_to_list}
use Rattle.serde_json.specs.Data.{string}
use Rattle.serde_json.specs.Written.{comma_if, compact_text}
use Rattle.class_model.specs.MutatorName.{mutator_name}
use Rattle.class_table.specs.declared.scripted.Test.{Test}
use Rattle.mutator_ops.specs.Printing.{printed, id_text}
use Rattle.mutator_ops.specs.declared.mutant.Mutant.{Mutant}
use Rattle.mutator_ops.specs.declared.mutant.Verdict.{Verdict}
use Rattle.mutator_ops.specs.declared.mutant.State.{State}
use Rattle.report_schema.specs.Report.{test_id, status, status_reason, line_from_1, text_or_empty, source_of}
use Rattle.report_pieces.specs.declared.input.Group.{Group}
use Rattle.report_pieces.specs.declared.input.ReportInput.{ReportInput}

-- a text as a string of JSON
abbrev pub quoted : List ℕ → List ℕ
quoted text = compact_text (string text)

-- ---- lists

-- pieces with commas between, and before the first where something stands before; with the closing
-- bracket
abbrev pub pieces_text : ℕ → Bool → List (List ℕ) → List ℕ
pieces_text close later [] = close ∷ []
pieces_text close later (piece ∷ pieces) =
    comma_if later ++ (piece ++ pieces_text close true pieces)

-- one piece, if there is one
abbrev pub piece_if : Bool → Option (List ℕ) → List ℕ
piece_if later None = []
piece_if later (Some piece) = comma_if later ++ piece

-- A text grew by a piece, if there is one, and it is known whether something stands there now.
abbrev pub AddsIf : Option (List ℕ) → List ℕ → List ℕ → Bool → Bool → Type 0
AddsIf piece old new before after =
    (new ≡ old ++ piece_if before piece) × (after ≡ (before || is_some piece))

-- ---- tests

-- the identifier of a test, as it stands in the report
abbrev pub quoted_id : Test → List ℕ
quoted_id test = quoted (test_id test)

-- those of some numbers, among all identifiers
abbrev pub id_pieces : List (List ℕ) → List ℕ → List (List ℕ)
id_pieces ids numbers = flat_map (λ index. option_to_list (slice_get ids index)) numbers

abbrev pub ids_text : List (List ℕ) → List ℕ → List ℕ
ids_text ids numbers = 91 ∷ pieces_text 93 false (id_pieces ids numbers)

-- ---- mutants

abbrev pub killers_text : List (List ℕ) → List ℕ
killers_text [] = []
killers_text (piece ∷ pieces) =
    codes ",\"killedBy\":" ++ (91 ∷ pieces_text 93 false (piece ∷ pieces))

abbrev pub location_text : ℕ → List ℕ
location_text line =
    codes ",\"location\":{\"end\":{\"column\":2,\"line\":" ++ (decimal line
    ++ (codes "},\"start\":{\"column\":1,\"line\":" ++ (decimal line ++ codes "}}")))

abbrev pub reason_text : Option (List ℕ) → List ℕ
reason_text None = []
reason_text (Some reason) = codes ",\"statusReason\":" ++ quoted reason

-- the tests that cover a mutant, and its identifier
abbrev pub covered_text : List (List ℕ) → Mutant → Verdict → List ℕ
covered_text ids mutant verdict =
    codes "{\"coveredBy\":" ++ (ids_text ids verdict.covering
    ++ (codes ",\"id\":" ++ quoted (id_text mutant)))

-- its mutator and its state
abbrev pub state_text : Mutant → State → List ℕ
state_text mutant state =
    codes ",\"mutatorName\":" ++ (quoted (mutator_name mutant.mutator)
    ++ (codes ",\"status\":" ++ (quoted (status state)
    ++ (reason_text (status_reason state) ++ codes "}"))))

abbrev pub mutant_text : List (List ℕ) → Mutant → Verdict → List ℕ
mutant_text ids mutant verdict =
    covered_text ids mutant verdict
    ++ (killers_text (id_pieces ids verdict.killers)
    ++ (location_text (line_from_1 mutant.line) ++ state_text mutant verdict.state))

abbrev pub mutant_piece : List (List ℕ) → List Mutant → List Verdict → ℕ → Option (List ℕ)
mutant_piece ids mutants verdicts index =
    option_and_then
    (λ mutant. option_map (mutant_text ids mutant) (slice_get verdicts index))
    (slice_get mutants index)

abbrev pub mutant_pieces :
    List (List ℕ) → List Mutant → List Verdict → List ℕ → List (List ℕ)
mutant_pieces ids mutants verdicts numbers =
    flat_map (λ index. option_to_list (mutant_piece ids mutants verdicts index)) numbers

abbrev pub mutants_text : List (List ℕ) → List Mutant → List Verdict → List ℕ → List ℕ
mutants_text ids mutants verdicts numbers =
    pieces_text 93 false (mutant_pieces ids mutants verdicts numbers)

-- ---- files

abbrev pub file_text : List (List ℕ) → ReportInput → ℕ → Group → List ℕ
file_text ids input index group =
    quoted (text_or_empty group.key) ++ (codes ":{\"language\":\"java\",\"mutants\":["
    ++ (mutants_text ids input.mutants input.verdicts group.numbers
    ++ (codes ",\"source\":" ++ (quoted (source_of input.sources index) ++ codes "}"))))

abbrev pub file_pieces : List (List ℕ) → ReportInput → ℕ → List Group → List (List ℕ)
file_pieces ids input index [] = []
file_pieces ids input index (group ∷ groups) =
    file_text ids input index group ∷ file_pieces ids input (index + 1) groups

abbrev pub files_text : List (List ℕ) → ReportInput → List Group → List ℕ
files_text ids input groups = pieces_text 125 false (file_pieces ids input 0 groups)

abbrev pub test_text : Test → List ℕ
test_text test =
    codes "{\"id\":" ++ (quoted_id test
    ++ (codes ",\"name\":" ++ (quoted (printed test.method) ++ codes "}")))

abbrev pub test_pieces : List Test → List ℕ → List (List ℕ)
test_pieces tests numbers =
    flat_map (λ index. option_to_list (option_map test_text (slice_get tests index))) numbers

abbrev pub tests_text : List Test → List ℕ → List ℕ
tests_text tests numbers = pieces_text 93 false (test_pieces tests numbers)

abbrev pub test_file_text : List Test → Group → List ℕ
test_file_text tests group =
    quoted (text_or_empty group.key) ++ (codes ":{\"tests\":["
    ++ (tests_text tests group.numbers ++ codes "}"))

abbrev pub test_file_pieces : List Test → List Group → List (List ℕ)
test_file_pieces tests groups = map (test_file_text tests) groups

abbrev pub test_files_text : List Test → List Group → List ℕ
test_files_text tests groups = pieces_text 125 false (test_file_pieces tests groups)

-- ---- the report

abbrev pub report_text : List (List ℕ) → ReportInput → List ℕ
report_text ids input =
    codes "{\"files\":{" ++ (files_text ids input input.files
    ++ (codes ",\"schemaVersion\":\"1\",\"testFiles\":{"
    ++ (test_files_text input.tests input.test_files
    ++ codes ",\"thresholds\":{\"high\":80,\"low\":60}}")))
