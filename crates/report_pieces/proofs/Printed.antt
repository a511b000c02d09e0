-- The pieces of a report together are its text.
use Rattle.std.proofs.Common.{◌≡◌, ℕ, ◌+◌, Bool, true, false, List, [], ◌∷◌, ◌++◌, map, codes, Option, Some, None, option_map, refl, sym, ap, ◌∙◌, append_assoc}
use Rattle.std.specs.Fmt.{digits}
use Rattle.std.specs.List.{flat_map, slice_get}
use Rattle.std.specs.Prelude.{decimal, option_and_then}
use Rattle.std.specs.Option.{option_to_list}
use Rattle.std.proofs.lemmas.Option.{slice_get-map}
use Rattle.serde_json.proofs.OnLiterals.{serde_json_on_literals}
use Rattle.serde_json.specs.Data.{Data, Members, no_members, member, string, array, object}
use Rattle.serde_json.specs.View.{items_of}
use Rattle.serde_json.specs.Written.{comma_if, compact_text, items_text, members_text}
use Rattle.class_model.specs.MutatorName.{mutator_name}
use Rattle.class_table.specs.declared.scripted.Test.{Test}
use Rattle.mutator_ops.specs.Printing.{printed, id_text}
use Rattle.mutator_ops.specs.declared.mutant.Mutant.{Mutant}
use Rattle.mutator_ops.specs.declared.mutant.Verdict.{Verdict}
use Rattle.mutator_ops.specs.declared.mutant.State.{State}
use Rattle.report_schema.specs.Report.{test_id, id_of, ids_of, array_if, killed_by, status, status_reason, line_from_1, place, location, member_if, mutant_entry, text_or_empty, source_of, test_entry, thresholds, tree}
use Rattle.report_pieces.specs.Report.{mutant_of, mutants_of, file, files_from, tests_of, test_file, test_files_of, report, ReportText}
use Rattle.report_pieces.specs.Pieces.{quoted, pieces_text, quoted_id, id_pieces, ids_text, killers_text, location_text, reason_text, covered_text, state_text, mutant_text, mutant_piece, mutant_pieces, mutants_text, file_text, file_pieces, files_text, test_text, test_pieces, tests_text, test_file_text, test_file_pieces, test_files_text, report_text}
use Rattle.report_pieces.specs.declared.input.Group.{Group}
use Rattle.report_pieces.specs.declared.input.ReportInput.{ReportInput}

-- ---- lists

-- items are written as pieces are
items_are : (later : Bool) (ds : List Data) → items_text later (items_of ds) ≡ pieces_text 93 later (map compact_text ds)
items_are later [] = refl
items_are later (d ∷ ds) = ap (λ t. comma_if later ++ (compact_text d ++ t)) (items_are true ds)

map_listed : (o : Option Data) (ds : List Data) → map compact_text (option_to_list o ++ ds) ≡ option_to_list (option_map compact_text o) ++ map compact_text ds
map_listed None ds = refl
map_listed (Some d) ds = refl

-- ---- tests

id_is : (o : Option Test) → option_map quoted_id o ≡ option_map compact_text (option_map (λ test. string (test_id test)) o)
id_is None = refl
id_is (Some test) = refl

ids_are : (tests : List Test) (numbers : List ℕ) → id_pieces (map quoted_id tests) numbers ≡ map compact_text (ids_of tests numbers)
ids_are tests [] = refl
ids_are tests (n ∷ ns) =
    (λ i. option_to_list ((slice_get-map quoted_id tests n ∙ id_is (slice_get tests n)) i) ++ ids_are tests ns i)
    ∙ sym (map_listed (id_of tests n) (ids_of tests ns))

covering_are : (tests : List Test) (numbers : List ℕ) → ids_text (map quoted_id tests) numbers ≡ compact_text (array (items_of (ids_of tests numbers)))
covering_are tests numbers = ap (λ ps. 91 ∷ pieces_text 93 false ps) (ids_are tests numbers) ∙ ap (λ t. 91 ∷ t) (sym (items_are false (ids_of tests numbers)))

-- ---- mutants

-- the member of the tests that kill, and what stands behind it
killers_are : (ds : List Data) (others : Members) → members_text true (member_if (codes "killedBy") (array_if ds) others) ≡ killers_text (map compact_text ds) ++ members_text true others
unfolding serde_json_on_literals
killers_are [] others = refl
killers_are (d ∷ ds) others = ap (λ t. codes ",\"killedBy\":" ++ (91 ∷ ((compact_text d ++ t) ++ members_text true others))) (items_are true ds)

two_places : (digits : List ℕ) → (digits ++ codes "}") ++ (codes ",\"start\":{\"column\":1,\"line\":" ++ ((digits ++ codes "}") ++ codes "}")) ≡ digits ++ (codes "},\"start\":{\"column\":1,\"line\":" ++ (digits ++ codes "}}"))
two_places digits =
    append_assoc digits (codes "}") (codes ",\"start\":{\"column\":1,\"line\":" ++ ((digits ++ codes "}") ++ codes "}"))
    ∙ ap (λ t. digits ++ (codes "},\"start\":{\"column\":1,\"line\":" ++ t)) (append_assoc digits (codes "}") (codes "}"))

location_is : (line : ℕ) (others : Members) → members_text true (member (codes "location") (location line) others) ≡ location_text line ++ members_text true others
unfolding serde_json_on_literals digits
location_is line others = ap (λ t. codes ",\"location\":{\"end\":{\"column\":2,\"line\":" ++ (t ++ members_text true others)) (two_places (decimal line))

reason_is : (reason : Option (List ℕ)) → members_text true (member_if (codes "statusReason") (option_map string reason) no_members) ≡ reason_text reason ++ codes "}"
unfolding serde_json_on_literals
reason_is None = refl
reason_is (Some reason) = refl

state_is : (mutant : Mutant) (state : State) → members_text true (member (codes "mutatorName") (string (mutator_name mutant.mutator)) (member (codes "status") (string (status state)) (member_if (codes "statusReason") (option_map string (status_reason state)) no_members))) ≡ state_text mutant state
unfolding serde_json_on_literals
state_is mutant state = ap (λ t. codes ",\"mutatorName\":" ++ (quoted (mutator_name mutant.mutator) ++ (codes ",\"status\":" ++ (quoted (status state) ++ t)))) (reason_is (status_reason state))

-- the front of a mutant, and what stands behind it
covered_is : (ids : List ℕ) (id text : List ℕ) → (codes "{\"coveredBy\":" ++ (ids ++ (codes ",\"id\":" ++ id))) ++ text ≡ codes "{\"coveredBy\":" ++ (ids ++ (codes ",\"id\":" ++ (id ++ text)))
covered_is ids id text = ap (λ t. codes "{\"coveredBy\":" ++ t) (append_assoc ids (codes ",\"id\":" ++ id) text)

entry_is : (tests : List Test) (mutant : Mutant) (verdict : Verdict) (others : Members)
    → compact_text (object (member (codes "coveredBy") (array (items_of (ids_of tests verdict.covering))) (member (codes "id") (string (id_text mutant)) others)))
    ≡ codes "{\"coveredBy\":" ++ (compact_text (array (items_of (ids_of tests verdict.covering))) ++ (codes ",\"id\":" ++ (quoted (id_text mutant) ++ members_text true others)))
unfolding serde_json_on_literals
entry_is tests mutant verdict others = refl

mutant_is : (tests : List Test) (mutant : Mutant) (verdict : Verdict) → mutant_text (map quoted_id tests) mutant verdict ≡ compact_text (mutant_entry tests mutant verdict)
mutant_is tests mutant verdict =
    let line = line_from_1 mutant.line in
    let last = member (codes "mutatorName") (string (mutator_name mutant.mutator)) (member (codes "status") (string (status verdict.state)) (member_if (codes "statusReason") (option_map string (status_reason verdict.state)) no_members)) in
    let behind = member (codes "location") (location line) last in
    covered_is (ids_text (map quoted_id tests) verdict.covering) (quoted (id_text mutant)) (killers_text (id_pieces (map quoted_id tests) verdict.killers) ++ (location_text line ++ state_text mutant verdict.state))
    ∙ (λ i. codes "{\"coveredBy\":" ++ (covering_are tests verdict.covering i ++ (codes ",\"id\":" ++ (quoted (id_text mutant) ++ (killers_text (ids_are tests verdict.killers i) ++ (location_text line ++ sym (state_is mutant verdict.state) i))))))
    ∙ ap (λ t. codes "{\"coveredBy\":" ++ (compact_text (array (items_of (ids_of tests verdict.covering))) ++ (codes ",\"id\":" ++ (quoted (id_text mutant) ++ (killers_text (map compact_text (ids_of tests verdict.killers)) ++ t))))) (sym (location_is line last))
    ∙ ap (λ t. codes "{\"coveredBy\":" ++ (compact_text (array (items_of (ids_of tests verdict.covering))) ++ (codes ",\"id\":" ++ (quoted (id_text mutant) ++ t)))) (sym (killers_are (ids_of tests verdict.killers) behind))
    ∙ sym (entry_is tests mutant verdict (member_if (codes "killedBy") (killed_by tests verdict.killers) behind))

piece_is : (tests : List Test) (mutants : List Mutant) (verdicts : List Verdict) (n : ℕ) → mutant_piece (map quoted_id tests) mutants verdicts n ≡ option_map compact_text (mutant_of tests mutants verdicts n)
piece_is tests mutants verdicts n = by (slice_get mutants n) (slice_get verdicts n)
  where
    by : (m : Option Mutant) (v : Option Verdict) → option_and_then (λ (mutant : Mutant). option_map (mutant_text (map quoted_id tests) mutant) v) m ≡ option_map compact_text (option_and_then (λ (mutant : Mutant). option_map (mutant_entry tests mutant) v) m)
    by None v = refl
    by (Some m) None = refl
    by (Some m) (Some v) = ap Some (mutant_is tests m v)

mutants_are : (tests : List Test) (mutants : List Mutant) (verdicts : List Verdict) (numbers : List ℕ) → mutant_pieces (map quoted_id tests) mutants verdicts numbers ≡ map compact_text (mutants_of tests mutants verdicts numbers)
mutants_are tests mutants verdicts [] = refl
mutants_are tests mutants verdicts (n ∷ ns) =
    (λ i. option_to_list (piece_is tests mutants verdicts n i) ++ mutants_are tests mutants verdicts ns i)
    ∙ sym (map_listed (mutant_of tests mutants verdicts n) (mutants_of tests mutants verdicts ns))

-- ---- files of mutants

file_entry : (key source : List ℕ) (ds : List Data)
    → quoted key ++ (58 ∷ compact_text (object (member (codes "language") (string (codes "java")) (member (codes "mutants") (array (items_of ds)) (member (codes "source") (string source) no_members)))))
    ≡ quoted key ++ (codes ":{\"language\":\"java\",\"mutants\":[" ++ (items_text false (items_of ds) ++ (codes ",\"source\":" ++ (quoted source ++ codes "}"))))
unfolding serde_json_on_literals
file_entry key source ds = refl

file_is : (input : ReportInput) (index : ℕ) (group : Group) → file_text (map quoted_id input.tests) input index group ≡ quoted (text_or_empty group.key) ++ (58 ∷ compact_text (file input index group.numbers))
file_is input index group =
    let ds = mutants_of input.tests input.mutants input.verdicts group.numbers in
    ap (λ t. quoted (text_or_empty group.key) ++ (codes ":{\"language\":\"java\",\"mutants\":[" ++ (t ++ (codes ",\"source\":" ++ (quoted (source_of input.sources index) ++ codes "}")))))
    (ap (pieces_text 93 false) (mutants_are input.tests input.mutants input.verdicts group.numbers) ∙ sym (items_are false ds))
    ∙ sym (file_entry (text_or_empty group.key) (source_of input.sources index) ds)

files_are : (input : ReportInput) (later : Bool) (index : ℕ) (groups : List Group) → pieces_text 125 later (file_pieces (map quoted_id input.tests) input index groups) ≡ members_text later (files_from input index groups)
files_are input later index [] = refl
files_are input later index (group ∷ groups) =
    (λ i. comma_if later ++ (file_is input index group i ++ files_are input true (index + 1) groups i))
    ∙ ap (λ t. comma_if later ++ t) (append_assoc (quoted (text_or_empty group.key)) (58 ∷ compact_text (file input index group.numbers)) (members_text true (files_from input (index + 1) groups)))

-- ---- files of tests

test_is : (test : Test) → test_text test ≡ compact_text (test_entry test)
unfolding serde_json_on_literals
test_is test = refl

test_piece_is : (o : Option Test) → option_map test_text o ≡ option_map compact_text (option_map test_entry o)
test_piece_is None = refl
test_piece_is (Some test) = ap Some (test_is test)

tests_are : (tests : List Test) (numbers : List ℕ) → test_pieces tests numbers ≡ map compact_text (tests_of tests numbers)
tests_are tests [] = refl
tests_are tests (n ∷ ns) =
    (λ i. option_to_list (test_piece_is (slice_get tests n) i) ++ tests_are tests ns i)
    ∙ sym (map_listed (option_map test_entry (slice_get tests n)) (tests_of tests ns))

test_file_entry : (key : List ℕ) (ds : List Data)
    → quoted key ++ (58 ∷ compact_text (object (member (codes "tests") (array (items_of ds)) no_members)))
    ≡ quoted key ++ (codes ":{\"tests\":[" ++ (items_text false (items_of ds) ++ codes "}"))
unfolding serde_json_on_literals
test_file_entry key ds = refl

test_file_is : (tests : List Test) (group : Group) → test_file_text tests group ≡ quoted (text_or_empty group.key) ++ (58 ∷ compact_text (test_file tests group.numbers))
test_file_is tests group =
    let ds = tests_of tests group.numbers in
    ap (λ t. quoted (text_or_empty group.key) ++ (codes ":{\"tests\":[" ++ (t ++ codes "}"))) (ap (pieces_text 93 false) (tests_are tests group.numbers) ∙ sym (items_are false ds))
    ∙ sym (test_file_entry (text_or_empty group.key) ds)

test_files_are : (tests : List Test) (later : Bool) (groups : List Group) → pieces_text 125 later (test_file_pieces tests groups) ≡ members_text later (test_files_of tests groups)
test_files_are tests later [] = refl
test_files_are tests later (group ∷ groups) =
    (λ i. comma_if later ++ (test_file_is tests group i ++ test_files_are tests true groups i))
    ∙ ap (λ t. comma_if later ++ t) (append_assoc (quoted (text_or_empty group.key)) (58 ∷ compact_text (test_file tests group.numbers)) (members_text true (test_files_of tests groups)))

-- ---- the report

tree_is : (files tests : Members) → compact_text (tree (object files) (object tests))
    ≡ codes "{\"files\":{" ++ (members_text false files ++ (codes ",\"schemaVersion\":\"1\",\"testFiles\":{" ++ (members_text false tests ++ codes ",\"thresholds\":{\"high\":80,\"low\":60}}")))
unfolding serde_json_on_literals digits
tree_is files tests = refl

pub report_is : (input : ReportInput) → report_text (map quoted_id input.tests) input ≡ ReportText input
report_is input =
    (λ i. codes "{\"files\":{" ++ (files_are input false 0 input.files i ++ (codes ",\"schemaVersion\":\"1\",\"testFiles\":{" ++ (test_files_are input.tests false input.test_files i ++ codes ",\"thresholds\":{\"high\":80,\"low\":60}}"))))
    ∙ sym (tree_is (files_from input 0 input.files) (test_files_of input.tests input.test_files))

-- the report by the identifiers that were made for it
pub printed_is : (ids : List (List ℕ)) (input : ReportInput) → ids ≡ map quoted_id input.tests → report_text ids input ≡ ReportText input
printed_is ids input made = ap (λ is. report_text is input) made ∙ report_is input
