use Rattle.std.proofs.Common.{◌≡◌, ◌++◌, drop}
use Rattle.report_pieces.specs.Pieces.{pieces_text, test_pieces, tests_text}
use Rattle.report_pieces.proofs.files.put_tests.Given as goal

abbrev pub invariant-loop-number : goal.invariant-loop-number
invariant-loop-number l = l.text ++ pieces_text 93 l.later (test_pieces l.tests (drop l.number-index l.numbers)) ≡ l.fn.text ++ tests_text l.tests l.numbers
