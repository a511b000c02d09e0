use Rattle.std.proofs.Common.{◌≡◌, ◌++◌, drop}
use Rattle.report_pieces.specs.Pieces.{pieces_text, test_file_pieces, test_files_text}
use Rattle.report_pieces.proofs.files.put_test_files.Given as goal

abbrev pub invariant-loop-group : goal.invariant-loop-group
invariant-loop-group l = l.text ++ pieces_text 125 l.later (test_file_pieces l.tests (drop l.group-index l.groups)) ≡ l.fn.text ++ test_files_text l.tests l.groups
