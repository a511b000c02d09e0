use Rattle.std.proofs.Common.{◌≡◌, ◌++◌, drop}
use Rattle.report_pieces.specs.FileKey.{keys_in, files_in, test_keys}
use Rattle.report_pieces.specs.Groups.{keys_at}
use Rattle.report_pieces.proofs.keys.test_numbers.Given as goal

abbrev pub invariant-loop-test : goal.invariant-loop-test
invariant-loop-test l = keys_at (keys_in l.program) l.numbers.items ++ test_keys (files_in l.program) (drop l.test-index l.tests) ≡ test_keys (files_in l.program) l.tests
