use Rattle.std.proofs.Common.{◌≡◌, map, take}
use Rattle.report_pieces.specs.Pieces.{quoted_id}
use Rattle.report_pieces.proofs.identifiers.quoted_ids.Given as goal

abbrev pub invariant-loop-test : goal.invariant-loop-test
invariant-loop-test l = l.ids ≡ map quoted_id (take l.test-index l.tests)
