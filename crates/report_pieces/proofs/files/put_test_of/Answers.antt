use Rattle.std.proofs.Common.{◌≡◌, Some, option_map, ap, refl, length}
use Rattle.std.specs.List.{slice_get}
use Rattle.std.proofs.lemmas.Option.{slice_get_read}
use Rattle.report_pieces.specs.Pieces.{test_text}
use Rattle.report_pieces.proofs.Growing.{adds_some}
use Rattle.report_pieces.proofs.files.put_test_of.Goals as goal

pub returns : goal.returns
returns c =
    let is : slice_get c.args.tests.now c.args.number ≡ Some c.in-Some.test.now = slice_get_read c.args.tests.now (length c.args.tests.now) c.args.number c.in-Some.test.now refl c.in-Some.ensures.lookup.3.0 c.in-Some.ensures.lookup.1 in
    adds_some (option_map test_text (slice_get c.args.tests.now c.args.number)) (test_text c.in-Some.test.now) c.args.text.now c.put_comma.new.text c.put_test.new.text c.args.later.now c.put_comma.new.later (ap (option_map test_text) is) c.in_ok-put_comma.ensures.text c.in_ok-put_test.ensures c.in_ok-put_comma.ensures.later
