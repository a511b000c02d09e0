use Rattle.std.proofs.Common.{◌++◌, ◌∙◌, option_map}
use Rattle.std.specs.List.{slice_get}
use Rattle.report_pieces.specs.Pieces.{test_text, tests_text}
use Rattle.report_pieces.proofs.Growing.{number_more, numbers_done}
use Rattle.report_pieces.proofs.files.put_tests.Goals as goal

pub loop-number-preserved : goal.loop-number-preserved
loop-number-preserved c = number_more 93 (λ n. option_map test_text (slice_get c.args.tests.now n)) c.args.numbers.now c.loop-number.number-index (c.args.text.now ++ tests_text c.args.tests.now c.args.numbers.now) c.loop-number.text c.put_test_of.new.text c.loop-number.later c.put_test_of.new.later c.loop-number-test.true c.in_ok-put_test_of.ensures c.loop-number.invariant

pub returns : goal.returns
returns c = c.in_ok-put.ensures ∙ numbers_done 93 (λ n. option_map test_text (slice_get c.args.tests.now n)) c.args.numbers.now c.loop-number.number-index (c.args.text.now ++ tests_text c.args.tests.now c.args.numbers.now) c.loop-number.text c.loop-number.later c.loop-number-test.false c.loop-number.invariant
