use Rattle.std.proofs.Common.{◌+◌, ◌++◌, ◌∙◌, drop, ap}
use Rattle.class_table.specs.declared.scripted.Test.{Test}
use Rattle.report_pieces.specs.FileKey.{key_of, keys_in, files_in, test_keys}
use Rattle.report_pieces.specs.Groups.{key_at, keys_at}
use Rattle.report_pieces.proofs.ClassKeys.{one_more, none_left}
use Rattle.report_pieces.proofs.keys.test_numbers.Goals as goal

pub loop-test-preserved : goal.loop-test-preserved
loop-test-preserved c =
    let p = c.args.program.now in
    ap (λ ns. keys_at (keys_in p) ns ++ test_keys (files_in p) (drop (c.loop-test.test-index + 1) c.args.tests.now)) c.in_ok-push.ensures.items
    ∙ one_more (λ (x : Test). key_of (files_in p) x.class) (key_at (keys_in p)) c.args.tests.now c.loop-test.test-index c.test-item.result c.loop-test.numbers.items c.class_number.result c.loop-test-test.true c.test-item.is c.class_number.ensures c.loop-test.invariant

pub returns : goal.returns
returns c =
    let p = c.args.program.now in
    none_left (λ (x : Test). key_of (files_in p) x.class) (key_at (keys_in p)) c.args.tests.now c.loop-test.test-index c.loop-test.numbers.items c.loop-test-test.false c.loop-test.invariant
