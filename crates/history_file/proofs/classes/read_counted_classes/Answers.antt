use Rattle.std.proofs.Common.{arith}
use Rattle.std.proofs.lemmas.Result.{err_from_is_err_and}
use Rattle.history_file.proofs.Counted.{slices_of, class_read, class_fails, classes_read}
use Rattle.history_file.proofs.classes.read_counted_classes.Goals as goal

pub returns-in_err-class-clause-read : goal.returns-in_err-class-clause-read
returns-in_err-class-clause-read c =
    let h = c.loop.invariant in
    let p = err_from_is_err_and c.from_residual.result c.from_residual.ensures.1 in
    rw (p.1, p.2) (class_fails c.args.count c.loop.counter c.args.cur.now c.loop.cur c.loop.seen c.loop.classes c.in_err-class.field-0.0 h c.loop-test.true (c.in_err-class.ensures.read (slices_of c.loop.classes) h.has))

pub loop-preserved : goal.loop-preserved
loop-preserved c =
    let h = c.loop.invariant in
    let told = c.in_ok-class.ensures.told (slices_of c.loop.classes) h.has in
    class_read c.args.count c.loop.counter c.args.cur.now c.loop.cur c.read_class.new.cur c.loop.seen c.read_class.new.seen c.loop.classes c.push.new.self c.in_ok-class.class h c.loop-test.true c.in_ok-push.ensures.ok (c.in_ok-class.ensures.read (slices_of c.loop.classes) h.has) told.0 told.1

pub returns-clause-read : goal.returns-clause-read
returns-clause-read c = (classes_read c.args.count c.loop.counter c.args.cur.now c.loop.cur c.loop.seen c.loop.classes c.loop.invariant c.loop-test.false (omega (arith, c.ranges.count))).0

pub returns-clause-told : goal.returns-clause-told
returns-clause-told c = (classes_read c.args.count c.loop.counter c.args.cur.now c.loop.cur c.loop.seen c.loop.classes c.loop.invariant c.loop-test.false (omega (arith, c.ranges.count))).1
