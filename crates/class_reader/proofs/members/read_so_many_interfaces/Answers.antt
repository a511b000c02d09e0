use Rattle.std.proofs.lemmas.Result.{err_from_is_err_and}
use Rattle.codec_rules.specs.Reading.{many_at}
use Rattle.codec_rules.proofs.Loops.{goes_on, ends, is_done}
use Rattle.class_model.specs.declared.fault.ClassFault.TheVariants as fault
use Rattle.class_reader.specs.Indices.{index_at, names_class, no_class}
use Rattle.class_reader.proofs.members.read_so_many_interfaces.Goals as goal

pub returns-in_err-interface : goal.returns-in_err-interface
returns-in_err-interface c =
    let p = err_from_is_err_and c.from_residual.result c.from_residual.ensures.1 in
    rw (p.1, p.2) (ends fault.Memory c.in_err-interface.field-0.0 (index_at (names_class c.args.pool.now) no_class) c.loop.interfaces c.args.count c.loop.counter c.loop.cur (many_at (index_at (names_class c.args.pool.now) no_class) c.args.count c.args.cur.now) c.loop-test.true c.in_err-interface.ensures c.loop.invariant)

pub loop-preserved : goal.loop-preserved
loop-preserved c =
    rw c.in_ok-push.ensures.ok (goes_on (index_at (names_class c.args.pool.now) no_class) c.loop.interfaces c.args.count c.loop.counter c.loop.cur c.in_ok-interface.interface c.class_index.new.cur (many_at (index_at (names_class c.args.pool.now) no_class) c.args.count c.args.cur.now) c.loop-test.true c.in_ok-interface.ensures c.loop.invariant)

pub returns : goal.returns
returns c = is_done (index_at (names_class c.args.pool.now) no_class) c.loop.interfaces c.args.count c.loop.counter c.loop.cur (many_at (index_at (names_class c.args.pool.now) no_class) c.args.count c.args.cur.now) c.loop-test.false c.loop.invariant
