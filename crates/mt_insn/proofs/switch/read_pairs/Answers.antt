use Rattle.std.proofs.lemmas.Result.{err_from_is_err_and}
use Rattle.class_model.specs.declared.fault.ClassFault.TheVariants as fault
use Rattle.codec_rules.specs.Reading.{many_at}
use Rattle.codec_rules.proofs.Loops.{goes_on, ends, is_done}
use Rattle.mt_insn.specs.Operands.{pair_at}
use Rattle.mt_insn.proofs.switch.read_pairs.Goals as goal

pub returns-in_err-pair : goal.returns-in_err-pair
returns-in_err-pair c =
    let p = err_from_is_err_and c.from_residual.result c.from_residual.ensures.1 in
    rw (p.1, p.2) (ends fault.Memory c.in_err-pair.field-0.0 (pair_at c.args.at) c.loop.pairs c.args.count c.loop.counter c.loop.code (many_at (pair_at c.args.at) c.args.count c.args.code.now) c.loop-test.true c.in_err-pair.ensures c.loop.invariant)

pub loop-preserved : goal.loop-preserved
loop-preserved c =
    rw c.in_ok-push.ensures.ok (goes_on (pair_at c.args.at) c.loop.pairs c.args.count c.loop.counter c.loop.code c.in_ok-pair.pair c.read_pair.new.code (many_at (pair_at c.args.at) c.args.count c.args.code.now) c.loop-test.true c.in_ok-pair.ensures c.loop.invariant)

pub returns : goal.returns
returns c = is_done (pair_at c.args.at) c.loop.pairs c.args.count c.loop.counter c.loop.code (many_at (pair_at c.args.at) c.args.count c.args.code.now) c.loop-test.false c.loop.invariant
