use Rattle.std.proofs.Common.{rules}
use Rattle.std.specs.Prelude.{FitsSigned}
use Rattle.std.specs.Int.{w32}
use Rattle.std.proofs.lemmas.Int.{to_z-of_z}
use Rattle.std.proofs.lemmas.Result.{err_from_is_err_and}
use Rattle.class_model.specs.declared.fault.ClassFault.TheVariants as fault
use Rattle.codec_rules.specs.Reading.{many_at}
use Rattle.codec_rules.proofs.Loops.{goes_on, ends, is_done}
use Rattle.mt_insn.specs.Item.{s4_in}
use Rattle.mt_insn.proofs.switch.read_offsets.Goals as goal

pub returns-in_err-offset : goal.returns-in_err-offset
returns-in_err-offset c =
    let p = err_from_is_err_and c.from_residual.result c.from_residual.ensures.1 in
    rw (p.1, p.2) (ends fault.Memory c.in_err-offset.field-0.0 (s4_in c.args.at) c.loop.offsets c.args.count c.loop.counter c.loop.code (many_at (s4_in c.args.at) c.args.count c.args.code.now) c.loop-test.true c.in_err-offset.ensures c.loop.invariant)

pub loop-preserved : goal.loop-preserved
loop-preserved c =
    let fits : FitsSigned w32 c.in_ok-offset.offset = search rules in
    rw (c.in_ok-push.ensures.ok, to_z-of_z w32 c.in_ok-offset.offset fits) (goes_on (s4_in c.args.at) c.loop.offsets c.args.count c.loop.counter c.loop.code c.in_ok-offset.offset c.s4.new.self (many_at (s4_in c.args.at) c.args.count c.args.code.now) c.loop-test.true c.in_ok-offset.ensures c.loop.invariant)

pub returns : goal.returns
returns c = is_done (s4_in c.args.at) c.loop.offsets c.args.count c.loop.counter c.loop.code (many_at (s4_in c.args.at) c.args.count c.args.code.now) c.loop-test.false c.loop.invariant
