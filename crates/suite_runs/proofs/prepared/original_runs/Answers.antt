use Rattle.std.proofs.lemmas.Result.{err_from_is_err_and}
use Rattle.suite_workers.specs.Old.{records_in}
use Rattle.suite_runs.specs.Originals.{original_cost}
use Rattle.suite_runs.proofs.Readying.{may_run_originals, originals_end, rose_none}
use Rattle.suite_runs.proofs.prepared.original_runs.Goals as goal

pub may_make-requires : goal.may_make-requires
may_make-requires g c = (c.args.meter.now, c.requires)

pub returns-in_err-look_ups : goal.returns-in_err-look_ups
returns-in_err-look_ups g c =
    let p = err_from_is_err_and c.from_residual.result c.from_residual.ensures.1 in
    rw p.1 (rose_none c.args.job.now.workers (original_cost c.args.program.now c.args.job.now (records_in c.args.old)) c.args.meter.now)

pub run_originals-requires-after_bounds : goal.run_originals-requires-after_bounds
run_originals-requires-after_bounds g c κs within = may_run_originals c.runs_keep_limits.ensures c.args.program.now c.args.job.now c.args.old c.args.meter.now c.requires c.in_ok-look_ups.look_ups c.in_ok-look_ups.ensures.old c.in_ok-look_ups.ensures.history c.original_setup-setup.result c.original_setup-setup.ensures c.may_make.ensures c.in_ok-look_ups.ensures.of

pub returns : goal.returns
returns g c = originals_end c.runs_keep_limits.ensures c.args.program.now c.args.job.now c.args.old c.args.meter.now c.requires c.in_ok-look_ups.look_ups c.in_ok-look_ups.ensures.old c.in_ok-look_ups.ensures.history c.original_setup-setup.result c.original_setup-setup.ensures c.run_originals.new.meter c.run_originals.result c.run_originals.ensures
