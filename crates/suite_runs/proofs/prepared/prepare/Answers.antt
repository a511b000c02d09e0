use Rattle.std.proofs.lemmas.Result.{err_from_is_err_and}
use Rattle.suite_workers.specs.Old.{records_in}
use Rattle.suite_runs.specs.Originals.{original_cost}
use Rattle.suite_runs.proofs.Readying.{green_prepares, ready_prepares, rises_after, rises_alike}
use Rattle.suite_runs.proofs.prepared.prepare.Goals as goal

pub readied-requires-clause-may : goal.readied-requires-clause-may
readied-requires-clause-may g c κs within = (c.args.meter.now, c.requires)

pub returns-in_err-runs-clause-ends : goal.returns-in_err-runs-clause-ends
returns-in_err-runs-clause-ends g c =
    let p = err_from_is_err_and c.from_residual.result c.from_residual.ensures.1 in
    rw (p.1, p.2) (green_prepares c.args.program.now c.args.job.now c.args.old c.in_err-runs.field-0.0 c.in_err-runs.ensures.ends)

pub returns-in_err-runs-clause-meter : goal.returns-in_err-runs-clause-meter
returns-in_err-runs-clause-meter g c =
    let p = err_from_is_err_and c.from_residual.result c.from_residual.ensures.1 in
    rw (p.1, p.2) (rises_alike c.args.job.now.workers (original_cost c.args.program.now c.args.job.now (records_in c.args.old)) c.args.meter.now c.green_runs.new.meter c.in_err-runs.field-0.0 c.in_err-runs.ensures.meter)

pub returns-clause-ends : goal.returns-clause-ends
returns-clause-ends g c = ready_prepares c.args.program.now c.args.job.now c.args.old c.readied.result c.readied.ensures

pub returns-clause-meter : goal.returns-clause-meter
returns-clause-meter g c = rises_after c.args.program.now c.args.job.now c.args.old (original_cost c.args.program.now c.args.job.now (records_in c.args.old)) c.args.meter.now c.green_runs.new.meter c.requires.some_workers c.readied.result c.readied.ensures c.in_ok-runs.ensures.meter
