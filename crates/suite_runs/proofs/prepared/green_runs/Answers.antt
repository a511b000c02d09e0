use Rattle.std.proofs.lemmas.Result.{err_from_is_err_and}
use Rattle.std.proofs.Common.{List, length, ◌<◌, ◌^◌, arith, subst, sym}
use Rattle.suite_workers.specs.Old.{records_in}
use Rattle.suite_workers.specs.declared.said.KnownRun.{KnownRun}
use Rattle.suite_runs.specs.Originals.{original_cost}
use Rattle.suite_runs.proofs.Readying.{rose_once, runs_long}
use Rattle.suite_runs.proofs.prepared.green_runs.Goals as goal

pub failed_of-requires : goal.failed_of-requires
failed_of-requires g c =
    let long = runs_long c.args.program.now c.args.job.now (records_in c.args.old) c.in_ok-runs.runs c.in_ok-runs.ensures.0.known in
    let few = c.requires.few_tests in
    subst (λ (ks : List KnownRun). length ks < 2 ^ 32) (sym c.as_slice.ensures) (omega (arith, long, few))

pub returns-in_err-failed-clause-meter : goal.returns-in_err-failed-clause-meter
returns-in_err-failed-clause-meter g c =
    let p = err_from_is_err_and c.from_residual-in_err-failed.result c.from_residual-in_err-failed.ensures.1 in
    rw (p.1, p.2) (rose_once c.args.job.now.workers (original_cost c.args.program.now c.args.job.now (records_in c.args.old)) c.args.meter.now c.original_runs.new.meter c.requires.some_workers c.in_ok-runs.ensures.1)
