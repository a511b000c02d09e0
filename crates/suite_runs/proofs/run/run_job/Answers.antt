use Rattle.std.proofs.lemmas.Result.{err_from_is_err_and}
use Rattle.suite_runs.proofs.CellsAsked.{may_run}
use Rattle.suite_runs.proofs.Whole.{as_covering, as_viable, cells_cost, job_ends, job_meters, no_memory, prepared_ends, prepared_meter, said_known}
use Rattle.suite_runs.proofs.run.run_job.Goals as goal

pub returns-in_err-ready-clause-ends : goal.returns-in_err-ready-clause-ends
returns-in_err-ready-clause-ends g c =
    let p = err_from_is_err_and c.from_residual.result c.from_residual.ensures.1 in
    rw (p.1, p.2) (prepared_ends c.args.program.now c.args.job.now c.args.old c.in_err-ready.field-0.0 c.in_err-ready.ensures.ends)

pub returns-in_err-ready-clause-meter : goal.returns-in_err-ready-clause-meter
returns-in_err-ready-clause-meter g c =
    let p = err_from_is_err_and c.from_residual.result c.from_residual.ensures.1 in
    rw (p.1, p.2) (prepared_meter c.args.program.now c.args.job.now c.args.old c.args.meter.now c.prepare.new.meter c.in_err-ready.field-0.0 c.in_err-ready.ensures.ends c.in_err-ready.ensures.meter)

pub run_cells-requires-after_bounds : goal.run_cells-requires-after_bounds
run_cells-requires-after_bounds g c κs within =
    may_run c.args.program.now c.args.job.now c.args.old c.in_ok-ready.ready c.in_ok-ready.ensures.ends c.setup_of-setup.result c.setup_of-setup.ensures c.what_is_spelled_is_written.ensures c.mutants_are_of.ensures c.accepted_may_run.ensures c.runs_keep_limits.ensures c.args.meter.now c.prepare.new.meter c.requires c.in_ok-ready.ensures.meter

pub returns-in_err-said-clause-ends : goal.returns-in_err-said-clause-ends
returns-in_err-said-clause-ends g c =
    let p = err_from_is_err_and c.from_residual-in_err-said.result c.from_residual-in_err-said.ensures.1 in
    rw (p.1, p.2) (no_memory c.args.program.now c.args.job.now c.args.old)

pub returns-in_err-said-clause-meter : goal.returns-in_err-said-clause-meter
returns-in_err-said-clause-meter g c =
    let p = err_from_is_err_and c.from_residual-in_err-said.result c.from_residual-in_err-said.ensures.1 in
    rw (p.1, p.2) (cells_cost c.args.program.now c.args.job.now c.args.old c.in_ok-ready.ready c.in_ok-ready.ensures.ends c.setup_of-setup.result c.setup_of-setup.ensures c.cells_are_of_suite.ensures c.args.meter.now c.prepare.new.meter c.run_cells.new.meter c.requires.some_workers c.in_ok-ready.ensures.meter c.in_err-said.ensures)

pub finish-requires-clause-records : goal.finish-requires-clause-records
finish-requires-clause-records g c =
    said_known c.args.program.now c.args.job.now c.args.old c.in_ok-ready.ready c.in_ok-ready.ensures.ends c.setup_of-setup.result c.setup_of-setup.ensures c.cells_are_of_suite.ensures c.in_ok-said.said c.in_ok-said.ensures.0

pub finish-requires-clause-viable : goal.finish-requires-clause-viable
finish-requires-clause-viable g c =
    as_viable c.args.program.now c.args.job.now c.args.old c.in_ok-ready.ready c.in_ok-ready.ensures.ends c.setup_of-setup.result c.setup_of-setup.ensures c.cells_are_of_suite.ensures c.in_ok-said.said c.in_ok-said.ensures.0 c.requires.files c.requires.suite

pub finish-requires-clause-covering : goal.finish-requires-clause-covering
finish-requires-clause-covering g c =
    as_covering c.args.program.now c.args.job.now c.args.old c.in_ok-ready.ready c.in_ok-ready.ensures.ends c.setup_of-setup.result c.setup_of-setup.ensures c.cells_are_of_suite.ensures c.in_ok-said.said c.in_ok-said.ensures.0 c.requires.files c.requires.suite

pub returns-clause-ends : goal.returns-clause-ends
returns-clause-ends g c =
    job_ends c.args.program.now c.args.job.now c.args.old c.in_ok-ready.ready c.in_ok-ready.ensures.ends c.setup_of-setup.result c.setup_of-setup.ensures c.cells_are_of_suite.ensures c.in_ok-said.said c.in_ok-said.ensures.0 c.answers_can_be_written.ensures c.args.meter.now c.requires c.finish.result c.finish.ensures

pub returns-clause-meter : goal.returns-clause-meter
returns-clause-meter g c =
    job_meters c.args.program.now c.args.job.now c.args.old c.in_ok-ready.ready c.in_ok-ready.ensures.ends c.setup_of-setup.result c.setup_of-setup.ensures c.cells_are_of_suite.ensures c.in_ok-said.said c.in_ok-said.ensures.0 c.args.meter.now c.prepare.new.meter c.run_cells.new.meter c.requires.some_workers c.in_ok-ready.ensures.meter c.in_ok-said.ensures.1 c.finish.result
