use Rattle.std.proofs.Common.{◌∙◌}
use Rattle.suite_workers.specs.Old.{records_in}
use Rattle.suite_runs.proofs.Readying.{bounds_long, bounds_named, runs_long}
use Rattle.suite_runs.proofs.prepared.bounds_by_name.Goals as goal

pub returns-clause-long : goal.returns-clause-long
returns-clause-long c =
    bounds_long c.args.runs.now c.args.bounds.now c.requires.by
    ∙ runs_long c.args.program.now c.args.job.now (records_in c.args.old) c.args.runs.now c.requires.are.known

pub returns-clause-named : goal.returns-clause-named
returns-clause-named c = bounds_named c.args.program.now c.args.job.now c.args.old c.args.runs.now c.args.bounds.now c.bounds_are_by_name.ensures c.requires.may c.requires.are c.requires.by
