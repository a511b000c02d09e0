use Rattle.std.proofs.Common.{List, length, ◌<◌, ◌^◌, arith, subst, sym}
use Rattle.suite_workers.specs.Old.{records_in}
use Rattle.suite_workers.specs.declared.said.KnownRun.{KnownRun}
use Rattle.suite_runs.proofs.Readying.{all_fit, few_tests, runs_long}
use Rattle.suite_runs.proofs.prepared.readied.Goals as goal

pub viable_by_workers-requires-clause-some : goal.viable_by_workers-requires-clause-some
viable_by_workers-requires-clause-some g c κs within = c.requires.may.1.some_workers

pub viable_by_workers-requires-clause-asked : goal.viable_by_workers-requires-clause-asked
viable_by_workers-requires-clause-asked g c κs within = record {
  ready = c.requires.may.1.ready;
  fit = all_fit c.args.program.now c.args.job.now c.args.old c.what_is_spelled_is_written.ensures c.mutants_are_of.ensures c.requires.may;
}

pub coverage-requires-clause-few : goal.coverage-requires-clause-few
coverage-requires-clause-few g c =
    let may = c.requires.may.1 in
    let long = runs_long c.args.program.now c.args.job.now (records_in c.args.old) c.args.runs c.requires.green.are.known in
    let few = may.few_tests in
    subst (λ (ks : List KnownRun). length ks < 2 ^ 32) (sym c.as_slice.ensures) (omega (arith, long, few))

pub few_covering-requires-clause-tests : goal.few_covering-requires-clause-tests
few_covering-requires-clause-tests g c =
    let may = c.requires.may.1 in
    let long = runs_long c.args.program.now c.args.job.now (records_in c.args.old) c.args.runs c.requires.green.are.known in
    let few = may.few_tests in
    few_tests _ _ _ c.in_ok-cover.ensures (subst (λ (ks : List KnownRun). length ks < 2 ^ 32) (sym c.as_slice.ensures) (omega (arith, long, few)))
