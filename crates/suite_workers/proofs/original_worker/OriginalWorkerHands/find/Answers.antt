use Rattle.std.proofs.Common.{subst}
use Rattle.worker_gate.specs.Hands.{Finds}
use Rattle.suite_workers.specs.Marks.{run_reading}
use Rattle.suite_workers.proofs.OriginalRuns.{finds_so}
use Rattle.suite_workers.proofs.original_worker.OriginalWorkerHands.find.Goals as goal

pub returns-clause-found : goal.returns-clause-found
returns-clause-found c =
    subst (λ ms. Finds run_reading ms c.args._mutant c.args.test c.original-found.result) c.self.view_is
    (finds_so c.self.inside.program c.self.inside.setup.now c.self.invariant.0 c.args._mutant c.args.test c.original-found.result c.original-found.ensures.finds c.original-found.ensures.there)
