use Rattle.std.proofs.Common.{◌≡◌, IfOk, sym, subst, rules}
use Rattle.worker_gate.specs.Hands.{Finds}
use Rattle.suite_workers.specs.Marks.{run_reading}
use Rattle.suite_workers.specs.Working.{runs_for}
use Rattle.suite_workers.proofs.worker.WorkerHands.find.Goals as goal

pub returns-clause-found : goal.returns-clause-found
returns-clause-found c =
    let same : c.args.self.now ≡ runs_for c.self.inside.setup.now c.self.inside.stand = search rules in
    subst (λ ms. IfOk c.find_in.result (Finds run_reading ms c.args.mutant c.args.test)) (sym same) c.find_in.ensures.found
