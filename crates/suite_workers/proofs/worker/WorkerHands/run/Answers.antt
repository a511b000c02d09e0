use Rattle.std.proofs.Common.{◌≡◌, IfOk, OnOk, sym, subst, rules}
use Rattle.worker_gate.specs.Hands.{Counts, CountsAtMost, Makes}
use Rattle.suite_workers.specs.Marks.{run_reading}
use Rattle.suite_workers.specs.Working.{runs_for}
use Rattle.suite_workers.proofs.worker.WorkerHands.run.Goals as goal

pub returns-clause-made : goal.returns-clause-made
returns-clause-made c =
    let same : c.args.self.now ≡ runs_for c.self.inside.setup.now c.self.inside.stand = search rules in
    subst (λ ms. IfOk c.run_in.result (Makes run_reading ms c.args.mutant c.args.test)) (sym same) c.run_in.ensures.made

pub returns-clause-steps : goal.returns-clause-steps
returns-clause-steps c =
    let same : c.args.self.now ≡ runs_for c.self.inside.setup.now c.self.inside.stand = search rules in
    subst (λ ms. OnOk c.run_in.result (Counts run_reading ms c.args.mutant c.args.test c.args.part.now c.run_in.new.part)) (sym same) c.run_in.ensures.steps

pub returns-clause-most : goal.returns-clause-most
returns-clause-most c =
    let same : c.args.self.now ≡ runs_for c.self.inside.setup.now c.self.inside.stand = search rules in
    subst (λ ms. CountsAtMost run_reading ms c.args.mutant c.args.test c.args.part.now c.run_in.new.part) (sym same) c.run_in.ensures.most
