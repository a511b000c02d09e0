use Rattle.std.proofs.Common.{sym, ◌∙◌}
use Rattle.worker_gate.specs.Ends.{ended_of, IsDoneOf, EndsSo, seen_place}
use Rattle.worker_gate.proofs.Cells.{ok_map, done_so, runs_so}
use Rattle.worker_gate.proofs.cell.end_of.Goals as goal

pub returns-in-None-clause-ended : goal.returns-in-None-clause-ended
returns-in-None-clause-ended g c =
    let may = runs_so c.args.all c.args.seen c.args.test c.requires.test (sym c.skip_of.ensures ∙ c.in-None.is) in
    ok_map
    (λ e. IsDoneOf (g.C.Hands.job c.args.end.now.job.hands) c.args.mutant c.args.test (ended_of g.C.Hands.reading e))
    (λ e. EndsSo c.args.all (g.C.Hands.job c.args.end.now.job.hands) c.args.mutant c.args.test c.args.seen (ended_of g.C.Hands.reading e))
    c.find_or_run.result
    (λ e d. record { ends = λ t is. done_so c.args.all c.args.test (seen_place c.args.seen) t (ended_of g.C.Hands.reading e) may (d.done t is) })
    c.find_or_run.ensures.done
