use Rattle.std.proofs.Common.{◌+◌, sym, subst}
use Rattle.line_coverage.specs.Coverage.{Covers, KeepsRuns, covered}
use Rattle.line_coverage.proofs.Kept.{no_more, on_err, run_added, runs_kept}
use Rattle.line_coverage.proofs.coverage.Coverage.add_run.Goals as goal

pub invariant_of-self : goal.invariant_of-self
invariant_of-self c = no_more c.self.inside.tests c.self.inside.lines c.add_lines.new.lines c.add_lines.ensures.others c.self.invariant

pub returns-in_err-add_lines-clause-err : goal.returns-in_err-add_lines-clause-err
returns-in_err-add_lines-clause-err c =
    on_err c.from_residual.result
    (subst (λ v. KeepsRuns v (covered (c.self.inside.tests + 1) c.add_lines.new.lines)) c.self.view_is (runs_kept c.self.inside.tests c.self.inside.lines c.add_lines.new.lines c.add_lines.ensures.others))

pub invariant_of-self-2 : goal.invariant_of-self-2
invariant_of-self-2 c = no_more c.self.inside.tests c.self.inside.lines c.add_lines.new.lines c.add_lines.ensures.others c.self.invariant

pub returns-clause-ok : goal.returns-clause-ok
returns-clause-ok c = λ runs h.
    run_added c.self.inside.tests c.self.inside.lines c.add_lines.new.lines c.args.reached.now c.in_ok-add_lines.ensures.ok c.add_lines.ensures.others c.self.invariant runs
    (subst (Covers runs) (sym c.self.view_is) h)
