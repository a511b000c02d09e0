use Rattle.std.proofs.Common.{sym, ap, ◌∙◌}
use Rattle.line_coverage.specs.Coverage.{reaches}
use Rattle.line_coverage.specs.Words.{has_test}
use Rattle.line_coverage.proofs.Kept.{reaches_kept}
use Rattle.line_coverage.proofs.coverage.Coverage.reaches.Goals as goal

pub returns : goal.returns
returns c =
    c.has_test.ensures
    ∙ ap (λ ws. has_test ws c.args.test) c.words_at.ensures
    ∙ sym (reaches_kept c.self.inside.tests c.self.inside.lines c.args.class.0 c.args.line c.args.test)
    ∙ ap (λ v. reaches v c.args.class.0 c.args.line c.args.test) c.self.view_is
