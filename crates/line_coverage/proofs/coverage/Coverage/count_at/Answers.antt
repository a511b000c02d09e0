use Rattle.std.proofs.Common.{length, ap, ◌∙◌}
use Rattle.std.specs.Io.Iter.{u64_saturate}
use Rattle.line_coverage.specs.Coverage.{tests_at}
use Rattle.line_coverage.specs.Words.{tests_from}
use Rattle.line_coverage.proofs.Kept.{tests_kept}
use Rattle.line_coverage.proofs.coverage.Coverage.count_at.Goals as goal

pub returns : goal.returns
returns c =
    c.count_tests.ensures
    ∙ ap (λ ws. u64_saturate (length (tests_from 0 ws))) c.words_at.ensures
    ∙ ap (λ ts. u64_saturate (length ts)) (tests_kept c.self.inside.tests c.self.inside.lines c.args.class.0 c.args.line c.self.invariant)
    ∙ ap (λ v. u64_saturate (length (tests_at v c.args.class.0 c.args.line))) c.self.view_is
