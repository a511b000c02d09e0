use Rattle.std.proofs.Common.{◌≡◌, ◌^◌, ◌<◌, ◌++◌, OnOk, sym, ap, subst, ◌∙◌}
use Rattle.line_coverage.specs.Coverage.{tests_at}
use Rattle.line_coverage.specs.Words.{has_test, tests_from}
use Rattle.line_coverage.proofs.Kept.{tests_below, tests_kept}
use Rattle.line_coverage.proofs.coverage.Coverage.push_tests.Goals as goal

pub push_tests-requires : goal.push_tests-requires
push_tests-requires c = λ t has.
    tests_below c.self.inside.tests (2 ^ 32) c.self.inside.lines c.args.class.0 c.args.line c.self.invariant (subst (λ v. v.tests < 2 ^ 32) (sym c.self.view_is) c.requires) t
    (ap (λ ws. has_test ws t) (sym c.words_at.ensures) ∙ has)

pub returns : goal.returns
returns c =
    subst (λ ts. OnOk c.push_tests.result (c.push_tests.new.tests.items ≡ c.args.tests.now.items ++ ts))
    (ap (tests_from 0) c.words_at.ensures
    ∙ tests_kept c.self.inside.tests c.self.inside.lines c.args.class.0 c.args.line c.self.invariant
    ∙ ap (λ v. tests_at v c.args.class.0 c.args.line) c.self.view_is)
    c.push_tests.ensures
