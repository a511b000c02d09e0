use Rattle.std.proofs.Common.{rules, ◌≡◌, ◌∙◌, ◌+◌, sym, subst, arith}
use Rattle.type_verifier.specs.Passes.{IsPassAt}
use Rattle.type_verifier.proofs.Fitting.{pass_at}
use Rattle.type_verifier.proofs.Judging.{refused_at, went_on, ended, some_fault}
use Rattle.type_verifier.proofs.pass.check_code.Goals as goal

pub returns-in-Some : goal.returns-in-Some
returns-in-Some c s x e =
    let t = c.args.site.now in
    let hs = c.args.handlers.now in
    let i = c.loop-at.invariant.2 s x e in
    let go = c.in_ok-go_to.ensures hs c.loop-at.invariant.1 in
    let same : c.as_slice.result.now ≡ c.go_to.new.self.covering.items = search rules in
    let covered = subst (IsPassAt s t c.loop-at.at) (sym same) (pass_at s t c.loop-at.at hs c.go_to.new.self.covering.items x go.0) in
    some_fault s t hs x (omega (arith, c.loop-at-test.true, c.loop-at.invariant.0))
    ∙ i.1
    ∙ refused_at s t hs c.loop-at.at c.in-Some.rule c.in_ok-answer.answer c.judge.new.f x (omega (arith, c.loop-at-test.true, c.loop-at.invariant.0)) (c.in_ok-answer.ensures s covered i.0) (sym c.in-Some.ensures)

pub loop-at-preserved : goal.loop-at-preserved
loop-at-preserved c = (
  c.loop-at.invariant.0,
  (c.in_ok-go_to.ensures c.args.handlers.now c.loop-at.invariant.1).1,
  λ s x e.
      let t = c.args.site.now in
      let hs = c.args.handlers.now in
      let i = c.loop-at.invariant.2 s x e in
      let go = c.in_ok-go_to.ensures hs c.loop-at.invariant.1 in
      let same : c.as_slice.result.now ≡ c.go_to.new.self.covering.items = search rules in
      let covered = subst (IsPassAt s t c.loop-at.at) (sym same) (pass_at s t c.loop-at.at hs c.go_to.new.self.covering.items x go.0) in
      let w = went_on s t hs c.loop-at.at (c.loop-at.at + 1) c.in_ok-answer.answer c.goes_on-falls.result c.judge.new.f x (omega (arith, c.loop-at-test.true, c.loop-at.invariant.0)) (omega arith) (c.in_ok-answer.ensures s covered i.0) (sym c.in_default.ensures) c.goes_on-falls.ensures in
      (w.0, i.1 ∙ w.1),
)

pub returns : goal.returns
returns c s x e =
    let t = c.args.site.now in
    let hs = c.args.handlers.now in
    let i = c.loop-at.invariant.2 s x e in
    some_fault s t hs x (omega (arith, c.if-count-eq0.false, c.loop-at.invariant.0))
    ∙ i.1 ∙ ended s t hs c.loop-at.at x (omega (arith, c.loop-at-test.false, c.loop-at.invariant.0))
