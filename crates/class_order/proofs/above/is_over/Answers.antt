use Rattle.std.proofs.Common.{◌≡◌, ◌∙◌, sym, refl, true, false, Some, None}
use Rattle.class_order.specs.Above.{is_here, through_at}
use Rattle.class_order.proofs.Rows.{here_over, over_before, over_next, over_ends}
use Rattle.class_order.proofs.above.is_over.Goals as goal

pub loop-at-preserved : goal.loop-at-preserved
loop-at-preserved c =
    let rows = c.args.rows.now in
    let no : is_here rows c.loop-at.at c.args.over ≡ false = sym c.is_here.ensures ∙ c.loop-at-test.true in
    let next : through_at rows c.loop-at.at ≡ Some c.in-Some.up = sym c.through.ensures ∙ c.in-Some.is in
    record {
      here = λ h. c.loop-at.invariant.here (over_before rows c.loop-at.at c.in-Some.up c.args.over next h);
      there = λ h. over_next rows c.loop-at.at c.in-Some.up c.args.over no next (c.loop-at.invariant.there h);
    }

pub returns-in-None : goal.returns-in-None
returns-in-None c =
    let rows = c.args.rows.now in
    let no : is_here rows c.loop-at.at c.args.over ≡ false = sym c.is_here.ensures ∙ c.loop-at-test.true in
    let none : through_at rows c.loop-at.at ≡ None = sym c.through.ensures ∙ c.in-None.is in
    ((λ f. let q : false ≡ true = f in absurd cc), λ h. absurd (over_ends rows c.loop-at.at c.args.over no none (c.loop-at.invariant.there h)))

pub returns : goal.returns
returns c =
    let rows = c.args.rows.now in
    let yes : is_here rows c.loop-at.at c.args.over ≡ true = sym c.is_here.ensures ∙ c.loop-at-test.false in
    ((λ t. c.loop-at.invariant.here (here_over rows c.loop-at.at c.args.over yes)), λ h. refl)
