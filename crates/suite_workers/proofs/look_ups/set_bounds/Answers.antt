use Rattle.std.proofs.Common.{◌∙◌, ap, None, get_or}
use Rattle.suite_workers.specs.Old.{bound_set}
use Rattle.suite_workers.proofs.Bounds.{all_set, one_set}
use Rattle.suite_workers.proofs.Lists.{at_default, get_of}
use Rattle.suite_workers.proofs.look_ups.set_bounds.Goals as goal

pub loop-at-preserved : goal.loop-at-preserved
loop-at-preserved c =
    let number = get_or c.args.numbers.now c.loop-at.at None in
    let at = get_of c.args.numbers.now c.loop-at.at number c.loop-at-test.true (at_default c.args.numbers.now c.loop-at.at None number c.loop-at-test.true) in
    c.set_bound.ensures
    ∙ ap (λ all. bound_set all number (get_or c.args.bounds.now c.loop-at.at 0)) c.loop-at.invariant
    ∙ one_set c.args.numbers.now c.args.bounds.now c.args.all.now c.loop-at.at number c.requires at

pub returns : goal.returns
returns c = c.loop-at.invariant ∙ all_set c.args.numbers.now c.args.bounds.now c.args.all.now c.loop-at.at c.requires c.loop-at-test.false
