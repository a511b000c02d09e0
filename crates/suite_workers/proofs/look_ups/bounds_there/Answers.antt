use Rattle.std.proofs.Common.{◌≡◌, ◌∙◌, ap, arith, length, replicate, rules}
use Rattle.std.specs.Prelude.{zip}
use Rattle.std.proofs.lemmas.List.{with_items_is}
use Rattle.suite_workers.specs.Old.{bounds_set}
use Rattle.suite_workers.proofs.look_ups.bounds_there.Goals as goal

pub returns : goal.returns
returns c =
    let made : c.in_ok-all.all.items ≡ replicate c.args.count 0 = search rules in
    let long : length c.set_bounds.new.all ≡ c.in_ok-all.all.len = grind (arith, c.set_bounds.auto.all, c.deref_mut.ensures.value, c.deref_mut.ensures.len, c.in_ok-all.all.ok.0) in
    with_items_is c.in_ok-all.all c.set_bounds.new.all long
    ∙ c.set_bounds.ensures
    ∙ ap (λ all. bounds_set all (zip c.args.numbers.now c.args.bounds.now)) (c.deref_mut.ensures.value ∙ made)
