use Rattle.std.proofs.Common.{◌≡◌, ◌∙◌, ◌+◌, ℕ, get_or, length, take, true, false, sym, ap, add-zero, arith}
use Rattle.std.specs.Prelude.{◌&&◌, filter}
use Rattle.new_history.specs.Keys.{is_yes, picked}
use Rattle.new_history.specs.Needed.{is_old}
use Rattle.new_history.specs.declared.needed.Needed.{Needed}
use Rattle.new_history.proofs.Picking.{count_more, picked_none}
use Rattle.new_history.proofs.firsts.count_old.Goals as goal
use Rattle.new_history.proofs.firsts.count_old.Goals.{then-is_first_old, else-is_first_old}

pub loop-at-init : goal.loop-at-init
loop-at-init c = record {
  count = ap (λ xs. length (filter is_old xs)) (sym (picked_none c.args.firsts.now));
  few = omega arith;
}

pub loop-at-preserved : goal.loop-at-preserved
loop-at-preserved c =
    let bs = c.args.firsts.now in
    let xs = c.args.needed.now in
    let one = c.index-needed-at.result in
    let says : (is_yes bs c.loop-at.at && is_old (get_or xs c.loop-at.at one)) ≡ c.is_first_old.result =
    ap (λ (x : Needed). is_yes bs c.loop-at.at && is_old x) (sym c.index-needed-at.is) ∙ sym c.is_first_old.ensures in
    elim c.if-is_first_old.branch [
      | then-is_first_old w ↦ record {
        count = w.count-is ∙ ap (λ (k : ℕ). k + 1) c.loop-at.invariant.count ∙ sym (count_more bs xs c.loop-at.at one true c.loop-at-test.true (says ∙ w.if-is_first_old.true));
        few = (let few = c.loop-at.invariant.few in let is = w.count-is in omega (arith, few, is));
      }
      | else-is_first_old w ↦ record {
        count = w.count-is ∙ c.loop-at.invariant.count ∙ sym (count_more bs xs c.loop-at.at one false c.loop-at-test.true (says ∙ w.if-is_first_old.false) ∙ add-zero (length (filter is_old (picked bs (take c.loop-at.at xs)))));
        few = (let few = c.loop-at.invariant.few in let is = w.count-is in omega (arith, few, is));
      }
    ]
