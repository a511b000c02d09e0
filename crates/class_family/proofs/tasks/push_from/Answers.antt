use Rattle.std.proofs.Common.{◌≡◌, ◌∙◌, ◌⊎◌, inl, inr, ◌≤◌, ◌++◌, ◌∷◌, [], sym, subst, length, drop, ap, arith}
use Rattle.class_order.specs.Graph.{supers_of}
use Rattle.class_family.specs.Walks.{enters_of}
use Rattle.class_family.proofs.Pushing.{pushes_start, pushes_next, pushes_end}
use Rattle.class_family.proofs.tasks.push_from.Goals as goal

pub loop-left-init : goal.loop-left-init
loop-left-init c = record {
  pushed = pushes_start c.args.tasks.now.items (supers_of c.args.links.now) ∙ ap (λ k. c.args.tasks.now.items ++ enters_of (drop k (supers_of c.args.links.now))) (sym c.count-left.ensures);
  far = inl (let e = c.count-left.ensures in omega (arith, e));
}

pub loop-left-preserved : goal.loop-left-preserved
loop-left-preserved c =
    let lt = c.loop-left-test.true in
    record {
      pushed = pushes_next c.args.tasks.now.items c.loop-left.tasks.items c.push_at.new.tasks.items (supers_of c.args.links.now) c.loop-left.left (omega (arith, lt)) c.loop-left.invariant.pushed c.in_ok-push_at.ensures;
      far = inr (omega (arith, lt));
    }

pub returns : goal.returns
returns c = pushes_end c.args.tasks.now.items c.loop-left.tasks.items (supers_of c.args.links.now) c.loop-left.left c.args.from c.loop-left-test.false c.loop-left.invariant.far c.loop-left.invariant.pushed
