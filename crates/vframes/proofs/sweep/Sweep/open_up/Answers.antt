use Rattle.std.proofs.Common.{rules, ◌≡◌, ◌+◌, ◌<◌, ◌++◌, ◌∷◌, [], length, drop, get_or, slice_index_or, subst, sym, ap, ◌∙◌, arith}
use Rattle.std.proofs.lemmas.List.{drop_more}
use Rattle.vframes.specs.Sweeps.{AreLeft}
use Rattle.vframes.proofs.Sweeping.{ahead, opened}
use Rattle.vframes.proofs.sweep.Sweep.open_up.Goals as goal

pub returns-then-handler-at-clause-all : goal.returns-then-handler-at-clause-all
returns-then-handler-at-clause-all c all h =
    ahead c.args.at c.loop-self.self.rows.items c.loop-self.self.next c.index-handler.result.now (omega (arith, c.loop-self-test.true, c.len.ensures)) (c.loop-self.invariant all h).rising (search rules)

pub loop-self-preserved : goal.loop-self-preserved
loop-self-preserved c all h =
    let rows = c.loop-self.self.rows.items in
    let next = c.loop-self.self.next in
    let some = c.loop-self.self.covering.items in
    let x = c.index-handler.result.now in
    let r = c.loop-self.invariant all h in
    let l : next < length rows = omega (arith, c.loop-self-test.true, c.len.ensures) in
    let is : get_or rows next x ≡ x = search rules in
    let more : drop next rows ≡ x ∷ drop (next + 1) rows = drop_more rows next x l ∙ ap (λ z. z ∷ drop (next + 1) rows) is in
    record {
      left = subst (λ k. AreLeft all c.args.at k (drop (next + 1) rows)) (sym c.in_ok-push.ensures.items) (opened all some (drop (next + 1) rows) c.args.at x (subst (AreLeft all c.args.at some) more r.left));
      rising = r.rising;
    }
