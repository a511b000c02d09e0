use Rattle.std.proofs.Common.{rules, drop, subst, sym}
use Rattle.std.specs.List.Sorted.{IsPermutation}
use Rattle.std.proofs.lemmas.List.Sorted.{IsNonDecreasingBy-from_sort_by_key}
use Rattle.vframes.specs.Sweeps.{AreLeft}
use Rattle.vframes.proofs.Sweeping.{at_first}
use Rattle.vframes.proofs.sweep.Sweep.new.Goals as goal

pub returns : goal.returns
returns c =
    let all = c.args.handlers.now in
    let rows = c.sort_unstable_by_key.new.self.items in
    record {
      left = subst (λ k. AreLeft all 0 k rows) (sym c.new.ensures.items) (at_first all rows (subst (λ k. IsPermutation k rows) c.in_ok-rows.ensures.items c.sort_unstable_by_key.ensures.permutation));
      rising = IsNonDecreasingBy-from_sort_by_key (λ h. h.start) _ c.sort_unstable_by_key.ensures.sorted (λ a r q k. search rules);
    }
