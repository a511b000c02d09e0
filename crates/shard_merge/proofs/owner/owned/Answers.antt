use Rattle.std.proofs.Common.{◌∙◌, ℕ, Bool, ◌+◌, [], ◌∷◌, ◌++◌, refl, sym, ap, ap₂}
use Rattle.std.specs.Prelude.{if◌then◌else◌}
use Rattle.std.proofs.lemmas.List.{length_push}
use Rattle.shard_rules.specs.Owners.{owns}
use Rattle.shard_merge.proofs.Owning.{owned_push}
use Rattle.shard_merge.proofs.owner.owned.Goals as goal

pub loop-item-init : goal.loop-item-init
loop-item-init g c = record { place = refl; own = c.new-own.ensures }

pub loop-item-preserved : goal.loop-item-preserved
loop-item-preserved g c =
    let i = c.args.index in
    let n = c.args.of in
    let ys = c.loop-item.yielded in
    let item = c.in-Some.item in
    record {
      place = ap (λ (k : ℕ). k + 1) c.loop-item.invariant.place ∙ sym (length_push ys item);
      own =
          c.in_ok-keep_if.ensures
          ∙ ap₂ (λ zs (b : Bool). zs ++ (if b then item ∷ [] else [])) c.loop-item.invariant.own (c.owns-is_own.ensures ∙ ap (λ (k : ℕ). owns k i n) c.loop-item.invariant.place)
          ∙ sym (owned_push i n ys item);
    }
