use Rattle.std.proofs.Common.{◌≡◌, ◌∙◌, ◌<◌, length, map, get_or, sym, ap, arith}
use Rattle.std.proofs.lemmas.List.{length-map}
use Rattle.new_history.proofs.Picking.{firsts_more, get_mapped}
use Rattle.new_history.proofs.firsts.are_first.Goals as goal

pub loop-key-preserved : goal.loop-key-preserved
loop-key-preserved c =
    let keys = map (λ k. k.items) c.args.keys.now in
    let i = c.loop-key.key-index in
    let long = length-map c.args.keys.now (λ k. k.items) in
    let lt = c.loop-key-test.true in
    let there : i < length keys = omega (arith, long, lt) in
    let is : c.as_slice.result.now ≡ get_or keys i c.key-item.result.items = c.as_slice.ensures.value ∙ ap (λ k. k.items) c.key-item.is ∙ sym (get_mapped (λ k. k.items) c.args.keys.now i c.key-item.result) in
    firsts_more keys i c.key-item.result.items c.as_slice.result.now c.loop-key.seen c.insert.new.self c.loop-key.firsts.items c.push.new.self.items c.in_ok-first.first there is c.loop-key.invariant c.in_ok-first.ensures c.in_ok-push.ensures.items
