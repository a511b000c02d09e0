use Rattle.std.proofs.Common.{◌≡◌, ◌<◌, take, length, ◌∙◌, arith}
use Rattle.std.proofs.lemmas.List.{length-set}
use Rattle.jvm_state.specs.declared.slot.Slot.TheVariants.{Unset}
use Rattle.jvm_state.proofs.StoreLaws.{unset_more}
use Rattle.jvm_state.proofs.store.unset.Goals as goal

pub loop-place-preserved : goal.loop-place-preserved
loop-place-preserved c =
    let xs = c.loop-place.slots.items in
    let place = c.loop-place.place in
    let same : length xs ≡ length c.args.slots.now.items = c.loop-place.invariant.len in
    let within : place < length xs = omega (arith, same) in
    record {
      unset = unset_more xs (take c.args.from c.args.slots.now.items) c.args.from place c.loop-place.auto.place within c.loop-place.invariant.unset;
      len = length-set xs place Unset ∙ same;
    }
