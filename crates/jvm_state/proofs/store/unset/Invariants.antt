use Rattle.std.proofs.Common.{◌≡◌, ◌-◌, ◌++◌, take, replicate, length}
use Rattle.jvm_state.specs.declared.slot.Slot.TheVariants.{Unset}
use Rattle.jvm_state.proofs.store.unset.Given as goal

abbrev pub invariant-loop-place : goal.invariant-loop-place
invariant-loop-place l = record {
  unset : take l.place l.slots.items
      ≡ take l.from l.fn.slots.items ++ replicate (l.place - l.from) Unset;
  len : length l.slots.items ≡ length l.fn.slots.items;
}
