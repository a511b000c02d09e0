-- What is read of locals, and what a write of one does.
use Rattle.std.proofs.Common.{◌≡◌, ℕ, List, set}
use Rattle.std.specs.Prelude.{slice_get}
use Rattle.std.specs.Option.{option_map}
use Rattle.std.proofs.lemmas.List.{map-set}
use Rattle.std.proofs.lemmas.Option.{slice_get-map}
use Rattle.jvm_state.specs.declared.slot.Slot.{Slot}
use Rattle.jvm_state.specs.Slots.{local_in, locals_in}

pub local_at : (xs : List Slot) (n : ℕ) → slice_get (locals_in xs) n ≡ option_map local_in (slice_get xs n)
local_at xs n = slice_get-map local_in xs n

pub set_at : (xs : List Slot) (n : ℕ) (s : Slot) → locals_in (set xs n s) ≡ set (locals_in xs) n (local_in s)
set_at xs n s = map-set local_in xs n s
