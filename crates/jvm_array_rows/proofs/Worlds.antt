-- Whether the definitions make arrays of arrays in a world, by the words that they take.
use Rattle.std.proofs.Common.{◌≡◌, ◌∙◌, ◌⊎◌, inl, inr, sym, ap, arith, ℕ, ◌+◌, ◌≤◌, ◌<◌, Bool, true, false, List, [], ◌∷◌, length}
use Rattle.std.specs.Prelude.{nat_le, is_some}
use Rattle.std.proofs.lemmas.Bool.Decides.{leb_tells}
use Rattle.program_rules.specs.Names.{Name}
use Rattle.machine_rules.specs.State as def
use Rattle.machine_rules.specs.NewObjects.{new_arrays}
use Rattle.class_link.specs.Info.{Info}
use Rattle.jvm_world.specs.declared.world.World.{World}
use Rattle.jvm_world.specs.View.{world_of, Means, TellsMade}
use Rattle.jvm_array_rows.specs.Built.{words_for, making}
use Rattle.jvm_array_rows.proofs.Rooms.{at, built_fits, built_full}

pub world_at : (p : List Info) (w : World) (v : def.World) → Means p w v → v ≡ at p w.limits v w.heap
unfolding world_of
world_at p w v m =
    let heap = ap (λ (t : def.World). t.heap) m.world in
    let used = ap (λ (t : def.World). t.used) m.world in
    (λ i. record v { heap = heap i; used = used i })

abbrev Tells : ℕ → ℕ → Type 0
Tells a b = ((nat_le a b ≡ true) × (a ≤ b)) ⊎ ((nat_le a b ≡ false) × (b < a))

tells_by : (p : List Info) (w : World) (v : def.World) (name : Name) (n : ℕ) (ns : List ℕ) → Means p w v → Tells (w.heap.used + words_for (n ∷ ns)) w.limits.heap → is_some (new_arrays w.limits name (n ∷ ns) v) ≡ nat_le (w.heap.used + words_for (n ∷ ns)) w.limits.heap
tells_by p w v name n ns m (inl b) =
    ap is_some (ap (new_arrays w.limits name (n ∷ ns)) (world_at p w v m) ∙ built_fits p w.limits v name n ns w.heap b.1) ∙ sym b.0
tells_by p w v name n ns m (inr b) =
    ap is_some (ap (new_arrays w.limits name (n ∷ ns)) (world_at p w v m) ∙ built_full p w.limits v name n ns w.heap b.1) ∙ sym b.0

pub tells_built : (p : List Info) (w : World) (ns : List ℕ) (b : Bool) → 1 ≤ length ns → b ≡ nat_le (w.heap.used + words_for ns) w.limits.heap → (name : Name) → TellsMade p w (making name ns w.limits) b
tells_built p w [] b h e name = absurd (omega (arith, h))
tells_built p w (n ∷ ns) b h e name = λ v m.
    tells_by p w v name n ns m (leb_tells (w.heap.used + words_for (n ∷ ns)) w.limits.heap) ∙ sym e
