-- What the definitions allocate where arrays of arrays are built in the heap of a world.
use Rattle.std.proofs.Common.{◌≡◌, ◌∙◌, sym, ap, refl, subst, arith, ℕ, ◌+◌, ◌≤◌, Bool, true, false, nat_le, leb-true, List, [], ◌∷◌, length, Option, None, Some, is_some}
use Rattle.program_rules.specs.Names.{Name}
use Rattle.machine_rules.specs.declared.machine.Stop.TheVariants.{HeapPassed}
use Rattle.machine_rules.specs.State as def
use Rattle.machine_rules.specs.NewObjects.{new_arrays}
use Rattle.class_link.specs.Info.{Info}
use Rattle.jvm_values.specs.Contents.{Contents, next_number}
use Rattle.jvm_world.specs.declared.world.World.{World}
use Rattle.jvm_world.specs.View.{world_of, objects_of, AreShort, IsWorldOf, IsKept, Allocates, Moves, TellsMade}
use Rattle.jvm_array_rows.specs.Built.{words_for, making}
use Rattle.jvm_array_rows.specs.Grown.{grown}
use Rattle.jvm_array_rows.proofs.Rooms.{at, made, built_fits}
use Rattle.jvm_array_rows.proofs.Growing.{built_is}
use Rattle.jvm_array_rows.proofs.Worlds.{world_at}

allocated_by : (p : List Info) (old : World) (heap : Contents) (name : Name) (n : ℕ) (ns : List ℕ) → old.heap.used + words_for (n ∷ ns) ≤ old.limits.heap → heap ≡ grown name (n ∷ ns) old.heap → Allocates p old (record old { heap = heap }) (making name (n ∷ ns) old.limits) (Some (next_number old.heap))
unfolding world_of
allocated_by p old heap name n ns le e = λ v m.
    let q = old.limits in
    record {
      world = at p q v heap;
      means = record {
        past = m.past;
        history = record {
          statics = m.history.statics;
          literals = m.history.literals;
          class_objects = m.history.class_objects;
          monitors = m.history.monitors;
        };
        world = ap (λ (u : def.World). record u { heap = objects_of p heap.objects; used = heap.used }) m.world;
      };
      given = ap (new_arrays q name (n ∷ ns)) (world_at p old v m)
          ∙ built_fits p q v name n ns old.heap le
          ∙ ap (made p q v) (built_is name n ns old.heap)
          ∙ ap (λ c. made p q v (c, next_number old.heap)) (sym e);
    }

pub allocated : (p : List Info) (old : World) (heap : Contents) (name : Name) (ns : List ℕ) (x : ℕ) → 1 ≤ length ns → old.heap.used + words_for ns ≤ old.limits.heap → heap ≡ grown name ns old.heap → x ≡ next_number old.heap → Allocates p old (record old { heap = heap }) (making name ns old.limits) (Some x)
allocated p old heap name [] x some le e same = absurd (omega (arith, some))
allocated p old heap name (n ∷ ns) x some le e same =
    subst (λ y. Allocates p old (record old { heap = heap }) (making name (n ∷ ns) old.limits) (Some y)) (sym same) (allocated_by p old heap name n ns le e)

none_of : {A : Type 0} (o : Option A) → is_some o ≡ false → o ≡ None
none_of None e = refl
none_of (Some a) e = absurd cc

pub full : (p : List Info) (old new : World) (make : def.World → Option (def.World × ℕ)) → TellsMade p old make false → Moves p old new (λ v. record v { over = Some HeapPassed }) → Allocates p old new make None
full p old new make t moves = λ v m. record { means = moves v m; full = none_of (make v) (t v m) }

-- A world with another heap is one of the program still.
pub kept_by : (p : List Info) (old : World) (heap : Contents) → IsWorldOf p old → heap.limit ≡ old.heap.limit → AreShort heap.objects → IsKept p old (record old { heap = heap })
kept_by p old heap h limit short = record {
  world = record {
    program = h.program;
    limit = limit ∙ h.limit;
    small = h.small;
    lengths = short;
    begun = h.begun;
    consulted = h.consulted;
    reached = h.reached;
    classes = h.classes;
  };
  limits = refl;
}

-- The words are within the limit where that was told.
pub fits_in : (used u : ℕ) (ns : List ℕ) (limit : ℕ) (b : Bool) → u ≡ used → b ≡ nat_le (u + words_for ns) limit → b ≡ true → used + words_for ns ≤ limit
fits_in used u ns limit b same e is = let le = leb-true (u + words_for ns) limit (sym e ∙ is) in omega (arith, same, le)
