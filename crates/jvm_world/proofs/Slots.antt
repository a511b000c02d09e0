-- Objects of a world by their numbers, and what is stored in their slots.
use Rattle.std.proofs.Common.{◌≡◌, ◌∙◌, sym, ap, refl, subst, arith, ℕ, zero, suc, ◌<◌, Bool, true, false, List, [], ◌∷◌, map, length, Option, None, Some, slice_get, slice_set, IsSomeAnd}
use Rattle.std.specs.Prelude.{nat_lt, IsTrue, ◌↔◌}
use Rattle.std.specs.Bool.{OnTrue, OnFalse}
use Rattle.std.specs.Option.{option_map}
use Rattle.std.proofs.lemmas.Option.{slice_get-map}
use Rattle.program_rules.specs.declared.value.Value.{Value}
use Rattle.program_rules.specs.Objects as objects
use Rattle.machine_rules.specs.State as def
use Rattle.machine_rules.specs.Fields.{with_values}
use Rattle.jvm_values.specs.declared.object.Object.{Object}
use Rattle.jvm_values.specs.Contents as heaps
use Rattle.class_link.specs.Info.{Info}
use Rattle.jvm_world.specs.declared.world.World.{World}
use Rattle.jvm_world.specs.View.{object_of, objects_of, world_of, Means, IsSet, SetsSlot}

pub objects_at :
    (p : List Info) (heap : heaps.Contents) (x : ℕ) →
    objects.object_at (objects_of p heap.objects) x
    ≡ option_map (object_of p) (heaps.object_at heap x)
objects_at p heap zero = refl
objects_at p heap (suc n) = slice_get-map (object_of p) heap.objects n

map_set :
    (p : List Info) (os : List Object) (n : ℕ) (o : Object) →
    map (object_of p) (slice_set os n o) ≡ slice_set (map (object_of p) os) n (object_of p o)
map_set p [] n o = refl
map_set p (y ∷ os) zero o = refl
map_set p (y ∷ os) (suc n) o = ap (λ t. object_of p y ∷ t) (map_set p os n o)

objects_set :
    (p : List Info) (heap : heaps.Contents) (x : ℕ) (o : Object) →
    objects_of p (heaps.with_object_at heap x o).objects
    ≡ objects.with_object_at (objects_of p heap.objects) x (object_of p o)
objects_set p heap zero o = refl
objects_set p heap (suc n) o = map_set p heap.objects n o

used_same :
    (heap : heaps.Contents) (x : ℕ) (o : Object) → (heaps.with_object_at heap x o).used ≡ heap.used
used_same heap zero o = refl
used_same heap (suc n) o = refl

pub limit_same :
    (heap : heaps.Contents) (x : ℕ) (o : Object) →
    (heaps.with_object_at heap x o).limit ≡ heap.limit
limit_same heap zero o = refl
limit_same heap (suc n) o = refl

pub some_at :
    {A : Type 0} (o : Option A) (P : A → Type 0) → IsSomeAnd o P → (x : A) × (o ≡ Some x) × P x
some_at None P h = absurd h
some_at (Some x) P h = (x, refl, h)

some_inside : {A : Type 0} (o : Option A) (x y : A) → o ≡ Some x → o ≡ Some y → x ≡ y
some_inside None x y a b = absurd cc
some_inside (Some z) x y a b = cc

-- A world with another heap.
abbrev with_heap : World → heaps.Contents → World
with_heap w heap = record w { heap = heap }

the_same :
    (p : List Info) (w : World) (x : ℕ) (o : Object) (v : def.World) (b : objects.Object) →
    heaps.object_at w.heap x ≡ Some o → Means p w v → objects.object_at v.heap x ≡ Some b →
    b ≡ object_of p o
unfolding world_of
the_same p w x o v b at m is =
    some_inside (objects.object_at v.heap x) b (object_of p o) is
    (ap (λ u. objects.object_at u.heap x) m.world ∙ objects_at p w.heap x
    ∙ ap (option_map (object_of p)) at)

set_world :
    (p : List Info) (w : World) (x slot : ℕ) (value : Value) (o : Object) (v : def.World) →
    (m : Means p w v) →
    with_values x (object_of p o) (slice_set o.values slot value) v
    ≡ world_of p (with_heap w (heaps.with_object_at w.heap x (heaps.with_value o slot value))) m.past
unfolding world_of
set_world p w x slot value o v m =
    let new : Object = heaps.with_value o slot value in
    ap (with_values x (object_of p o) (slice_set o.values slot value)) m.world
    ∙ (λ i. record (world_of p w m.past) {
      heap = sym (objects_set p w.heap x new) i;
      used = sym (used_same w.heap x new) i;
    })

set_means :
    (p : List Info) (w : World) (heap : heaps.Contents) (x slot : ℕ) (value : Value) (o : Object)
    (v : def.World) →
    heap ≡ heaps.with_object_at w.heap x (heaps.with_value o slot value) → Means p w v →
    Means p (with_heap w heap) (with_values x (object_of p o) (slice_set o.values slot value) v)
set_means p w heap x slot value o v e m =
    subst
    (λ h. Means p (with_heap w h)
    (with_values x (object_of p o) (slice_set o.values slot value) v))
    (sym e)
    (record {
      past = m.past;
      history = record {
        statics = m.history.statics;
        literals = m.history.literals;
        class_objects = m.history.class_objects;
        monitors = m.history.monitors;
      };
      world = set_world p w x slot value o v m;
    })

lt_true : (a b : ℕ) → a < b → nat_lt a b ≡ true
lt_true a b h = grind (arith, h)

lt_false : (a b : ℕ) → (a < b → ⊥) → nat_lt a b ≡ false
lt_false a b h = grind (arith, h)

set_there :
    (p : List Info) (w : World) (heap : heaps.Contents) (x slot : ℕ) (value : Value) →
    heaps.HasSlot w.heap x slot → heaps.SetsSlot w.heap heap x slot value →
    SetsSlot p w (with_heap w heap) x slot value true
set_there p w heap x slot value has sets = λ v b m is.
    let found = some_at (heaps.object_at w.heap x) _ sets in
    let o = found.0 in
    let fits = subst (λ t. IsSomeAnd t (λ u. slot < length u.values)) found.1 has in
    let same = the_same p w x o v b found.1 m is in
    subst (λ c. IsSet p (with_heap w heap) x slot value v c) (sym same)
    (record {
      there = lt_true slot (length o.values) fits;
      means = set_means p w heap x slot value o v found.2 m;
    })

has_slot :
    (p : List Info) (o : Option Object) (b : objects.Object) (slot : ℕ) →
    option_map (object_of p) o ≡ Some b → slot < length b.values →
    IsSomeAnd o (λ u. slot < length u.values)
has_slot p None b slot e lt = absurd cc
has_slot p (Some o) b slot e lt =
    let same : object_of p o ≡ b = cc in subst (λ c. slot < length c.values) (sym same) lt

set_absent :
    (p : List Info) (w : World) (heap : heaps.Contents) (x slot : ℕ) (value : Value) →
    (heaps.HasSlot w.heap x slot → ⊥) → SetsSlot p w (with_heap w heap) x slot value false
unfolding world_of
set_absent p w heap x slot value none = λ v b m is.
    let at = sym (ap (λ u. objects.object_at u.heap x) m.world ∙ objects_at p w.heap x) ∙ is in
    lt_false slot (length b.values) (λ lt. none (has_slot p (heaps.object_at w.heap x) b slot at lt))

untrue : IsTrue false → ⊥
untrue h = cc

pub sets_by :
    (p : List Info) (w : World) (heap : heaps.Contents) (x slot : ℕ) (value : Value) (done : Bool) →
    (IsTrue done ↔ heaps.HasSlot w.heap x slot) →
    OnTrue done (heaps.SetsSlot w.heap heap x slot value) →
    SetsSlot p w (with_heap w heap) x slot value done
sets_by p w heap x slot value true has sets = set_there p w heap x slot value (has.0 refl) sets
sets_by p w heap x slot value false has sets = set_absent p w heap x slot value (λ h. untrue (has.1 h))
