-- Objects have fewer slots than an int counts, and the length of an array.
use Rattle.std.proofs.Common.{◌≡◌, ◌∙◌, sym, ap, refl, subst, arith, ℕ, zero, suc, ◌<◌, ◌+◌, List, [], ◌∷◌, ◌++◌, length, Option, None, Some, IfSome, slice_get, slice_set}
use Rattle.std.specs.Bool.{OnTrue, OnFalse}
use Rattle.std.specs.Prelude.{◌^◌, ◌≤◌, ℤ, Bool, true, false, nat_le, replicate, IfNone}
use Rattle.std.proofs.lemmas.Bool.Decides.{nat_tests}
use Rattle.std.specs.Option.{option_map}
use Rattle.program_rules.specs.declared.value.Value.{Value}
use Rattle.jvm_values.specs.declared.object.Object.{Object}
use Rattle.jvm_values.specs.Contents as heaps
use Rattle.program_rules.specs.Objects as objects
use Rattle.class_link.specs.Info.{Info}
use Rattle.jvm_world.specs.declared.world.World.{World}
use Rattle.jvm_world.specs.View.{AreShort, IsWorldOf, IsKept, IsObjectIn, TellsLength, length_in, object_of, world_of}
use Rattle.jvm_world.proofs.Slots.{objects_at, limit_same, some_at}

pub short_added : (os : List Object) (o : Object) → AreShort os → length o.values < 2 ^ 31 → AreShort (os ++ o ∷ [])
short_added [] o h lt = (lt, tt)
short_added (x ∷ os) o h lt = (h.0, short_added os o h.1 lt)

short_set : (os : List Object) (n : ℕ) (o : Object) → AreShort os → length o.values < 2 ^ 31 → AreShort (slice_set os n o)
short_set [] zero o h lt = h
short_set [] (suc n) o h lt = h
short_set (x ∷ os) zero o h lt = (lt, h.1)
short_set (x ∷ os) (suc n) o h lt = (h.0, short_set os n o h.1 lt)

short_at : (os : List Object) (n : ℕ) (o : Object) → AreShort os → slice_get os n ≡ Some o → length o.values < 2 ^ 31
short_at [] zero o h e = absurd cc
short_at [] (suc n) o h e = absurd cc
short_at (x ∷ os) zero o h e = let same : x ≡ o = cc in subst (λ t. length t.values < 2 ^ 31) same h.0
short_at (x ∷ os) (suc n) o h e = short_at os n o h.1 e

pub short_in : (heap : heaps.Contents) (x : ℕ) (o : Object) → AreShort heap.objects → heaps.object_at heap x ≡ Some o → length o.values < 2 ^ 31
short_in heap zero o h e = absurd cc
short_in heap (suc n) o h e = short_at heap.objects n o h e

same_count : (vs : List Value) (n : ℕ) (v : Value) → length (slice_set vs n v) ≡ length vs
same_count [] zero v = refl
same_count [] (suc n) v = refl
same_count (x ∷ vs) zero v = refl
same_count (x ∷ vs) (suc n) v = ap (λ k. suc k) (same_count vs n v)

-- The heap with a value in a slot of an object.
pub short_with : (heap : heaps.Contents) (x : ℕ) (o : Object) (slot : ℕ) (v : Value) → AreShort heap.objects → heaps.object_at heap x ≡ Some o → AreShort (heaps.with_object_at heap x (heaps.with_value o slot v)).objects
short_with heap zero o slot v h e = h
short_with heap (suc n) o slot v h e = short_set heap.objects n (heaps.with_value o slot v) h (subst (λ k. k < 2 ^ 31) (sym (same_count o.values slot v)) (short_at heap.objects n o h e))

-- ---- a new object

-- The world with an object more.
pub kept_with : (p : List Info) (w : World) (heap : heaps.Contents) (o : Object) (words : ℕ) → IsWorldOf p w → heap ≡ heaps.with_object w.heap o words → length o.values < 2 ^ 31 → IsKept p w (record w { heap = heap })
kept_with p w heap o words h e lt = record {
  world = record {
    program = h.program;
    limit = ap (λ (c : heaps.Contents). c.limit) e ∙ h.limit;
    small = h.small;
    lengths = subst (λ (c : heaps.Contents). AreShort c.objects) (sym e) (short_added w.heap.objects o h.lengths lt);
    begun = h.begun;
    consulted = h.consulted;
    reached = h.reached;
    classes = h.classes;
  };
  limits = refl;
}

short_len : (limit used len : ℕ) → limit < 2 ^ 31 → (limit < used + (2 + len) → ⊥) → len < 2 ^ 31
short_len limit used len s h = grind (arith, s, h)

short_fit : (limit used words len : ℕ) → limit < 2 ^ 31 → nat_le (used + words) limit ≡ true → len ≤ words → len < 2 ^ 31
short_fit limit used words len s e l = grind (arith, nat_tests, s, e, l)

-- An object that is within the limit, each slot of which takes a word.
pub short_object : (p : List Info) (w : World) (o : Object) (words : ℕ) → IsWorldOf p w → heaps.fits_with w.heap words ≡ true → length o.values ≤ words → length o.values < 2 ^ 31
short_object p w o words h e l =
    short_fit w.heap.limit w.heap.used words (length o.values) (subst (λ k. k < 2 ^ 31) (sym h.limit) h.small) e l

replicated : (n : ℕ) (v : Value) → length (replicate n v) ≡ n
replicated zero v = refl
replicated (suc n) v = ap (λ k. suc k) (replicated n v)

-- An array that is within the limit of the heap.
pub short_array : (p : List Info) (w : World) (len : ℕ) (v : Value) → IsWorldOf p w → (heaps.IsPassedBy w.heap (2 + len) → ⊥) → length (replicate len v) < 2 ^ 31
short_array p w len v h fits =
    subst (λ k. k < 2 ^ 31) (sym (replicated len v))
    (short_len w.heap.limit w.heap.used len (subst (λ k. k < 2 ^ 31) (sym h.limit) h.small) fits)

-- The world with a value in a slot of an object.
pub kept_set : (p : List Info) (w : World) (heap : heaps.Contents) (x slot : ℕ) (value : Value) (done : Bool) → IsWorldOf p w → OnTrue done (heaps.SetsSlot w.heap heap x slot value) → OnFalse done (heap ≡ w.heap) → IsKept p w (record w { heap = heap })
kept_set p w heap x slot value true h sets none =
    let found = some_at (heaps.object_at w.heap x) _ sets in
    let o : Object = found.0 in
    let new : Object = heaps.with_value o slot value in
    record {
      world = record {
        program = h.program;
        limit = ap (λ (c : heaps.Contents). c.limit) found.2 ∙ limit_same w.heap x new ∙ h.limit;
        small = h.small;
        lengths = subst (λ (c : heaps.Contents). AreShort c.objects) (sym found.2) (short_with w.heap x o slot value h.lengths found.1);
        begun = h.begun;
        consulted = h.consulted;
        reached = h.reached;
        classes = h.classes;
      };
      limits = refl;
    }
kept_set p w heap x slot value false h sets none = record {
  world = record {
    program = h.program;
    limit = ap (λ (c : heaps.Contents). c.limit) none ∙ h.limit;
    small = h.small;
    lengths = subst (λ (c : heaps.Contents). AreShort c.objects) (sym none) h.lengths;
    begun = h.begun;
    consulted = h.consulted;
    reached = h.reached;
    classes = h.classes;
  };
  limits = refl;
}

pub short_empty : 0 < 2 ^ 31
short_empty = omega arith

-- ---- the length of an array

pub object_is : (p : List Info) (w : World) (x : ℕ) (o : Option Object) → o ≡ heaps.object_at w.heap x → IsObjectIn p w x o
unfolding world_of
object_is p w x o e = λ v m.
    ap (λ u. objects.object_at u.heap x) m.world ∙ objects_at p w.heap x ∙ ap (option_map (object_of p)) (sym e)

pub tells_some : (p : List Info) (w : World) (x : ℕ) (o : Object) (r : Option ℤ) → Some o ≡ heaps.object_at w.heap x → IfSome r (λ n. (q : List Info) → length_in (Some (object_of q o)) ≡ Some n) → IfSome r (λ n. TellsLength p w x (Some n))
tells_some p w x o None e h = tt
tells_some p w x o (Some n) e h = λ v m. ap length_in (object_is p w x (Some o) e v m) ∙ h p

pub tells_none : (p : List Info) (w : World) (x : ℕ) (o : Object) (r : Option ℤ) → Some o ≡ heaps.object_at w.heap x → IfNone r ((q : List Info) → length_in (Some (object_of q o)) ≡ None) → IfNone r (TellsLength p w x None)
tells_none p w x o None e h = λ v m. ap length_in (object_is p w x (Some o) e v m) ∙ h p
tells_none p w x o (Some n) e h = tt
