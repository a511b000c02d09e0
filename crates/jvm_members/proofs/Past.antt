-- Slots that no object has.
use Rattle.std.proofs.Common.{◌≡◌, ◌∙◌, sym, ap, refl, subst, arith, ℕ, zero, suc, ◌+◌, ◌<◌, ◌≤◌, ◌^◌, Bool, true, false, List, [], ◌∷◌, length, map, Option, None, Some, IfSome, slice_get, slice_set}
use Rattle.std.specs.Prelude.{nat_lt, if◌then◌else◌}
use Rattle.std.specs.Option.{option_map}
use Rattle.std.proofs.lemmas.Option.{slice_get_past}
use Rattle.std.proofs.lemmas.Bool.{le-ltb}
use Rattle.program_rules.specs.declared.value.Value.{Value}
use Rattle.program_rules.specs.declared.value.Value.TheVariants as value
use Rattle.program_rules.specs.Kinds.{Kind, is_of_kind, narrow_value}
use Rattle.program_rules.specs.Objects as objects
use Rattle.program_rules.specs.Resolution.{FieldAt}
use Rattle.machine_rules.specs.declared.machine.Limits.{Limits}
use Rattle.machine_rules.specs.State as def
use Rattle.machine_rules.specs.Effects.{Effect, NoRow, on_some, on_top, on_reference, on_kind, pushes, jumps}
use Rattle.machine_rules.specs.Lookups.{is_array, on_object_of}
use Rattle.machine_rules.specs.Fields.{on_owner, reads_field, writes_field, with_values}
use Rattle.class_link.specs.Info.{Info}
use Rattle.jvm_values.specs.declared.object.Object.{Object}
use Rattle.jvm_world.specs.declared.world.World.{World}
use Rattle.jvm_world.specs.View.{AreShort, IsWorldOf, Means, object_of, objects_of, world_of}

-- ---- operands

same_reference : (stack : List Value) (go to : Option ℕ → List Value → Effect) → ((o : Option ℕ) (rest : List Value) → go o rest ≡ to o rest) → on_reference stack go ≡ on_reference stack to
same_reference [] go to h = refl
same_reference (value.Int z ∷ rest) go to h = refl
same_reference (value.Long z ∷ rest) go to h = refl
same_reference (value.Ref x ∷ rest) go to h = h (Some x) rest
same_reference (value.Null ∷ rest) go to h = h None rest

by_kind : (b : Bool) (d e : Effect) → d ≡ e → (if b then d else NoRow) ≡ (if b then e else NoRow)
by_kind true d e h = h
by_kind false d e h = refl

same_kind : (k : Kind) (stack : List Value) (go to : Value → List Value → Effect) → ((v : Value) (rest : List Value) → go v rest ≡ to v rest) → on_kind k stack go ≡ on_kind k stack to
same_kind k [] go to h = refl
same_kind k (v ∷ rest) go to h = by_kind (is_of_kind k v) (go v rest) (to v rest) (h v rest)

same_some : {A : Type 0} (o : Option A) (go to : A → Effect) → ((x : A) → o ≡ Some x → go x ≡ to x) → on_some o go ≡ on_some o to
same_some None go to h = refl
same_some (Some x) go to h = h x refl

by_array : (b : Bool) (d e : Effect) → d ≡ e → (if b then NoRow else d) ≡ (if b then NoRow else e)
by_array true d e h = refl
by_array false d e h = h

same_owner : (q : Limits) (v : def.World) (f : def.Frame) (fs : List def.Frame) (o : Option ℕ) (go to : ℕ → objects.Object → Effect) → ((n : ℕ) (b : objects.Object) → objects.object_at v.heap n ≡ Some b → go n b ≡ to n b) → on_owner q v f fs o go ≡ on_owner q v f fs o to
same_owner q v f fs None go to h = refl
same_owner q v f fs (Some n) go to h =
    same_some (objects.object_at v.heap n) (λ b. if is_array b.kind then NoRow else go n b) (λ b. if is_array b.kind then NoRow else to n b)
    (λ b is. by_array (is_array b.kind) (go n b) (to n b) (h n b is))

-- ---- objects are short

short_at : (p : List Info) (os : List Object) (n : ℕ) (b : objects.Object) → AreShort os → slice_get (map (object_of p) os) n ≡ Some b → length b.values < 2 ^ 31
short_at p [] zero b h e = absurd cc
short_at p [] (suc n) b h e = absurd cc
short_at p (o ∷ os) zero b h e = let same : object_of p o ≡ b = cc in subst (λ (t : objects.Object). length t.values < 2 ^ 31) same h.0
short_at p (o ∷ os) (suc n) b h e = short_at p os n b h.1 e

short_in : (p : List Info) (os : List Object) (n : ℕ) (b : objects.Object) → AreShort os → objects.object_at (objects_of p os) n ≡ Some b → length b.values < 2 ^ 31
short_in p os zero b h e = absurd cc
short_in p os (suc n) b h e = short_at p os n b h e

heap_is : (p : List Info) (w : World) (v : def.World) → Means p w v → v.heap ≡ objects_of p w.heap.objects
unfolding world_of
heap_is p w v m = ap (λ (z : def.World). z.heap) m.world

short_object : (p : List Info) (w : World) (v : def.World) (n : ℕ) (b : objects.Object) → IsWorldOf p w → Means p w v → objects.object_at v.heap n ≡ Some b → length b.values < 2 ^ 31
short_object p w v n b is m e =
    short_in p w.heap.objects n b is.lengths (subst (λ h. objects.object_at h n ≡ Some b) (heap_is p w v m) e)

-- ---- such slots are the same

-- A field with another slot.
abbrev pub at_slot : ℕ → FieldAt → FieldAt
at_slot slot x = record x { slot = slot }

module _ (p : List Info) (w : World) (q : Limits) (v : def.World) (f : def.Frame) (fs : List def.Frame) (room slot : ℕ) (x : FieldAt) (is : IsWorldOf p w) (m : Means p w v) (past : 2 ^ 31 ≤ slot) (beyond : 2 ^ 31 ≤ x.slot) where
  none_there : (values : List Value) → length values < 2 ^ 31 → slice_get values x.slot ≡ slice_get values slot
  none_there values lt =
      slice_get_past values x.slot (omega (arith, lt, beyond)) ∙ sym (slice_get_past values slot (omega (arith, lt, past)))

  pub reads_past : reads_field q v f fs room x ≡ reads_field q v f fs room (at_slot slot x)
  reads_past =
      same_reference f.stack
      (λ o rest. on_owner q v f fs o (λ n b. on_some (slice_get b.values x.slot) (λ a. pushes v f fs room a rest)))
      (λ o rest. on_owner q v f fs o (λ n b. on_some (slice_get b.values slot) (λ a. pushes v f fs room a rest)))
      (λ o rest. same_owner q v f fs o
      (λ n b. on_some (slice_get b.values x.slot) (λ a. pushes v f fs room a rest))
      (λ n b. on_some (slice_get b.values slot) (λ a. pushes v f fs room a rest))
      (λ n b there. ap (λ s. on_some s (λ a. pushes v f fs room a rest)) (none_there b.values (short_object p w v n b is m there))))

  not_below : (values : List Value) (n : ℕ) → length values < 2 ^ 31 → 2 ^ 31 ≤ n → nat_lt n (length values) ≡ false
  not_below values n lt h = le-ltb n (length values) (omega (arith, lt, h))

  -- what is stored in a slot, if it is there
  abbrev stored : List Value → Value → ℕ → objects.Object → ℕ → Effect
  stored below a n b at =
      if nat_lt at (length b.values)
      then jumps (with_values n b (slice_set b.values at (narrow_value x.kind a)) v) f fs (f.at + 1) below
      else NoRow

  none_stored : (below : List Value) (a : Value) (n : ℕ) (b : objects.Object) (at : ℕ) → length b.values < 2 ^ 31 → 2 ^ 31 ≤ at → stored below a n b at ≡ NoRow
  none_stored below a n b at lt h =
      ap (λ t. if t then jumps (with_values n b (slice_set b.values at (narrow_value x.kind a)) v) f fs (f.at + 1) below else NoRow)
      (not_below b.values at lt h)

  pub writes_past : writes_field q v f fs x ≡ writes_field q v f fs (at_slot slot x)
  writes_past =
      same_kind x.kind f.stack
      (λ a rest. on_reference rest (λ o below. on_owner q v f fs o (λ n b. stored below a n b x.slot)))
      (λ a rest. on_reference rest (λ o below. on_owner q v f fs o (λ n b. stored below a n b slot)))
      (λ a rest. same_reference rest
      (λ o below. on_owner q v f fs o (λ n b. stored below a n b x.slot))
      (λ o below. on_owner q v f fs o (λ n b. stored below a n b slot))
      (λ o below. same_owner q v f fs o (λ n b. stored below a n b x.slot) (λ n b. stored below a n b slot)
      (λ n b there.
      let lt = short_object p w v n b is m there in
      none_stored below a n b x.slot lt beyond ∙ sym (none_stored below a n b slot lt past))))
