-- An array is copied.
use Rattle.std.proofs.Common.{◌≡◌, ◌∙◌, sym, refl, ap, subst, arith, ℕ, zero, suc, ◌+◌, ◌<◌, ◌≤◌, List, [], ◌∷◌, map, drop, take, reverse, length, Option, Some, None, IfSome, IsSomeAnd, slice_get}
use Rattle.std.specs.Prelude.{◌^◌}
use Rattle.std.specs.Option.{option_map}
use Rattle.std.proofs.lemmas.List.{length-reverse, length-take-le}
use Rattle.program_rules.specs.declared.value.Value.{Value}
use Rattle.program_rules.specs.declared.value.Value.TheVariants.{Int, Long, Ref, Null}
use Rattle.program_rules.specs.Instructions.{MethodRef}
use Rattle.program_rules.specs.Kinds.{Kind}
use Rattle.program_rules.specs.Objects as objects
use Rattle.machine_rules.specs.declared.machine.Limits.{Limits}
use Rattle.machine_rules.specs.State as def
use Rattle.machine_rules.specs.Effects.{Effect, NoRow, on_some, allocate, pushes, unless_full}
use Rattle.machine_rules.specs.Arrays.{array_kind, copies}
use Rattle.machine_rules.specs.NewObjects.{array_of}
use Rattle.class_link.specs.Info.{Info}
use Rattle.jvm_values.specs.Contents as heaps
use Rattle.jvm_values.specs.declared.object.Object.{Object}
use Rattle.jvm_frames.specs.Frames.{NumberedFrame, NumberedFrames, AreArgs, HasWords, args_on, stack_of}
use Rattle.jvm_world.specs.declared.world.World.{World}
use Rattle.jvm_world.specs.View.{Means, IsWorldOf, AreShort, Allocates, objects_of, object_of}
use Rattle.jvm_world.proofs.Slots.{objects_at}
use Rattle.jvm_rows.proofs.Ends.{if_some, if_both}
use Rattle.jvm_unwind.specs.declared.turn.Turn.{Turn}
use Rattle.jvm_unwind.specs.declared.turn.Turn.TheVariants as turn
use Rattle.jvm_unwind.specs.Turns.{frame_of, row_at}
use Rattle.jvm_invokes.specs.declared.invoked.Invoked.TheVariants.{Turned}
use Rattle.jvm_invokes.specs.Invoked.{InvokedTo, Invokes}
use Rattle.jvm_invokes.proofs.Outcomes.{LeftTo, after, left_same}
use Rattle.jvm_invokes.proofs.Standing.{args_at}
use Rattle.jvm_natives.specs.Copies.{IsCopy, TellsCopy, copy_in, copy_made, sole}
use Rattle.jvm_natives.specs.Ends.{without, copying, making}
use Rattle.jvm_natives.proofs.Stores.{heap_is}

-- ---- the argument

sole_first : (vs : List Value) (o : Option Value) (v : Value) → 1 ≤ length vs → o ≡ Some v → o ≡ slice_get vs 0 → sole (args_on 1 vs) ≡ sole (v ∷ [])
sole_first [] o v le e h = absurd (omega arith)
sole_first (x ∷ vs) o v le e h = let same : x ≡ v = cc in ap (λ t. sole (t ∷ [])) same

sole_on : (s : Option NumberedFrame) (count words : ℕ) (o : Option Value) (v : Value) (x : Option ℕ) → IsSomeAnd s (λ f. AreArgs count words f.stack) → count ≡ 1 → o ≡ Some v → o ≡ slice_get (stack_of s) 0 → sole (v ∷ []) ≡ x → IfSome s (λ f. sole (args_on count f.stack) ≡ x)
sole_on None count words o v x h e is there k = tt
sole_on (Some f) count words o v x h e is there k =
    ap (λ n. sole (args_on n f.stack)) e
    ∙ sole_first f.stack o v (subst (λ n. n ≤ length f.stack) e h.count) is there ∙ k

pub sole_at : (s : NumberedFrames) (count words : ℕ) (o : Option Value) (v : Value) (x : Option ℕ) → HasWords count words s → count ≡ 1 → o ≡ Some v → o ≡ slice_get (stack_of s.frame) 0 → sole (v ∷ []) ≡ x → IfSome s.frame (λ f. sole (args_on count f.stack) ≡ x)
sole_at s count words o v x h e is there k = sole_on s.frame count words o v x h e is there k

sole_count : (vs : List Value) → (length vs ≡ 1 → ⊥) → sole vs ≡ None
sole_count [] h = refl
sole_count (Int z ∷ vs) h = refl
sole_count (Long z ∷ vs) h = refl
sole_count (Ref x ∷ []) h = absurd (h refl)
sole_count (Ref x ∷ v ∷ vs) h = refl
sole_count (Null ∷ vs) h = refl

count_of : (count : ℕ) (vs : List Value) → count ≤ length vs → length (args_on count vs) ≡ count
count_of count vs le = length-reverse (take count vs) ∙ length-take-le count vs le

pub not_sole : (s : NumberedFrames) (count words : ℕ) → HasWords count words s → (count ≡ 1 → ⊥) → IfSome s.frame (λ f. sole (args_on count f.stack) ≡ None)
not_sole s count words h none =
    args_at s.frame (λ f. AreArgs count words f.stack) (λ f. sole (args_on count f.stack) ≡ None) h
    (λ f k. sole_count (args_on count f.stack) (λ e. none (sym (count_of count f.stack k.count) ∙ e)))

none_there : (s : Option NumberedFrame) (count words : ℕ) (o : Option Value) → IsSomeAnd s (λ f. AreArgs count words f.stack) → count ≡ 1 → o ≡ None → o ≡ slice_get (stack_of s) 0 → ⊥
none_there None count words o h e is there = absurd h
none_there (Some f) count words o h e is there = first f.stack (subst (λ n. n ≤ length f.stack) e h.count) (sym is ∙ there)
  where
    first : (vs : List Value) → 1 ≤ length vs → None ≡ slice_get vs 0 → ⊥
    first [] le k = omega (arith, le)
    first (v ∷ vs) le k = absurd cc

pub no_value : (s : NumberedFrames) (count words : ℕ) (o : Option Value) → HasWords count words s → count ≡ 1 → o ≡ None → o ≡ slice_get (stack_of s.frame) 0 → IfSome s.frame (λ f. sole (args_on count f.stack) ≡ None)
no_value s count words o h e is there = absurd (none_there s.frame count words o h e is there)

-- ---- the object

pub copy_at : (p : List Info) (w : World) (x : ℕ) (o : Object) (c : Option Object) → heaps.object_at w.heap x ≡ Some o → IsCopy o c → TellsCopy p w x c
copy_at p w x o c there h v m =
    ap (λ hs. copy_in (objects.object_at hs x)) (heap_is p w v m)
    ∙ ap copy_in (objects_at p w.heap x)
    ∙ ap (λ k. copy_in (option_map (object_of p) k)) there
    ∙ h p

pub none_at : (p : List Info) (w : World) (x : ℕ) → heaps.object_at w.heap x ≡ None → TellsCopy p w x None
none_at p w x there v m =
    ap (λ hs. copy_in (objects.object_at hs x)) (heap_is p w v m)
    ∙ ap copy_in (objects_at p w.heap x)
    ∙ ap (λ k. copy_in (option_map (object_of p) k)) there

short_at : (os : List Object) (n : ℕ) (o : Object) → AreShort os → slice_get os n ≡ Some o → length o.values < 2 ^ 31
short_at [] zero o h e = absurd cc
short_at [] (suc n) o h e = absurd cc
short_at (x ∷ os) zero o h e = let same : x ≡ o = cc in subst (λ (t : Object). length t.values < 2 ^ 31) same h.0
short_at (x ∷ os) (suc n) o h e = short_at os n o h.1 e

short_in : (heap : heaps.Contents) (x : ℕ) (o : Object) → AreShort heap.objects → heaps.object_at heap x ≡ Some o → length o.values < 2 ^ 31
short_in heap zero o h e = absurd cc
short_in heap (suc n) o h e = short_at heap.objects n o h e

pub few_at : (p : List Info) (w : World) (x : ℕ) (o : Object) (c : Option Object) → IsWorldOf p w → heaps.object_at w.heap x ≡ Some o → IfSome c (λ t. length t.values ≡ length o.values) → IfSome c (λ t. length t.values < 2 ^ 31)
few_at p w x o c h there same =
    if_some c (λ t. length t.values ≡ length o.values) (λ t. length t.values < 2 ^ 31)
    (λ t e. subst (λ n. n < 2 ^ 31) (sym e) (short_in w.heap x o h.lengths there)) same

-- ---- the row

module _ (q : Limits) (z : def.World) (f : def.Frame) (fs : List def.Frame) (room : ℕ) where
  -- The making of an array like this one.
  abbrev gives : objects.Object → Effect
  gives a =
      unless_full z (f ∷ fs) (allocate q z a (2 + length a.values))
      (λ b. pushes b.0 f fs room (Ref b.1) f.stack)

  by_kind : (b : objects.Object) (k : Option Kind) → on_some k (λ t. gives (array_of t b.values)) ≡ on_some (option_map (λ t. array_of t b.values) k) gives
  by_kind b None = refl
  by_kind b (Some t) = refl

  by_object : (o : Option objects.Object) → on_some o (λ b. on_some (array_kind b.kind) (λ t. gives (array_of t b.values))) ≡ on_some (copy_in o) gives
  by_object None = refl
  by_object (Some b) = by_kind b (array_kind b.kind)

  by_args : (args : List Value) → copies q z f fs room args ≡ on_some (sole args) (λ x. on_some (copy_in (objects.object_at z.heap x)) gives)
  by_args [] = refl
  by_args (Int n ∷ vs) = refl
  by_args (Long n ∷ vs) = refl
  by_args (Ref x ∷ []) = by_object (objects.object_at z.heap x)
  by_args (Ref x ∷ v ∷ vs) = refl
  by_args (Null ∷ vs) = refl

-- What is left of it.
abbrev copies_at : List Info → World → ℕ → Option ℕ → NumberedFrame → NumberedFrames → def.World → Effect
copies_at p w count o f old z =
    on_some o (λ x. on_some (copy_in (objects.object_at z.heap x))
    (gives w.limits z (without count (frame_of p f)) (map (frame_of p) old.callers) f.room))

row_is : (p : List Info) (w : World) (count : ℕ) (o : Option ℕ) (f : NumberedFrame) (old : NumberedFrames) (z : def.World) → sole (args_on count f.stack) ≡ o → row_at p (copying count w.limits f.room) f old z ≡ copies_at p w count o f old z
row_is p w count o f old z e =
    by_args w.limits z (without count (frame_of p f)) (map (frame_of p) old.callers) f.room (args_on count f.stack)
    ∙ ap (λ k. copies_at p w count k f old z) e

pub no_array : (p : List Info) (r : MethodRef) (w : World) (count : ℕ) (o : Option ℕ) (old : NumberedFrames) → IfSome old.frame (λ f. sole (args_on count f.stack) ≡ o) → o ≡ None → Invokes p r (copying count) (Turned turn.NoRow) old old w w
no_array p r w count o old h e =
    if_some old.frame (λ f. sole (args_on count f.stack) ≡ o)
    (λ f. (z : def.World) → Means p w z → InvokedTo p w.limits r (Turned turn.NoRow) f old old w (row_at p (copying count w.limits f.room) f old z))
    (λ f k z m. (row_is p w count None f old z (k ∙ e), refl)) h

-- What goes on with the copy.
abbrev copied_at : List Info → World → ℕ → Option objects.Object → NumberedFrame → NumberedFrames → def.World → Effect
copied_at p w count c f old z =
    on_some c (gives w.limits z (without count (frame_of p f)) (map (frame_of p) old.callers) f.room)

copy_is : (p : List Info) (w : World) (count x : ℕ) (o : Option ℕ) (c : Option Object) (f : NumberedFrame) (old : NumberedFrames) (z : def.World) → Means p w z → sole (args_on count f.stack) ≡ o → o ≡ Some x → TellsCopy p w x c → row_at p (copying count w.limits f.room) f old z ≡ copied_at p w count (option_map (object_of p) c) f old z
copy_is p w count x o c f old z m k e tells =
    row_is p w count (Some x) f old z (k ∙ e)
    ∙ ap (λ t. copied_at p w count t f old z) (tells z m)

pub no_copy : (p : List Info) (r : MethodRef) (w : World) (count x : ℕ) (c : Option Object) (old : NumberedFrames) → IfSome old.frame (λ f. sole (args_on count f.stack) ≡ Some x) → TellsCopy p w x c → c ≡ None → Invokes p r (copying count) (Turned turn.NoRow) old old w w
no_copy p r w count x c old h tells none =
    if_some old.frame (λ f. sole (args_on count f.stack) ≡ Some x)
    (λ f. (z : def.World) → Means p w z → InvokedTo p w.limits r (Turned turn.NoRow) f old old w (row_at p (copying count w.limits f.room) f old z))
    (λ f k z m. (copy_is p w count x (Some x) c f old z m k refl tells ∙ ap (λ t. copied_at p w count (option_map (object_of p) t) f old z) none, refl)) h

pub copied : (p : List Info) (r : MethodRef) (w u : World) (count x : ℕ) (c : Option Object) (t : Object) (k : Turn) (old new : NumberedFrames) → IfSome old.frame (λ f. sole (args_on count f.stack) ≡ Some x) → TellsCopy p w x c → c ≡ Some t → Invokes p r (making count (copy_made p t)) (Turned k) old new w u → Invokes p r (copying count) (Turned k) old new w u
copied p r w u count x c t k old new h tells is row =
    after p r (copying count) (making count (copy_made p t)) (Turned k) old new w w u refl
    (left_same p (copying count) (making count (copy_made p t)) old w
    (if_some old.frame (λ f. sole (args_on count f.stack) ≡ Some x)
    (λ f. (z : def.World) → Means p w z → row_at p (copying count w.limits f.room) f old z ≡ row_at p (making count (copy_made p t) w.limits f.room) f old z)
    (λ f s z m.
    copy_is p w count x (Some x) c f old z m s refl tells
    ∙ ap (λ b. copied_at p w count (option_map (object_of p) b) f old z) is) h)) row

pub words_are : (n : ℕ) → 1 + (1 + n) ≡ 2 + n
words_are n = omega arith

pub sole_is : (s : NumberedFrames) (count x : ℕ) (o : Option ℕ) → IfSome s.frame (λ f. sole (args_on count f.stack) ≡ o) → o ≡ Some x → IfSome s.frame (λ f. sole (args_on count f.stack) ≡ Some x)
sole_is s count x o h e =
    if_some s.frame (λ f. sole (args_on count f.stack) ≡ o) (λ f. sole (args_on count f.stack) ≡ Some x)
    (λ f k. k ∙ e) h
