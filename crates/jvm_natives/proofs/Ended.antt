-- How the call of a native method ends.
use Rattle.std.proofs.Common.{◌≡◌, ◌∙◌, sym, refl, ap, subst, ℕ, ◌+◌, Bool, true, false, List, [], ◌∷◌, ◌++◌, map, drop, length, Option, Some, None, IfSome, IsSomeAnd}
use Rattle.std.specs.Prelude.{if◌then◌else◌, nat_le}
use Rattle.std.specs.Option.{option_map}
use Rattle.program_rules.specs.declared.value.Value.{Value}
use Rattle.program_rules.specs.declared.value.Value.TheVariants.{Ref}
use Rattle.program_rules.specs.declared.fault.Fault.{Fault}
use Rattle.program_rules.specs.Instructions.{MethodRef}
use Rattle.program_rules.specs.Names.{Name}
use Rattle.program_rules.specs.Objects.{Object, object_at}
use Rattle.machine_rules.specs.declared.machine.Limits.{Limits}
use Rattle.machine_rules.specs.State as def
use Rattle.machine_rules.specs.Effects.{Effect, NoRow, on_some, pushes, throws, unless_full}
use Rattle.machine_rules.specs.Lookups.{known_of, is_instance}
use Rattle.machine_rules.specs.NewObjects.{made_for, class_or, class_object, with_class_object, object_of_class}
use Rattle.machine_rules.specs.Performing.{Returns, HeapFull, perform_class, with_class}
use Rattle.machine_rules.specs.Calls.{ends_native, goes_on}
use Rattle.class_link.specs.Info.{Info}
use Rattle.class_table.specs.Table.{look}
use Rattle.jvm_state.specs.Rows.{Row}
use Rattle.jvm_frames.specs.Frames.{NumberedFrame, NumberedFrames}
use Rattle.jvm_world.specs.declared.world.World.{World}
use Rattle.jvm_world.specs.View.{Means}
use Rattle.jvm_rows.specs.Effects.{RowOf}
use Rattle.jvm_rows.proofs.Ends.{each}
use Rattle.jvm_type_rows.specs.Instances.{TellsInstance, instance_in}
use Rattle.jvm_unwind.specs.declared.turn.Turn.{Turn}
use Rattle.jvm_unwind.specs.declared.turn.Turn.TheVariants as turn
use Rattle.jvm_unwind.specs.Turns.{frame_of, row_at, Turns}
use Rattle.jvm_invokes.specs.declared.invoked.Invoked.TheVariants.{Turned}
use Rattle.jvm_invokes.specs.Calls.{throws_cut}
use Rattle.jvm_invokes.specs.Invoked.{InvokedTo, Invokes}
use Rattle.jvm_invokes.proofs.Outcomes.{LeftTo, after, left_same, turned}
use Rattle.lib_core.specs.declared.performing.NativeEnd.TheVariants as end
use Rattle.jvm_natives.specs.Ends.{without, ending, giving, making}

pub returned : (p : List Info) (r : MethodRef) (count : ℕ) (v : Option Value) (t : Turn) (old new : NumberedFrames) (w : World) → Invokes p r (giving count v) (Turned t) old new w w → Invokes p r (ending p count (end.Returns v)) (Turned t) old new w w
returned p r count v t old new w h = h

pub no_end : (p : List Info) (r : MethodRef) (count : ℕ) (old : NumberedFrames) (w : World) → Invokes p r (ending p count end.NoResult) (Turned turn.NoRow) old old w w
no_end p r count old w =
    each old.frame (λ f. (z : def.World) → Means p w z → InvokedTo p w.limits r (Turned turn.NoRow) f old old w (row_at p (ending p count end.NoResult w.limits f.room) f old z))
    (λ f z m. (refl, refl))

pub raised : (p : List Info) (r : MethodRef) (count : ℕ) (fault : Fault) (t : Turn) (old new : NumberedFrames) (w u : World) → Turns p (throws_cut count fault w.limits) t old new w u → Invokes p r (ending p count (end.Raises fault)) (Turned t) old new w u
raised p r count fault t old new w u h =
    turned p r (ending p count (end.Raises fault)) (throws_cut count fault w.limits) t old new w u
    (each old.frame (λ f. (z : def.World) → row_at p (ending p count (end.Raises fault) w.limits f.room) f old z ≡ row_at p (throws_cut count fault w.limits) f old z)
    (λ f z. refl)) h

-- A row that is the same as another one.
abbrev AreAlike : List Info → RowOf → RowOf → NumberedFrames → World → Type 0
AreAlike p row other old w =
    (f : NumberedFrame) (z : def.World) → Means p w z →
    row_at p (row w.limits f.room) f old z ≡ row_at p (other w.limits f.room) f old z

pub alike : (p : List Info) (r : MethodRef) (row other : RowOf) (t : Turn) (old new : NumberedFrames) (w u : World) → AreAlike p row other old w → Invokes p r other (Turned t) old new w u → Invokes p r row (Turned t) old new w u
alike p r row other t old new w u same h =
    after p r row other (Turned t) old new w w u refl
    (left_same p row other old w
    (each old.frame (λ f. (z : def.World) → Means p w z → row_at p (row w.limits f.room) f old z ≡ row_at p (other w.limits f.room) f old z) same)) h

-- ---- the object of a class

module _ (p : List Info) (q : Limits) (z : def.World) (f : def.Frame) (fs : List def.Frame) (room : ℕ) (n : Name) where
  -- What goes on with it, over a frame whose arguments were taken.
  abbrev gives : def.World × ℕ → Effect
  gives a = pushes a.0 f fs room (Ref a.1) f.stack

  class_new : (b : Bool) → ends_native (look p) q z f fs room (if b then Returns (with_class z n) (Some (Ref (length z.heap + 1))) else HeapFull) ≡ unless_full z (f ∷ fs) (with_class_object n (if b then Some (record z { heap = z.heap ++ class_object n ∷ []; used = z.used + 3 }, length z.heap + 1) else None)) gives
  class_new true = refl
  class_new false = refl

  class_by : (o : Option ℕ) → ends_native (look p) q z f fs room (perform_class q.heap z n o) ≡ unless_full z (f ∷ fs) (class_or q z n o) gives
  class_by (Some x) = refl
  class_by None = class_new (nat_le (z.used + 3) q.heap)

-- The making of the object of a class.
abbrev pub class_made : Name → Limits → def.World → Option (def.World × ℕ)
class_made n q z = object_of_class q z n

pub class_given : (p : List Info) (r : MethodRef) (count : ℕ) (n : Name) (t : Turn) (old new : NumberedFrames) (w u : World) → Invokes p r (making count (class_made n)) (Turned t) old new w u → Invokes p r (ending p count (end.ReturnsClass n)) (Turned t) old new w u
class_given p r count n t old new w u h =
    alike p r (ending p count (end.ReturnsClass n)) (making count (class_made n)) t old new w u
    (λ f z m. class_by p w.limits z (without count (frame_of p f)) (map (frame_of p) old.callers) f.room n (made_for n z.class_objects)) h

-- ---- whether an object is within a class

abbrev by_answer : Option Bool → Effect → Effect → Effect
by_answer is yes_row no_row = on_some is (λ b. if b then yes_row else no_row)

within_by : (p : List Info) (n : Name) (o : Option Object) (is : Option Bool) (a b : Effect) → instance_in p n o ≡ is → on_some o (λ x. if is_instance (known_of (look p) x) n then a else b) ≡ by_answer is a b
within_by p n None is a b e = ap (λ k. by_answer k a b) e
within_by p n (Some x) is a b e = ap (λ k. by_answer k a b) e

within_is : (p : List Info) (count x : ℕ) (n : Name) (v : Value) (fault : Fault) (is : Option Bool) (old : NumberedFrames) (w : World) → TellsInstance p w x n is → (f : NumberedFrame) (z : def.World) → Means p w z → row_at p (ending p count (end.ReturnsWithin x n v fault) w.limits f.room) f old z ≡ by_answer is (row_at p (giving count (Some v) w.limits f.room) f old z) (row_at p (throws_cut count fault w.limits) f old z)
within_is p count x n v fault is old w tells f z m =
    within_by p n (object_at z.heap x) is (row_at p (giving count (Some v) w.limits f.room) f old z) (row_at p (throws_cut count fault w.limits) f old z) (tells z m)

pub within_given : (p : List Info) (r : MethodRef) (count x : ℕ) (n : Name) (v : Value) (fault : Fault) (is : Option Bool) (b : Bool) (t : Turn) (old new : NumberedFrames) (w : World) → TellsInstance p w x n is → is ≡ Some b → b ≡ true → Invokes p r (giving count (Some v)) (Turned t) old new w w → Invokes p r (ending p count (end.ReturnsWithin x n v fault)) (Turned t) old new w w
within_given p r count x n v fault is b t old new w tells e y h =
    alike p r (ending p count (end.ReturnsWithin x n v fault)) (giving count (Some v)) t old new w w
    (within_is p count x n v fault (Some true) old w (subst (TellsInstance p w x n) (e ∙ ap (λ k. Some k) y) tells)) h

pub within_raised : (p : List Info) (r : MethodRef) (count x : ℕ) (n : Name) (v : Value) (fault : Fault) (is : Option Bool) (b : Bool) (t : Turn) (old new : NumberedFrames) (w u : World) → TellsInstance p w x n is → is ≡ Some b → b ≡ false → Invokes p r (ending p count (end.Raises fault)) (Turned t) old new w u → Invokes p r (ending p count (end.ReturnsWithin x n v fault)) (Turned t) old new w u
within_raised p r count x n v fault is b t old new w u tells e n0 h =
    alike p r (ending p count (end.ReturnsWithin x n v fault)) (ending p count (end.Raises fault)) t old new w u
    (within_is p count x n v fault (Some false) old w (subst (TellsInstance p w x n) (e ∙ ap (λ k. Some k) n0) tells)) h

pub within_none : (p : List Info) (r : MethodRef) (count x : ℕ) (n : Name) (v : Value) (fault : Fault) (is : Option Bool) (old : NumberedFrames) (w : World) → TellsInstance p w x n is → is ≡ None → Invokes p r (ending p count (end.ReturnsWithin x n v fault)) (Turned turn.NoRow) old old w w
within_none p r count x n v fault is old w tells e =
    each old.frame (λ f. (z : def.World) → Means p w z → InvokedTo p w.limits r (Turned turn.NoRow) f old old w (row_at p (ending p count (end.ReturnsWithin x n v fault) w.limits f.room) f old z))
    (λ f z m. (within_is p count x n v fault None old w (subst (TellsInstance p w x n) e tells) f z m, refl))
