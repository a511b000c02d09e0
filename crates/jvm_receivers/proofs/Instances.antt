-- Whether an object is of an interface, and the row of `invokeinterface` by that.
use Rattle.std.proofs.Common.{◌≡◌, ◌∙◌, sym, refl, ap, subst, ℕ, Bool, true, false, List, ◌∷◌, map, drop, Option, None, Some, Err, length, ◌<◌}
use Rattle.std.specs.Prelude.{◌||◌, if◌then◌else◌, Result}
use Rattle.program_rules.specs.declared.fault.Fault.{Fault}
use Rattle.program_rules.specs.declared.fault.Fault.TheVariants.{IncompatibleClassChangeError}
use Rattle.program_rules.specs.Faults.{Answer, Fails}
use Rattle.program_rules.specs.Instructions.{MethodRef}
use Rattle.program_rules.specs.Names.{Name, element_class, element_of, is_array_name, is_listed, object_name, same}
use Rattle.program_rules.specs.Objects.{Object, ObjectKind, ArrayOf, Plain, class_of_object, object_at}
use Rattle.program_rules.specs.Programs.{family, supers}
use Rattle.program_rules.specs.Resolution.{MethodAt}
use Rattle.program_rules.specs.Selection.{select_named}
use Rattle.machine_rules.specs.declared.machine.Limits.{Limits}
use Rattle.machine_rules.specs.State as def
use Rattle.machine_rules.specs.Calls.{calls_method}
use Rattle.machine_rules.specs.Effects.{Effect, on_found, on_some, throws}
use Rattle.machine_rules.specs.Lookups.{is_array, is_instance, known_of, methods_of}
use Rattle.class_model.specs.declared.class.ClassId.{ClassId}
use Rattle.class_link.specs.Info.{Info}
use Rattle.class_link.specs.declared.linked.Entry.TheVariants as entry
use Rattle.class_link.specs.declared.linked.MethodRef as code
use Rattle.class_table.specs.Table.{look, name_at}
use Rattle.jvm_frames.specs.Frames.{NumberedFrame, NumberedFrames, args_on}
use Rattle.jvm_rows.proofs.Ends.{each}
use Rattle.jvm_link.specs.declared.site.Callee.{Callee}
use Rattle.jvm_link.specs.Answers.{AnswersCall}
use Rattle.jvm_link.specs.References.{IsEntry, IsTableOf, KeepsMethodClass}
use Rattle.jvm_link.specs.declared.rows.Kept.{Kept}
use Rattle.jvm_link.specs.declared.rows.Receiver.{Receiver}
use Rattle.jvm_type_rows.specs.Instances.{is_kind_within}
use Rattle.jvm_type_rows.proofs.Described.{class_is}
use Rattle.jvm_unwind.specs.Turns.{frame_of, row_at}
use Rattle.jvm_values.specs.declared.object.Object as values
use Rattle.jvm_world.specs.declared.world.World.{World}
use Rattle.jvm_world.specs.View.{IsObjectIn, Means, kind_in, object_of}
use Rattle.jvm_invokes.specs.declared.invoked.Invoked.{Invoked}
use Rattle.jvm_invokes.specs.Invoked.{Invokes}
use Rattle.jvm_receivers.specs.Objects.{FindsReceiver, IsReceiver, SelectsFor, interface_in, methods_in}
use Rattle.jvm_receivers.specs.Receivers.{interface_of, interface_on, selecting_on}
use Rattle.jvm_receivers.specs.Targets.{received}
use Rattle.jvm_invokes.proofs.Outcomes.{after, left_same}

-- ---- the class that a reference names

module _ (p : List Info) (rows : List (List (Option Kept))) (class index : ℕ) (r : code.MethodRef) (over : ClassId) where
  pub over_within : KeepsMethodClass rows class index over → IsTableOf p rows → IsEntry p class index (entry.Method r) → over.0 < length p
  over_within kept table e = (kept.named p r table e).within

  pub named_below : (of : ℕ) (b : Bool) → KeepsMethodClass rows class index over → IsTableOf p rows → IsEntry p class index (entry.Method r) → is_array_name r.class ≡ false → b ≡ is_listed (name_at p over.0) (supers (look p) (name_at p of)) → b ≡ true → is_listed r.class (supers (look p) (name_at p of)) ≡ true
  named_below of b kept table e plain is told =
      let named : name_at p over.0 ≡ r.class = (kept.named p r table e).named ∙ ap (λ t. if t then element_class (element_of r.class) else r.class) plain in
      sym (is ∙ ap (λ n. is_listed n (supers (look p) (name_at p of))) named) ∙ told

-- ---- what an object is of

plain_of : (k : ObjectKind) → is_array k ≡ false → k ≡ Plain (class_of_object k)
plain_of (Plain n) e = refl
plain_of (ArrayOf k) e = absurd cc

or_true : (b : Bool) → (b || true) ≡ true
or_true true = refl
or_true false = refl

pub by_number : (p : List Info) (k : ObjectKind) (o : Option Receiver) (to : Receiver) (n : Name) → o ≡ Some to → to.array ≡ false → is_array_name (name_at p to.class.0) ≡ false → is_listed n (supers (look p) (name_at p to.class.0)) ≡ true → FindsReceiver p k o → true ≡ is_kind_within p k n
by_number p k o to n e array plain listed found =
    let m : Name = name_at p to.class.0 in
    let at : IsReceiver p k to = subst (FindsReceiver p k) e found in
    let kind : k ≡ Plain m = plain_of k (at.array ∙ array) ∙ ap Plain (sym at.class.named) in
    sym (ap (λ x. is_kind_within p x n) kind ∙ class_is (supers (look p) m) m n plain
    ∙ ap (λ b. same n object_name || b) listed ∙ or_true (same n object_name))

instance_is : (p : List Info) (o : Object) (n : Name) → is_instance (known_of (look p) o) n ≡ is_kind_within p o.kind n
unfolding family is_instance
instance_is p o n = refl

-- ---- what an object selects

abbrev known_by : List Info → MethodRef → ObjectKind → Bool → Answer MethodAt
known_by p r k b = if b then select_named r (methods_in p k) else Fails IncompatibleClassChangeError

pub of_another : (p : List Info) (r : MethodRef) (k : ObjectKind) (b : Bool) → b ≡ is_kind_within p k r.class → b ≡ false → AnswersCall p (interface_in p r k) (Err IncompatibleClassChangeError)
of_another p r k b is e = ap (known_by p r k) (sym is ∙ e)

pub of_interface : (p : List Info) (r : MethodRef) (k : ObjectKind) (b : Bool) (answer : Result Callee Fault) → b ≡ is_kind_within p k r.class → b ≡ true → AnswersCall p (select_named r (methods_in p k)) answer → AnswersCall p (interface_in p r k) answer
of_interface p r k b answer is e h = subst (λ a. AnswersCall p a answer) (sym (ap (known_by p r k) (sym is ∙ e))) h

pub found_of : (p : List Info) (w : World) (x : ℕ) (o : values.Object) (r : MethodRef) (answer : Result Callee Fault) → IsObjectIn p w x (Some o) → AnswersCall p (interface_in p r (kind_in p o.kind)) answer → SelectsFor p w x (interface_of r) (Some answer)
found_of p w x o r answer there h = record {
  object = object_of p o;
  there = there;
  answers = subst (λ a. AnswersCall p a answer) (sym (ap (known_by p r (kind_in p o.kind)) (instance_is p (object_of p o) r.class))) h;
}

-- ---- the row

-- A search that fails, or none, throws.
by_bool : (b : Bool) (q : Limits) (v : def.World) (fs : List def.Frame) (a : Answer MethodAt) (go : MethodAt → Effect) → (if b then on_found q v fs a go else throws q v fs IncompatibleClassChangeError) ≡ on_found q v fs (if b then a else Fails IncompatibleClassChangeError) go
by_bool true q v fs a go = refl
by_bool false q v fs a go = refl

row_is : (p : List Info) (w : World) (r : MethodRef) (count : ℕ) (f : NumberedFrame) (old : NumberedFrames) (v : def.World) (o : Option Object) → on_some o (λ b. if is_instance (known_of (look p) b) r.class then on_found w.limits v (frame_of p f ∷ map (frame_of p) old.callers) (select_named r (methods_of (known_of (look p) b))) (calls_method (look p) w.limits v (frame_of p f) (map (frame_of p) old.callers) f.room (args_on count f.stack) (drop count f.stack)) else throws w.limits v (frame_of p f ∷ map (frame_of p) old.callers) IncompatibleClassChangeError) ≡ on_some o (λ b. on_found w.limits v (frame_of p f ∷ map (frame_of p) old.callers) (interface_of r (known_of (look p) b)) (calls_method (look p) w.limits v (frame_of p f) (map (frame_of p) old.callers) f.room (args_on count f.stack) (drop count f.stack)))
row_is p w r count f old v None = refl
row_is p w r count f old v (Some b) =
    by_bool (is_instance (known_of (look p) b) r.class) w.limits v (frame_of p f ∷ map (frame_of p) old.callers) (select_named r (methods_of (known_of (look p) b)))
    (calls_method (look p) w.limits v (frame_of p f) (map (frame_of p) old.callers) f.room (args_on count f.stack) (drop count f.stack))

pub on_interface : (p : List Info) (r : MethodRef) (x count : ℕ) (t : Invoked) (old new : NumberedFrames) (w u : World) → Invokes p r (received x count (selecting_on p (interface_of r))) t old new w u → Invokes p r (received x count (interface_on p r)) t old new w u
on_interface p r x count t old new w u k =
    after p r (received x count (interface_on p r)) (received x count (selecting_on p (interface_of r))) t old new w w u refl
    (left_same p (received x count (interface_on p r)) (received x count (selecting_on p (interface_of r))) old w
    (each old.frame (λ f. (v : def.World) → Means p w v → row_at p (received x count (interface_on p r) w.limits f.room) f old v ≡ row_at p (received x count (selecting_on p (interface_of r)) w.limits f.room) f old v)
    (λ f v m. row_is p w r count f old v (object_at v.heap x)))) k
