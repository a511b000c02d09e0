-- The row of `aastore`.
use Rattle.std.proofs.Common.{◌≡◌, ◌∙◌, sym, ap, refl, ℕ, ℤ, ◌+◌, Bool, true, false, List, [], ◌∷◌, drop, Option, None, Some, IfSome}
use Rattle.std.specs.Prelude.{if◌then◌else◌, unsigned_abs, slice_set}
use Rattle.program_rules.specs.declared.value.Value.{Value}
use Rattle.program_rules.specs.declared.value.Value.TheVariants.{Int, Long, Ref, Null}
use Rattle.program_rules.specs.declared.fault.Fault.TheVariants.{ArrayIndexOutOfBoundsException, ArrayStoreException}
use Rattle.program_rules.specs.declared.operation.Element.TheVariants.{ReferenceElement}
use Rattle.program_rules.specs.Kinds.{Kind, narrow_value}
use Rattle.program_rules.specs.Objects as objects
use Rattle.program_rules.specs.Programs.{Look}
use Rattle.machine_rules.specs.declared.machine.Limits.{Limits}
use Rattle.machine_rules.specs.State as def
use Rattle.machine_rules.specs.Effects.{Effect, on_some, on_int, on_kind, on_reference, jumps, throws}
use Rattle.machine_rules.specs.Lookups.{known_of}
use Rattle.machine_rules.specs.Arrays.{taken_by, on_element, if_storable, fits_component}
use Rattle.machine_rules.specs.Fields.{with_values}
use Rattle.class_link.specs.Info.{Info}
use Rattle.class_table.specs.Table.{look}
use Rattle.jvm_state.specs.Tops.{TakesInt, TakesReference, NoReference}
use Rattle.jvm_frames.specs.Frames.{NumberedFrame, NumberedFrames, framed, stack_of}
use Rattle.jvm_world.specs.declared.world.World.{World}
use Rattle.jvm_rows.specs.declared.elements.Sought.TheVariants as sought
use Rattle.jvm_rows.specs.Rows.{throwing, Finds, IsElement, TakesKind, NoKind}
use Rattle.jvm_rows.specs.Storing.{storing_element}
use Rattle.jvm_rows.proofs.Ends.{SameAt, AreSame, nothing, each}
use Rattle.jvm_rows.proofs.Seeking.{element_is}
use Rattle.jvm_type_rows.specs.Storing.{component_in, fits_in, FitsArray, reference_value, storing_value, storing_known}

-- ---- a reference on the stack

as_reference : (stack : List Value) (go : Value → List Value → Effect) → on_kind (taken_by ReferenceElement) stack go ≡ on_reference stack (λ o rest. go (reference_value o) rest)
as_reference [] go = refl
as_reference (Int z ∷ rest) go = refl
as_reference (Long z ∷ rest) go = refl
as_reference (Ref x ∷ rest) go = refl
as_reference (Null ∷ rest) go = refl

pub takes_value : (stack rest : List Value) (o : Option ℕ) → TakesReference stack o rest → TakesKind (taken_by ReferenceElement) stack (reference_value o) rest
takes_value stack rest o h = λ go. as_reference stack go ∙ h (λ x below. go (reference_value x) below)

pub no_value : (stack : List Value) → NoReference stack → NoKind (taken_by ReferenceElement) stack
no_value stack h = λ go. as_reference stack go ∙ h (λ x below. go (reference_value x) below)

-- ---- what the code read

-- What is left of the row once the value and the index were read.
abbrev last : Look → Limits → def.World → def.Frame → List def.Frame → Value → ℤ → Option ℕ → List Value → Effect
last p q w f fs value i o base =
    on_element q w (f ∷ fs) ReferenceElement i o (λ x b k old.
    if_storable p q w (f ∷ fs) k value
    (jumps (with_values x b (slice_set b.values (unsigned_abs i) (narrow_value k value)) w) f fs (f.at + 1) base))

a_place_on : (p : List Info) (o : Option NumberedFrame) (w : World) (value : Value) (i : ℤ) (x : ℕ) → TakesKind (taken_by ReferenceElement) (drop 0 (stack_of o)) value (drop 1 (stack_of o)) → TakesInt (drop 1 (stack_of o)) i (drop 2 (stack_of o)) → TakesReference (drop 2 (stack_of o)) (Some x) (drop 3 (stack_of o)) → IfSome o (λ f. AreSame p (storing_element (look p) ReferenceElement w.limits f.room) (storing_value (look p) i x value w.limits f.room) f w)
a_place_on p None w value i x h n r = tt
a_place_on p (Some f) w value i x h n r = λ class v fs m.
    h (λ a rest. on_int rest (λ j below. on_reference below (λ o base. last (look p) w.limits v (framed class f) fs a j o base)))
    ∙ n (λ j below. on_reference below (λ o base. last (look p) w.limits v (framed class f) fs value j o base))
    ∙ r (λ o base. last (look p) w.limits v (framed class f) fs value i o base)

pub a_place : (p : List Info) (old : NumberedFrames) (w : World) (value : Value) (i : ℤ) (x : ℕ) → TakesKind (taken_by ReferenceElement) (drop 0 (stack_of old.frame)) value (drop 1 (stack_of old.frame)) → TakesInt (drop 1 (stack_of old.frame)) i (drop 2 (stack_of old.frame)) → TakesReference (drop 2 (stack_of old.frame)) (Some x) (drop 3 (stack_of old.frame)) → SameAt p (storing_element (look p) ReferenceElement) (storing_value (look p) i x value) old w
a_place p old w value i x h n r = a_place_on p old.frame w value i x h n r

-- ---- what the search for the element gave

-- What an element of an array is put in the place of.
abbrev put : Look → Limits → def.World → def.Frame → List def.Frame → ℤ → Value → ℕ → objects.Object → Kind → Value → Effect
put p q v f fs i value = λ y b k old.
    if_storable p q v (f ∷ fs) k value
    (jumps (with_values y b (slice_set b.values (unsigned_abs i) (narrow_value k value)) v) f fs (f.at + 1) (drop 3 f.stack))

pub value_nowhere : (p : List Info) (old : NumberedFrames) (w : World) (i : ℤ) (x : ℕ) (value : Value) → Finds p w ReferenceElement i x sought.NoRow → SameAt p (storing_value (look p) i x value) nothing old w
value_nowhere p old w i x value h =
    each old.frame (λ f. AreSame p (storing_value (look p) i x value w.limits f.room) (nothing w.limits f.room) f w)
    (λ f class v fs m. h v w.limits (framed class f ∷ fs) (put (look p) w.limits v (framed class f) fs i value) m)

pub value_outside : (p : List Info) (old : NumberedFrames) (w : World) (i : ℤ) (x : ℕ) (value : Value) → Finds p w ReferenceElement i x sought.Outside → SameAt p (storing_value (look p) i x value) (throwing ArrayIndexOutOfBoundsException) old w
value_outside p old w i x value h =
    each old.frame (λ f. AreSame p (storing_value (look p) i x value w.limits f.room) (throwing ArrayIndexOutOfBoundsException w.limits f.room) f w)
    (λ f class v fs m. h v w.limits (framed class f ∷ fs) (put (look p) w.limits v (framed class f) fs i value) m)

-- ---- whether the object may be stored

by_fit : (p : List Info) (k : Kind) (o : Option objects.Object) (d e : Effect) → on_some o (λ b. if fits_component (known_of (look p) b) k then d else e) ≡ on_some (fits_in p (Some k) o) (λ b. if b then d else e)
by_fit p k None d e = refl
by_fit p k (Some b) d e = refl

-- What is put where the object may be stored.
abbrev stores : def.World → def.Frame → List def.Frame → ℤ → ℕ → ℕ → objects.Object → Effect
stores v f fs i x y b =
    jumps (with_values x b (slice_set b.values (unsigned_abs i) (Ref y)) v) f fs (f.at + 1) (drop 3 f.stack)

value_is : (p : List Info) (q : Limits) (room : ℕ) (v : def.World) (f : def.Frame) (fs : List def.Frame) (i : ℤ) (x y : ℕ) (held : Value) (h : IsElement v ReferenceElement i x held) (is : Option Bool) → fits_in p (component_in (objects.object_at v.heap x)) (objects.object_at v.heap y) ≡ is → storing_value (look p) i x (Ref y) q room v f fs ≡ on_some is (λ b. if b then stores v f fs i x y h.object else throws q v (f ∷ fs) ArrayStoreException)
value_is p q room v f fs i x y held h is e =
    let o = objects.object_at v.heap y in
    let d = stores v f fs i x y h.object in
    let t = throws q v (f ∷ fs) ArrayStoreException in
    let array = ap (λ a. fits_in p (component_in a) o) h.there ∙ ap (λ k. fits_in p k o) h.has.array in
    element_is q v (f ∷ fs) ReferenceElement i x held h (put (look p) q v f fs i (Ref y))
    ∙ by_fit p h.has.kind o d t
    ∙ ap (λ a. on_some a (λ b. if b then d else t)) (sym array ∙ e)

known_is : (q : Limits) (room : ℕ) (v : def.World) (f : def.Frame) (fs : List def.Frame) (i : ℤ) (x y : ℕ) (held : Value) (h : IsElement v ReferenceElement i x held) (b : Bool) → storing_known i x y b q room v f fs ≡ (if b then stores v f fs i x y h.object else throws q v (f ∷ fs) ArrayStoreException)
known_is q room v f fs i x y held h true =
    element_is q v (f ∷ fs) ReferenceElement i x held h (λ n b k old. jumps (with_values n b (slice_set b.values (unsigned_abs i) (narrow_value k (Ref y))) v) f fs (f.at + 1) (drop 3 f.stack))
known_is q room v f fs i x y held h false = refl

pub value_known : (p : List Info) (old : NumberedFrames) (w : World) (i : ℤ) (x y : ℕ) (held : Value) (b : Bool) → Finds p w ReferenceElement i x (sought.Element held) → FitsArray p w x y (Some b) → SameAt p (storing_value (look p) i x (Ref y)) (storing_known i x y b) old w
value_known p old w i x y held b h t =
    each old.frame (λ f. AreSame p (storing_value (look p) i x (Ref y) w.limits f.room) (storing_known i x y b w.limits f.room) f w)
    (λ f class v fs m.
    value_is p w.limits f.room v (framed class f) fs i x y held (h v m) (Some b) (t v m)
    ∙ sym (known_is w.limits f.room v (framed class f) fs i x y held (h v m) b))

pub value_unknown : (p : List Info) (old : NumberedFrames) (w : World) (i : ℤ) (x y : ℕ) (held : Value) → Finds p w ReferenceElement i x (sought.Element held) → FitsArray p w x y None → SameAt p (storing_value (look p) i x (Ref y)) nothing old w
value_unknown p old w i x y held h t =
    each old.frame (λ f. AreSame p (storing_value (look p) i x (Ref y) w.limits f.room) (nothing w.limits f.room) f w)
    (λ f class v fs m. value_is p w.limits f.room v (framed class f) fs i x y held (h v m) None (t v m))
