-- The stores of elements that are no references.
use Rattle.std.proofs.Common.{◌≡◌, ◌∙◌, sym, ap, refl, arith, ℕ, ℤ, ◌+◌, ◌<◌, true, false, List, ◌∷◌, length, drop, Option, None, Some, IfSome}
use Rattle.std.specs.Prelude.{pos, negsuc, unsigned_abs, nat_lt, slice_set}
use Rattle.std.proofs.lemmas.Option.{slice_get_within}
use Rattle.program_rules.specs.declared.value.Value.{Value}
use Rattle.program_rules.specs.declared.value.Value.TheVariants.{Int, Long, Ref, Null}
use Rattle.program_rules.specs.declared.operation.Element.{Element}
use Rattle.program_rules.specs.declared.operation.Element.TheVariants.{IntElement, LongElement, ReferenceElement, ByteElement, CharElement, ShortElement}
use Rattle.program_rules.specs.declared.fault.Fault.TheVariants.{ArrayIndexOutOfBoundsException, NullPointerException}
use Rattle.program_rules.specs.Kinds.{Kind, is_of_kind, narrow_value}
use Rattle.program_rules.specs.Objects as objects
use Rattle.program_rules.specs.Programs.{Look}
use Rattle.machine_rules.specs.declared.machine.Limits.{Limits}
use Rattle.machine_rules.specs.State as def
use Rattle.machine_rules.specs.Effects.{Effect, NoRow, on_int, on_reference, jumps}
use Rattle.machine_rules.specs.Arrays.{array_kind, element_at, taken_by, on_element, if_storable}
use Rattle.machine_rules.specs.Fields.{with_values}
use Rattle.class_model.specs.declared.kind.Kind as plain
use Rattle.jvm_values.specs.declared.object.Object.{Object}
use Rattle.jvm_values.specs.declared.object.ObjKind.{ObjKind}
use Rattle.jvm_values.specs.declared.object.ObjKind.TheVariants.{Array}
use Rattle.class_link.specs.Info.{Info}
use Rattle.class_link.specs.Symbols.{kind_of}
use Rattle.jvm_state.specs.Tops.{TakesInt, NoInt, TakesReference, NoReference}
use Rattle.jvm_frames.specs.Frames.{NumberedFrame, NumberedFrames, framed, stack_of, IsAdvanced}
use Rattle.jvm_world.specs.declared.world.World.{World}
use Rattle.jvm_world.specs.View.{object_of, kind_in, IsObjectIn, SetsSlot}
use Rattle.jvm_rows.specs.declared.elements.Sought.TheVariants as sought
use Rattle.jvm_rows.specs.declared.effect.Effect.TheVariants as effect
use Rattle.jvm_rows.specs.Effects.{Runs}
use Rattle.jvm_rows.specs.Rows.{throwing, Finds, TakesKind, NoKind}
use Rattle.jvm_rows.specs.Storing.{is_primitive, storing_element, storing_at, NarrowsFor, NarrowsIn}
use Rattle.jvm_rows.proofs.Ends.{SameAt, AreSame, AdvancesBy, nothing, each, advance_runs}
use Rattle.jvm_rows.proofs.Seeking.{element_is}

-- What is no reference is stored without a test.
passes : (p : Look) (q : Limits) (w : def.World) (fs : List def.Frame) (k : Kind) (e : Element) (value : Value) (d : Effect) → is_primitive e ≡ true → is_of_kind (taken_by e) value ≡ true → if_storable p q w fs k value d ≡ d
passes p q w fs k e (Int z) d a b = refl
passes p q w fs k e (Long z) d a b = refl
passes p q w fs k e Null d a b = refl
passes p q w fs k IntElement (Ref y) d a b = absurd cc
passes p q w fs k LongElement (Ref y) d a b = absurd cc
passes p q w fs k ReferenceElement (Ref y) d a b = absurd cc
passes p q w fs k ByteElement (Ref y) d a b = absurd cc
passes p q w fs k CharElement (Ref y) d a b = absurd cc
passes p q w fs k ShortElement (Ref y) d a b = absurd cc

-- ---- what the code read

-- What is left of the row once the value was read, once the index was, and once the array was.
abbrev last : Look → Limits → def.World → def.Frame → List def.Frame → Element → Value → ℤ → Option ℕ → List Value → Effect
last p q w f fs e v i o base =
    on_element q w (f ∷ fs) e i o (λ x b k old.
    if_storable p q w (f ∷ fs) k v
    (jumps (with_values x b (slice_set b.values (unsigned_abs i) (narrow_value k v)) w) f fs (f.at + 1) base))

abbrev third : Look → Limits → def.World → def.Frame → List def.Frame → Element → Value → ℤ → List Value → Effect
third p q w f fs e v i below = on_reference below (λ o base. last p q w f fs e v i o base)

abbrev second : Look → Limits → def.World → def.Frame → List def.Frame → Element → Value → List Value → Effect
second p q w f fs e v rest = on_int rest (λ i below. third p q w f fs e v i below)

no_value_on : (p : List Info) (look : Look) (o : Option NumberedFrame) (w : World) (e : Element) → NoKind (taken_by e) (drop 0 (stack_of o)) → IfSome o (λ f. AreSame p (storing_element look e w.limits f.room) (nothing w.limits f.room) f w)
no_value_on p look None w e h = tt
no_value_on p look (Some f) w e h = λ class v fs m. h (λ a rest. second look w.limits v (framed class f) fs e a rest)

pub no_value_taken : (p : List Info) (look : Look) (old : NumberedFrames) (w : World) (e : Element) → NoKind (taken_by e) (drop 0 (stack_of old.frame)) → SameAt p (storing_element look e) nothing old w
no_value_taken p look old w e h = no_value_on p look old.frame w e h

no_place_on : (p : List Info) (look : Look) (o : Option NumberedFrame) (w : World) (e : Element) (value : Value) → TakesKind (taken_by e) (drop 0 (stack_of o)) value (drop 1 (stack_of o)) → NoInt (drop 1 (stack_of o)) → IfSome o (λ f. AreSame p (storing_element look e w.limits f.room) (nothing w.limits f.room) f w)
no_place_on p look None w e value h i = tt
no_place_on p look (Some f) w e value h i = λ class v fs m.
    h (λ a rest. second look w.limits v (framed class f) fs e a rest)
    ∙ i (λ j below. third look w.limits v (framed class f) fs e value j below)

pub no_place : (p : List Info) (look : Look) (old : NumberedFrames) (w : World) (e : Element) (value : Value) → TakesKind (taken_by e) (drop 0 (stack_of old.frame)) value (drop 1 (stack_of old.frame)) → NoInt (drop 1 (stack_of old.frame)) → SameAt p (storing_element look e) nothing old w
no_place p look old w e value h i = no_place_on p look old.frame w e value h i

no_target_on : (p : List Info) (look : Look) (o : Option NumberedFrame) (w : World) (e : Element) (value : Value) (n : ℤ) → TakesKind (taken_by e) (drop 0 (stack_of o)) value (drop 1 (stack_of o)) → TakesInt (drop 1 (stack_of o)) n (drop 2 (stack_of o)) → NoReference (drop 2 (stack_of o)) → IfSome o (λ f. AreSame p (storing_element look e w.limits f.room) (nothing w.limits f.room) f w)
no_target_on p look None w e value n h i r = tt
no_target_on p look (Some f) w e value n h i r = λ class v fs m.
    h (λ a rest. second look w.limits v (framed class f) fs e a rest)
    ∙ i (λ j below. third look w.limits v (framed class f) fs e value j below)
    ∙ r (λ o base. last look w.limits v (framed class f) fs e value n o base)

pub no_target : (p : List Info) (look : Look) (old : NumberedFrames) (w : World) (e : Element) (value : Value) (n : ℤ) → TakesKind (taken_by e) (drop 0 (stack_of old.frame)) value (drop 1 (stack_of old.frame)) → TakesInt (drop 1 (stack_of old.frame)) n (drop 2 (stack_of old.frame)) → NoReference (drop 2 (stack_of old.frame)) → SameAt p (storing_element look e) nothing old w
no_target p look old w e value n h i r = no_target_on p look old.frame w e value n h i r

null_target_on : (p : List Info) (look : Look) (o : Option NumberedFrame) (w : World) (e : Element) (value : Value) (n : ℤ) → TakesKind (taken_by e) (drop 0 (stack_of o)) value (drop 1 (stack_of o)) → TakesInt (drop 1 (stack_of o)) n (drop 2 (stack_of o)) → TakesReference (drop 2 (stack_of o)) None (drop 3 (stack_of o)) → IfSome o (λ f. AreSame p (storing_element look e w.limits f.room) (throwing NullPointerException w.limits f.room) f w)
null_target_on p look None w e value n h i r = tt
null_target_on p look (Some f) w e value n h i r = λ class v fs m.
    h (λ a rest. second look w.limits v (framed class f) fs e a rest)
    ∙ i (λ j below. third look w.limits v (framed class f) fs e value j below)
    ∙ r (λ o base. last look w.limits v (framed class f) fs e value n o base)

pub null_target : (p : List Info) (look : Look) (old : NumberedFrames) (w : World) (e : Element) (value : Value) (n : ℤ) → TakesKind (taken_by e) (drop 0 (stack_of old.frame)) value (drop 1 (stack_of old.frame)) → TakesInt (drop 1 (stack_of old.frame)) n (drop 2 (stack_of old.frame)) → TakesReference (drop 2 (stack_of old.frame)) None (drop 3 (stack_of old.frame)) → SameAt p (storing_element look e) (throwing NullPointerException) old w
null_target p look old w e value n h i r = null_target_on p look old.frame w e value n h i r

a_target_on : (p : List Info) (look : Look) (o : Option NumberedFrame) (w : World) (e : Element) (value : Value) (n : ℤ) (x : ℕ) → is_primitive e ≡ true → is_of_kind (taken_by e) value ≡ true → TakesKind (taken_by e) (drop 0 (stack_of o)) value (drop 1 (stack_of o)) → TakesInt (drop 1 (stack_of o)) n (drop 2 (stack_of o)) → TakesReference (drop 2 (stack_of o)) (Some x) (drop 3 (stack_of o)) → IfSome o (λ f. AreSame p (storing_element look e w.limits f.room) (storing_at e n x value w.limits f.room) f w)
a_target_on p look None w e value n x a b h i r = tt
a_target_on p look (Some f) w e value n x a b h i r = λ class v fs m.
    h (λ c rest. second look w.limits v (framed class f) fs e c rest)
    ∙ i (λ j below. third look w.limits v (framed class f) fs e value j below)
    ∙ r (λ o base. last look w.limits v (framed class f) fs e value n o base)
    ∙ (λ t. on_element w.limits v (framed class f ∷ fs) e n (Some x) (λ y d k old.
    passes look w.limits v (framed class f ∷ fs) k e value
    (jumps (with_values y d (slice_set d.values (unsigned_abs n) (narrow_value k value)) v) (framed class f) fs (f.at + 1) (drop 3 f.stack)) a b t))

pub a_target : (p : List Info) (look : Look) (old : NumberedFrames) (w : World) (e : Element) (value : Value) (n : ℤ) (x : ℕ) → is_primitive e ≡ true → is_of_kind (taken_by e) value ≡ true → TakesKind (taken_by e) (drop 0 (stack_of old.frame)) value (drop 1 (stack_of old.frame)) → TakesInt (drop 1 (stack_of old.frame)) n (drop 2 (stack_of old.frame)) → TakesReference (drop 2 (stack_of old.frame)) (Some x) (drop 3 (stack_of old.frame)) → SameAt p (storing_element look e) (storing_at e n x value) old w
a_target p look old w e value n x a b h i r = a_target_on p look old.frame w e value n x a b h i r

-- ---- what the search gave

pub stored_nowhere : (p : List Info) (old : NumberedFrames) (w : World) (e : Element) (i : ℤ) (x : ℕ) (value : Value) → Finds p w e i x sought.NoRow → SameAt p (storing_at e i x value) nothing old w
stored_nowhere p old w e i x value h =
    each old.frame (λ f. AreSame p (storing_at e i x value w.limits f.room) (nothing w.limits f.room) f w)
    (λ f class v fs m. h v w.limits (framed class f ∷ fs) (λ y b k a. jumps (with_values y b (slice_set b.values (unsigned_abs i) (narrow_value k value)) v) (framed class f) fs (f.at + 1) (drop 3 f.stack)) m)

pub stored_outside : (p : List Info) (old : NumberedFrames) (w : World) (e : Element) (i : ℤ) (x : ℕ) (value : Value) → Finds p w e i x sought.Outside → SameAt p (storing_at e i x value) (throwing ArrayIndexOutOfBoundsException) old w
stored_outside p old w e i x value h =
    each old.frame (λ f. AreSame p (storing_at e i x value w.limits f.room) (throwing ArrayIndexOutOfBoundsException w.limits f.room) f w)
    (λ f class v fs m. h v w.limits (framed class f ∷ fs) (λ y b k a. jumps (with_values y b (slice_set b.values (unsigned_abs i) (narrow_value k value)) v) (framed class f) fs (f.at + 1) (drop 3 f.stack)) m)

slot_there : (vs : List Value) (i : ℤ) (held : Value) → element_at vs i ≡ Some held → unsigned_abs i < length vs
slot_there vs (pos n) held e = slice_get_within vs n held e
slot_there vs (negsuc n) held e = absurd cc

never_less : (a b : ℕ) → a < b → nat_lt a b ≡ false → ⊥
never_less a b lt e = absurd (grind (arith, lt, e))

pub never_absent : (p : List Info) (old : NumberedFrames) (w u : World) (e : Element) (i : ℤ) (x : ℕ) (value narrowed held : Value) → Finds p w e i x (sought.Element held) → SetsSlot p w u x (unsigned_abs i) narrowed false → SameAt p (storing_at e i x value) nothing old w
never_absent p old w u e i x value narrowed held h s =
    each old.frame (λ f. AreSame p (storing_at e i x value w.limits f.room) (nothing w.limits f.room) f w)
    (λ f class v fs m.
    let k = h v m in
    absurd (never_less (unsigned_abs i) (length k.object.values) (slot_there k.object.values i held k.has.value) (s v k.object m k.there)))

pub stored : (p : List Info) (old new : NumberedFrames) (w u : World) (e : Element) (i : ℤ) (x : ℕ) (value narrowed held : Value) → Finds p w e i x (sought.Element held) → NarrowsIn p w x value narrowed → SetsSlot p w u x (unsigned_abs i) narrowed true → IsAdvanced 3 old new → Runs p (storing_at e i x value) effect.Goes old new w u
stored p old new w u e i x value narrowed held h n s a =
    advance_runs p (storing_at e i x value) 3 old new w u a
    (each old.frame (AdvancesBy p (storing_at e i x value) 3 w u) (λ f class v fs m.
    let k = h v m in
    let b : objects.Object = k.object in
    let set = s v b m k.there in
    let same = n v b k.has.kind m k.there k.has.array in
    record {
      world = with_values x b (slice_set b.values (unsigned_abs i) narrowed) v;
      means = set.means;
      goes = element_is w.limits v (framed class f ∷ fs) e i x held k (λ y d j old. jumps (with_values y d (slice_set d.values (unsigned_abs i) (narrow_value j value)) v) (framed class f) fs (f.at + 1) (drop 3 f.stack))
          ∙ ap (λ z. jumps (with_values x b (slice_set b.values (unsigned_abs i) z) v) (framed class f) fs (f.at + 1) (drop 3 f.stack)) (sym same);
    }))

-- ---- narrowing

some_object : (a b : objects.Object) → Some a ≡ Some b → a ≡ b
some_object a b e = cc

nothing_there : (b : objects.Object) → None ≡ Some b → ⊥
nothing_there b e = absurd cc

nothing_kind : (b : Kind) → None ≡ Some b → ⊥
nothing_kind b e = absurd cc

some_kind : (a b : Kind) → Some a ≡ Some b → a ≡ b
some_kind a b e = cc

pub narrows_array : (p : List Info) (kind : ObjKind) (of : plain.Kind) (value narrowed : Value) → kind ≡ Array of → narrowed ≡ narrow_value (kind_of of) value → (k : Kind) → array_kind (kind_in p kind) ≡ Some k → narrowed ≡ narrow_value k value
narrows_array p kind of value narrowed is e = λ k array.
    e ∙ ap (λ d. narrow_value d value) (some_kind (kind_of of) k (sym (ap (λ d. array_kind (kind_in p d)) is) ∙ array))

pub narrows_plain : (p : List Info) (kind : ObjKind) (value narrowed : Value) → array_kind (kind_in p kind) ≡ None → (k : Kind) → array_kind (kind_in p kind) ≡ Some k → narrowed ≡ narrow_value k value
narrows_plain p kind value narrowed is = λ k array. absurd (nothing_kind k (sym is ∙ array))

pub narrows_object : (p : List Info) (w : World) (x : ℕ) (o : Object) (value narrowed : Value) → IsObjectIn p w x (Some o) → NarrowsFor (object_of p o) value narrowed → NarrowsIn p w x value narrowed
narrows_object p w x o value narrowed at h = λ v b k m there array.
    let same : object_of p o ≡ b = some_object (object_of p o) b (sym (at v m) ∙ there) in
    h k (ap (λ d. array_kind d.kind) same ∙ array)

pub narrows_none : (p : List Info) (w : World) (x : ℕ) (value narrowed : Value) → IsObjectIn p w x None → NarrowsIn p w x value narrowed
narrows_none p w x value narrowed at = λ v b k m there array. absurd (nothing_there b (sym (at v m) ∙ there))
