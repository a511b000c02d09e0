-- The loads of elements.
use Rattle.std.proofs.Common.{◌≡◌, ◌∙◌, sym, ap, ℕ, ℤ, ◌+◌, false, List, ◌∷◌, drop, Option, None, Some, IfSome}
use Rattle.std.specs.Prelude.{if◌then◌else◌}
use Rattle.program_rules.specs.declared.value.Value.{Value}
use Rattle.program_rules.specs.declared.operation.Element.{Element}
use Rattle.program_rules.specs.declared.fault.Fault.TheVariants.{ArrayIndexOutOfBoundsException, NullPointerException}
use Rattle.machine_rules.specs.Effects.{NoRow, on_reference, pushes, jumps}
use Rattle.machine_rules.specs.Arrays.{on_element}
use Rattle.class_link.specs.Info.{Info}
use Rattle.jvm_state.specs.Tops.{TakesInt, NoInt, TakesReference, NoReference}
use Rattle.jvm_frames.specs.Frames.{NumberedFrame, NumberedFrames, framed, stack_of, has_room_for}
use Rattle.jvm_world.specs.declared.world.World.{World}
use Rattle.jvm_rows.specs.declared.elements.Sought.TheVariants as sought
use Rattle.jvm_rows.specs.Effects.{RowOf}
use Rattle.jvm_rows.specs.Rows.{throwing, putting, loading, taking_element, Finds}
use Rattle.jvm_rows.proofs.Ends.{SameAt, AreSame, nothing, each, if_some}
use Rattle.jvm_rows.proofs.Seeking.{element_is}

-- ---- once index and array were read

pub found_nothing : (p : List Info) (old : NumberedFrames) (w : World) (e : Element) (i : ℤ) (x : ℕ) → Finds p w e i x sought.NoRow → SameAt p (loading e i x) nothing old w
found_nothing p old w e i x h =
    each old.frame (λ f. AreSame p (loading e i x w.limits f.room) (nothing w.limits f.room) f w)
    (λ f class v fs m. h v w.limits (framed class f ∷ fs) (λ y b k a. pushes v (framed class f) fs f.room a (drop 2 f.stack)) m)

pub found_outside : (p : List Info) (old : NumberedFrames) (w : World) (e : Element) (i : ℤ) (x : ℕ) → Finds p w e i x sought.Outside → SameAt p (loading e i x) (throwing ArrayIndexOutOfBoundsException) old w
found_outside p old w e i x h =
    each old.frame (λ f. AreSame p (loading e i x w.limits f.room) (throwing ArrayIndexOutOfBoundsException w.limits f.room) f w)
    (λ f class v fs m. h v w.limits (framed class f ∷ fs) (λ y b k a. pushes v (framed class f) fs f.room a (drop 2 f.stack)) m)

pub found_element : (p : List Info) (old : NumberedFrames) (w : World) (e : Element) (i : ℤ) (x : ℕ) (value : Value) → Finds p w e i x (sought.Element value) → SameAt p (loading e i x) (putting 2 value) old w
found_element p old w e i x value h =
    each old.frame (λ f. AreSame p (loading e i x w.limits f.room) (putting 2 value w.limits f.room) f w)
    (λ f class v fs m. element_is w.limits v (framed class f ∷ fs) e i x value (h v m) (λ y b k a. pushes v (framed class f) fs f.room a (drop 2 f.stack)))

-- ---- a value that has no room

pub no_room : (p : List Info) (old : NumberedFrames) (w : World) (count : ℕ) (value : Value) → IfSome old.frame (λ f. false ≡ has_room_for count value f) → SameAt p (putting count value) nothing old w
no_room p old w count value h =
    if_some old.frame (λ f. false ≡ has_room_for count value f)
    (λ f. AreSame p (putting count value w.limits f.room) (nothing w.limits f.room) f w)
    (λ f e class v fs m. ap (λ b. if b then jumps v (framed class f) fs (f.at + 1) (value ∷ drop count f.stack) else NoRow) (sym e)) h

after_on : (p : List Info) (row other last : RowOf) (o : Option NumberedFrame) (w : World) → IfSome o (λ f. AreSame p (row w.limits f.room) (other w.limits f.room) f w) → IfSome o (λ f. AreSame p (other w.limits f.room) (last w.limits f.room) f w) → IfSome o (λ f. AreSame p (row w.limits f.room) (last w.limits f.room) f w)
after_on p row other last None w a b = tt
after_on p row other last (Some f) w a b = λ class v fs m. a class v fs m ∙ b class v fs m

pub same_after : (p : List Info) (row other last : RowOf) (old : NumberedFrames) (w : World) → SameAt p row other old w → SameAt p other last old w → SameAt p row last old w
same_after p row other last old w a b = after_on p row other last old.frame w a b

-- ---- index and array

no_index_on : (p : List Info) (o : Option NumberedFrame) (w : World) (e : Element) → NoInt (drop 0 (stack_of o)) → IfSome o (λ f. AreSame p (taking_element e w.limits f.room) (nothing w.limits f.room) f w)
no_index_on p None w e h = tt
no_index_on p (Some f) w e h = λ class v fs m. h (λ i rest. on_reference rest (λ o below. on_element w.limits v (framed class f ∷ fs) e i o (λ x b k a. pushes v (framed class f) fs f.room a below)))

pub no_index : (p : List Info) (old : NumberedFrames) (w : World) (e : Element) → NoInt (drop 0 (stack_of old.frame)) → SameAt p (taking_element e) nothing old w
no_index p old w e h = no_index_on p old.frame w e h

no_array_on : (p : List Info) (o : Option NumberedFrame) (w : World) (e : Element) (i : ℤ) → TakesInt (drop 0 (stack_of o)) i (drop 1 (stack_of o)) → NoReference (drop 1 (stack_of o)) → IfSome o (λ f. AreSame p (taking_element e w.limits f.room) (nothing w.limits f.room) f w)
no_array_on p None w e i h k = tt
no_array_on p (Some f) w e i h k = λ class v fs m.
    h (λ j rest. on_reference rest (λ o below. on_element w.limits v (framed class f ∷ fs) e j o (λ x b k a. pushes v (framed class f) fs f.room a below)))
    ∙ k (λ o below. on_element w.limits v (framed class f ∷ fs) e i o (λ x b k a. pushes v (framed class f) fs f.room a below))

pub no_array_there : (p : List Info) (old : NumberedFrames) (w : World) (e : Element) (i : ℤ) → TakesInt (drop 0 (stack_of old.frame)) i (drop 1 (stack_of old.frame)) → NoReference (drop 1 (stack_of old.frame)) → SameAt p (taking_element e) nothing old w
no_array_there p old w e i h k = no_array_on p old.frame w e i h k

null_array_on : (p : List Info) (o : Option NumberedFrame) (w : World) (e : Element) (i : ℤ) → TakesInt (drop 0 (stack_of o)) i (drop 1 (stack_of o)) → TakesReference (drop 1 (stack_of o)) None (drop 2 (stack_of o)) → IfSome o (λ f. AreSame p (taking_element e w.limits f.room) (throwing NullPointerException w.limits f.room) f w)
null_array_on p None w e i h k = tt
null_array_on p (Some f) w e i h k = λ class v fs m.
    h (λ j rest. on_reference rest (λ o below. on_element w.limits v (framed class f ∷ fs) e j o (λ x b k a. pushes v (framed class f) fs f.room a below)))
    ∙ k (λ o below. on_element w.limits v (framed class f ∷ fs) e i o (λ x b k a. pushes v (framed class f) fs f.room a below))

pub null_array : (p : List Info) (old : NumberedFrames) (w : World) (e : Element) (i : ℤ) → TakesInt (drop 0 (stack_of old.frame)) i (drop 1 (stack_of old.frame)) → TakesReference (drop 1 (stack_of old.frame)) None (drop 2 (stack_of old.frame)) → SameAt p (taking_element e) (throwing NullPointerException) old w
null_array p old w e i h k = null_array_on p old.frame w e i h k

an_array_on : (p : List Info) (o : Option NumberedFrame) (w : World) (e : Element) (i : ℤ) (x : ℕ) → TakesInt (drop 0 (stack_of o)) i (drop 1 (stack_of o)) → TakesReference (drop 1 (stack_of o)) (Some x) (drop 2 (stack_of o)) → IfSome o (λ f. AreSame p (taking_element e w.limits f.room) (loading e i x w.limits f.room) f w)
an_array_on p None w e i x h k = tt
an_array_on p (Some f) w e i x h k = λ class v fs m.
    h (λ j rest. on_reference rest (λ o below. on_element w.limits v (framed class f ∷ fs) e j o (λ x b k a. pushes v (framed class f) fs f.room a below)))
    ∙ k (λ o below. on_element w.limits v (framed class f ∷ fs) e i o (λ x b k a. pushes v (framed class f) fs f.room a below))

pub an_array : (p : List Info) (old : NumberedFrames) (w : World) (e : Element) (i : ℤ) (x : ℕ) → TakesInt (drop 0 (stack_of old.frame)) i (drop 1 (stack_of old.frame)) → TakesReference (drop 1 (stack_of old.frame)) (Some x) (drop 2 (stack_of old.frame)) → SameAt p (taking_element e) (loading e i x) old w
an_array p old w e i x h k = an_array_on p old.frame w e i x h k
