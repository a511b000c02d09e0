-- The rows of fields.
use Rattle.std.proofs.Common.{◌≡◌, ◌∙◌, sym, ap, refl, subst, inl, inr, ℕ, ◌+◌, Bool, true, false, List, length, drop, Option, None, Some, IfSome}
use Rattle.std.specs.Prelude.{nat_lt, slice_get, slice_set, if◌then◌else◌}
use Rattle.std.specs.Option.{option_map}
use Rattle.program_rules.specs.declared.value.Value.{Value}
use Rattle.program_rules.specs.declared.fault.Fault.TheVariants.{NullPointerException}
use Rattle.program_rules.specs.Kinds.{Kind, narrow_value}
use Rattle.program_rules.specs.Objects as objects
use Rattle.program_rules.specs.Resolution.{FieldAt}
use Rattle.machine_rules.specs.declared.machine.Limits.{Limits}
use Rattle.machine_rules.specs.State as def
use Rattle.machine_rules.specs.Effects.{Effect, NoRow, on_some, on_kind, on_reference, pushes, jumps}
use Rattle.machine_rules.specs.Lookups.{is_array}
use Rattle.machine_rules.specs.Fields.{on_owner, with_values}
use Rattle.class_link.specs.Info.{Info}
use Rattle.jvm_values.specs.declared.object.Object.{Object}
use Rattle.jvm_state.specs.Tops.{TakesReference, NoReference}
use Rattle.jvm_frames.specs.Frames.{NumberedFrame, NumberedFrames, framed, stack_of, IsAdvanced}
use Rattle.jvm_world.specs.declared.world.World.{World}
use Rattle.jvm_world.specs.View.{object_of, IsObjectIn, SetsSlot}
use Rattle.jvm_world.proofs.Slots.{some_at}
use Rattle.jvm_rows.specs.declared.effect.Effect as code
use Rattle.jvm_rows.specs.declared.effect.Effect.TheVariants as effect
use Rattle.jvm_rows.specs.Effects.{RowOf, Runs}
use Rattle.jvm_rows.specs.Rows.{throwing, putting, getting_from, storing, storing_in, InstanceBy, TellsInstance, Holds, FindsValue, TakesKind, NoKind}
use Rattle.jvm_rows.proofs.Ends.{SameAt, AreSame, AdvancesBy, nothing, each, advance_runs}

if_same : (b : Bool) → (if b then NoRow else NoRow) ≡ NoRow
if_same true = refl
if_same false = refl

-- ---- the object of a number

pub of_instance : (p : List Info) (w : World) (x : ℕ) (o : Option Object) (b : Bool) → IsObjectIn p w x o → InstanceBy b (option_map (object_of p) o) → TellsInstance p w x b
of_instance p w x o b is h = λ v m. subst (λ t. InstanceBy b t) (sym (is v m)) h

pub of_value : (p : List Info) (w : World) (x slot : ℕ) (o : Option Object) (r : Option Value) → IsObjectIn p w x o → Holds (option_map (object_of p) o) slot r → FindsValue p w x slot r
of_value p w x slot o r is h = λ v m. subst (λ t. Holds t slot r) (sym (is v m)) h

-- ---- reading

no_value : (o : Option objects.Object) (slot : ℕ) (go : Value → Effect) → Holds o slot None → on_some o (λ b. if is_array b.kind then NoRow else on_some (slice_get b.values slot) go) ≡ NoRow
no_value None slot go h = refl
no_value (Some b) slot go (inl e) = ap (λ t. if t then NoRow else on_some (slice_get b.values slot) go) e
no_value (Some b) slot go (inr e) = ap (λ t. if is_array b.kind then NoRow else on_some t go) e ∙ if_same (is_array b.kind)

a_value : (o : Option objects.Object) (slot : ℕ) (value : Value) (go : Value → Effect) → Holds o slot (Some value) → on_some o (λ b. if is_array b.kind then NoRow else on_some (slice_get b.values slot) go) ≡ go value
a_value None slot value go h = absurd h
a_value (Some b) slot value go h = ap (λ t. if t then NoRow else on_some (slice_get b.values slot) go) h.0 ∙ ap (λ t. on_some t go) h.1

pub get_nothing : (p : List Info) (old : NumberedFrames) (w : World) (slot x : ℕ) → FindsValue p w x slot None → SameAt p (getting_from slot x) nothing old w
get_nothing p old w slot x h =
    each old.frame (λ f. AreSame p (getting_from slot x w.limits f.room) (nothing w.limits f.room) f w)
    (λ f class v fs m. no_value (objects.object_at v.heap x) slot (λ a. pushes v (framed class f) fs f.room a (drop 1 f.stack)) (h v m))

pub get_value : (p : List Info) (old : NumberedFrames) (w : World) (slot x : ℕ) (value : Value) → FindsValue p w x slot (Some value) → SameAt p (getting_from slot x) (putting 1 value) old w
get_value p old w slot x value h =
    each old.frame (λ f. AreSame p (getting_from slot x w.limits f.room) (putting 1 value w.limits f.room) f w)
    (λ f class v fs m. a_value (objects.object_at v.heap x) slot value (λ a. pushes v (framed class f) fs f.room a (drop 1 f.stack)) (h v m))

-- The row of `getfield` by the slot of the field.
abbrev pub getting_by : ℕ → RowOf
getting_by slot = λ q room w f fs.
    on_reference f.stack (λ o rest. on_owner q w f fs o (λ n b.
    on_some (slice_get b.values slot) (λ v. pushes w f fs room v rest)))

get_none_on : (p : List Info) (o : Option NumberedFrame) (w : World) (slot : ℕ) → NoReference (drop 0 (stack_of o)) → IfSome o (λ f. AreSame p (getting_by slot w.limits f.room) (nothing w.limits f.room) f w)
get_none_on p None w slot h = tt
get_none_on p (Some f) w slot h = λ class v fs m. h (λ o rest. on_owner w.limits v (framed class f) fs o (λ n b. on_some (slice_get b.values slot) (λ a. pushes v (framed class f) fs f.room a rest)))

pub get_none : (p : List Info) (old : NumberedFrames) (w : World) (slot : ℕ) → NoReference (drop 0 (stack_of old.frame)) → SameAt p (getting_by slot) nothing old w
get_none p old w slot h = get_none_on p old.frame w slot h

get_null_on : (p : List Info) (o : Option NumberedFrame) (w : World) (slot : ℕ) → TakesReference (drop 0 (stack_of o)) None (drop 1 (stack_of o)) → IfSome o (λ f. AreSame p (getting_by slot w.limits f.room) (throwing NullPointerException w.limits f.room) f w)
get_null_on p None w slot h = tt
get_null_on p (Some f) w slot h = λ class v fs m. h (λ o rest. on_owner w.limits v (framed class f) fs o (λ n b. on_some (slice_get b.values slot) (λ a. pushes v (framed class f) fs f.room a rest)))

pub get_null : (p : List Info) (old : NumberedFrames) (w : World) (slot : ℕ) → TakesReference (drop 0 (stack_of old.frame)) None (drop 1 (stack_of old.frame)) → SameAt p (getting_by slot) (throwing NullPointerException) old w
get_null p old w slot h = get_null_on p old.frame w slot h

get_some_on : (p : List Info) (o : Option NumberedFrame) (w : World) (slot x : ℕ) → TakesReference (drop 0 (stack_of o)) (Some x) (drop 1 (stack_of o)) → IfSome o (λ f. AreSame p (getting_by slot w.limits f.room) (getting_from slot x w.limits f.room) f w)
get_some_on p None w slot x h = tt
get_some_on p (Some f) w slot x h = λ class v fs m. h (λ o rest. on_owner w.limits v (framed class f) fs o (λ n b. on_some (slice_get b.values slot) (λ a. pushes v (framed class f) fs f.room a rest)))

pub get_some : (p : List Info) (old : NumberedFrames) (w : World) (slot x : ℕ) → TakesReference (drop 0 (stack_of old.frame)) (Some x) (drop 1 (stack_of old.frame)) → SameAt p (getting_by slot) (getting_from slot x) old w
get_some p old w slot x h = get_some_on p old.frame w slot x h

-- ---- writing

-- What is left of the row of `putfield` once the object and the value were read.
abbrev stored : Limits → def.World → def.Frame → List def.Frame → ℕ → Value → Option ℕ → List Value → Effect
stored q w f fs slot value o below =
    on_owner q w f fs o (λ n b.
    if nat_lt slot (length b.values)
    then jumps (with_values n b (slice_set b.values slot value) w) f fs (f.at + 1) below
    else NoRow)

no_instance : (o : Option objects.Object) (go : objects.Object → Effect) → InstanceBy false o → on_some o (λ b. if is_array b.kind then NoRow else go b) ≡ NoRow
no_instance None go h = refl
no_instance (Some b) go h = ap (λ t. if t then NoRow else go b) h

pub put_nowhere : (p : List Info) (old : NumberedFrames) (w : World) (slot x : ℕ) (value : Value) → TellsInstance p w x false → SameAt p (storing_in slot value x) nothing old w
put_nowhere p old w slot x value h =
    each old.frame (λ f. AreSame p (storing_in slot value x w.limits f.room) (nothing w.limits f.room) f w)
    (λ f class v fs m. no_instance (objects.object_at v.heap x)
    (λ b. if nat_lt slot (length b.values) then jumps (with_values x b (slice_set b.values slot value) v) (framed class f) fs (f.at + 1) (drop 2 f.stack) else NoRow) (h v m))

no_slot : (o : Option objects.Object) (slot : ℕ) (go : objects.Object → Effect) → ((b : objects.Object) → o ≡ Some b → nat_lt slot (length b.values) ≡ false) → on_some o (λ b. if is_array b.kind then NoRow else if nat_lt slot (length b.values) then go b else NoRow) ≡ NoRow
no_slot None slot go h = refl
no_slot (Some b) slot go h = ap (λ t. if is_array b.kind then NoRow else if t then go b else NoRow) (h b refl) ∙ if_same (is_array b.kind)

pub put_outside : (p : List Info) (old : NumberedFrames) (w u : World) (slot x : ℕ) (value : Value) → SetsSlot p w u x slot value false → SameAt p (storing_in slot value x) nothing old w
put_outside p old w u slot x value h =
    each old.frame (λ f. AreSame p (storing_in slot value x w.limits f.room) (nothing w.limits f.room) f w)
    (λ f class v fs m. no_slot (objects.object_at v.heap x) slot
    (λ b. jumps (with_values x b (slice_set b.values slot value) v) (framed class f) fs (f.at + 1) (drop 2 f.stack))
    (λ b e. h v b m e))

put_comes : (p : List Info) (w u : World) (slot x : ℕ) (value : Value) (f : NumberedFrame) → TellsInstance p w x true → SetsSlot p w u x slot value true → AdvancesBy p (storing_in slot value x) 2 w u f
put_comes p w u slot x value f there sets = λ class v fs m.
    let found = some_at (objects.object_at v.heap x) (λ b. is_array b.kind ≡ false) (there v m) in
    let b : objects.Object = found.0 in
    let set = sets v b m found.1 in
    let go : objects.Object → Effect = λ d. if nat_lt slot (length d.values) then jumps (with_values x d (slice_set d.values slot value) v) (framed class f) fs (f.at + 1) (drop 2 f.stack) else NoRow in
    record {
      world = with_values x b (slice_set b.values slot value) v;
      means = set.means;
      goes = ap (λ t. on_some t (λ d. if is_array d.kind then NoRow else go d)) found.1
          ∙ ap (λ t. if t then NoRow else go b) found.2
          ∙ ap (λ t. if t then jumps (with_values x b (slice_set b.values slot value) v) (framed class f) fs (f.at + 1) (drop 2 f.stack) else NoRow) set.there;
    }

pub put_there : (p : List Info) (old new : NumberedFrames) (w u : World) (slot x : ℕ) (value : Value) → TellsInstance p w x true → SetsSlot p w u x slot value true → IsAdvanced 2 old new → Runs p (storing_in slot value x) effect.Goes old new w u
put_there p old new w u slot x value there sets e =
    advance_runs p (storing_in slot value x) 2 old new w u e
    (each old.frame (AdvancesBy p (storing_in slot value x) 2 w u) (λ f. put_comes p w u slot x value f there sets))

-- The row of `putfield` by the kind and the slot of the field.
abbrev pub storing_by : Kind → ℕ → RowOf
storing_by k slot = λ q room w f fs.
    on_kind k f.stack (λ v rest. on_reference rest (λ o below.
    on_owner q w f fs o (λ n b.
    if nat_lt slot (length b.values)
    then jumps (with_values n b (slice_set b.values slot (narrow_value k v)) w) f fs (f.at + 1) below
    else NoRow)))

no_kind_on : (p : List Info) (o : Option NumberedFrame) (w : World) (k : Kind) (slot : ℕ) → NoKind k (drop 0 (stack_of o)) → IfSome o (λ f. AreSame p (storing_by k slot w.limits f.room) (nothing w.limits f.room) f w)
no_kind_on p None w k slot h = tt
no_kind_on p (Some f) w k slot h = λ class v fs m. h (λ a rest. on_reference rest (λ o below. stored w.limits v (framed class f) fs slot (narrow_value k a) o below))

pub put_other : (p : List Info) (old : NumberedFrames) (w : World) (k : Kind) (slot : ℕ) → NoKind k (drop 0 (stack_of old.frame)) → SameAt p (storing_by k slot) nothing old w
put_other p old w k slot h = no_kind_on p old.frame w k slot h

put_none_on : (p : List Info) (o : Option NumberedFrame) (w : World) (k : Kind) (slot : ℕ) (value : Value) → TakesKind k (drop 0 (stack_of o)) value (drop 1 (stack_of o)) → NoReference (drop 1 (stack_of o)) → IfSome o (λ f. AreSame p (storing_by k slot w.limits f.room) (nothing w.limits f.room) f w)
put_none_on p None w k slot value h r = tt
put_none_on p (Some f) w k slot value h r = λ class v fs m.
    h (λ a rest. on_reference rest (λ o below. stored w.limits v (framed class f) fs slot (narrow_value k a) o below))
    ∙ r (λ o below. stored w.limits v (framed class f) fs slot (narrow_value k value) o below)

pub put_none : (p : List Info) (old : NumberedFrames) (w : World) (k : Kind) (slot : ℕ) (value : Value) → TakesKind k (drop 0 (stack_of old.frame)) value (drop 1 (stack_of old.frame)) → NoReference (drop 1 (stack_of old.frame)) → SameAt p (storing_by k slot) nothing old w
put_none p old w k slot value h r = put_none_on p old.frame w k slot value h r

put_null_on : (p : List Info) (o : Option NumberedFrame) (w : World) (k : Kind) (slot : ℕ) (value : Value) → TakesKind k (drop 0 (stack_of o)) value (drop 1 (stack_of o)) → TakesReference (drop 1 (stack_of o)) None (drop 2 (stack_of o)) → IfSome o (λ f. AreSame p (storing_by k slot w.limits f.room) (throwing NullPointerException w.limits f.room) f w)
put_null_on p None w k slot value h r = tt
put_null_on p (Some f) w k slot value h r = λ class v fs m.
    h (λ a rest. on_reference rest (λ o below. stored w.limits v (framed class f) fs slot (narrow_value k a) o below))
    ∙ r (λ o below. stored w.limits v (framed class f) fs slot (narrow_value k value) o below)

pub put_null : (p : List Info) (old : NumberedFrames) (w : World) (k : Kind) (slot : ℕ) (value : Value) → TakesKind k (drop 0 (stack_of old.frame)) value (drop 1 (stack_of old.frame)) → TakesReference (drop 1 (stack_of old.frame)) None (drop 2 (stack_of old.frame)) → SameAt p (storing_by k slot) (throwing NullPointerException) old w
put_null p old w k slot value h r = put_null_on p old.frame w k slot value h r

put_some_on : (p : List Info) (o : Option NumberedFrame) (w : World) (k : Kind) (slot x : ℕ) (value narrowed : Value) → narrowed ≡ narrow_value k value → TakesKind k (drop 0 (stack_of o)) value (drop 1 (stack_of o)) → TakesReference (drop 1 (stack_of o)) (Some x) (drop 2 (stack_of o)) → IfSome o (λ f. AreSame p (storing_by k slot w.limits f.room) (storing_in slot narrowed x w.limits f.room) f w)
put_some_on p None w k slot x value narrowed n h r = tt
put_some_on p (Some f) w k slot x value narrowed n h r = λ class v fs m.
    h (λ a rest. on_reference rest (λ o below. stored w.limits v (framed class f) fs slot (narrow_value k a) o below))
    ∙ r (λ o below. stored w.limits v (framed class f) fs slot (narrow_value k value) o below)
    ∙ ap (λ a. stored w.limits v (framed class f) fs slot a (Some x) (drop 2 f.stack)) (sym n)

pub put_some : (p : List Info) (old : NumberedFrames) (w : World) (k : Kind) (slot x : ℕ) (value narrowed : Value) → narrowed ≡ narrow_value k value → TakesKind k (drop 0 (stack_of old.frame)) value (drop 1 (stack_of old.frame)) → TakesReference (drop 1 (stack_of old.frame)) (Some x) (drop 2 (stack_of old.frame)) → SameAt p (storing_by k slot) (storing_in slot narrowed x) old w
put_some p old w k slot x value narrowed n h r = put_some_on p old.frame w k slot x value narrowed n h r

-- The row of a field is that of its kind and its slot.
pub by_field : (p : List Info) (x : FieldAt) (k : Kind) (slot : ℕ) (e : code.Effect) (old new : NumberedFrames) (w u : World) → x.slot ≡ slot → x.kind ≡ k → Runs p (storing_by k slot) e old new w u → Runs p (storing x) e old new w u
by_field p x k slot e old new w u a b h =
    subst (λ s. Runs p (storing_by x.kind s) e old new w u) (sym a)
    (subst (λ j. Runs p (storing_by j slot) e old new w u) (sym b) h)
