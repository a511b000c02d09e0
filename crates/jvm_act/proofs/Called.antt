-- The instructions that call a method.
use Rattle.std.proofs.Common.{◌≡◌, ◌∙◌, inl, inr, sym, ap, subst, arith, ℕ, ◌<◌, Bool, true, false, List, Option, None, Some, IfSome, IsSomeAnd}
use Rattle.std.specs.Prelude.{length, nat_lt, ◌+◌, ◌≤◌, ◌^◌}
use Rattle.std.proofs.lemmas.Bool.{ltb-true, ltb-false}
use Rattle.program_rules.specs.Instructions as def
use Rattle.machine_rules.specs.declared.machine.Limits.{Limits}
use Rattle.machine_rules.specs.Effects.{Effect}
use Rattle.machine_rules.specs.Steps.{act}
use Rattle.class_link.specs.declared.linked.Entry.TheVariants as entry
use Rattle.class_link.specs.declared.linked.MethodRef.{MethodRef}
use Rattle.class_link.specs.Info.{Info}
use Rattle.class_link.specs.Opcodes.{on_method}
use Rattle.class_link.specs.View.{entry_symbol, method_ref_of}
use Rattle.jvm_frames.specs.Frames.{NumberedFrame, NumberedFrames, IsAt}
use Rattle.jvm_world.specs.declared.world.World.{World}
use Rattle.jvm_world.specs.View.{IsKept}
use Rattle.jvm_rows.specs.declared.effect.Effect.TheVariants as effect
use Rattle.jvm_rows.specs.Effects.{RowOf}
use Rattle.jvm_rows.proofs.Ends.{some_and}
use Rattle.jvm_rows.specs.Plain.{means_row}
use Rattle.jvm_link.specs.References.{IsEntry}
use Rattle.jvm_unwind.specs.declared.turn.Turn.{Turn}
use Rattle.jvm_unwind.specs.declared.turn.Turn.TheVariants as turn
use Rattle.jvm_unwind.specs.Turns.{row_at}
use Rattle.jvm_unwind.specs.Unwinding.{IsOf, IsLeftOrOn}
use Rattle.jvm_unwind.proofs.Left.{with_some}
use Rattle.jvm_invokes.specs.declared.invoked.Invoked.{Invoked}
use Rattle.jvm_invokes.specs.declared.invoked.Invoked.TheVariants as invoked
use Rattle.jvm_invokes.specs.Invoked.{InvokedTo, Invokes, IsOfMethod}
use Rattle.jvm_receivers.specs.Receivers.{RunsIn}
use Rattle.jvm_natives.specs.Completed.{Completes, GoesOnOrEnters, HasGoneOn}
use Rattle.jvm_receivers.specs.declared.invoking.Invocation.{Invocation}
use Rattle.jvm_receivers.specs.declared.invoking.Invocation.TheVariants as invocation
use Rattle.jvm_receivers.specs.Kinds.{StandsFor}
use Rattle.jvm_act.specs.declared.groups.CallUse.{CallUse}
use Rattle.jvm_act.specs.declared.groups.CallUse.TheVariants as call
use Rattle.jvm_act.specs.Acts.{NamesNoMethod, TurnsAs, call_named, call_row}
use Rattle.jvm_act.specs.Calls.{Finishes, IsRest, StandsIn, TellsNext, call_at}
use Rattle.jvm_act.specs.Standing.{HasNext, AreFramesOf}
use Rattle.jvm_act.specs.Turned.{Turned}
use Rattle.jvm_act.proofs.Executed.{has_next}
use Rattle.jvm_act.proofs.Framed.{begins_keep_frames, calls_keep_frames, throws_keep_frames}
use Rattle.jvm_act.proofs.Rows.{unlinked}
use Rattle.jvm_act.proofs.Turns.{invoked_are_turned, runs_are_turned}

-- ---- the frame that runs

module _ (p : List Info) (class : ℕ) (s : NumberedFrames) (stands : IsSomeAnd s.frame (StandsIn class)) where
  pub stands_next : IsSomeAnd s.frame HasNext
  stands_next = some_and s.frame (StandsIn class) HasNext (λ f k. k.next) stands

  abbrev runs : (f : NumberedFrame) × (s.frame ≡ Some f) × StandsIn class f
  runs = with_some s.frame (StandsIn class) stands

  pub runs_in : RunsIn class s
  runs_in = subst (λ o. IfSome o (λ f. f.class ≡ class)) (sym runs.1) runs.2.class

  pub within : AreFramesOf p s → class < length p
  within are =
      let of : IsOfMethod p runs.0 = subst (λ o. IfSome o (IsOfMethod p)) runs.1 are.running in
      subst (λ n. n < length p) runs.2.class of.class

-- ---- whether there is a next instruction

-- The greatest number of an instruction.
abbrev greatest : ℕ
greatest = 18446744073709551615

next_at : (f : NumberedFrame) (at : ℕ) → f.at ≡ at → at < greatest → HasNext f
next_at f at is lt = subst (λ n. n + 1 < 2 ^ 64) (sym is) (let h = lt in omega (arith, h))

past_at : (f : NumberedFrame) (at : ℕ) → f.at ≡ at → greatest ≤ at → HasNext f → ⊥
past_at f at is le next =
    let h : at + 1 < 2 ^ 64 = subst (λ n. n + 1 < 2 ^ 64) is next in
    let k = le in
    omega (arith, h, k)

pub tells_next : (s : NumberedFrames) (class method at : ℕ) (b : Bool) → IsSomeAnd s.frame (IsAt class method at) → b ≡ nat_lt at greatest → TellsNext s b
tells_next s class method at true is e = some_and s.frame (IsAt class method at) HasNext (λ f k. next_at f at k.at (ltb-true at greatest (sym e))) is
tells_next s class method at false is e = λ next.
    let f = with_some s.frame (IsAt class method at) is in
    past_at f.0 at f.2.at (ltb-false at greatest (sym e)) (subst (λ o. IsSomeAnd o HasNext) f.1 next)

pub tells_none : (s : NumberedFrames) → s.frame ≡ None → TellsNext s false
tells_none s e = λ next. subst (λ o. IsSomeAnd o HasNext) e next

-- ---- what is left is done

pub finished : (p : List Info) (r : def.MethodRef) (left : Invoked) (t : Turn) (old : NumberedFrames) (w : World) → left ≡ invoked.Turned t → Finishes p r left t old old w w
finished p r left t old w is row first before next same h = subst (λ l. Invokes p r row l first old before w) is h

pub completed : (p : List Info) (r : def.MethodRef) (left : Invoked) (t : Turn) (old new : NumberedFrames) (w u : World) → Completes p r left t old new w u → Finishes p r left t old new w u
completed p r left t old new w u h row first before next same k = h row first before same k

-- Where something is left frames are as they were.
same_at : (p : List Info) (q : Limits) (r : def.MethodRef) (left : Invoked) (f : NumberedFrame) (first old : NumberedFrames) (u : World) (d : Effect) → IsRest left → InvokedTo p q r left f first old u d → old ≡ first
same_at p q r (invoked.Turned t) f first old u d rest h = absurd rest
same_at p q r (invoked.Readies s) f first old u d rest h = h.1
same_at p q r (invoked.Native s args) f first old u d rest h = h.2
same_at p q r (invoked.Copies args) f first old u d rest h = h.2

lacks_next : (p : List Info) (r : def.MethodRef) (left : Invoked) (row : RowOf) (o : Option NumberedFrame) (cs : List NumberedFrame) (old : NumberedFrames) (before w : World) → IsRest left → TellsNext old false → IfSome o HasNext → Invokes p r row left (record { frame = o; callers = cs }) old before w → Invokes p r row (invoked.Turned turn.NoRow) (record { frame = o; callers = cs }) old before w
lacks_next p r left row None cs old before w rest none next k = tt
lacks_next p r left row (Some f) cs old before w rest none next k = λ v m.
    let first : NumberedFrames = record { frame = Some f; callers = cs } in
    let is = same_at p before.limits r left f first old w (row_at p (row before.limits f.room) f first v) rest (k v m) in
    absurd (none (subst (λ s. IsSomeAnd s.frame HasNext) (sym is) next))

pub no_next : (p : List Info) (r : def.MethodRef) (left : Invoked) (old : NumberedFrames) (w : World) → IsRest left → TellsNext old false → Finishes p r left turn.NoRow old old w w
no_next p r left old w rest none row first before next same k =
    lacks_next p r left row first.frame first.callers old before w rest none next k

-- ---- what becomes of frames

gone_on : (old new : NumberedFrames) (f : NumberedFrame) → old.frame ≡ Some f → HasGoneOn old new → IsLeftOrOn old new
gone_on old new f is h =
    let on = subst (λ o. IfSome o (λ g. IsSomeAnd new.frame (IsOf g) × (new.callers ≡ old.callers))) is h.on in
    inr (subst (λ o. IfSome o (λ g. IsSomeAnd new.frame (IsOf g))) (sym is) on.0, on.1)

-- Behind what was left of a call.
pub completed_keep_frames : (p : List Info) (old new : NumberedFrames) → IsSomeAnd old.frame HasNext → GoesOnOrEnters p old new → AreFramesOf p old → AreFramesOf p new
completed_keep_frames p old new runs (inl h) are =
    let f = with_some old.frame HasNext runs in
    let of : IsOfMethod p f.0 = subst (λ o. IfSome o (IsOfMethod p)) f.1 are.running in
    throws_keep_frames p old new (subst (λ o. IsSomeAnd o (IsOfMethod p)) (sym f.1) of) (gone_on old new f.0 f.1 h) are
completed_keep_frames p old new runs (inr (inl h)) are = calls_keep_frames p old new runs (inr (inl h)) are
completed_keep_frames p old new runs (inr (inr h)) are = begins_keep_frames p old new (has_next old runs) (inr h) are

pub stands_for : (p : List Info) (how : Invocation) (class : ℕ) (s : NumberedFrames) → class < length p → RunsIn class s → StandsFor p how class s
stands_for p invocation.Special class s within stands = (within, stands)
stands_for p invocation.Virtual class s within stands = tt
stands_for p invocation.Interface class s within stands = tt

-- ---- a call by its row

pub called : (p : List Info) (class : ℕ) (r : def.MethodRef) (row : RowOf) (left : Invoked) (t : Turn) (old mid new : NumberedFrames) (w m u : World) → IsSomeAnd old.frame (StandsIn class) → IsKept p w m → Invokes p r row left old mid w m → Finishes p r left t mid new m u → Turned p row t old new w u
called p class r row left t old mid new w m u stands kept h rest =
    invoked_are_turned p r row t old new w u
    (rest row old w (has_next old (stands_next p class old stands)) kept.limits h)

pub kept_on : (p : List Info) (w m u : World) → IsKept p w m → IsKept p m u → IsKept p w u
kept_on p w m u h k = record { world = k.world; limits = k.limits ∙ h.limits }

-- ---- by what is named

calls_as : (p : List Info) (how : CallUse) (r : def.MethodRef) (t : Turn) (old new : NumberedFrames) (w u : World) → Turned p (call_row p how r) t old new w u → TurnsAs p (call_named how r) t old new w u
unfolding act
calls_as p call.Static r t old new w u h = λ kind starts. h
calls_as p (call.On invocation.Virtual) r t old new w u h = λ kind starts. h
calls_as p (call.On invocation.Interface) r t old new w u h = λ kind starts. h
calls_as p (call.On invocation.Special) r t old new w u h = λ kind starts. h

pub calls_named : (p : List Info) (class index : ℕ) (how : CallUse) (r : MethodRef) (t : Turn) (old new : NumberedFrames) (w u : World) → IsEntry p class index (entry.Method r) → Turned p (call_row p how (method_ref_of r)) t old new w u → TurnsAs p (call_at p class how index) t old new w u
calls_named p class index how r t old new w u is h =
    subst (λ i. TurnsAs p i t old new w u) (sym (ap (λ o. on_method (call_named how) (entry_symbol o)) is))
    (calls_as p how (method_ref_of r) t old new w u h)

pub no_method : (p : List Info) (class index : ℕ) (how : CallUse) (old : NumberedFrames) (w : World) → NamesNoMethod p class index → TurnsAs p (call_at p class how index) turn.NoRow old old w w
no_method p class index how old w none = λ kind starts.
    let i = call_at p class how index in
    runs_are_turned p (means_row p kind starts i) effect.NoRow old old w w (unlinked p i old w (none (call_named how)) kind starts)
