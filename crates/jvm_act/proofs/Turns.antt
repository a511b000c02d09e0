-- What rows come to, said in one way.
use Rattle.std.proofs.Common.{◌≡◌, ◌∙◌, sym, refl, ap, subst, ℕ, List, ◌∷◌, map, Option, None, Some, IfSome, IsSomeAnd}
use Rattle.program_rules.specs.Instructions.{MethodRef}
use Rattle.machine_rules.specs.declared.machine.Limits.{Limits}
use Rattle.machine_rules.specs.State as def
use Rattle.machine_rules.specs.Effects.{Effect}
use Rattle.class_link.specs.Info.{Info}
use Rattle.class_table.specs.Table.{name_at}
use Rattle.jvm_state.specs.Rows.{Row}
use Rattle.jvm_frames.specs.Frames.{NumberedFrame, NumberedFrames, framed}
use Rattle.jvm_world.specs.declared.world.World.{World}
use Rattle.jvm_world.specs.View.{Means, Comes}
use Rattle.jvm_rows.specs.declared.effect.Effect as code
use Rattle.jvm_rows.specs.declared.effect.Effect.TheVariants as effect
use Rattle.jvm_rows.specs.Effects.{GoesOn, RowOf, Runs}
use Rattle.jvm_members.specs.Whole.{WholeTo, RunsWhole}
use Rattle.jvm_members.proofs.Wholes.{whole}
use Rattle.jvm_unwind.specs.declared.turn.Turn.{Turn}
use Rattle.jvm_unwind.specs.declared.turn.Turn.TheVariants as turn
use Rattle.jvm_unwind.specs.Turns.{frame_of, frames_on, frames_of, row_at, TurnsTo, Turns}
use Rattle.jvm_unwind.proofs.Left.{with_some}
use Rattle.jvm_invokes.specs.declared.invoked.Invoked.TheVariants as invoked
use Rattle.jvm_invokes.specs.Invoked.{InvokedTo, Invokes}
use Rattle.jvm_members.specs.Turned as fields
use Rattle.jvm_members.specs.Turned.{TurnsWhole}
use Rattle.jvm_act.specs.Turned.{TurnedTo, Turned, turn_of, always}
use Rattle.jvm_act.specs.Laws.{RunsAreTurned, WholesAreTurned, TurnsAreTurned, InvokedAreTurned, FieldsAreTurned}

pub if_known : {A : Type 0} (o : Option A) (P Q : A → Type 0) → ((x : A) → o ≡ Some x → P x → Q x) → IfSome o P → IfSome o Q
if_known None P Q f h = tt
if_known (Some x) P Q f h = f x refl h

-- ---- rows by which the running frame stays

-- The frames of the definitions, once the running frame is another one of its method.
frames_behind : (p : List Info) (row : Row) (f g : NumberedFrame) (old new : NumberedFrames) (w u : World) → GoesOn p row f w u g → new.frame ≡ Some g → new.callers ≡ old.callers → framed (name_at p f.class) g ∷ map (frame_of p) old.callers ≡ frames_of p new
frames_behind p row f g old new w u on is callers =
    ap (λ n. framed (name_at p n) g ∷ map (frame_of p) old.callers) (sym on.class)
    ∙ ap (λ cs. frame_of p g ∷ map (frame_of p) cs) (sym callers)
    ∙ ap (λ o. frames_on p o new.callers) (sym is)

-- Those before it, where this frame runs.
frames_before : (p : List Info) (f : NumberedFrame) (old new : NumberedFrames) → old.frame ≡ Some f → new ≡ old → frame_of p f ∷ map (frame_of p) old.callers ≡ frames_of p new
frames_before p f old new is same = ap (λ o. frames_on p o old.callers) (sym is) ∙ ap (frames_of p) (sym same)

whole_at : (p : List Info) (row : Row) (e : code.Effect) (f : NumberedFrame) (old new : NumberedFrames) (w u : World) → old.frame ≡ Some f → WholeTo p row e f old new w u → TurnedTo p (row_at p row f old) (turn_of e) new w u
whole_at p row effect.NoRow f old new w u is h = λ v m. h.0 (name_at p f.class) v (map (frame_of p) old.callers) m
whole_at p row effect.Goes f old new w u is h = λ v m.
    let g = with_some new.frame (GoesOn p row f w u) h.0 in
    subst (λ fs. Comes p u fs None (row_at p row f old v)) (frames_behind p row f g.0 old new w u g.2 g.1 h.1)
    (g.2.goes (name_at p f.class) v (map (frame_of p) old.callers) m)
whole_at p row (effect.Throws x) f old new w u is h = λ v m.
    subst (λ fs. Comes p u fs (Some x) (row_at p row f old v)) (frames_before p f old new is h.1)
    (h.0 (name_at p f.class) v (map (frame_of p) old.callers) m)

pub wholes_are_turned : WholesAreTurned
wholes_are_turned p row e old new w u h =
    if_known old.frame
    (λ f. WholeTo p (row w.limits f.room) e f old new w u)
    (λ f. TurnedTo p (row_at p (row w.limits f.room) f old) (turn_of e) new w u)
    (λ f is k. whole_at p (row w.limits f.room) e f old new w u is k) h

pub runs_are_turned : RunsAreTurned
runs_are_turned p row e old new w u h = wholes_are_turned p row e old new w u (whole p row e old new w u h)

-- ---- rows that may change which frames there are

pub turns_at : (p : List Info) (go : def.World → Effect) (t : Turn) (old new : NumberedFrames) (w u : World) → TurnsTo p go t old new w u → TurnedTo p go t new w u
turns_at p go turn.NoRow old new w u h = h.0
turns_at p go turn.Goes old new w u h = h
turns_at p go (turn.Throws x) old new w u h = h

pub turns_are_turned : TurnsAreTurned
turns_are_turned p row t old new w u h =
    if_known old.frame
    (λ f. TurnsTo p (row_at p row f old) t old new w u)
    (λ f. TurnedTo p (row_at p row f old) t new w u)
    (λ f is k. turns_at p (row_at p row f old) t old new w u k) h

-- ---- rows that call a method

invoked_at : (p : List Info) (q : Limits) (r : MethodRef) (go : def.World → Effect) (t : Turn) (f : NumberedFrame) (old new : NumberedFrames) (w u : World) → ((v : def.World) → Means p w v → InvokedTo p q r (invoked.Turned t) f old new u (go v)) → TurnedTo p go t new w u
invoked_at p q r go turn.NoRow f old new w u h = λ v m. (h v m).0
invoked_at p q r go turn.Goes f old new w u h = h
invoked_at p q r go (turn.Throws x) f old new w u h = h

pub invoked_are_turned : InvokedAreTurned
invoked_are_turned p r row t old new w u h =
    if_known old.frame
    (λ f. (v : def.World) → Means p w v → InvokedTo p w.limits r (invoked.Turned t) f old new u (row_at p (row w.limits f.room) f old v))
    (λ f. TurnedTo p (row_at p (row w.limits f.room) f old) t new w u)
    (λ f is k. invoked_at p w.limits r (row_at p (row w.limits f.room) f old) t f old new w u k) h

-- ---- rows that use a field, or make an object

field_at : (p : List Info) (go : def.World → Effect) (t : Turn) (old new : NumberedFrames) (w u : World) → ((v : def.World) → Means p w v → fields.TurnedTo p t old new u (go v)) → TurnedTo p go t new w u
field_at p go turn.NoRow old new w u h = λ v m. (h v m).0
field_at p go turn.Goes old new w u h = h
field_at p go (turn.Throws x) old new w u h = h

pub fields_are_turned : FieldsAreTurned
fields_are_turned p row t old new w u h =
    if_known old.frame
    (λ f. (v : def.World) → Means p w v → fields.TurnedTo p t old new u (row_at p (row w.limits f.room) f old v))
    (λ f. TurnedTo p (row_at p (row w.limits f.room) f old) t new w u)
    (λ f is k. field_at p (row_at p (row w.limits f.room) f old) t old new w u k) h
