-- The rows of monitors, and of an object that is thrown.
use Rattle.std.proofs.Common.{ap, refl, ℕ, ◌+◌, true, false, List, ◌∷◌, drop, Option, None, Some, IfSome}
use Rattle.program_rules.specs.declared.value.Value.{Value}
use Rattle.program_rules.specs.declared.fault.Fault.TheVariants.{NullPointerException, IllegalMonitorStateException}
use Rattle.machine_rules.specs.State as def
use Rattle.machine_rules.specs.Effects.{Effect, on_reference, unless_null, jumps, throws_from}
use Rattle.machine_rules.specs.TypeRows.{monitor_count, opens, exits_with}
use Rattle.class_link.specs.Info.{Info}
use Rattle.jvm_state.specs.Tops.{TakesReference, NoReference}
use Rattle.jvm_frames.specs.Frames.{NumberedFrame, NumberedFrames, framed, stack_of, IsAdvanced}
use Rattle.jvm_world.specs.declared.world.World.{World}
use Rattle.jvm_world.specs.View.{Moves, Exits}
use Rattle.jvm_rows.specs.declared.effect.Effect.TheVariants as effect
use Rattle.jvm_rows.specs.Effects.{ComesTo, RowOf, Runs}
use Rattle.jvm_rows.specs.Rows.{throwing, exiting}
use Rattle.jvm_rows.proofs.Ends.{SameAt, AreSame, AdvancesBy, nothing, each, advance_runs}

-- A row that takes a reference off, and what it does with it.
abbrev pub on_top_reference : (def.World → def.Frame → List def.Frame → ℕ → List Value → Effect) → RowOf
on_top_reference go = λ q room w f fs. on_reference f.stack (λ o rest. unless_null q w (f ∷ fs) o (λ x. go w f fs x rest))

none_on : (p : List Info) (o : Option NumberedFrame) (w : World) (go : def.World → def.Frame → List def.Frame → ℕ → List Value → Effect) → NoReference (drop 0 (stack_of o)) → IfSome o (λ f. AreSame p (on_top_reference go w.limits f.room) (nothing w.limits f.room) f w)
none_on p None w go h = tt
none_on p (Some f) w go h = λ class v fs m. h (λ o rest. unless_null w.limits v (framed class f ∷ fs) o (λ x. go v (framed class f) fs x rest))

pub no_reference : (p : List Info) (old : NumberedFrames) (w : World) (go : def.World → def.Frame → List def.Frame → ℕ → List Value → Effect) → NoReference (drop 0 (stack_of old.frame)) → SameAt p (on_top_reference go) nothing old w
no_reference p old w go h = none_on p old.frame w go h

null_on : (p : List Info) (o : Option NumberedFrame) (w : World) (go : def.World → def.Frame → List def.Frame → ℕ → List Value → Effect) → TakesReference (drop 0 (stack_of o)) None (drop 1 (stack_of o)) → IfSome o (λ f. AreSame p (on_top_reference go w.limits f.room) (throwing NullPointerException w.limits f.room) f w)
null_on p None w go h = tt
null_on p (Some f) w go h = λ class v fs m. h (λ o rest. unless_null w.limits v (framed class f ∷ fs) o (λ x. go v (framed class f) fs x rest))

pub null_reference : (p : List Info) (old : NumberedFrames) (w : World) (go : def.World → def.Frame → List def.Frame → ℕ → List Value → Effect) → TakesReference (drop 0 (stack_of old.frame)) None (drop 1 (stack_of old.frame)) → SameAt p (on_top_reference go) (throwing NullPointerException) old w
null_reference p old w go h = null_on p old.frame w go h

-- What it does with an object.
abbrev pub with_object : (def.World → def.Frame → List def.Frame → ℕ → List Value → Effect) → ℕ → RowOf
with_object go x = λ q room w f fs. go w f fs x (drop 1 f.stack)

some_on : (p : List Info) (o : Option NumberedFrame) (w : World) (go : def.World → def.Frame → List def.Frame → ℕ → List Value → Effect) (x : ℕ) → TakesReference (drop 0 (stack_of o)) (Some x) (drop 1 (stack_of o)) → IfSome o (λ f. AreSame p (on_top_reference go w.limits f.room) (with_object go x w.limits f.room) f w)
some_on p None w go x h = tt
some_on p (Some f) w go x h = λ class v fs m. h (λ o rest. unless_null w.limits v (framed class f ∷ fs) o (λ y. go v (framed class f) fs y rest))

pub an_object : (p : List Info) (old : NumberedFrames) (w : World) (go : def.World → def.Frame → List def.Frame → ℕ → List Value → Effect) (x : ℕ) → TakesReference (drop 0 (stack_of old.frame)) (Some x) (drop 1 (stack_of old.frame)) → SameAt p (on_top_reference go) (with_object go x) old w
an_object p old w go x h = some_on p old.frame w go x h

-- ---- monitorenter

abbrev pub enters : def.World → def.Frame → List def.Frame → ℕ → List Value → Effect
enters w f fs x rest = jumps (opens x (monitor_count x w.monitors + 1) w) f fs (f.at + 1) rest

pub entered : (p : List Info) (old new : NumberedFrames) (w u : World) (x : ℕ) → Moves p w u (λ v. opens x (monitor_count x v.monitors + 1) v) → IsAdvanced 1 old new → Runs p (with_object enters x) effect.Goes old new w u
entered p old new w u x moves e =
    advance_runs p (with_object enters x) 1 old new w u e
    (each old.frame (AdvancesBy p (with_object enters x) 1 w u) (λ f class v fs m. record {
      world = opens x (monitor_count x v.monitors + 1) v;
      means = moves v m;
      goes = refl;
    }))

-- ---- monitorexit

-- It asks for the limits, since it may throw.
abbrev pub exits_object : ℕ → RowOf
exits_object x = λ q room w f fs. exits_with q w f fs (drop 1 f.stack) x (monitor_count x w.monitors)

exit_some_on : (p : List Info) (o : Option NumberedFrame) (w : World) (x : ℕ) → TakesReference (drop 0 (stack_of o)) (Some x) (drop 1 (stack_of o)) → IfSome o (λ f. AreSame p (exiting w.limits f.room) (exits_object x w.limits f.room) f w)
exit_some_on p None w x h = tt
exit_some_on p (Some f) w x h = λ class v fs m. h (λ o rest. unless_null w.limits v (framed class f ∷ fs) o (λ y. exits_with w.limits v (framed class f) fs rest y (monitor_count y v.monitors)))

pub exit_some : (p : List Info) (old : NumberedFrames) (w : World) (x : ℕ) → TakesReference (drop 0 (stack_of old.frame)) (Some x) (drop 1 (stack_of old.frame)) → SameAt p exiting (exits_object x) old w
exit_some p old w x h = exit_some_on p old.frame w x h

exit_none_on : (p : List Info) (o : Option NumberedFrame) (w : World) → NoReference (drop 0 (stack_of o)) → IfSome o (λ f. AreSame p (exiting w.limits f.room) (nothing w.limits f.room) f w)
exit_none_on p None w h = tt
exit_none_on p (Some f) w h = λ class v fs m. h (λ o rest. unless_null w.limits v (framed class f ∷ fs) o (λ y. exits_with w.limits v (framed class f) fs rest y (monitor_count y v.monitors)))

pub exit_none : (p : List Info) (old : NumberedFrames) (w : World) → NoReference (drop 0 (stack_of old.frame)) → SameAt p exiting nothing old w
exit_none p old w h = exit_none_on p old.frame w h

exit_null_on : (p : List Info) (o : Option NumberedFrame) (w : World) → TakesReference (drop 0 (stack_of o)) None (drop 1 (stack_of o)) → IfSome o (λ f. AreSame p (exiting w.limits f.room) (throwing NullPointerException w.limits f.room) f w)
exit_null_on p None w h = tt
exit_null_on p (Some f) w h = λ class v fs m. h (λ o rest. unless_null w.limits v (framed class f ∷ fs) o (λ y. exits_with w.limits v (framed class f) fs rest y (monitor_count y v.monitors)))

pub exit_null : (p : List Info) (old : NumberedFrames) (w : World) → TakesReference (drop 0 (stack_of old.frame)) None (drop 1 (stack_of old.frame)) → SameAt p exiting (throwing NullPointerException) old w
exit_null p old w h = exit_null_on p old.frame w h

pub not_open : (p : List Info) (old : NumberedFrames) (w u : World) (x : ℕ) → Exits p x w u false → SameAt p (exits_object x) (throwing IllegalMonitorStateException) old w
not_open p old w u x h =
    each old.frame (λ f. AreSame p (exits_object x w.limits f.room) (throwing IllegalMonitorStateException w.limits f.room) f w)
    (λ f class v fs m. ap (λ n. exits_with w.limits v (framed class f) fs (drop 1 f.stack) x n) (h v m).count)

pub closed : (p : List Info) (old new : NumberedFrames) (w u : World) (x : ℕ) → Exits p x w u true → IsAdvanced 1 old new → Runs p (exits_object x) effect.Goes old new w u
closed p old new w u x h e =
    advance_runs p (exits_object x) 1 old new w u e
    (each old.frame (AdvancesBy p (exits_object x) 1 w u) (λ f class v fs m.
    let k = h v m in
    record {
      world = opens x k.left v;
      means = k.means;
      goes = ap (λ n. exits_with w.limits v (framed class f) fs (drop 1 f.stack) x n) k.count;
    }))

-- ---- athrow

abbrev pub throws_it : def.World → def.Frame → List def.Frame → ℕ → List Value → Effect
throws_it w f fs x rest = throws_from (f ∷ fs) w x

pub thrown_it : (p : List Info) (old : NumberedFrames) (w : World) (x : ℕ) → Runs p (with_object throws_it x) (effect.Throws x) old old w w
thrown_it p old w x =
    each old.frame (λ f. ComesTo p (with_object throws_it x w.limits f.room) (effect.Throws x) f old old w w)
    (λ f. (λ class v fs m. record { world = v; means = m; goes = refl }, refl))
