-- The frame that called goes on, or the run is over.
use Rattle.std.proofs.Common.{◌≡◌, ◌∙◌, sym, refl, ap, subst, ℕ, ◌+◌, ◌<◌, ◌≤◌, Bool, true, false, List, [], ◌∷◌, map, drop, length, Option, Some, None, IfSome, IsSomeAnd}
use Rattle.std.specs.Prelude.{if◌then◌else◌, nat_le}
use Rattle.program_rules.specs.declared.value.Value.{Value}
use Rattle.program_rules.specs.declared.value.Value.TheVariants.{Ref}
use Rattle.program_rules.specs.Instructions.{MethodRef}
use Rattle.machine_rules.specs.declared.machine.Stop.TheVariants.{HeapPassed}
use Rattle.machine_rules.specs.declared.machine.Limits.{Limits}
use Rattle.machine_rules.specs.State as def
use Rattle.machine_rules.specs.Effects.{Effect, NoRow, goes_with, jumps, pushes, unless_full}
use Rattle.class_link.specs.Info.{Info}
use Rattle.jvm_frames.specs.Frames.{NumberedFrame, NumberedFrames, GoOn, Does, IsPut, IsCut, IsAdvanced, AreArgs, HasWords, stack_of, replacing, has_room_for, advanced, cut}
use Rattle.jvm_world.specs.declared.world.World.{World}
use Rattle.jvm_world.specs.View.{Means, Moves, Comes, Allocates}
use Rattle.jvm_rows.proofs.Ends.{each, if_some, some_and}
use Rattle.jvm_unwind.specs.declared.turn.Turn.{Turn}
use Rattle.jvm_unwind.specs.declared.turn.Turn.TheVariants as turn
use Rattle.jvm_unwind.specs.Turns.{frame_of, frames_of, row_at}
use Rattle.jvm_unwind.specs.Unwinding.{IsOf}
use Rattle.jvm_unwind.proofs.Steps.{on_frames}
use Rattle.jvm_invokes.specs.declared.invoked.Invoked.TheVariants.{Turned}
use Rattle.jvm_invokes.specs.Invoked.{Leaves, InvokedTo, Invokes}
use Rattle.jvm_invokes.proofs.Outcomes.{LeftTo, after}
use Rattle.jvm_invokes.proofs.Standing.{args_at}
use Rattle.jvm_natives.specs.Completed.{HasGoneOn}
use Rattle.jvm_natives.specs.Ends.{without, giving, filling, making}

-- ---- frames

pub stays : (s : NumberedFrames) → HasGoneOn s s
stays s = record { on = stays_at s.frame s.callers }
  where
    stays_at : (o : Option NumberedFrame) (cs : List NumberedFrame) → IfSome o (λ f. IsSomeAnd o (IsOf f) × (cs ≡ cs))
    stays_at None cs = tt
    stays_at (Some f) cs = (record { class = refl; method = refl; room = refl }, refl)

pub put_on : (count : ℕ) (v : Value) (old new : NumberedFrames) → IsPut count v old new → HasGoneOn old new
put_on count v old new h = record {
  on = if_some old.frame
      (λ f. GoOn (replacing count v f.room) f old new)
      (λ f. IsSomeAnd new.frame (IsOf f) × (new.callers ≡ old.callers))
      (λ f k. (
        some_and new.frame (Does (replacing count v f.room) f) (IsOf f)
            (λ g d. record { class = d.class; method = d.method; room = d.room }) k.frame,
        k.callers,
      )) h;
}

on_at : (f g : NumberedFrame) (old new : NumberedFrames) → IsOf f g → new ≡ record old { frame = Some g } → IsSomeAnd new.frame (IsOf f) × (new.callers ≡ old.callers)
on_at f g old new is e =
    subst (λ (s : NumberedFrames). IsSomeAnd s.frame (IsOf f) × (s.callers ≡ old.callers)) (sym e) (is, refl)

pub advance_on : (count : ℕ) (old new : NumberedFrames) → IsAdvanced count old new → HasGoneOn old new
advance_on count old new h = record {
  on = if_some old.frame
      (λ f. new ≡ record old { frame = Some (advanced count f) })
      (λ f. IsSomeAnd new.frame (IsOf f) × (new.callers ≡ old.callers))
      (λ f e. on_at f (advanced count f) old new (record { class = refl; method = refl; room = refl }) e) h;
}

pub cut_on : (count : ℕ) (old new : NumberedFrames) → IsCut count old new → HasGoneOn old new
cut_on count old new h = record {
  on = args_at old.frame
      (λ f. new ≡ record old { frame = Some (cut count f) })
      (λ f. IsSomeAnd new.frame (IsOf f) × (new.callers ≡ old.callers))
      h
      (λ f e. on_at f (cut count f) old new (record { class = refl; method = refl; room = refl }) e);
}

pub count_there : (count words : ℕ) (s : NumberedFrames) → HasWords count words s → count ≤ length (stack_of s.frame)
count_there count words s h = count_in s.frame h
  where
    count_in : (o : Option NumberedFrame) → IsSomeAnd o (λ f. AreArgs count words f.stack) → count ≤ length (stack_of o)
    count_in None h = absurd h
    count_in (Some f) h = h.count

-- ---- a result

pub put_gives : (p : List Info) (r : MethodRef) (w : World) (count : ℕ) (v : Value) (old new : NumberedFrames) → IsPut count v old new → Invokes p r (giving count (Some v)) (Turned turn.Goes) old new w w
put_gives p r w count v old new h =
    if_some old.frame
    (λ f. GoOn (replacing count v f.room) f old new)
    (λ f. (z : def.World) → Means p w z → InvokedTo p w.limits r (Turned turn.Goes) f old new w (row_at p (giving count (Some v) w.limits f.room) f old z))
    (λ f on z m. record { world = z; means = m; goes = on_frames p (replacing count v f.room) f old new z on }) h

pub full_gives : (p : List Info) (r : MethodRef) (w : World) (count : ℕ) (v : Value) (b : Bool) (old : NumberedFrames) → b ≡ false → IfSome old.frame (λ f. b ≡ has_room_for count v f) → Invokes p r (giving count (Some v)) (Turned turn.NoRow) old old w w
full_gives p r w count v b old e h =
    if_some old.frame
    (λ f. b ≡ has_room_for count v f)
    (λ f. (z : def.World) → Means p w z → InvokedTo p w.limits r (Turned turn.NoRow) f old old w (row_at p (giving count (Some v) w.limits f.room) f old z))
    (λ f k z m. (
      ap (λ c. if c then jumps z (without count (frame_of p f)) (map (frame_of p) old.callers) (f.at + 1) (v ∷ drop count f.stack) else NoRow) (sym k ∙ e),
      refl,
    )) h

pub advance_gives : (p : List Info) (r : MethodRef) (w : World) (count : ℕ) (old new : NumberedFrames) → IsAdvanced count old new → Invokes p r (giving count None) (Turned turn.Goes) old new w w
advance_gives p r w count old new h =
    if_some old.frame
    (λ f. new ≡ record old { frame = Some (advanced count f) })
    (λ f. (z : def.World) → Means p w z → InvokedTo p w.limits r (Turned turn.Goes) f old new w (row_at p (giving count None w.limits f.room) f old z))
    (λ f e z m. record { world = z; means = m; goes = ap (λ (s : NumberedFrames). goes_with z (frames_of p s)) (sym e) }) h

-- ---- the run is over

pub cut_fills : (p : List Info) (r : MethodRef) (w u : World) (count : ℕ) (old new : NumberedFrames) → IsCut count old new → Moves p w u (λ v. record v { over = Some HeapPassed }) → Invokes p r (filling count) (Turned turn.Goes) old new w u
cut_fills p r w u count old new h moves =
    args_at old.frame
    (λ f. new ≡ record old { frame = Some (cut count f) })
    (λ f. (z : def.World) → Means p w z → InvokedTo p w.limits r (Turned turn.Goes) f old new u (row_at p (filling count w.limits f.room) f old z))
    h
    (λ f e z m. record {
      world = record z { over = Some HeapPassed };
      means = moves z m;
      goes = ap (λ (s : NumberedFrames). goes_with (record z { over = Some HeapPassed }) (frames_of p s)) (sym e);
    })

-- ---- a new object

abbrev pub Make : Type 0
Make = Limits → def.World → Option (def.World × ℕ)

made_left : (p : List Info) (w u : World) (count x : ℕ) (make : Make) (old : NumberedFrames) → Allocates p w u (make w.limits) (Some x) → LeftTo p (making count make) (giving count (Some (Ref x))) old w u
made_left p w u count x make old h =
    each old.frame (λ f. (z : def.World) → Means p w z → Leaves p (giving count (Some (Ref x)) w.limits f.room) f old u (row_at p (making count make w.limits f.room) f old z))
    (λ f z m.
    let g = h z m in
    let fs = map (frame_of p) old.callers in
    record {
      world = g.world;
      means = g.means;
      left = ap (λ a. unless_full z (without count (frame_of p f) ∷ fs) a
          (λ b. pushes b.0 (without count (frame_of p f)) fs f.room (Ref b.1) (drop count f.stack))) g.given;
    })

pub made_gives : (p : List Info) (r : MethodRef) (w u : World) (count x : ℕ) (make : Make) (t : Turn) (old new : NumberedFrames) → u.limits ≡ w.limits → Allocates p w u (make w.limits) (Some x) → Invokes p r (giving count (Some (Ref x))) (Turned t) old new u u → Invokes p r (making count make) (Turned t) old new w u
made_gives p r w u count x make t old new same h k =
    after p r (making count make) (giving count (Some (Ref x))) (Turned t) old new w u u same
    (made_left p w u count x make old h) k

pub none_made : (p : List Info) (r : MethodRef) (w u : World) (count : ℕ) (make : Make) (old new : NumberedFrames) → Allocates p w u (make w.limits) None → IsCut count old new → Invokes p r (making count make) (Turned turn.Goes) old new w u
none_made p r w u count make old new h is =
    args_at old.frame
    (λ f. new ≡ record old { frame = Some (cut count f) })
    (λ f. (z : def.World) → Means p w z → InvokedTo p w.limits r (Turned turn.Goes) f old new u (row_at p (making count make w.limits f.room) f old z))
    is
    (λ f e z m.
    let g = h z m in
    let fs = map (frame_of p) old.callers in
    record {
      world = record z { over = Some HeapPassed };
      means = g.means;
      goes = ap (λ a. unless_full z (without count (frame_of p f) ∷ fs) a
          (λ b. pushes b.0 (without count (frame_of p f)) fs f.room (Ref b.1) (drop count f.stack))) g.full
          ∙ ap (λ (s : NumberedFrames). goes_with (record z { over = Some HeapPassed }) (frames_of p s)) (sym e);
    })
