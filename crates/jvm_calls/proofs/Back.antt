-- A frame is left, and the one below goes on.
use Rattle.std.proofs.Common.{◌≡◌, ◌∙◌, ◌⊎◌, inl, inr, sym, refl, ap, subst, ℕ, ◌+◌, ◌<◌, ◌^◌, Bool, true, false, List, [], ◌∷◌, map, drop, length, Option, Some, None, IfSome, IsSomeAnd}
use Rattle.std.specs.Prelude.{if◌then◌else◌, slice_get, nat_le}
use Rattle.program_rules.specs.declared.value.Value.{Value}
use Rattle.program_rules.specs.Kinds.{Kind}
use Rattle.machine_rules.specs.State as def
use Rattle.machine_rules.specs.declared.machine.Stop.TheVariants.{TestReturned}
use Rattle.machine_rules.specs.declared.machine.InitState.TheVariants.{Done}
use Rattle.machine_rules.specs.Effects.{Effect, NoRow, on_some, goes_with, jumps, Current}
use Rattle.machine_rules.specs.Initialisation.{marks}
use Rattle.machine_rules.specs.Calls.{is_awaited, finishes, goes_on, returns}
use Rattle.class_link.specs.Info.{Info}
use Rattle.class_table.specs.Table.{look, name_at}
use Rattle.jvm_state.specs.Rows.{Row}
use Rattle.jvm_frames.specs.Frames.{NumberedFrame, NumberedFrames, left_behind, replacing, has_room_for, advanced, GoOn, Does, IsPut, IsAdvanced}
use Rattle.jvm_world.specs.declared.world.World.{World}
use Rattle.jvm_world.specs.View.{Means, Moves}
use Rattle.jvm_unwind.specs.declared.turn.Turn.{Turn}
use Rattle.jvm_unwind.specs.declared.turn.Turn.TheVariants as turn
use Rattle.jvm_unwind.specs.Turns.{frame_of, frames_of, ComesAt, TurnsTo, row_at, Turns}
use Rattle.jvm_unwind.specs.Unwinding.{IsOf}
use Rattle.jvm_unwind.proofs.Left.{with_some}
use Rattle.jvm_unwind.proofs.Steps.{each, at_frame, of_frame, on_frames, frames_left}
use Rattle.jvm_calls.specs.Returns.{IsCaller, HasCaller, GoesBack, StaysOrBack, IsGiven, returns_with, int_result, long_result, reference_result, back, giving, returning_int, returning_long, returning_reference, returning_plain}
use Rattle.jvm_calls.proofs.Given.{int_returns, long_returns, reference_returns}

-- ---- the call of the script has returned

abbrev ends : def.World → Bool → Effect
ends v b =
    if b then goes_with (record v { running = None; over = Some TestReturned }) []
    else goes_with (record v { running = None }) []

pub finished_failed : (p : List Info) (w u z : World) → ((v : def.World) → Means p w v → is_awaited v ≡ true) → Moves p w u (λ v. record v { over = Some TestReturned }) → Moves p u z (λ v. record v { running = None }) → ComesAt p w z [] None finishes
finished_failed p w u z awaits over done v m = record {
  world = record v { running = None; over = Some TestReturned };
  means = done (record v { over = Some TestReturned }) (over v m);
  goes = ap (ends v) (awaits v m);
}

pub finished : (p : List Info) (w z : World) → ((v : def.World) → Means p w v → is_awaited v ≡ false) → Moves p w z (λ v. record v { running = None }) → ComesAt p w z [] None finishes
finished p w z awaits done v m = record {
  world = record v { running = None };
  means = done v m;
  goes = ap (ends v) (awaits v m);
}

-- ---- below the last frame

turns_out : (p : List Info) (r : Option Value) (o : Option NumberedFrame) (cs : List NumberedFrame) (new : NumberedFrames) (w u : World) → length cs ≡ 0 → new ≡ left_behind cs → ComesAt p w u [] None finishes → Turns p (back p r) turn.Goes (record { frame = o; callers = cs }) new w u
turns_out p r o [] new w u none left done =
    each o (λ f. TurnsTo p (row_at p (back p r) f (record { frame = o; callers = [] })) turn.Goes (record { frame = o; callers = [] }) new w u)
    (λ f. subst (λ s. ComesAt p w u (frames_of p s) None finishes) (sym left) done)
turns_out p r o (c ∷ cs) new w u none left done = absurd cc

pub back_out : (p : List Info) (r : Option Value) (old new : NumberedFrames) (w u : World) → length old.callers ≡ 0 → new ≡ left_behind old.callers → ComesAt p w u [] None finishes → Turns p (back p r) turn.Goes old new w u
back_out p r old new w u none left done = turns_out p r old.frame old.callers new w u none left done

-- ---- over a frame below

abbrev result_at : List Info → Option Value → def.World → NumberedFrame → List def.Frame → ℕ → Effect
result_at p r v g fs room = goes_on v (frame_of p g) fs room r

-- The row, where a frame stands below.
back_over : (p : List Info) (r : Option Value) (g : NumberedFrame) (fs : List def.Frame) (v : def.World) → IsCaller p g → returns (look p) v (frame_of p g ∷ fs) r ≡ result_at p r v g fs g.room
back_over p r g fs v is = ap (λ o. on_some o (result_at p r v g fs)) is.room

module _ (p : List Info) (r : Option Value) (o : Option NumberedFrame) (g : NumberedFrame) (cs : List NumberedFrame) (is : IsCaller p g) where
  abbrev before : NumberedFrames
  before = record { frame = o; callers = g ∷ cs }

  abbrev middle : NumberedFrames
  middle = record { frame = Some g; callers = cs }

  -- By a row that the frame below goes on by.
  goes_over : (row : Row) (new : NumberedFrames) (w : World) → ((v : def.World) → result_at p r v g (map (frame_of p) cs) g.room ≡ row v (frame_of p g) (map (frame_of p) cs)) → GoOn row g middle new → Turns p (back p r) turn.Goes before new w w
  goes_over row new w same on =
      each o (λ f. TurnsTo p (row_at p (back p r) f before) turn.Goes before new w w) (λ f v m. record {
        world = v;
        means = m;
        goes = back_over p r g (map (frame_of p) cs) v is ∙ same v ∙ on_frames p row g middle new v on;
      })

  goes_back : (row : Row) (new : NumberedFrames) → GoOn row g middle new → GoesBack (g ∷ cs) new
  goes_back row new on =
      let k = with_some new.frame (Does row g) on.frame in
      (subst (λ o. IsSomeAnd o (IsOf g)) (sym k.1) (record { class = k.2.class; method = k.2.method; room = k.2.room }), on.callers)

  stuck_over : (w : World) → ((v : def.World) → result_at p r v g (map (frame_of p) cs) g.room ≡ NoRow) → Turns p (back p r) turn.NoRow before before w w
  stuck_over w none =
      each o (λ f. TurnsTo p (row_at p (back p r) f before) turn.NoRow before before w w) (λ f. (
        λ v m.
            back_over p r g (map (frame_of p) cs) v is ∙ none v,
        refl,
        refl,
      ))

-- ---- as the code has them

-- A row that goes on by taking no value off.
abbrev going : Row
going = λ w f fs. jumps w f fs (f.at + 1) f.stack

advances : (g : NumberedFrame) (mid new : NumberedFrames) → new ≡ record mid { frame = Some (advanced 0 g) } → GoOn going g mid new
advances g mid new e = subst (GoOn going g mid) (sym e) (record {
  frame = record { goes = λ class w fs. refl; class = refl; method = refl; room = refl };
  callers = refl;
})

put_over : (p : List Info) (v : Value) (o : Option NumberedFrame) (cs : List NumberedFrame) (mid new : NumberedFrames) (w : World) → (length cs ≡ 0 → ⊥) → IfSome (slice_get cs 0) (IsCaller p) → mid ≡ left_behind cs → IsPut 0 v mid new → Turns p (back p (Some v)) turn.Goes (record { frame = o; callers = cs }) new w w × GoesBack cs new
put_over p v o [] mid new w some is left put = absurd (some refl)
put_over p v o (g ∷ cs) mid new w some is left put =
    let on : GoOn (replacing 0 v g.room) g (record { frame = Some g; callers = cs }) new = subst (λ s. IsPut 0 v s new) left put in
    (goes_over p (Some v) o g cs is (replacing 0 v g.room) new w (λ z. refl) on, goes_back p (Some v) o g cs is (replacing 0 v g.room) new on)

advance_over : (p : List Info) (o : Option NumberedFrame) (cs : List NumberedFrame) (mid new : NumberedFrames) (w : World) → (length cs ≡ 0 → ⊥) → IfSome (slice_get cs 0) (IsCaller p) → mid ≡ left_behind cs → IsAdvanced 0 mid new → Turns p (back p None) turn.Goes (record { frame = o; callers = cs }) new w w × GoesBack cs new
advance_over p o [] mid new w some is left on = absurd (some refl)
advance_over p o (g ∷ cs) mid new w some is left on =
    let k : GoOn going g (record { frame = Some g; callers = cs }) new = advances g (record { frame = Some g; callers = cs }) new (subst (λ s. IsAdvanced 0 s new) left on) in
    (goes_over p None o g cs is going new w (λ z. refl) k, goes_back p None o g cs is going new k)

full_over : (p : List Info) (v : Value) (o : Option NumberedFrame) (cs : List NumberedFrame) (w : World) → (length cs ≡ 0 → ⊥) → IfSome (slice_get cs 0) (IsCaller p) → IfSome (slice_get cs 0) (λ g. false ≡ has_room_for 0 v g) → Turns p (back p (Some v)) turn.NoRow (record { frame = o; callers = cs }) (record { frame = o; callers = cs }) w w
full_over p v o [] w some is full = absurd (some refl)
full_over p v o (g ∷ cs) w some is full =
    stuck_over p (Some v) o g cs is w (λ z. ap (λ b. if b then jumps z (frame_of p g) (map (frame_of p) cs) (g.at + 1) (v ∷ g.stack) else NoRow) (sym full))

pub back_with : (p : List Info) (v : Value) (old mid new : NumberedFrames) (w : World) → (length old.callers ≡ 0 → ⊥) → HasCaller p old → mid ≡ left_behind old.callers → IsPut 0 v mid new → Turns p (back p (Some v)) turn.Goes old new w w
back_with p v old mid new w some is left put = (put_over p v old.frame old.callers mid new w some is left put).0

pub put_back : (p : List Info) (v : Value) (old mid new : NumberedFrames) (w : World) → (length old.callers ≡ 0 → ⊥) → HasCaller p old → mid ≡ left_behind old.callers → IsPut 0 v mid new → StaysOrBack old new
put_back p v old mid new w some is left put = inr (put_over p v old.frame old.callers mid new w some is left put).1

pub back_plain : (p : List Info) (old mid new : NumberedFrames) (w : World) → (length old.callers ≡ 0 → ⊥) → HasCaller p old → mid ≡ left_behind old.callers → IsAdvanced 0 mid new → Turns p (back p None) turn.Goes old new w w
back_plain p old mid new w some is left on = (advance_over p old.frame old.callers mid new w some is left on).0

pub advance_back : (p : List Info) (old mid new : NumberedFrames) (w : World) → (length old.callers ≡ 0 → ⊥) → HasCaller p old → mid ≡ left_behind old.callers → IsAdvanced 0 mid new → StaysOrBack old new
advance_back p old mid new w some is left on = inr (advance_over p old.frame old.callers mid new w some is left on).1

pub back_full : (p : List Info) (v : Value) (old : NumberedFrames) (w : World) → (length old.callers ≡ 0 → ⊥) → HasCaller p old → IfSome (slice_get old.callers 0) (λ g. false ≡ has_room_for 0 v g) → Turns p (back p (Some v)) turn.NoRow old old w w
back_full p v old w some is full = full_over p v old.frame old.callers w some is full

-- What stands below once the running frame is left.
count_below : (v : Value) (cs : List NumberedFrame) (mid : NumberedFrames) → mid ≡ left_behind cs → IfSome (slice_get cs 0) (λ g. true ≡ has_room_for 0 v g) → IfSome mid.frame (λ g. has_room_for 0 v g ≡ true)
count_below v [] mid left h = subst (λ s. IfSome s.frame (λ g. has_room_for 0 v g ≡ true)) (sym left) tt
count_below v (g ∷ cs) mid left h = subst (λ s. IfSome s.frame (λ g. has_room_for 0 v g ≡ true)) (sym left) (sym h)

pub room_below : (v : Value) (old mid : NumberedFrames) → mid ≡ left_behind old.callers → IfSome (slice_get old.callers 0) (λ g. true ≡ has_room_for 0 v g) → IfSome mid.frame (λ g. has_room_for 0 v g ≡ true)
room_below v old mid left h = count_below v old.callers mid left h

abbrev HasNext : NumberedFrame → Type 0
HasNext g = g.at + 1 < 2 ^ 64

next_in : (p : List Info) (cs : List NumberedFrame) (mid : NumberedFrames) → mid ≡ left_behind cs → IfSome (slice_get cs 0) (IsCaller p) → IfSome mid.frame HasNext
next_in p [] mid left h = subst (λ s. IfSome s.frame HasNext) (sym left) tt
next_in p (g ∷ cs) mid left h = subst (λ s. IfSome s.frame HasNext) (sym left) h.next

pub next_below : (p : List Info) (old mid : NumberedFrames) → mid ≡ left_behind old.callers → HasCaller p old → IfSome mid.frame HasNext
next_below p old mid left h = next_in p old.callers mid left h

-- ---- results

turns_as : (p : List Info) (k : Turn) (go other : def.World → Effect) (old new : NumberedFrames) (w u : World) → ((v : def.World) → go v ≡ other v) → TurnsTo p other k old new w u → TurnsTo p go k old new w u
turns_as p turn.NoRow go other old new w u same h = (λ v m. same v ∙ h.0 v m, h.1, h.2)
turns_as p turn.Goes go other old new w u same h = λ v m.
    let c = h v m in
    record { world = c.world; means = c.means; goes = same v ∙ c.goes }
turns_as p (turn.Throws x) go other old new w u same h = λ v m.
    let c = h v m in
    record { world = c.world; means = c.means; goes = same v ∙ c.goes }

both_at : (p : List Info) (k : Turn) (row other : Row) (o : Option NumberedFrame) (old new : NumberedFrames) (w u : World) → IfSome o (λ f. (v : def.World) → row_at p row f old v ≡ row_at p other f old v) → IfSome o (λ f. TurnsTo p (row_at p other f old) k old new w u) → IfSome o (λ f. TurnsTo p (row_at p row f old) k old new w u)
both_at p k row other None old new w u same h = tt
both_at p k row other (Some f) old new w u same h = turns_as p k (row_at p row f old) (row_at p other f old) old new w u same h

pub given_is : (p : List Info) (k : Turn) (row other : Row) (old new : NumberedFrames) (w u : World) → IfSome old.frame (λ f. (v : def.World) → row_at p row f old v ≡ row_at p other f old v) → Turns p other k old new w u → Turns p row k old new w u
given_is p k row other old new w u same h = both_at p k row other old.frame old new w u same h

abbrev Result : Type 0
Result = List Value → Option Value

given_at : (p : List Info) (result : Result) (r : Option Value) (o : Option NumberedFrame) (old : NumberedFrames) → IfSome o (λ f. r ≡ result f.stack) → IfSome o (λ f. (v : def.World) → row_at p (giving p result) f old v ≡ returns_with (look p) v (map (frame_of p) old.callers) r)
given_at p result r None old h = tt
given_at p result r (Some f) old h = λ v. ap (returns_with (look p) v (map (frame_of p) old.callers)) (sym h)

pub gives_some : (p : List Info) (result : Result) (v : Value) (k : Turn) (old new : NumberedFrames) (w u : World) → IsGiven result (Some v) old → Turns p (back p (Some v)) k old new w u → Turns p (giving p result) k old new w u
gives_some p result v k old new w u h t =
    given_is p k (giving p result) (back p (Some v)) old new w u (given_at p result (Some v) old.frame old h) t

none_at : (p : List Info) (result : Result) (o : Option NumberedFrame) (old : NumberedFrames) (w : World) → IfSome o (λ f. None ≡ result f.stack) → IfSome o (λ f. TurnsTo p (row_at p (giving p result) f old) turn.NoRow old old w w)
none_at p result None old w h = tt
none_at p result (Some f) old w h = (λ v m. ap (returns_with (look p) v (map (frame_of p) old.callers)) (sym h), refl, refl)

pub gives_none : (p : List Info) (result : Result) (old : NumberedFrames) (w : World) → IsGiven result None old → Turns p (giving p result) turn.NoRow old old w w
gives_none p result old w h = none_at p result old.frame old w h

-- ---- return

pub plain_stuck : (p : List Info) (k : Kind) (room : ℕ) (b : Bool) (old : NumberedFrames) (w : World) → Turns p (returning_plain p (Some k) room b) turn.NoRow old old w w
plain_stuck p k room b old w =
    each old.frame (λ f. TurnsTo p (row_at p (returning_plain p (Some k) room b) f old) turn.NoRow old old w w) (λ f. (λ v m. refl, refl, refl))

pub plain_back : (p : List Info) (room : ℕ) (k : Turn) (old new : NumberedFrames) (w u : World) → Turns p (back p None) k old new w u → Turns p (returning_plain p None room false) k old new w u
plain_back p room k old new w u t =
    given_is p k (returning_plain p None room false) (back p None) old new w u
    (each old.frame (λ f. (v : def.World) → row_at p (returning_plain p None room false) f old v ≡ row_at p (back p None) f old v) (λ f v. refl)) t

pub plain_done : (p : List Info) (room class : ℕ) (f : NumberedFrame) (old new : NumberedFrames) (w u : World) → old.frame ≡ Some f → class ≡ f.class → Moves p w u (marks (name_at p class) Done) → new ≡ left_behind old.callers → Turns p (returning_plain p None room true) turn.Goes old new w u
plain_done p room class f old new w u is same moves left =
    at_frame old.frame f (λ g. TurnsTo p (row_at p (returning_plain p None room true) g old) turn.Goes old new w u) is (λ v m. record {
      world = marks (name_at p class) Done v;
      means = moves v m;
      goes = ap (λ n. goes_with (marks (name_at p n) Done v) (map (frame_of p) old.callers)) (sym same)
          ∙ ap (goes_with (marks (name_at p class) Done v)) (sym (ap (frames_of p) left ∙ frames_left p old.callers));
    })

left_goes : (cs : List NumberedFrame) → GoesBack cs (left_behind cs)
left_goes [] = refl
left_goes (g ∷ cs) = (record { class = refl; method = refl; room = refl }, refl)

pub left_back : (old new : NumberedFrames) → new ≡ left_behind old.callers → StaysOrBack old new
left_back old new left = inr (subst (GoesBack old.callers) (sym left) (left_goes old.callers))

-- ---- ireturn, lreturn, areturn

pub int_back : (p : List Info) (kind : Option Kind) (k : Turn) (old new : NumberedFrames) (w u : World) → Turns p (giving p (int_result kind)) k old new w u → Turns p (returning_int p kind) k old new w u
int_back p kind k old new w u t =
    given_is p k (returning_int p kind) (giving p (int_result kind)) old new w u
    (each old.frame (λ f. (v : def.World) → row_at p (returning_int p kind) f old v ≡ row_at p (giving p (int_result kind)) f old v) (λ f v. int_returns kind (look p) v (frame_of p f) (map (frame_of p) old.callers))) t

pub long_back : (p : List Info) (kind : Option Kind) (k : Turn) (old new : NumberedFrames) (w u : World) → Turns p (giving p (long_result kind)) k old new w u → Turns p (returning_long p kind) k old new w u
long_back p kind k old new w u t =
    given_is p k (returning_long p kind) (giving p (long_result kind)) old new w u
    (each old.frame (λ f. (v : def.World) → row_at p (returning_long p kind) f old v ≡ row_at p (giving p (long_result kind)) f old v) (λ f v. long_returns kind (look p) v (frame_of p f) (map (frame_of p) old.callers))) t

pub reference_back : (p : List Info) (kind : Option Kind) (k : Turn) (old new : NumberedFrames) (w u : World) → Turns p (giving p (reference_result kind)) k old new w u → Turns p (returning_reference p kind) k old new w u
reference_back p kind k old new w u t =
    given_is p k (returning_reference p kind) (giving p (reference_result kind)) old new w u
    (each old.frame (λ f. (v : def.World) → row_at p (returning_reference p kind) f old v ≡ row_at p (giving p (reference_result kind)) f old v) (λ f v. reference_returns kind (look p) v (frame_of p f) (map (frame_of p) old.callers))) t
