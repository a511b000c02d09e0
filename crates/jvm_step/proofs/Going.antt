-- What the running frame does.
use Rattle.std.proofs.Common.{◌≡◌, ◌∙◌, ◌⊎◌, inl, inr, refl, sym, ap, subst, ℕ, Bool, true, false, ◌<◌, length, List, [], ◌∷◌, map, Option, None, Some, IfSome, IsSomeAnd}
use Rattle.std.specs.Prelude.{◌≤◌, ◌+◌, ◌^◌, if◌then◌else◌}
use Rattle.program_rules.specs.Names.{Name}
use Rattle.program_rules.specs.Programs.{Look}
use Rattle.program_rules.specs.Linked as rules
use Rattle.program_rules.specs.Linked.{is_from_file}
use Rattle.machine_rules.specs.Calls.{room_of, room_in}
use Rattle.machine_rules.specs.declared.machine.Limits.{Limits}
use Rattle.machine_rules.specs.State as def
use Rattle.machine_rules.specs.Effects.{Effect}
use Rattle.machine_rules.specs.Steps.{goes, reach, reaches, line_of}
use Rattle.machine_rules.specs.TypeRows.{monitor_count}
use Rattle.class_link.specs.Info.{Info}
use Rattle.class_link.specs.View.{body_of, row_of}
use Rattle.class_table.specs.Table.{look, name_at, entries_at}
use Rattle.jvm_frames.specs.Frames.{NumberedFrame, NumberedFrames, IsAt}
use Rattle.jvm_world.specs.declared.world.World.{World}
use Rattle.jvm_world.specs.Holding.{opened}
use Rattle.jvm_world.specs.View.{History, Means, Moves, IsKept, world_of}
use Rattle.jvm_lines.specs.Below.{Turn}
use Rattle.jvm_lines.specs.Below.jvm_unwind_declared_turn_Turn_TheVariants as turn
use Rattle.jvm_lines.specs.Below.{frame_of, frames_on, row_at}
use Rattle.jvm_lines.proofs.Below.{with_some}
use Rattle.jvm_lines.specs.Below.{jvm_invokes_IsOfMethod as IsOfMethod}
use Rattle.jvm_lines.specs.Below.{MethodCode}
use Rattle.jvm_lines.specs.Below.{RunsCode, acting, throwing_row}
use Rattle.jvm_lines.specs.Below.{held, IsHeld}
use Rattle.jvm_lines.specs.Below.jvm_act_Laws as laws
use Rattle.jvm_lines.specs.Below.{IsCodeOf, HasNoCode}
use Rattle.jvm_lines.specs.Below.{AreFramesOf}
use Rattle.jvm_lines.specs.Below.{TurnedTo, Turned}
use Rattle.jvm_lines.specs.Below.{AreWhole}
use Rattle.jvm_step.specs.Steps.{calling}
use Rattle.jvm_lines.specs.Lines.{ReachesLine}
use Rattle.jvm_step.specs.Going.{GoesTo}
use Rattle.jvm_step.specs.Machines.{HasFewMonitors, HasMeaning}
use Rattle.jvm_step.specs.Programs.{HaveRoomToLand}

-- ---- the code of the running frame

of_some : {A : Type 0} (o : Option A) (x : A) (P : A → Type 0) → o ≡ Some x → IfSome o P → P x
of_some o x P is h = subst (λ k. IfSome k P) is h

code_in : (p : List Info) (class place at : ℕ) (m : MethodCode) (f : NumberedFrame) → IsAt class place at f → IsCodeOf p class place m → IsCodeOf p f.class f.method m
code_in p class place at m f is code =
    subst (λ k. IsCodeOf p k f.method m) (sym is.class) (subst (λ k. IsCodeOf p class k m) (sym is.method) code)

module _ (p : List Info) (s : NumberedFrames) (class place at : ℕ) (is : IsSomeAnd s.frame (IsAt class place at)) where
  -- The frame that runs.
  abbrev runs : (f : NumberedFrame) × (s.frame ≡ Some f) × IsAt class place at f
  runs = with_some s.frame (IsAt class place at) is

  pub runs_code : (m : MethodCode) → IsCodeOf p class place m → RunsCode p m s
  runs_code m code =
      subst (λ o. IsSomeAnd o (λ f. IsCodeOf p f.class f.method m)) (sym runs.1)
      (code_in p class place at m runs.0 runs.2 code)

  of_method : AreFramesOf p s → IsOfMethod p runs.0
  of_method are = of_some s.frame runs.0 (IsOfMethod p) runs.1 are.running

  -- Its method has code.
  pub not_without : AreFramesOf p s → HasNoCode p class place → ⊥
  not_without are none =
      let f = runs.0 in
      let room : room_of (look p) (frame_of p f) ≡ None =
      ap (λ k. room_in (rules.code_of (rules.method_in (look p (name_at p k)) f.method))) runs.2.class
      ∙ ap (λ k. room_in (rules.code_of (rules.method_in (look p (name_at p class)) k))) runs.2.method
      ∙ ap room_in none in
      let e : None ≡ Some f.room = sym room ∙ (of_method are).room in cc

  pub class_within : AreFramesOf p s → class < length p
  class_within are = subst (λ k. k < length p) runs.2.class (of_method are).class

-- What is held isn't nothing.
pub not_held : (p : List Info) (class place : ℕ) (rows : List (List (Option MethodCode))) → IsHeld p class place rows → held class place rows ≡ None → ⊥
not_held p class place rows is none = subst (λ o. IsSomeAnd o (IsCodeOf p class place)) none is

-- ---- an object is thrown

none_mapped : {A B : Type 0} (f : A → B) (xs : List A) → map f xs ≡ [] → xs ≡ []
none_mapped f [] e = refl
none_mapped f (x ∷ xs) e = absurd cc

pub room_to_land : (p : List Info) (class place : ℕ) (m : MethodCode) → HaveRoomToLand (look p) → IsCodeOf p class place m → laws.HasRoomToLand m
room_to_land p class place m room code =
    by_rows (room (name_at p class) place _
    (ap rules.code_of code.there ∙ ap (λ b. rules.code_in (body_of (entries_at p class) b)) code.body))
  where
    by_rows : ((map row_of m.linked.rows ≡ []) ⊎ (1 ≤ m.linked.max_stack)) → laws.HasRoomToLand m
    by_rows (inl none) = inl (none_mapped row_of m.linked.rows none)
    by_rows (inr there) = inr there

pub throws : (p : List Info) (class place at x : ℕ) (t : Turn) (old new : NumberedFrames) (w u : World) → IsSomeAnd old.frame (IsAt class place at) → Turned p (throwing_row p x) t old new w u → GoesTo p (Some x) t old new w u
throws p class place at x t old new w u is h =
    let f = runs p old class place at is in
    subst (λ o. TurnedTo p (λ v. goes (look p) w.limits v (Some x) (frames_on p o old.callers)) t new w u) (sym f.1)
    (of_some old.frame f.0 (λ g. TurnedTo p (row_at p (throwing_row p x w.limits g.room) g old) t new w u) f.1 h)

-- ---- its instruction is executed

turned_behind : (p : List Info) (go : def.World → Effect) (move : def.World → def.World) (t : Turn) (new : NumberedFrames) (w between u : World) → Moves p w between move → TurnedTo p go t new between u → TurnedTo p (λ v. go (move v)) t new w u
turned_behind p go move turn.NoRow new w between u moves h = λ v m. h (move v) (moves v m)
turned_behind p go move turn.Goes new w between u moves h = λ v m. h (move v) (moves v m)
turned_behind p go move (turn.Throws x) new w between u moves h = λ v m. h (move v) (moves v m)

pub acts : (p : List Info) (class place at : ℕ) (t : Turn) (old new : NumberedFrames) (w between u : World) → IsSomeAnd old.frame (IsAt class place at) → ((f : NumberedFrame) → IsAt class place at f → ReachesLine p f w between) → between.limits ≡ w.limits → Turned p (acting p) t old new between u → GoesTo p None t old new w u
acts p class place at t old new w between u is reached limits h =
    let f = runs p old class place at is in
    let row = λ (q : Limits). row_at p (acting p q f.0.room) f.0 old in
    subst (λ o. TurnedTo p (λ v. goes (look p) w.limits v None (frames_on p o old.callers)) t new w u) (sym f.1)
    (turned_behind p (row w.limits) (reaches (look p) (frame_of p f.0)) t new w between u (reached f.0 f.2)
    (subst (λ q. TurnedTo p (row q) t new between u) limits
    (of_some old.frame f.0 (λ g. TurnedTo p (row_at p (acting p between.limits g.room) g old) t new between u) f.1 h)))

pub kept_on : (p : List Info) (w between u : World) → IsKept p w between → IsKept p between u → IsKept p w u
kept_on p w between u first second = record { world = second.world; limits = second.limits ∙ first.limits }

by_file : (b : Bool) (n : Name) (l : ℕ) (v : def.World) → (if b then record v { reached = reach n l v.reached } else v).monitors ≡ v.monitors
by_file true n l v = refl
by_file false n l v = refl

monitors_same : (p : Look) (f : def.Frame) (v : def.World) → (reaches p f v).monitors ≡ v.monitors
monitors_same p f v = by_file (is_from_file (p f.class)) f.class (line_of p f) v

past_monitors : (p : List Info) (w : World) (h : History) (v : def.World) → v ≡ world_of p w h → v.monitors ≡ h.monitors
unfolding world_of
past_monitors p w h v e = ap (λ (u : def.World). u.monitors) e

-- What the code counts for an object is what each world counts that it means.
pub counts_are : (p : List Info) (w : World) (v : def.World) → Means p w v → (x : ℕ) → monitor_count x v.monitors ≡ opened x w.monitors
counts_are p w v m x = ap (monitor_count x) (past_monitors p w m.past v m.world) ∙ m.history.monitors x

-- No monitor is entered where a line is reached.
pub few_still : (p : List Info) (f : NumberedFrame) (w u : World) → HasMeaning p w → ReachesLine p f w u → HasFewMonitors w → HasFewMonitors u
few_still p f w u m reached few = λ x.
    let v = reaches (look p) (frame_of p f) m.world in
    let e : opened x u.monitors ≡ opened x w.monitors =
    sym (counts_are p u v (reached m.world m.means) x)
    ∙ ap (monitor_count x) (monitors_same (look p) (frame_of p f) m.world)
    ∙ counts_are p w m.world m.means x in
    subst (λ k. k + 1 < 2 ^ 64) (sym e) (few x)

-- The same of the running frame.
pub few_there : (p : List Info) (s : NumberedFrames) (class place at : ℕ) (w u : World) → IsSomeAnd s.frame (IsAt class place at) → HasMeaning p w → ((f : NumberedFrame) → IsAt class place at f → ReachesLine p f w u) → HasFewMonitors w → HasFewMonitors u
few_there p s class place at w u is m reached few =
    let f = runs p s class place at is in
    few_still p f.0 w u m (reached f.0 f.2) few

-- ---- no frame runs

-- The next call of the script is made.
pub calls : (p : List Info) (t : Turn) (old new : NumberedFrames) (w u : World) → old.frame ≡ None → TurnedTo p (calling p w.limits) t new w u → GoesTo p None t old new w u
calls p t old new w u none h = subst (λ o. TurnedTo p (λ v. goes (look p) w.limits v None (frames_on p o old.callers)) t new w u) (sym none) h

pub are_whole : (p : List Info) (s : NumberedFrames) → AreFramesOf p s → AreWhole s
are_whole p s are = are.whole

pub thrown_alone : (p : List Info) (x : ℕ) (s : NumberedFrames) (w : World) → s.frame ≡ None → GoesTo p (Some x) turn.NoRow s s w w
thrown_alone p x s w none = λ v m. ap (λ o. goes (look p) w.limits v (Some x) (frames_on p o s.callers)) none
