-- Whole rows as turns, and what is left of a row once the world has moved.
use Rattle.std.proofs.Common.{◌≡◌, ◌⊎◌, inl, inr, sym, subst, ℕ, ◌+◌, ◌<◌, ◌^◌, List, ◌∷◌, map, Option, None, Some, IfSome, IsSomeAnd}
use Rattle.program_rules.specs.Instructions.{MethodRef}
use Rattle.program_rules.specs.Programs.{Family, family}
use Rattle.machine_rules.specs.declared.machine.Limits.{Limits}
use Rattle.machine_rules.specs.State as def
use Rattle.machine_rules.specs.Effects.{Effect, NoRow}
use Rattle.class_link.specs.Info.{Info}
use Rattle.class_table.specs.Table.{look, name_at}
use Rattle.jvm_state.specs.Rows.{Row}
use Rattle.jvm_frames.specs.Frames.{NumberedFrame, NumberedFrames, framed}
use Rattle.jvm_world.specs.declared.world.World.{World}
use Rattle.jvm_world.specs.View.{Means, Comes, Moves}
use Rattle.jvm_rows.specs.declared.effect.Effect as code
use Rattle.jvm_rows.specs.declared.effect.Effect.TheVariants as effect
use Rattle.jvm_rows.specs.Effects.{GoesOn, RowOf, Runs}
use Rattle.jvm_rows.proofs.Ends.{SameAt, AreSame, each, if_some, if_both, some_and}
use Rattle.jvm_unwind.specs.declared.turn.Turn.{Turn}
use Rattle.jvm_unwind.specs.declared.turn.Turn.TheVariants as turn
use Rattle.jvm_unwind.specs.Turns.{frame_of, frames_on, frames_of, row_at, TurnsTo}
use Rattle.jvm_unwind.specs.Unwinding.{IsOf}
use Rattle.jvm_initialization.specs.declared.ready.Readied.{Readied}
use Rattle.jvm_initialization.specs.declared.ready.Readied.TheVariants as readied
use Rattle.jvm_initialization.specs.Begins.{HasBegun, StaysOrBegins}
use Rattle.jvm_initialization.specs.Needs.{Use, ReadiesTo, using}
use Rattle.jvm_members.specs.Whole.{WholeTo, RunsWhole}
use Rattle.jvm_members.proofs.Wholes.{LeftBy, LeftAt, whole}
use Rattle.jvm_members.specs.Turned.{TurnedTo, TurnsWhole, turn_of, HasGoneOn, StaysBeginsOrGoes}
use Rattle.jvm_members.specs.FieldRows.{readying}

-- ---- the frames behind

on_callers : (p : List Info) (g : NumberedFrame) (o : Option NumberedFrame) (cs ds : List NumberedFrame) (row : Row) (f : NumberedFrame) (w u : World) (v : def.World) → cs ≡ ds → Means p w v → IsSomeAnd o (GoesOn p row f w u) → Comes p u (frames_on p o cs) None (row v (frame_of p f) (map (frame_of p) ds))
on_callers p g None cs ds row f w u v same m h = absurd h
on_callers p g (Some k) cs ds row f w u v same m h =
    let c = h.goes (name_at p f.class) v (map (frame_of p) ds) m in
    let one = subst (λ a. Comes p u (framed (name_at p a) k ∷ map (frame_of p) ds) None (row v (frame_of p f) (map (frame_of p) ds))) (sym h.class) c in
    subst (λ (xs : List NumberedFrame). Comes p u (frame_of p k ∷ map (frame_of p) xs) None (row v (frame_of p f) (map (frame_of p) ds))) (sym same) one

turned_at : (p : List Info) (row : Row) (e : code.Effect) (f : NumberedFrame) (cs : List NumberedFrame) (new : NumberedFrames) (w u : World) (v : def.World) → Means p w v → WholeTo p row e f (record { frame = Some f; callers = cs }) new w u → TurnedTo p (turn_of e) (record { frame = Some f; callers = cs }) new u (row v (frame_of p f) (map (frame_of p) cs))
turned_at p row effect.NoRow f cs new w u v m h = (h.0 (name_at p f.class) v (map (frame_of p) cs) m, h.1)
turned_at p row effect.Goes f cs new w u v m h = on_callers p f new.frame new.callers cs row f w u v h.1 m h.0
turned_at p row (effect.Throws x) f cs new w u v m h =
    let c = h.0 (name_at p f.class) v (map (frame_of p) cs) m in
    subst (λ (s : NumberedFrames). Comes p u (frames_of p s) (Some x) (row v (frame_of p f) (map (frame_of p) cs))) (sym h.1) c

whole_turn_at : (p : List Info) (row : RowOf) (e : code.Effect) (o : Option NumberedFrame) (cs : List NumberedFrame) (new : NumberedFrames) (w u : World) → RunsWhole p row e (record { frame = o; callers = cs }) new w u → TurnsWhole p row (turn_of e) (record { frame = o; callers = cs }) new w u
whole_turn_at p row e None cs new w u h = tt
whole_turn_at p row e (Some f) cs new w u h = λ v m. turned_at p (row w.limits f.room) e f cs new w u v m h

-- a row that keeps the frame comes to a turn
pub whole_turned : (p : List Info) (row : RowOf) (e : code.Effect) (old new : NumberedFrames) (w u : World) → RunsWhole p row e old new w u → TurnsWhole p row (turn_of e) old new w u
whole_turned p row e old new w u h = whole_turn_at p row e old.frame old.callers new w u h

pub whole_turn : (p : List Info) (row : RowOf) (e : code.Effect) (t : Turn) (old new : NumberedFrames) (w u : World) → t ≡ turn_of e → RunsWhole p row e old new w u → TurnsWhole p row t old new w u
whole_turn p row e t old new w u is h = subst (λ k. TurnsWhole p row k old new w u) (sym is) (whole_turned p row e old new w u h)

gone_on : (p : List Info) (row : Row) (e : code.Effect) (f : NumberedFrame) (old new : NumberedFrames) (w u : World) → WholeTo p row e f old new w u → (new ≡ old) ⊎ HasGoneOn f old new
gone_on p row effect.NoRow f old new w u h = inl h.1
gone_on p row effect.Goes f old new w u h =
    inr (some_and new.frame (GoesOn p row f w u) (IsOf f) (λ g k. record { class = k.class; method = k.method; room = k.room }) h.0, h.1)
gone_on p row (effect.Throws x) f old new w u h = inl h.1

-- what becomes of its frames
pub whole_frames : (p : List Info) (row : RowOf) (e : code.Effect) (old new : NumberedFrames) (w u : World) → RunsWhole p row e old new w u → StaysBeginsOrGoes p old new
whole_frames p row e old new w u h =
    if_some old.frame (λ f. WholeTo p (row w.limits f.room) e f old new w u)
    (λ f. (new ≡ old) ⊎ HasBegun p old new ⊎ HasGoneOn f old new)
    (λ f k. elim (gone_on p (row w.limits f.room) e f old new w u k) [
      | inl s ↦ inl s
      | inr g ↦ inr (inr g)
    ]) h

pub begun_frames : (p : List Info) (old new : NumberedFrames) → StaysOrBegins p old new → StaysBeginsOrGoes p old new
begun_frames p old new h =
    each old.frame (λ f. (new ≡ old) ⊎ HasBegun p old new ⊎ HasGoneOn f old new)
    (λ f. elim h [
      | inl s ↦ inl s
      | inr b ↦ inr (inl b)
    ])

-- ---- what is left once the world has moved

same_turn : (p : List Info) (t : Turn) (old new : NumberedFrames) (u : World) (d e : Effect) → d ≡ e → TurnedTo p t old new u e → TurnedTo p t old new u d
same_turn p t old new u d e is h = subst (λ k. TurnedTo p t old new u k) (sym is) h

pub turn_behind : (p : List Info) (row other : RowOf) (go : def.World → def.World) (t : Turn) (old new : NumberedFrames) (w m u : World) → LeftBy p row other go old w → Moves p w m go → m.limits ≡ w.limits → TurnsWhole p other t old new m u → TurnsWhole p row t old new w u
turn_behind p row other go t old new w m u same moves limits h =
    if_both old.frame
    (λ f. LeftAt p (row w.limits f.room) (other w.limits f.room) go f w)
    (λ f. (v : def.World) → Means p m v → TurnedTo p t old new u (row_at p (other m.limits f.room) f old v))
    (λ f. (v : def.World) → Means p w v → TurnedTo p t old new u (row_at p (row w.limits f.room) f old v))
    (λ f a b v x.
    same_turn p t old new u (row_at p (row w.limits f.room) f old v) (row_at p (other w.limits f.room) f old (go v))
    (a (name_at p f.class) v (map (frame_of p) old.callers) x)
    (subst (λ q. TurnedTo p t old new u (row_at p (other q f.room) f old (go v))) limits (b (go v) (moves v x))))
    same h

pub turn_along : (p : List Info) (row other : RowOf) (t : Turn) (old new : NumberedFrames) (w u : World) → SameAt p row other old w → TurnsWhole p other t old new w u → TurnsWhole p row t old new w u
turn_along p row other t old new w u same h =
    if_both old.frame
    (λ f. AreSame p (row w.limits f.room) (other w.limits f.room) f w)
    (λ f. (v : def.World) → Means p w v → TurnedTo p t old new u (row_at p (other w.limits f.room) f old v))
    (λ f. (v : def.World) → Means p w v → TurnedTo p t old new u (row_at p (row w.limits f.room) f old v))
    (λ f a b v x.
    same_turn p t old new u (row_at p (row w.limits f.room) f old v) (row_at p (other w.limits f.room) f old v)
    (a (name_at p f.class) v (map (frame_of p) old.callers) x) (b v x))
    same h

-- ---- once a class is ready

by_turn : (p : List Info) (t : Turn) (s new : NumberedFrames) (w u : World) (go : def.World → Effect) (v : def.World) → Means p w v → TurnsTo p go t s new w u → TurnedTo p t s new u (go v)
by_turn p turn.NoRow s new w u go v m h = (h.0 v m, h.1)
by_turn p turn.Goes s new w u go v m h = h v m
by_turn p (turn.Throws x) s new w u go v m h = h v m

module _ (p : List Info) (a : ℕ) (uses : Family → RowOf) where
  -- what uses the class at a frame
  abbrev use_at : World → NumberedFrame → List NumberedFrame → Use
  use_at w f cs = λ v c. uses c w.limits f.room v (frame_of p f) (map (frame_of p) cs)

  turned_on : (t : Turn) (o : Option NumberedFrame) (cs : List NumberedFrame) (new : NumberedFrames) (w u : World) → ((go : Use) → ReadiesTo p w.limits a (readied.Turned t) (record { frame = o; callers = cs }) new w u go) → TurnsWhole p (readying p (name_at p a) uses) t (record { frame = o; callers = cs }) new w u
  turned_on t None cs new w u h = tt
  turned_on t (Some f) cs new w u h = λ v m.
      by_turn p t (record { frame = Some f; callers = cs }) new w u (using p w.limits a (record { frame = Some f; callers = cs }) (use_at w f cs)) v m (h (use_at w f cs))

  -- a turn was made, and the use is still to come, or doesn't
  pub ready_turned : (t : Turn) (old new : NumberedFrames) (w u : World) → ((go : Use) → ReadiesTo p w.limits a (readied.Turned t) old new w u go) → TurnsWhole p (readying p (name_at p a) uses) t old new w u
  ready_turned t old new w u h = turned_on t old.frame old.callers new w u h

  ready_on : (t : Turn) (o : Option NumberedFrame) (cs : List NumberedFrame) (mid new : NumberedFrames) (w m u : World) → ((go : Use) → ReadiesTo p w.limits a readied.Ready (record { frame = o; callers = cs }) mid w m go) → m.limits ≡ w.limits → TurnsWhole p (uses (family (look p) (name_at p a))) t (record { frame = o; callers = cs }) new m u → TurnsWhole p (readying p (name_at p a) uses) t (record { frame = o; callers = cs }) new w u
  ready_on t None cs mid new w m u r limits h = tt
  ready_on t (Some f) cs mid new w m u r limits h = λ v x.
      let c = family (look p) (name_at p a) in
      let l = (r (use_at w f cs)).0 v x in
      same_turn p t (record { frame = Some f; callers = cs }) new u
      (using p w.limits a (record { frame = Some f; callers = cs }) (use_at w f cs) v)
      (use_at w f cs l.world c) l.left
      (subst (λ q. TurnedTo p t (record { frame = Some f; callers = cs }) new u (uses c q f.room l.world (frame_of p f) (map (frame_of p) cs))) limits (h l.world l.means))

  -- nothing stood before the use
  pub ready_turn : (t : Turn) (old mid new : NumberedFrames) (w m u : World) → ((go : Use) → ReadiesTo p w.limits a readied.Ready old mid w m go) → m.limits ≡ w.limits → TurnsWhole p (uses (family (look p) (name_at p a))) t old new m u → TurnsWhole p (readying p (name_at p a) uses) t old new w u
  ready_turn t old mid new w m u r limits h = ready_on t old.frame old.callers mid new w m u r limits h

-- ---- a class that was ready

-- What comes of making a class ready, whatever uses it.
abbrev pub ReadyFor :
    List Info → ℕ → Readied → NumberedFrames → NumberedFrames → World → World → Type 0
ReadyFor p a r old mid w m = (go : Use) → ReadiesTo p w.limits a r old mid w m go

same_frames : (p : List Info) (a : ℕ) (old mid : NumberedFrames) (w m : World) → ReadyFor p a readied.Ready old mid w m → mid ≡ old
same_frames p a old mid w m h = (h (λ v c. NoRow)).1

pub next_kept : (p : List Info) (a : ℕ) (old mid : NumberedFrames) (w m : World) → ReadyFor p a readied.Ready old mid w m → IfSome old.frame (λ f. f.at + 1 < 2 ^ 64) → IfSome mid.frame (λ f. f.at + 1 < 2 ^ 64)
next_kept p a old mid w m ready h =
    subst (λ (k : NumberedFrames). IfSome k.frame (λ f. f.at + 1 < 2 ^ 64)) (sym (same_frames p a old mid w m ready)) h

-- it is used by a row that keeps the frame
pub ready_runs : (p : List Info) (a : ℕ) (uses : Family → RowOf) (e : code.Effect) (t : Turn) (old mid new : NumberedFrames) (w m u : World) → ReadyFor p a readied.Ready old mid w m → m.limits ≡ w.limits → t ≡ turn_of e → Runs p (uses (family (look p) (name_at p a))) e mid new m u → TurnsWhole p (readying p (name_at p a) uses) t old new w u
ready_runs p a uses e t old mid new w m u ready limits same h =
    let row : RowOf = uses (family (look p) (name_at p a)) in
    let on : Runs p row e old new m u =
    subst (λ (k : NumberedFrames). Runs p row e k new m u) (same_frames p a old mid w m ready) h in
    ready_turn p a uses t old mid new w m u ready limits (whole_turn p row e t old new m u same (whole p row e old new m u on))

pub ready_frames : (p : List Info) (a : ℕ) (uses : Family → RowOf) (e : code.Effect) (old mid new : NumberedFrames) (w m u : World) → ReadyFor p a readied.Ready old mid w m → Runs p (uses (family (look p) (name_at p a))) e mid new m u → StaysBeginsOrGoes p old new
ready_frames p a uses e old mid new w m u ready h =
    let row : RowOf = uses (family (look p) (name_at p a)) in
    subst (λ (k : NumberedFrames). StaysBeginsOrGoes p k new) (same_frames p a old mid w m ready)
    (whole_frames p row e mid new m u (whole p row e mid new m u h))
