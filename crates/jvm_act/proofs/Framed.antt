-- What becomes of frames.
use Rattle.std.proofs.Common.{◌≡◌, ◌∙◌, ◌⊎◌, inl, inr, sym, refl, ap, subst, ℕ, ◌<◌, List, [], ◌∷◌, Option, None, Some, IfSome, IfNone, IsSomeAnd}
use Rattle.std.specs.Prelude.{All, length}
use Rattle.std.proofs.lemmas.List.Elements.{All-cons, All-head, All-nil, All-tail}
use Rattle.class_link.specs.Info.{Info}
use Rattle.class_table.specs.Table.{look}
use Rattle.machine_rules.specs.Calls.{room_of, room_in}
use Rattle.program_rules.specs.Linked.{code_of, method_in}
use Rattle.class_table.specs.Table.{name_at}
use Rattle.jvm_state.specs.Rows.{Row}
use Rattle.jvm_frames.specs.Frames.{NumberedFrame, NumberedFrames, IsCut, cut, left_behind}
use Rattle.jvm_world.specs.declared.world.World.{World}
use Rattle.jvm_rows.specs.declared.effect.Effect as code
use Rattle.jvm_rows.specs.declared.effect.Effect.TheVariants as effect
use Rattle.jvm_rows.specs.Effects.{GoesOn, RowOf}
use Rattle.jvm_members.specs.Whole.{WholeTo, RunsWhole}
use Rattle.jvm_unwind.specs.Turns.{frame_of}
use Rattle.jvm_unwind.specs.Unwinding.{IsOf, IsLeftOrOn}
use Rattle.jvm_unwind.proofs.Left.{with_some}
use Rattle.jvm_calls.specs.Returns.{GoesBack, StaysOrBack}
use Rattle.jvm_initialization.specs.Begins as begins
use Rattle.jvm_initialization.specs.Begins.{AreWhole, HasBegun, StaysOrBegins, all_on}
use Rattle.jvm_invokes.specs.Invoked.{IsOfMethod, HasEntered, HasCut, StaysOrEnters}
use Rattle.jvm_members.specs.Turned.{HasGoneOn, StaysBeginsOrGoes}
use Rattle.jvm_act.specs.Standing.{HasNext, Waits, AreFramesOf}
use Rattle.jvm_act.specs.Laws.{WholesKeepFrames, CallsKeepFrames, BeginsKeepFrames, FieldsKeepFrames, ReturnsKeepFrames, ThrowsKeepFrames}

-- ---- a frame of the same method

of_method : (p : List Info) (f g : NumberedFrame) → g.class ≡ f.class → g.method ≡ f.method → g.room ≡ f.room → IsOfMethod p f → IsOfMethod p g
of_method p f g class method room h = record {
  class = subst (λ n. n < length p) (sym class) h.class;
  room = ap (λ n. room_in (code_of (method_in (look p (name_at p n)) g.method))) class
      ∙ ap (λ n. room_in (code_of (method_in (look p (name_at p f.class)) n))) method
      ∙ h.room ∙ ap Some (sym room);
}

-- ---- frames by the one that runs

whole_on : (o : Option NumberedFrame) (cs : List NumberedFrame) (f : NumberedFrame) → o ≡ Some f → IfNone o (cs ≡ [])
whole_on None cs f e = absurd cc
whole_on (Some g) cs f e = tt

running_on : (o : Option NumberedFrame) (P : NumberedFrame → Type 0) → IsSomeAnd o P → IfSome o P
running_on None P h = tt
running_on (Some f) P h = h

whole_some : (o : Option NumberedFrame) (cs : List NumberedFrame) (P : NumberedFrame → Type 0) → IsSomeAnd o P → IfNone o (cs ≡ [])
whole_some None cs P h = absurd h
whole_some (Some f) cs P h = tt

-- A frame runs over callers that wait.
stands_on : (p : List Info) (s : NumberedFrames) (cs : List NumberedFrame) → IsSomeAnd s.frame (IsOfMethod p) → s.callers ≡ cs → All (Waits p) cs → AreFramesOf p s
stands_on p s cs runs is below = record {
  running = running_on s.frame (IsOfMethod p) runs;
  below = subst (All (Waits p)) (sym is) below;
  whole = whole_some s.frame s.callers (IsOfMethod p) runs;
}

of_some : {A : Type 0} (o : Option A) (x : A) (P : A → Type 0) → o ≡ Some x → IfSome o P → P x
of_some o x P is h = subst (λ k. IfSome k P) is h

some_of : {A : Type 0} (o : Option A) (P Q : A → Type 0) → ((x : A) → P x → Q x) → IsSomeAnd o P → IsSomeAnd o Q
some_of None P Q f h = h
some_of (Some x) P Q f h = f x h

-- ---- behind a row by which the running frame stays

whole_keeps : (p : List Info) (row : Row) (e : code.Effect) (f : NumberedFrame) (old new : NumberedFrames) (w u : World) → old.frame ≡ Some f → WholeTo p row e f old new w u → AreFramesOf p old → AreFramesOf p new
whole_keeps p row effect.NoRow f old new w u is h are = subst (AreFramesOf p) (sym h.1) are
whole_keeps p row effect.Goes f old new w u is h are =
    stands_on p new old.callers
    (some_of new.frame (GoesOn p row f w u) (IsOfMethod p)
    (λ g on. of_method p f g on.class on.method on.room (of_some old.frame f (IsOfMethod p) is are.running)) h.0)
    h.1 are.below
whole_keeps p row (effect.Throws x) f old new w u is h are = subst (AreFramesOf p) (sym h.1) are

pub wholes_keep_frames : WholesKeepFrames
wholes_keep_frames p row e old new w u runs h are =
    let f = with_some old.frame HasNext runs in
    whole_keeps p (row w.limits f.0.room) e f.0 old new w u f.1
    (of_some old.frame f.0 (λ g. WholeTo p (row w.limits g.room) e g old new w u) f.1 h) are

-- ---- behind a call

-- The frame that ran waits.
waits_at : (p : List Info) (f : NumberedFrame) (old : NumberedFrames) → old.frame ≡ Some f → HasNext f → AreFramesOf p old → Waits p f
waits_at p f old is next are = record { method = of_some old.frame f (IsOfMethod p) is are.running; next = next }

cut_waits : (p : List Info) (count : ℕ) (f : NumberedFrame) → Waits p f → Waits p (cut count f)
cut_waits p count f h = record {
  method = of_method p f (cut count f) refl refl refl h.method;
  next = h.next;
}

some_at : {A : Type 0} (o : Option A) (x : A) (P : A → Type 0) → o ≡ Some x → IsSomeAnd o P → P x
some_at o x P is h = subst (λ k. IsSomeAnd k P) is h

entered : (p : List Info) (old new : NumberedFrames) (f : NumberedFrame) → old.frame ≡ Some f → HasNext f → HasEntered p old new → AreFramesOf p old → AreFramesOf p new
entered p old new f is next h are =
    stands_on p new (cut h.count f ∷ old.callers) h.frame
    (some_at old.frame f (λ g. new.callers ≡ cut h.count g ∷ old.callers) is h.callers)
    (All-cons (Waits p) (cut h.count f) old.callers (cut_waits p h.count f (waits_at p f old is next are)) are.below)

has_cut : (p : List Info) (old new : NumberedFrames) (f : NumberedFrame) → old.frame ≡ Some f → HasCut old new → AreFramesOf p old → AreFramesOf p new
has_cut p old new f is h are =
    let e : new ≡ record old { frame = Some (cut h.count f) } = some_at old.frame f (λ g. new ≡ record old { frame = Some (cut h.count g) }) is h.frames in
    subst (AreFramesOf p) (sym e) (record {
      running = of_method p f (cut h.count f) refl refl refl (of_some old.frame f (IsOfMethod p) is are.running);
      below = are.below;
      whole = tt;
    })

calls_at : (p : List Info) (old new : NumberedFrames) (f : NumberedFrame) → old.frame ≡ Some f → HasNext f → StaysOrEnters p old new → AreFramesOf p old → AreFramesOf p new
calls_at p old new f is next (inl e) are = subst (AreFramesOf p) (sym e) are
calls_at p old new f is next (inr (inl h)) are = entered p old new f is next h are
calls_at p old new f is next (inr (inr h)) are = has_cut p old new f is h are

pub calls_keep_frames : CallsKeepFrames
calls_keep_frames p old new runs h are =
    let f = with_some old.frame HasNext runs in calls_at p old new f.0 f.1 f.2 h are

-- ---- behind the begin of a class

all_wait : (p : List Info) (o : Option NumberedFrame) (cs : List NumberedFrame) → IfSome o HasNext → IfSome o (IsOfMethod p) → All (Waits p) cs → All (Waits p) (all_on o cs)
all_wait p None cs next runs below = below
all_wait p (Some f) cs next runs below = All-cons (Waits p) f cs (record { method = runs; next = next }) below

begun_of : (p : List Info) (f : NumberedFrame) → begins.IsOfMethod p f → IsOfMethod p f
begun_of p f h = record { class = h.class; room = h.room }

pub begins_keep_frames : BeginsKeepFrames
begins_keep_frames p old new next (inl e) are = subst (AreFramesOf p) (sym e) are
begins_keep_frames p old new next (inr h) are =
    stands_on p new (all_on old.frame old.callers)
    (some_of new.frame (begins.IsOfMethod p) (IsOfMethod p) (begun_of p) h.frame)
    h.callers (all_wait p old.frame old.callers next are.running are.below)

-- ---- behind an instruction that uses a field or makes an object

goes_on : (p : List Info) (f : NumberedFrame) (old new : NumberedFrames) → old.frame ≡ Some f → HasGoneOn f old new → AreFramesOf p old → AreFramesOf p new
goes_on p f old new is h are =
    stands_on p new old.callers
    (some_of new.frame (IsOf f) (IsOfMethod p)
    (λ g on. of_method p f g on.class on.method on.room (of_some old.frame f (IsOfMethod p) is are.running)) h.0)
    h.1 are.below

field_at : (p : List Info) (old new : NumberedFrames) (f : NumberedFrame) → old.frame ≡ Some f → HasNext f → ((new ≡ old) ⊎ HasBegun p old new ⊎ HasGoneOn f old new) → AreFramesOf p old → AreFramesOf p new
field_at p old new f is next (inl e) are = subst (AreFramesOf p) (sym e) are
field_at p old new f is next (inr (inl h)) are = begins_keep_frames p old new (subst (λ o. IfSome o HasNext) (sym is) next) (inr h) are
field_at p old new f is next (inr (inr h)) are = goes_on p f old new is h are

pub fields_keep_frames : FieldsKeepFrames
fields_keep_frames p old new runs h are =
    let f = with_some old.frame HasNext runs in
    field_at p old new f.0 f.1 f.2 (of_some old.frame f.0 (λ g. (new ≡ old) ⊎ HasBegun p old new ⊎ HasGoneOn g old new) f.1 h) are

-- ---- behind a return, and a step of an object that is thrown

none_left : (p : List Info) → AreFramesOf p (left_behind [])
none_left p = record { running = tt; below = All-nil (Waits p); whole = refl }

left_frames : (p : List Info) (cs : List NumberedFrame) → All (Waits p) cs → AreFramesOf p (left_behind cs)
left_frames p [] h = none_left p
left_frames p (c ∷ cs) h = record { running = (All-head (Waits p) c cs h).method; below = All-tail (Waits p) c cs h; whole = tt }

goes_back : (p : List Info) (cs : List NumberedFrame) (new : NumberedFrames) → All (Waits p) cs → GoesBack cs new → AreFramesOf p new
goes_back p [] new below h = subst (AreFramesOf p) (sym h) (none_left p)
goes_back p (c ∷ cs) new below h =
    stands_on p new cs
    (some_of new.frame (IsOf c) (IsOfMethod p) (λ g on. of_method p c g on.class on.method on.room (All-head (Waits p) c cs below).method) h.0)
    h.1 (All-tail (Waits p) c cs below)

pub returns_keep_frames : ReturnsKeepFrames
returns_keep_frames p old new (inl e) are = subst (AreFramesOf p) (sym e) are
returns_keep_frames p old new (inr h) are = goes_back p old.callers new are.below h

throws_at : (p : List Info) (old new : NumberedFrames) (f : NumberedFrame) → old.frame ≡ Some f → IsLeftOrOn old new → AreFramesOf p old → AreFramesOf p new
throws_at p old new f is (inl e) are = subst (AreFramesOf p) (sym e) (left_frames p old.callers are.below)
throws_at p old new f is (inr h) are =
    stands_on p new old.callers
    (some_of new.frame (IsOf f) (IsOfMethod p)
    (λ g on. of_method p f g on.class on.method on.room (of_some old.frame f (IsOfMethod p) is are.running))
    (of_some old.frame f (λ g. IsSomeAnd new.frame (IsOf g)) is h.0))
    h.1 are.below

pub throws_keep_frames : ThrowsKeepFrames
throws_keep_frames p old new runs h are =
    let f = with_some old.frame (IsOfMethod p) runs in throws_at p old new f.0 f.1 h are
