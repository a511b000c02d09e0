-- How rows end, and rows that are the same where a frame stands.
use Rattle.std.proofs.Common.{◌≡◌, ◌∙◌, sym, refl, subst, ℕ, Bool, true, false, List, ◌∷◌, Option, None, Some, IfSome, IsSomeAnd}
use Rattle.program_rules.specs.declared.fault.Fault.{Fault}
use Rattle.program_rules.specs.declared.value.Value.{Value}
use Rattle.machine_rules.specs.State as def
use Rattle.machine_rules.specs.Effects.{Effect, NoRow}
use Rattle.class_link.specs.Info.{Info}
use Rattle.jvm_state.specs.Rows.{Row}
use Rattle.jvm_frames.specs.Frames.{NumberedFrame, NumberedFrames, framed, Does, GoOn, IsPut, replacing, has_room_for, IsAdvanced, advanced}
use Rattle.jvm_world.specs.declared.world.World.{World}
use Rattle.jvm_world.specs.View.{Comes, Throws}
use Rattle.jvm_rows.specs.declared.effect.Effect as code
use Rattle.jvm_rows.specs.declared.effect.Effect.TheVariants as effect
use Rattle.jvm_rows.specs.Effects.{AtEach, GoesOn, ComesTo, RowOf, Runs}
use Rattle.jvm_rows.specs.Rows.{throwing, putting}

pub if_some : {A : Type 0} (o : Option A) (P Q : A → Type 0) → ((x : A) → P x → Q x) → IfSome o P → IfSome o Q
if_some None P Q f h = tt
if_some (Some x) P Q f h = f x h

pub if_both : {A : Type 0} (o : Option A) (P Q R : A → Type 0) → ((x : A) → P x → Q x → R x) → IfSome o P → IfSome o Q → IfSome o R
if_both None P Q R f h k = tt
if_both (Some x) P Q R f h k = f x h k

pub some_and : {A : Type 0} (o : Option A) (P Q : A → Type 0) → ((x : A) → P x → Q x) → IsSomeAnd o P → IsSomeAnd o Q
some_and None P Q f h = h
some_and (Some x) P Q f h = f x h

pub each : {A : Type 0} (o : Option A) (P : A → Type 0) → ((x : A) → P x) → IfSome o P
each None P f = tt
each (Some x) P f = f x

pub with_effect : (p : List Info) (u : World) (frames : List def.Frame) (o : Option ℕ) (d e : Effect) → d ≡ e → Comes p u frames o e → Comes p u frames o d
with_effect p u frames o d e same h = record { world = h.world; means = h.means; goes = same ∙ h.goes }

-- ---- rows that are the same

-- Two rows do the same at a frame.
abbrev pub AreSame : List Info → Row → Row → NumberedFrame → World → Type 0
AreSame p row other f w = AtEach p f w (λ class v fs. row v (framed class f) fs ≡ other v (framed class f) fs)

-- The same of rows at the running frame.
abbrev pub SameAt : List Info → RowOf → RowOf → NumberedFrames → World → Type 0
SameAt p row other old w = IfSome old.frame (λ f. AreSame p (row w.limits f.room) (other w.limits f.room) f w)

comes_along : (p : List Info) (row other : Row) (e : code.Effect) (f : NumberedFrame) (old new : NumberedFrames) (w u : World) → AreSame p row other f w → ComesTo p other e f old new w u → ComesTo p row e f old new w u
comes_along p row other effect.NoRow f old new w u s h = (λ class v fs m. s class v fs m ∙ h.0 class v fs m, h.1, h.2)
comes_along p row other effect.Goes f old new w u s h = (
  some_and new.frame (GoesOn p other f w u) (GoesOn p row f w u) (λ g k. record {
    goes = λ class v fs m. with_effect p u (framed class g ∷ fs) None (row v (framed class f) fs) (other v (framed class f) fs) (s class v fs m) (k.goes class v fs m);
    class = k.class;
    method = k.method;
    room = k.room;
  }) h.0,
  h.1,
)
comes_along p row other (effect.Throws x) f old new w u s h =
    (λ class v fs m. with_effect p u (framed class f ∷ fs) (Some x) (row v (framed class f) fs) (other v (framed class f) fs) (s class v fs m) (h.0 class v fs m), h.1)

pub along : (p : List Info) (row other : RowOf) (e : code.Effect) (old new : NumberedFrames) (w u : World) → SameAt p row other old w → Runs p other e old new w u → Runs p row e old new w u
along p row other e old new w u s h =
    if_both old.frame
    (λ f. AreSame p (row w.limits f.room) (other w.limits f.room) f w)
    (λ f. ComesTo p (other w.limits f.room) e f old new w u)
    (λ f. ComesTo p (row w.limits f.room) e f old new w u)
    (λ f a b. comes_along p (row w.limits f.room) (other w.limits f.room) e f old new w u a b) s h

-- ---- ends

abbrev pub nothing : RowOf
nothing = λ q room w f fs. NoRow

pub no_row : (p : List Info) (row : RowOf) (old : NumberedFrames) (w : World) → SameAt p row nothing old w → Runs p row effect.NoRow old old w w
no_row p row old w s =
    if_some old.frame
    (λ f. AreSame p (row w.limits f.room) (nothing w.limits f.room) f w)
    (λ f. ComesTo p (row w.limits f.room) effect.NoRow f old old w w)
    (λ f a. (a, refl, refl)) s

goes_on_with : (p : List Info) (row : Row) (f g : NumberedFrame) (w : World) → Does row f g → GoesOn p row f w w g
goes_on_with p row f g w d = record {
  goes = λ class v fs m. record { world = v; means = m; goes = d.goes class v fs };
  class = d.class;
  method = d.method;
  room = d.room;
}

pub put_runs : (p : List Info) (count : ℕ) (v : Value) (old new : NumberedFrames) (w : World) → IsPut count v old new → Runs p (putting count v) effect.Goes old new w w
put_runs p count v old new w h =
    if_some old.frame
    (λ f. GoOn (replacing count v f.room) f old new)
    (λ f. ComesTo p (putting count v w.limits f.room) effect.Goes f old new w w)
    (λ f k. (some_and new.frame (Does (replacing count v f.room) f) (GoesOn p (putting count v w.limits f.room) f w w) (λ g d. goes_on_with p (replacing count v f.room) f g w d) k.frame, k.callers)) h

pub thrown_runs : (p : List Info) (fault : Fault) (x : ℕ) (old : NumberedFrames) (w u : World) → Throws p w u fault (Some x) → Runs p (throwing fault) (effect.Throws x) old old w u
thrown_runs p fault x old w u h =
    each old.frame (λ f. ComesTo p (throwing fault w.limits f.room) (effect.Throws x) f old old w u)
    (λ f. (λ class v fs m. h v (framed class f ∷ fs) m, refl))

over_runs_at : (p : List Info) (fault : Fault) (o : Option NumberedFrame) (cs : List NumberedFrame) (w u : World) → Throws p w u fault None → Runs p (throwing fault) effect.Goes (record { frame = o; callers = cs }) (record { frame = o; callers = cs }) w u
over_runs_at p fault None cs w u h = tt
over_runs_at p fault (Some f) cs w u h = (
  record {
    goes = λ class v fs m. h v (framed class f ∷ fs) m;
    class = refl;
    method = refl;
    room = refl;
  },
  refl,
)

pub over_runs : (p : List Info) (fault : Fault) (old : NumberedFrames) (w u : World) → Throws p w u fault None → Runs p (throwing fault) effect.Goes old old w u
over_runs p fault old w u h = over_runs_at p fault old.frame old.callers w u h

advance_comes : (p : List Info) (row : Row) (count : ℕ) (f : NumberedFrame) (old new : NumberedFrames) (w u : World) → new ≡ record old { frame = Some (advanced count f) } → AtEach p f w (λ class v fs. Comes p u (framed class (advanced count f) ∷ fs) None (row v (framed class f) fs)) → ComesTo p row effect.Goes f old new w u
advance_comes p row count f old new w u e h =
    subst (λ t. ComesTo p row effect.Goes f old t w u) (sym e)
    (record { goes = h; class = refl; method = refl; room = refl }, refl)

-- What the row gives at a frame that goes on by taking so many values off.
abbrev pub AdvancesBy : List Info → RowOf → ℕ → World → World → NumberedFrame → Type 0
AdvancesBy p row count w u f =
    AtEach p f w (λ class v fs. Comes p u (framed class (advanced count f) ∷ fs) None (row w.limits f.room v (framed class f) fs))

pub advance_runs : (p : List Info) (row : RowOf) (count : ℕ) (old new : NumberedFrames) (w u : World) → IsAdvanced count old new → IfSome old.frame (AdvancesBy p row count w u) → Runs p row effect.Goes old new w u
advance_runs p row count old new w u e h =
    if_both old.frame (λ f. new ≡ record old { frame = Some (advanced count f) }) (AdvancesBy p row count w u)
    (λ f. ComesTo p (row w.limits f.room) effect.Goes f old new w u)
    (λ f a b. advance_comes p (row w.limits f.room) count f old new w u a b) e h

-- ---- room

pub fits_not : (o : Option NumberedFrame) (count : ℕ) (v : Value) (b : Bool) → b ≡ false → IfSome o (λ f. b ≡ has_room_for count v f) → IfSome o (λ f. false ≡ has_room_for count v f)
fits_not None count v b e h = tt
fits_not (Some f) count v b e h = sym e ∙ h

pub fits_there : (o : Option NumberedFrame) (count : ℕ) (v : Value) (b : Bool) → b ≡ true → IfSome o (λ f. b ≡ has_room_for count v f) → IfSome o (λ f. has_room_for count v f ≡ true)
fits_there None count v b e h = tt
fits_there (Some f) count v b e h = sym h ∙ e
