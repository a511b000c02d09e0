-- What is left of a row once the world has moved.
use Rattle.std.proofs.Common.{◌≡◌, ◌∙◌, subst, List, ◌∷◌, None, Some}
use Rattle.machine_rules.specs.State as def
use Rattle.class_link.specs.Info.{Info}
use Rattle.jvm_state.specs.Rows.{Row}
use Rattle.jvm_frames.specs.Frames.{NumberedFrame, NumberedFrames, framed}
use Rattle.jvm_world.specs.declared.world.World.{World}
use Rattle.jvm_world.specs.View.{Moves}
use Rattle.jvm_rows.specs.declared.effect.Effect as code
use Rattle.jvm_rows.specs.declared.effect.Effect.TheVariants as effect
use Rattle.jvm_rows.specs.Effects.{GoesOn, ComesTo, RowOf, Runs}
use Rattle.jvm_rows.proofs.Ends.{SameAt, AreSame, if_some, if_both, some_and, with_effect}
use Rattle.jvm_members.specs.Whole.{WholeTo, RunsWhole}

-- A row in the world that another one has become.
abbrev pub after_row : (def.World → def.World) → RowOf → RowOf
after_row go row = λ q room w f fs. row q room (go w) f fs

-- A row is left of another one, once the world has moved.
abbrev pub LeftBy : List Info → RowOf → RowOf → (def.World → def.World) → NumberedFrames → World → Type 0
LeftBy p row other go old w = SameAt p row (after_row go other) old w

-- The same at a frame.
abbrev pub LeftAt : List Info → Row → Row → (def.World → def.World) → NumberedFrame → World → Type 0
LeftAt p row other go f w = AreSame p row (λ v g fs. other (go v) g fs) f w

whole_to : (p : List Info) (row : Row) (e : code.Effect) (f : NumberedFrame) (old new : NumberedFrames) (w u : World) → ComesTo p row e f old new w u → WholeTo p row e f old new w u
whole_to p row effect.NoRow f old new w u h = (h.0, h.1)
whole_to p row effect.Goes f old new w u h = h
whole_to p row (effect.Throws x) f old new w u h = h

pub behind_whole : (p : List Info) (row other : Row) (go : def.World → def.World) (e : code.Effect) (f : NumberedFrame) (old new : NumberedFrames) (w m u : World) → LeftAt p row other go f w → Moves p w m go → WholeTo p other e f old new m u → WholeTo p row e f old new w u
behind_whole p row other go effect.NoRow f old new w m u same moves h =
    (λ class v fs x. same class v fs x ∙ h.0 class (go v) fs (moves v x), h.1)
behind_whole p row other go effect.Goes f old new w m u same moves h = (
  some_and new.frame (GoesOn p other f m u) (GoesOn p row f w u) (λ g k. record {
    goes = λ class v fs x. with_effect p u (framed class g ∷ fs) None (row v (framed class f) fs) (other (go v) (framed class f) fs) (same class v fs x) (k.goes class (go v) fs (moves v x));
    class = k.class;
    method = k.method;
    room = k.room;
  }) h.0,
  h.1,
)
behind_whole p row other go (effect.Throws y) f old new w m u same moves h =
    (λ class v fs x. with_effect p u (framed class f ∷ fs) (Some y) (row v (framed class f) fs) (other (go v) (framed class f) fs) (same class v fs x) (h.0 class (go v) fs (moves v x)), h.1)

pub behind : (p : List Info) (row other : RowOf) (go : def.World → def.World) (e : code.Effect) (old new : NumberedFrames) (w m u : World) → LeftBy p row other go old w → Moves p w m go → m.limits ≡ w.limits → Runs p other e old new m u → RunsWhole p row e old new w u
behind p row other go e old new w m u same moves limits h =
    if_both old.frame
    (λ f. LeftAt p (row w.limits f.room) (other w.limits f.room) go f w)
    (λ f. ComesTo p (other m.limits f.room) e f old new m u)
    (λ f. WholeTo p (row w.limits f.room) e f old new w u)
    (λ f a b. behind_whole p (row w.limits f.room) (other w.limits f.room) go e f old new w m u a moves
    (whole_to p (other w.limits f.room) e f old new m u (subst (λ q. ComesTo p (other q f.room) e f old new m u) limits b)))
    same h

-- ---- rows that are the same

pub whole : (p : List Info) (row : RowOf) (e : code.Effect) (old new : NumberedFrames) (w u : World) → Runs p row e old new w u → RunsWhole p row e old new w u
whole p row e old new w u h =
    if_some old.frame (λ f. ComesTo p (row w.limits f.room) e f old new w u)
    (λ f. WholeTo p (row w.limits f.room) e f old new w u)
    (λ f k. whole_to p (row w.limits f.room) e f old new w u k) h

along_to : (p : List Info) (row other : Row) (e : code.Effect) (f : NumberedFrame) (old new : NumberedFrames) (w u : World) → AreSame p row other f w → WholeTo p other e f old new w u → WholeTo p row e f old new w u
along_to p row other effect.NoRow f old new w u s h = (λ class v fs m. s class v fs m ∙ h.0 class v fs m, h.1)
along_to p row other effect.Goes f old new w u s h = (
  some_and new.frame (GoesOn p other f w u) (GoesOn p row f w u) (λ g k. record {
    goes = λ class v fs m. with_effect p u (framed class g ∷ fs) None (row v (framed class f) fs) (other v (framed class f) fs) (s class v fs m) (k.goes class v fs m);
    class = k.class;
    method = k.method;
    room = k.room;
  }) h.0,
  h.1,
)
along_to p row other (effect.Throws x) f old new w u s h =
    (λ class v fs m. with_effect p u (framed class f ∷ fs) (Some x) (row v (framed class f) fs) (other v (framed class f) fs) (s class v fs m) (h.0 class v fs m), h.1)

pub whole_along : (p : List Info) (row other : RowOf) (e : code.Effect) (old new : NumberedFrames) (w u : World) → SameAt p row other old w → RunsWhole p other e old new w u → RunsWhole p row e old new w u
whole_along p row other e old new w u s h =
    if_both old.frame
    (λ f. AreSame p (row w.limits f.room) (other w.limits f.room) f w)
    (λ f. WholeTo p (other w.limits f.room) e f old new w u)
    (λ f. WholeTo p (row w.limits f.room) e f old new w u)
    (λ f a b. along_to p (row w.limits f.room) (other w.limits f.room) e f old new w u a b) s h
