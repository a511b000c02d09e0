-- One step of an object that is thrown.
use Rattle.std.proofs.Common.{◌≡◌, ◌∙◌, ◌⊎◌, inl, inr, sym, refl, ap, subst, ℕ, ◌≤◌, Bool, true, false, List, [], ◌∷◌, map, Option, Some, None, IfSome, IfNone, IsSomeAnd}
use Rattle.std.specs.Prelude.{if◌then◌else◌}
use Rattle.class_model.specs.declared.class.ClassId.{ClassId}
use Rattle.program_rules.specs.Names.{Name}
use Rattle.program_rules.specs.Linked.{LinkedRow}
use Rattle.program_rules.specs.Objects as objects
use Rattle.program_rules.specs.Programs.{family, supers}
use Rattle.machine_rules.specs.declared.machine.InitState.TheVariants.{Failed}
use Rattle.machine_rules.specs.declared.machine.Limits.{Limits}
use Rattle.machine_rules.specs.State as def
use Rattle.machine_rules.specs.Effects.{Effect, on_some, goes_with}
use Rattle.machine_rules.specs.Initialisation.{marks}
use Rattle.machine_rules.specs.Throwing.{breaks, pops, lands, lands_by, find_handler, rows_of, unwinds}
use Rattle.class_link.specs.Info.{Info}
use Rattle.class_table.specs.Table.{look, name_at}
use Rattle.jvm_state.specs.Rows.{Row}
use Rattle.jvm_frames.specs.Frames.{NumberedFrame, NumberedFrames, framed, left_behind, landing, Does, GoOn, IsLanded}
use Rattle.jvm_world.specs.declared.world.World.{World}
use Rattle.jvm_world.specs.View.{Means, Comes}
use Rattle.jvm_unwind.specs.declared.row.CatchRow.{CatchRow}
use Rattle.jvm_unwind.specs.Rows.{catch_row_of}
use Rattle.jvm_unwind.specs.declared.thrown.Thrown.{Thrown}
use Rattle.jvm_unwind.specs.declared.turn.Turn.{Turn}
use Rattle.jvm_unwind.specs.declared.turn.Turn.TheVariants as turn
use Rattle.jvm_unwind.specs.declared.unwinding.Handlers.{Handlers}
use Rattle.jvm_unwind.specs.Thrown.{class_name, names_of, IsClassIn}
use Rattle.jvm_unwind.specs.Turns.{frame_of, frames_on, frames_of, ComesAt, TurnsTo, row_at, Turns}
use Rattle.jvm_unwind.specs.Unwinding.{IsHandled, Searches, Leaves, popping, Passes, leaving, unwinding, tested, IsOf, IsLeftOrOn}
use Rattle.jvm_unwind.proofs.Left.{with_some}

-- ---- at the running frame

pub at_frame : {A : Type 0} (o : Option A) (f : A) (P : A → Type 0) → o ≡ Some f → P f → IfSome o P
at_frame o f P is h = subst (λ k. IfSome k P) (sym is) h

pub of_frame : {A : Type 0} (o : Option A) (f : A) (P : A → Type 0) → o ≡ Some f → IfSome o P → P f
of_frame o f P is h = subst (λ k. IfSome k P) is h

pub no_frame : {A : Type 0} (o : Option A) (P : A → Type 0) → o ≡ None → IfSome o P
no_frame o P is = subst (λ k. IfSome k P) (sym is) tt

pub each : {A : Type 0} (o : Option A) (P : A → Type 0) → ((x : A) → P x) → IfSome o P
each None P h = tt
each (Some x) P h = h x

pub frames_left : (p : List Info) (cs : List NumberedFrame) → frames_of p (left_behind cs) ≡ map (frame_of p) cs
frames_left p [] = refl
frames_left p (c ∷ cs) = refl

stays_at : (o : Option NumberedFrame) → IfSome o (λ f. IsSomeAnd o (IsOf f))
stays_at None = tt
stays_at (Some f) = record { class = refl; method = refl; room = refl }

pub stays_on : (s : NumberedFrames) → IsLeftOrOn s s
stays_on s = inr (stays_at s.frame, refl)

-- A row by which the running frame goes on, over those below it.
pub on_frames : (p : List Info) (row : Row) (f : NumberedFrame) (old new : NumberedFrames) (z : def.World) → GoOn row f old new → row z (frame_of p f) (map (frame_of p) old.callers) ≡ goes_with z (frames_of p new)
on_frames p row f old new z on =
    let g = with_some new.frame (Does row f) on.frame in
    let over = map (frame_of p) old.callers in
    g.2.goes (name_at p f.class) z over
    ∙ ap (λ n. goes_with z (framed (name_at p n) g.0 ∷ over)) (sym g.2.class)
    ∙ ap (λ cs. goes_with z (frame_of p g.0 ∷ map (frame_of p) cs)) (sym on.callers)
    ∙ ap (λ o. goes_with z (frames_on p o new.callers)) (sym g.1)

-- ---- what a search gives

abbrev by_object : List Info → Limits → def.World → def.Frame → List def.Frame → ℕ → Option objects.Object → Effect
by_object p q v f fs x o = on_some o (λ b.
    let ns = (family (look p) (objects.class_of_object b.kind)).names in
    lands_by (look p) q f fs x ns (find_handler (look p) ns f.at (rows_of (look p) f) v))

abbrev by_names : List Info → Limits → def.World → def.Frame → List def.Frame → ℕ → List LinkedRow → List Name → Effect
by_names p q v f fs x rows ns = lands_by (look p) q f fs x ns (find_handler (look p) ns f.at rows v)

family_names : (p : List Info) (n : Name) → (family (look p) n).names ≡ supers (look p) n
unfolding family
family_names p n = refl

abbrev IsOfClass : List Info → Thrown → objects.Object → Type 0
IsOfClass p t o = objects.class_of_object o.kind ≡ class_name p t

lands_as : (p : List Info) (q : Limits) (v z : def.World) (f : def.Frame) (fs : List def.Frame) (x : ℕ) (t : Thrown) (rows : List CatchRow) (to : Option ℕ) → IsSomeAnd (objects.object_at v.heap x) (IsOfClass p t) → map (catch_row_of p) rows ≡ rows_of (look p) f → find_handler (look p) (names_of p t) f.at (map (catch_row_of p) rows) v ≡ record { world = z; target = to } → unwinds (look p) q v f fs x ≡ lands (look p) q f fs x (names_of p t) z to
lands_as p q v z f fs x t rows to there same found =
    let o = with_some (objects.object_at v.heap x) (IsOfClass p t) there in
    ap (by_object p q v f fs x) o.1
    ∙ ap (by_names p q v f fs x (rows_of (look p) f)) (family_names p (objects.class_of_object o.0.kind) ∙ ap (supers (look p)) o.2)
    ∙ ap (λ rs. by_names p q v f fs x rs (names_of p t)) (sym same)
    ∙ ap (lands_by (look p) q f fs x (names_of p t)) found

-- ---- no object

pub no_object : (p : List Info) (q : Limits) (x : ℕ) (s : NumberedFrames) (w : World) → IsClassIn p w x None → Turns p (unwinding p q x) turn.NoRow s s w w
no_object p q x s w h =
    each s.frame (λ f. TurnsTo p (row_at p (unwinding p q x) f s) turn.NoRow s s w w)
    (λ f. (λ v m. ap (by_object p q v (frame_of p f) (map (frame_of p) s.callers) x) (h v m), refl, refl))

-- ---- what is known of the frame

module _ (p : List Info) (q : Limits) (x : ℕ) (t : Thrown) (h : Handlers) (f : NumberedFrame) (old : NumberedFrames) (w u : World) (class : IsClassIn p w x (Some t)) (is : IsHandled p h f) where
  abbrev over : List def.Frame
  over = map (frame_of p) old.callers

  found_at : (to : Option ℕ) (v : def.World) (m : Means p w v) → Searches p t h.rows.items f.at w to u → unwinds (look p) q v (frame_of p f) over x ≡ lands (look p) q (frame_of p f) over x (names_of p t) (tested u v) to
  found_at to v m search =
      lands_as p q v (tested u v) (frame_of p f) over x t h.rows.items to (class.1 v m) (is.handlers.rows (frame_of p f) refl refl) (search v m).1

  -- A handler is entered.
  landed_in : (to : ℕ) (new : NumberedFrames) → Searches p t h.rows.items f.at w (Some to) u → GoOn (landing x to) f old new → TurnsTo p (row_at p (unwinding p q x) f old) turn.Goes old new w u
  landed_in to new search on v m = record {
    world = tested u v;
    means = (search v m).0;
    goes = found_at (Some to) v m search ∙ on_frames p (landing x to) f old new (tested u v) on;
  }

  pub landed : (to : ℕ) (new : NumberedFrames) → old.frame ≡ Some f → Searches p t h.rows.items f.at w (Some to) u → IsLanded x to old new → Turns p (unwinding p q x) turn.Goes old new w u
  landed to new there search on =
      at_frame old.frame f (λ k. TurnsTo p (row_at p (unwinding p q x) k old) turn.Goes old new w u) there
      (landed_in to new search (of_frame old.frame f (λ k. GoOn (landing x to) k old new) there on))

  -- The frame is popped.
  pops_as : (b : Bool) (c : Option ClassId) (id : ClassId) (v : def.World) → c ≡ (if b then Some id else None) → id.0 ≡ f.class → (if b then breaks q (marks (name_at p f.class) Failed v) over x (names_of p t) else pops (look p) v over x (names_of p t)) ≡ popping p q c x t v over
  pops_as true c id v e same =
      ap (λ n. breaks q (marks (name_at p n) Failed v) over x (names_of p t)) (sym same) ∙ ap (λ k. popping p q k x t v over) (sym e)
  pops_as false c id v e same = ap (λ k. popping p q k x t v over) (sym e)

  popped_in : (c : Option ClassId) (id : ClassId) (y : Option ℕ) (new : NumberedFrames) (z : World) → c ≡ (if h.initializes then Some id else None) → id.0 ≡ f.class → Searches p t h.rows.items f.at w None u → new ≡ left_behind old.callers → Passes p u z old.callers y (popping p q c x t) → ComesAt p w z (frames_of p new) y (row_at p (unwinding p q x) f old)
  popped_in c id y new z e same search left passes v m =
      let after = tested u v in
      let k = passes after (search v m).0 in
      let on : map (frame_of p) old.callers ≡ frames_of p new = sym (ap (frames_of p) left ∙ frames_left p old.callers) in
      subst (λ fs. Comes p z fs y (row_at p (unwinding p q x) f old v)) on (record {
        world = k.world;
        means = k.means;
        goes = found_at None v m search
            ∙ ap (λ b. if b then breaks q (marks (name_at p f.class) Failed after) over x (names_of p t) else pops (look p) after over x (names_of p t)) (sym is.handlers.initializes)
            ∙ pops_as h.initializes c id after e same
            ∙ k.goes;
      })

turned : (p : List Info) (go : def.World → Effect) (old new : NumberedFrames) (w u : World) (y : Option ℕ) (k : Turn) → IfSome y (λ x. k ≡ turn.Throws x) → IfNone y (k ≡ turn.Goes) → ComesAt p w u (frames_of p new) y go → TurnsTo p go k old new w u
turned p go old new w u None k some none h = subst (λ j. TurnsTo p go j old new w u) (sym none) h
turned p go old new w u (Some x) k some none h = subst (λ j. TurnsTo p go j old new w u) (sym some) h

pub popped : (p : List Info) (q : Limits) (x : ℕ) (t : Thrown) (h : Handlers) (f : NumberedFrame) (old new : NumberedFrames) (w u z : World) (class : IsClassIn p w x (Some t)) (is : IsHandled p h f) (c : Option ClassId) (id : ClassId) (y : Option ℕ) (k : Turn) → old.frame ≡ Some f → c ≡ (if h.initializes then Some id else None) → id.0 ≡ f.class → Searches p t h.rows.items f.at w None u → new ≡ left_behind old.callers → Passes p u z old.callers y (popping p q c x t) → IfSome y (λ x. k ≡ turn.Throws x) → IfNone y (k ≡ turn.Goes) → Turns p (unwinding p q x) k old new w z
popped p q x t h f old new w u z class is c id y k there e same search left passes some none =
    at_frame old.frame f (λ g. TurnsTo p (row_at p (unwinding p q x) g old) k old new w z) there
    (turned p (row_at p (unwinding p q x) f old) old new w z y k some none
    (popped_in p q x t h f old w u class is c id y new z e same search left passes))

-- ---- the frames that are left

pub passed_on : (p : List Info) (q : Limits) (x : ℕ) (t : Thrown) (w : World) (P : NumberedFrame → Type 0) (cs : List NumberedFrame) → IsSomeAnd (left_behind cs).frame P → Passes p w w cs (Some x) (popping p q None x t)
passed_on p q x t w P [] h = absurd h
passed_on p q x t w P (c ∷ cs) h = λ v m. record { world = v; means = m; goes = refl }

pub passed_out : (p : List Info) (q : Limits) (x : ℕ) (t : Thrown) (w u : World) (y : Option ℕ) (cs : List NumberedFrame) → (left_behind cs).frame ≡ None → ComesAt p w u [] y (leaving p x t) → Passes p w u cs y (popping p q None x t)
passed_out p q x t w u y [] e h = h
passed_out p q x t w u y (c ∷ cs) e h = absurd cc

pub failed : (p : List Info) (q : Limits) (x : ℕ) (t : Thrown) (id : ClassId) (w u : World) (y : Option ℕ) (cs : List NumberedFrame) → Leaves p w u y (popping p q (Some id) x t) → Passes p w u cs y (popping p q (Some id) x t)
failed p q x t id w u y cs h v m = h v (map (frame_of p) cs) m

-- ---- room for a handler

pub room_to_land : (rows : List CatchRow) (to : Option ℕ) (n room : ℕ) → to ≡ Some n → (rows ≡ [] → to ≡ None) → (rows ≡ []) ⊎ (1 ≤ room) → 1 ≤ room
room_to_land rows to n room there none (inr h) = h
room_to_land rows to n room there none (inl e) = let bad : Some n ≡ None = sym there ∙ none e in absurd cc
