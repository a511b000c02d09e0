-- The begin of a class.
use Rattle.std.proofs.Common.{◌≡◌, ◌∙◌, inl, inr, sym, refl, ap, subst, arith, ℕ, ◌<◌, Bool, true, false, List, [], ◌∷◌, map, length, Option, None, Some, IfNone, IsSomeAnd}
use Rattle.std.specs.Prelude.{nat_le, nat_lt, if◌then◌else◌}
use Rattle.std.proofs.lemmas.Bool.Decides.{leb_tells}
use Rattle.std.proofs.lemmas.List.{length-map}
use Rattle.program_rules.specs.declared.fault.Fault.TheVariants.{StackOverflowError}
use Rattle.machine_rules.specs.declared.machine.InitState.TheVariants.{Running, Done}
use Rattle.machine_rules.specs.declared.machine.Limits.{Limits}
use Rattle.machine_rules.specs.declared.machine.Stop.TheVariants.{HeapPassed}
use Rattle.machine_rules.specs.State as def
use Rattle.machine_rules.specs.Effects.{Effect, NoRow, goes_with, unless_full, throws}
use Rattle.machine_rules.specs.Initialisation as rules
use Rattle.class_link.specs.Info.{Info}
use Rattle.class_table.specs.Table.{name_at}
use Rattle.jvm_frames.specs.Frames.{NumberedFrame, NumberedFrames, begun, called, depth_of, first_frame, AreArgs, IsCalled}
use Rattle.jvm_world.specs.declared.world.World.{World}
use Rattle.jvm_world.specs.View.{Means, Moves, Throws}
use Rattle.jvm_unwind.specs.Turns.{frame_of, frames_on, frames_of, ComesAt}
use Rattle.jvm_initialization.specs.declared.initializer.Initializer.{Initializer}
use Rattle.jvm_initialization.specs.Constants.{SetsOrEnds}
use Rattle.jvm_initialization.specs.Begins.{begin_at, setting_at, initializer_of, IsInitializerAt, all_on, AreWhole, entered, HasBegun, StaysOrBegins, beginning}

-- ---- frames

pub no_args : (o : Option NumberedFrame) (P : NumberedFrame → Type 0) → IsSomeAnd o P → IsSomeAnd o (λ f. AreArgs 0 0 f.stack)
no_args None P h = absurd h
no_args (Some f) P h = record { count = omega arith; words = refl }

pub entered_on : (class : ℕ) (i : Initializer) (old new : NumberedFrames) → IsCalled 0 class i.place i.max_locals i.max_stack old new → new ≡ entered class i old
entered_on class i old new h = by_frame old.frame refl h
  where
    by_frame : (o : Option NumberedFrame) → old.frame ≡ o → IsSomeAnd o (λ f. new ≡ called 0 class i.place i.max_locals i.max_stack f old.callers) → new ≡ entered class i old
    by_frame None e k = absurd k
    by_frame (Some f) e k =
        k ∙ ap (λ o. record { frame = Some (begun class i.place i.max_locals [] i.max_stack); callers = all_on o old.callers }) (sym e)

pub entered_first : (class : ℕ) (i : Initializer) (old new : NumberedFrames) → old.frame ≡ None → AreWhole old → new ≡ first_frame None class i.place i.max_locals i.max_stack → new ≡ entered class i old
entered_first class i old new none whole same =
    let empty : old.callers ≡ [] = subst (λ o. IfNone o (old.callers ≡ [])) none whole in
    same
    ∙ ap (λ cs. record { frame = Some (begun class i.place i.max_locals [] i.max_stack); callers = cs })
    (sym (ap (λ o. all_on o old.callers) none ∙ empty))

pub no_callers : (old : NumberedFrames) → old.frame ≡ None → AreWhole old → old.callers ≡ []
no_callers old none whole = subst (λ o. IfNone o (old.callers ≡ [])) none whole

all_framed : (p : List Info) (o : Option NumberedFrame) (cs : List NumberedFrame) → IfNone o (cs ≡ []) → map (frame_of p) (all_on o cs) ≡ frames_on p o cs
all_framed p None cs e = ap (map (frame_of p)) e
all_framed p (Some f) cs e = refl

deep : (p : List Info) (o : Option NumberedFrame) (cs : List NumberedFrame) → length (frames_on p o cs) ≡ depth_of o cs
deep p None cs = refl
deep p (Some f) cs = let e = length-map cs (frame_of p) in omega (arith, e)

entered_framed : (p : List Info) (class : ℕ) (i : Initializer) (old : NumberedFrames) → AreWhole old → frames_of p (entered class i old) ≡ frame_of p (begun class i.place i.max_locals [] i.max_stack) ∷ frames_of p old
entered_framed p class i old whole =
    ap (λ fs. frame_of p (begun class i.place i.max_locals [] i.max_stack) ∷ fs) (all_framed p old.frame old.callers whole)

pub begun_on : (p : List Info) (class : ℕ) (i : Initializer) (old new : NumberedFrames) → class < length p → IsInitializerAt p class i → new ≡ entered class i old → StaysOrBegins p old new
begun_on p class i old new lt is same =
    inr (subst (λ (s : NumberedFrames). HasBegun p old s) (sym same) (record {
      callers = refl;
      frame = record { class = lt; room = is.room };
    }))

pub stays_on : (p : List Info) (s : NumberedFrames) → StaysOrBegins p s s
stays_on p s = inl refl

-- ---- the begin

zero_le : (n : ℕ) → nat_le 0 n ≡ true
zero_le n = elim (leb_tells 0 n) [
  | inl h ↦ h.0
  | inr h ↦ absurd (let lt = h.1 in omega (arith, lt))
]

some_and : {A : Type 0} (o : Option A) (P : A → Type 0) → IsSomeAnd o P → (x : A) × (o ≡ Some x) × P x
some_and None P h = absurd h
some_and (Some x) P h = (x, refl, h)

module _ (p : List Info) (q : Limits) (a : ℕ) (old : NumberedFrames) where
  -- the begin by the initializer that the class has
  abbrev by : Option rules.Initializer → def.World → Effect
  by o v = rules.begins_with q v (frames_of p old) (begin_at p a) o

  pub full_done : (w u : World) → (begin_at p a).initializer ≡ None → SetsOrEnds p w u (setting_at p q a) false → ComesAt p w u (frames_of p old) None (beginning p q a old)
  full_done w u none sets v m =
      let s = sets v m in
      record {
        world = record v { over = Some HeapPassed };
        means = s.means;
        goes = ap (λ o. by o v) none
            ∙ ap (λ o. unless_full v (frames_of p old) o (rules.done_with (frames_of p old) (name_at p a))) s.none;
      }

  pub set_done : (w mid u : World) → (begin_at p a).initializer ≡ None → SetsOrEnds p w mid (setting_at p q a) true → Moves p mid u (rules.marks (name_at p a) Done) → ComesAt p w u (frames_of p old) None (beginning p q a old)
  set_done w mid u none sets moves v m =
      let s = some_and (setting_at p q a v) (Means p mid) (sets v m) in
      record {
        world = rules.marks (name_at p a) Done s.0;
        means = moves s.0 s.2;
        goes = ap (λ o. by o v) none
            ∙ ap (λ o. unless_full v (frames_of p old) o (rules.done_with (frames_of p old) (name_at p a))) s.1;
      }

  module _ (i : Initializer) (is : IsInitializerAt p a i) where
    abbrev runs : def.World → Bool → Effect
    runs v b =
        if b then unless_full v (frames_of p old) (setting_at p q a v) (rules.runs_initializer q (frames_of p old) (name_at p a) (initializer_of i))
        else throws q v (frames_of p old) StackOverflowError

    begins_by : (v : def.World) (b : Bool) → nat_lt (depth_of old.frame old.callers) q.depth ≡ b → beginning p q a old v ≡ runs v b
    begins_by v b e =
        ap (λ o. by o v) is.initializer
        ∙ ap (λ n. runs v (nat_lt n q.depth)) (deep p old.frame old.callers)
        ∙ ap (runs v) e

    pub too_deep : (w u : World) (x : Option ℕ) → nat_lt (depth_of old.frame old.callers) q.depth ≡ false → q ≡ w.limits → Throws p w u StackOverflowError x → ComesAt p w u (frames_of p old) x (beginning p q a old)
    too_deep w u x e same thrown v m =
        let t = thrown v (frames_of p old) m in
        record {
          world = t.world;
          means = t.means;
          goes = begins_by v false e ∙ ap (λ (l : Limits). throws l v (frames_of p old) StackOverflowError) same ∙ t.goes;
        }

    pub full_running : (w u : World) → nat_lt (depth_of old.frame old.callers) q.depth ≡ true → SetsOrEnds p w u (setting_at p q a) false → ComesAt p w u (frames_of p old) None (beginning p q a old)
    full_running w u e sets v m =
        let s = sets v m in
        record {
          world = record v { over = Some HeapPassed };
          means = s.means;
          goes = begins_by v true e
              ∙ ap (λ o. unless_full v (frames_of p old) o (rules.runs_initializer q (frames_of p old) (name_at p a) (initializer_of i))) s.none;
        }

    enters_by : (z : def.World) → nat_lt (depth_of old.frame old.callers) q.depth ≡ true → rules.runs_initializer q (frames_of p old) (name_at p a) (initializer_of i) z ≡ goes_with (rules.marks (name_at p a) Running z) (frame_of p (begun a i.place i.max_locals [] i.max_stack) ∷ frames_of p old)
    enters_by z e =
        let u = rules.marks (name_at p a) Running z in
        let goes = goes_with u (frame_of p (begun a i.place i.max_locals [] i.max_stack) ∷ frames_of p old) in
        let fails = throws q u (frames_of p old) StackOverflowError in
        ap (λ b. if b then if nat_lt (length (frames_of p old)) q.depth then goes else fails else NoRow) (zero_le i.max_locals)
        ∙ ap (λ b. if b then goes else fails) (ap (λ n. nat_lt n q.depth) (deep p old.frame old.callers) ∙ e)

    pub set_running : (w mid u : World) (new : NumberedFrames) → AreWhole old → nat_lt (depth_of old.frame old.callers) q.depth ≡ true → SetsOrEnds p w mid (setting_at p q a) true → Moves p mid u (rules.marks (name_at p a) Running) → new ≡ entered a i old → ComesAt p w u (frames_of p new) None (beginning p q a old)
    set_running w mid u new whole e sets moves same v m =
        let s = some_and (setting_at p q a v) (Means p mid) (sets v m) in
        record {
          world = rules.marks (name_at p a) Running s.0;
          means = moves s.0 s.2;
          goes = begins_by v true e
              ∙ ap (λ o. unless_full v (frames_of p old) o (rules.runs_initializer q (frames_of p old) (name_at p a) (initializer_of i))) s.1
              ∙ enters_by s.0 e
              ∙ ap (goes_with (rules.marks (name_at p a) Running s.0)) (sym (entered_framed p a i old whole) ∙ sym (ap (frames_of p) same));
        }
