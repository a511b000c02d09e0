-- A class is made ready, an instance is made, and a method is called as the kind of a call says.
use Rattle.std.proofs.Common.{◌≡◌, ◌∙◌, inl, inr, sym, refl, ap, subst, ℕ, ◌+◌, Bool, true, false, List, [], ◌∷◌, Option, None, Some, IfNone}
use Rattle.std.specs.Prelude.{if◌then◌else◌}
use Rattle.program_rules.specs.declared.call_kind.CallKind.{CallKind}
use Rattle.program_rules.specs.declared.value.Value.{Value}
use Rattle.program_rules.specs.declared.value.Value.TheVariants.{Ref}
use Rattle.program_rules.specs.Layout.{words_of}
use Rattle.program_rules.specs.Linked.{LinkedMethod, is_static}
use Rattle.program_rules.specs.Names.{Name}
use Rattle.program_rules.specs.Objects as objects
use Rattle.program_rules.specs.Programs.{Family, family}
use Rattle.program_rules.specs.Resolution.{MethodAt, same_bool}
use Rattle.machine_rules.specs.declared.machine.Limits.{Limits}
use Rattle.machine_rules.specs.declared.machine.Stop.TheVariants.{HeapPassed}
use Rattle.machine_rules.specs.State as def
use Rattle.machine_rules.specs.Effects.{Effect, NoRow, on_some, allocate, unless_full, goes_with}
use Rattle.machine_rules.specs.Initialisation.{when_ready}
use Rattle.machine_rules.specs.NewObjects.{new_object}
use Rattle.machine_rules.specs.Script.{needs_static}
use Rattle.class_link.specs.Info.{Info}
use Rattle.class_table.specs.Table.{look, name_at}
use Rattle.jvm_values.specs.declared.object.ObjKind.TheVariants as kind
use Rattle.jvm_values.specs.declared.object.Object.{Object}
use Rattle.jvm_frames.specs.Frames.{NumberedFrames, instance_args}
use Rattle.jvm_world.specs.declared.world.World.{World}
use Rattle.jvm_world.specs.View.{Means, Moves, Allocates, object_of}
use Rattle.jvm_lines.specs.Below.{Turn}
use Rattle.jvm_lines.specs.Below.jvm_unwind_declared_turn_Turn_TheVariants as turn
use Rattle.jvm_lines.specs.Below.{frames_of}
use Rattle.jvm_lines.specs.Below.{Readied}
use Rattle.jvm_lines.specs.Below.jvm_initialization_declared_ready_Readied_TheVariants as readied
use Rattle.jvm_lines.specs.Below.{AreWhole, StaysOrBegins}
use Rattle.jvm_lines.specs.Below.{Use, using, ReadiesTo}
use Rattle.jvm_layout.specs.declared.layout.Layout.{Layout}
use Rattle.jvm_layout.specs.Layouts.{IsLayoutOf}
use Rattle.jvm_link.specs.declared.site.Site.{Site}
use Rattle.jvm_link.specs.Sites.{IsMethod}
use Rattle.jvm_lines.specs.Below.{Head}
use Rattle.jvm_lines.specs.Below.{StandsAt, IsHead}
use Rattle.jvm_lines.proofs.Below.{stands}
use Rattle.jvm_lines.specs.Below.{TurnedTo}
use Rattle.jvm_step.specs.Steps.{enters_method, calls_on, with_made, makes, readies, calls_by, calls_fit, StepsTo, StepsAt}
use Rattle.jvm_step.proofs.Worlds.{no_frames, instance_is, after, along, turns}

class_is : (p : List Info) (s : Site) (m : MethodAt) → IsMethod p (Some m) s → m.class ≡ name_at p s.class.0
class_is p s m is = ap (λ (y : MethodAt). y.class) (stands p m s is).is

-- ---- the test's instance

pub instance_used : (p : List Info) (s : Site) (x : ℕ) (t : Turn) (new : NumberedFrames) (w u : World) → w.instance ≡ Some x → StepsAt p s (enters_method (instance_args (Some x))) t new w u → StepsAt p s calls_on t new w u
instance_used p s x t new w u there steps m is q limits =
    along p (calls_on m q) (enters_method (Ref x ∷ []) m q) t new w u
    (λ v k. ap (λ o. on_some o (λ y. enters_method (Ref y ∷ []) m q v)) (instance_is p w v k ∙ there))
    (steps m is q limits)

pub no_instance : (p : List Info) (s : Site) (new : NumberedFrames) (w u : World) → w.instance ≡ None → StepsAt p s calls_on turn.NoRow new w u
no_instance p s new w u there m is q limits v k =
    ap (λ o. on_some o (λ y. enters_method (Ref y ∷ []) m q v)) (instance_is p w v k ∙ there)

-- ---- a new instance

-- What uses a class that is ready.
abbrev pub used : List Info → Site → (MethodAt → Limits → Use) → MethodAt → Limits → def.World → Effect
used p s go m q v = go m q v (family (look p) (name_at p s.class.0))

module _ (p : List Info) (s : Site) (l : Layout) (o : Object) (more : ℕ) (w mid : World) (is_layout : IsLayoutOf p s.class.0 l) (is_object : o ≡ record { kind = kind.Plain s.class; values = l.values; text = []; items = [] }) (is_more : more ≡ l.more) where
  abbrev class_of : Family
  class_of = family (look p) (name_at p s.class.0)

  same_made : (m : MethodAt) (q : Limits) (v : def.World) → IsMethod p (Some m) s → w.limits ≡ q → allocate q v (new_object m.class class_of.rising) (words_of class_of.rising) ≡ allocate w.limits v (object_of p o) (1 + more)
  same_made m q v is limits =
      ap (λ (n : Name). allocate q v (new_object n class_of.rising) (words_of class_of.rising)) (class_is p s m is)
      ∙ ap (λ (vs : List Value). allocate q v (record { kind = objects.Plain (name_at p s.class.0); values = vs; text = []; items = [] }) (words_of class_of.rising)) (sym is_layout.held)
      ∙ ap (λ (k : ℕ). allocate q v (object_of p (record { kind = kind.Plain s.class; values = l.values; text = []; items = [] })) k) (sym is_layout.words)
      ∙ ap (λ (k : ℕ). allocate q v (object_of p (record { kind = kind.Plain s.class; values = l.values; text = []; items = [] })) (1 + k)) (sym is_more)
      ∙ ap (λ (y : Object). allocate q v (object_of p y) (1 + more)) (sym is_object)
      ∙ ap (λ (k : Limits). allocate k v (object_of p o) (1 + more)) (sym limits)

  pub made_used : (a : Option ℕ) (x : ℕ) (t : Turn) (new : NumberedFrames) (mine u : World) → a ≡ Some x → Allocates p w mid (λ v. allocate w.limits v (object_of p o) (1 + more)) a → mid.limits ≡ w.limits → Moves p mid mine (λ v. record v { instance = Some x }) → mine.limits ≡ mid.limits → StepsAt p s (enters_method (instance_args (Some x))) t new mine u → StepsAt p s (used p s makes) t new w u
  made_used a x t new mine u there allocates kept moves held steps m is q limits =
      let h : Allocates p w mid (λ v. allocate w.limits v (object_of p o) (1 + more)) (Some x) = subst (Allocates p w mid (λ v. allocate w.limits v (object_of p o) (1 + more))) there allocates in
      after p (used p s makes m q) (enters_method (Ref x ∷ []) m q) t new w mine u
      (λ v k.
      let g = h v k in
      record {
        world = record g.world { instance = Some x };
        means = moves g.world g.means;
        left = ap (λ b. unless_full v [] b (with_made m q)) (same_made m q v is limits ∙ g.given);
      })
      (steps m is q (held ∙ kept ∙ limits))

  pub made_full : (a : Option ℕ) (new : NumberedFrames) → a ≡ None → Allocates p w mid (λ v. allocate w.limits v (object_of p o) (1 + more)) a → new.frame ≡ None → StepsAt p s (used p s makes) turn.Goes new w mid
  made_full a new there allocates none m is q limits v k =
      let h : Allocates p w mid (λ v. allocate w.limits v (object_of p o) (1 + more)) None = subst (Allocates p w mid (λ v. allocate w.limits v (object_of p o) (1 + more))) there allocates in
      let g = h v k in
      let z : def.World = record v { over = Some HeapPassed } in
      record {
        world = z;
        means = g.means;
        goes = ap (λ b. unless_full v [] b (with_made m q)) (same_made m q v is limits ∙ g.full)
            ∙ ap (goes_with z) (sym (no_frames p new none));
      }

-- ---- a class that is made ready

abbrev pub ReadyFor : List Info → ℕ → Readied → NumberedFrames → NumberedFrames → World → World → Type 0
ReadyFor p a r old new w u = (go : Use) → ReadiesTo p w.limits a r old new w u go

module _ (p : List Info) (s : Site) (old : NumberedFrames) (w : World) (none : old.frame ≡ None) where
  same_use : (go : MethodAt → Limits → Use) (m : MethodAt) (q : Limits) (v : def.World) → IsMethod p (Some m) s → w.limits ≡ q → readies p go m q v ≡ using p w.limits s.class.0 old (go m q) v
  same_use go m q v is limits =
      ap (λ (n : Name). when_ready (look p) q v [] n (go m q)) (class_is p s m is)
      ∙ ap (λ (k : Limits). when_ready (look p) k v [] (name_at p s.class.0) (go m q)) (sym limits)
      ∙ ap (λ fs. when_ready (look p) w.limits v fs (name_at p s.class.0) (go m q)) (sym (no_frames p old none))

  pub ready_used : (go : MethodAt → Limits → Use) (r : Readied) (t : Turn) (same new : NumberedFrames) (mid u : World) → r ≡ readied.Ready → ReadyFor p s.class.0 r old same w mid → mid.limits ≡ w.limits → StepsAt p s (used p s go) t new mid u → StepsAt p s (readies p go) t new w u
  ready_used go r t same new mid u is_ready ready kept steps m is q limits =
      let h : ReadyFor p s.class.0 readied.Ready old same w mid = subst (λ (k : Readied). ReadyFor p s.class.0 k old same w mid) is_ready ready in
      after p (readies p go m q) (used p s go m q) t new w mid u
      (λ v k.
      let l = (h (go m q)).0 v k in
      record { world = l.world; means = l.means; left = same_use go m q v is limits ∙ l.left })
      (steps m is q (kept ∙ limits))

  pub ready_turned : (go : MethodAt → Limits → Use) (r : Readied) (t : Turn) (new : NumberedFrames) (u : World) → r ≡ readied.Turned t → ReadyFor p s.class.0 r old new w u → StepsAt p s (readies p go) t new w u
  ready_turned go r t new u is_turned ready m is q limits =
      let h : ReadyFor p s.class.0 (readied.Turned t) old new w u = subst (λ (k : Readied). ReadyFor p s.class.0 k old new w u) is_turned ready in
      along p (readies p go m q) (using p w.limits s.class.0 old (go m q)) t new w u
      (λ v k. same_use go m q v is limits)
      (turns p (using p w.limits s.class.0 old (go m q)) t old new w u (h (go m q)))

pub ready_same : (p : List Info) (a : ℕ) (r : Readied) (old same : NumberedFrames) (w mid : World) → r ≡ readied.Ready → ReadyFor p a r old same w mid → same ≡ old
ready_same p a r old same w mid is_ready ready =
    let h : ReadyFor p a readied.Ready old same w mid = subst (λ (k : Readied). ReadyFor p a k old same w mid) is_ready ready in
    (h (λ v d. NoRow)).1

pub none_still : (old same : NumberedFrames) → same ≡ old → old.frame ≡ None → same.frame ≡ None
none_still old same e none = ap (λ (s : NumberedFrames). s.frame) e ∙ none

pub whole_still : (old same : NumberedFrames) → same ≡ old → AreWhole old → AreWhole same
whole_still old same e whole = subst AreWhole (sym e) whole

pub begins_still : (p : List Info) (old same new : NumberedFrames) → same ≡ old → StaysOrBegins p same new → StaysOrBegins p old new
begins_still p old same new e h = subst (λ (s : NumberedFrames). StaysOrBegins p s new) e h

-- ---- static as the kind asks

module _ (p : List Info) (s : Site) (h : Head) (k : CallKind) (head : (l : LinkedMethod) → StandsAt p s l → IsHead s l h) where
  fit_by : (m : MethodAt) (q : Limits) (v : def.World) (b : Bool) → IsMethod p (Some m) s → same_bool (is_static h.flags) (needs_static k) ≡ b → calls_fit p k m q v ≡ (if b then calls_by p k m q v else NoRow)
  fit_by m q v b is e =
      let found = stands p m s is in
      ap (λ (f : ℕ). if same_bool (is_static f) (needs_static k) then calls_by p k m q v else NoRow)
      (ap (λ (y : MethodAt). y.flags) found.is ∙ sym (head found.method found.there).flags)
      ∙ ap (λ (t : Bool). if t then calls_by p k m q v else NoRow) e

  pub unfit_kind : (new : NumberedFrames) (w u : World) → same_bool (is_static h.flags) (needs_static k) ≡ false → StepsAt p s (calls_fit p k) turn.NoRow new w u
  unfit_kind new w u e m is q limits v n = fit_by m q v false is e

  pub fit_kind : (t : Turn) (new : NumberedFrames) (w u : World) → same_bool (is_static h.flags) (needs_static k) ≡ true → StepsAt p s (calls_by p k) t new w u → StepsAt p s (calls_fit p k) t new w u
  fit_kind t new w u e steps m is q limits =
      along p (calls_fit p k m q) (calls_by p k m q) t new w u (λ v n. fit_by m q v true is e) (steps m is q limits)
