-- `invokespecial`, once its method was resolved.
use Rattle.std.proofs.Common.{◌≡◌, ◌∙◌, inl, inr, ◌⊎◌, sym, refl, ap, ℕ, true, false, List, [], ◌∷◌, ◌++◌, Option, None, Some}
use Rattle.std.specs.Prelude.{◌||◌}
use Rattle.program_rules.specs.Instructions.{MethodRef}
use Rattle.program_rules.specs.Names.{Name, same, is_listed}
use Rattle.program_rules.specs.Outlines.{Outline, interfaces_in, outline_of}
use Rattle.program_rules.specs.Programs.{Node, Rising, nodes, family, superclass_in, option_list, concat_over}
use Rattle.program_rules.specs.Resolution.{MethodAt, is_initializer_name}
use Rattle.program_rules.specs.Selection.{select_named}
use Rattle.machine_rules.specs.State as def
use Rattle.machine_rules.specs.Effects.{Effect}
use Rattle.machine_rules.specs.Lookups.{consult}
use Rattle.class_link.specs.Info.{Info, class_of}
use Rattle.class_link.specs.View.{linked_of}
use Rattle.class_table.specs.Table.{look, name_at, IsProgram}
use Rattle.class_family.specs.Families.{node_of, rising_at, EndsAt, GoesOn}
use Rattle.class_family.proofs.Levels.{rising_step}
use Rattle.jvm_frames.specs.Frames.{NumberedFrame, NumberedFrames}
use Rattle.jvm_rows.specs.Effects.{RowOf}
use Rattle.jvm_rows.proofs.Ends.{each, if_some}
use Rattle.jvm_link.specs.Sites.{node_at, outline_at}
use Rattle.jvm_unwind.specs.declared.turn.Turn.TheVariants as turn
use Rattle.jvm_unwind.specs.Turns.{row_at}
use Rattle.jvm_world.specs.declared.world.World.{World}
use Rattle.jvm_world.specs.View.{Means, Moves}
use Rattle.jvm_invokes.specs.declared.invoked.Invoked.{Invoked}
use Rattle.jvm_invokes.specs.declared.invoked.Invoked.TheVariants as invoked
use Rattle.jvm_invokes.specs.Invoked.{Invokes, InvokedTo, Leaves, calls_with}
use Rattle.jvm_receivers.specs.Receivers.{RunsIn, is_own, selecting, special_above, special_in, special_looking, special_on}
use Rattle.jvm_receivers.specs.Targets.{received}
use Rattle.jvm_invokes.proofs.Outcomes.{LeftTo, after}
use Rattle.jvm_receivers.proofs.Selecting.{chosen}

-- ---- the direct superclass

same_head : (x y : Node) (xs ys : List Node) → x ∷ xs ≡ y ∷ ys → x ≡ y
same_head x y xs ys e = cc

same_tail : (x y : Node) (xs ys : List Node) → x ∷ xs ≡ y ∷ ys → xs ≡ ys
same_tail x y xs ys e = cc

-- A class names one superclass or none.
abbrev FewNames : List Name → Type 0
FewNames ns = (ns ≡ []) ⊎ ((m : Name) × (ns ≡ m ∷ []))

few_names : (o : Option Name) → FewNames (option_list o)
few_names None = inl refl
few_names (Some n) = inr (n, refl)

few_supers : (o : Option Outline) → FewNames (superclass_in o)
few_supers None = inl refl
few_supers (Some c) = few_names c.parent

-- What the walk upwards goes on with.
above : (p : List Info) (a : ℕ) → IsProgram p → rising_at p a ≡ node_at p a ∷ concat_over (nodes Rising (look p)) (superclass_in (outline_at p a))
above p a ok = rising_step (look p) ok.ranks (name_at p a)

up_by : (p : List Info) (a u : ℕ) (ok : IsProgram p) → FewNames (superclass_in (outline_at p a)) → rising_at p u ≡ concat_over (nodes Rising (look p)) (superclass_in (outline_at p a)) → superclass_in (outline_at p a) ≡ name_at p u ∷ []
up_by p a u ok (inl e) h =
    let none : node_at p u ∷ concat_over (nodes Rising (look p)) (superclass_in (outline_at p u)) ≡ [] =
    sym (above p u ok) ∙ h ∙ ap (concat_over (nodes Rising (look p))) e in
    absurd cc
up_by p a u ok (inr k) h =
    let q : Name = k.0 in
    let further : List Node = concat_over (nodes Rising (look p)) (superclass_in (outline_of (look p q))) in
    let heads : node_at p u ∷ concat_over (nodes Rising (look p)) (superclass_in (outline_at p u)) ≡ node_of (look p) q ∷ (further ++ []) =
    sym (above p u ok) ∙ h ∙ ap (concat_over (nodes Rising (look p))) k.1 ∙ ap (λ l. l ++ []) (rising_step (look p) ok.ranks q) in
    let named : name_at p u ≡ q = ap (λ (n : Node). n.name) (same_head (node_at p u) (node_of (look p) q) (concat_over (nodes Rising (look p)) (superclass_in (outline_at p u))) (further ++ []) heads) in
    k.1 ∙ ap (λ n. n ∷ []) (sym named)

pub up_named : (p : List Info) (a u : ℕ) → IsProgram p → GoesOn p a u → superclass_in (outline_at p a) ≡ name_at p u ∷ []
up_named p a u ok goes =
    up_by p a u ok (few_supers (outline_at p a))
    (same_tail (node_at p a) (node_at p a) (rising_at p u) (concat_over (nodes Rising (look p)) (superclass_in (outline_at p a))) (sym goes ∙ above p a ok))

top_by : (p : List Info) (a : ℕ) (ok : IsProgram p) → FewNames (superclass_in (outline_at p a)) → [] ≡ concat_over (nodes Rising (look p)) (superclass_in (outline_at p a)) → superclass_in (outline_at p a) ≡ []
top_by p a ok (inl e) h = e
top_by p a ok (inr k) h =
    let q : Name = k.0 in
    let further : List Node = concat_over (nodes Rising (look p)) (superclass_in (outline_of (look p q))) in
    let bad : [] ≡ node_of (look p) q ∷ (further ++ []) =
    h ∙ ap (concat_over (nodes Rising (look p))) k.1 ∙ ap (λ l. l ++ []) (rising_step (look p) ok.ranks q) in
    absurd cc

pub no_up : (p : List Info) (a : ℕ) → IsProgram p → EndsAt p a → superclass_in (outline_at p a) ≡ []
no_up p a ok ends =
    top_by p a ok (few_supers (outline_at p a))
    (same_tail (node_at p a) (node_at p a) [] (concat_over (nodes Rising (look p)) (superclass_in (outline_at p a))) (sym ends ∙ above p a ok))

-- ---- from the superclass on

-- The row, by what stands above the class.
abbrev above_at : List Info → World → MethodRef → ℕ → NumberedFrame → NumberedFrames → def.World → List Name → Effect
above_at p w r count f old v up = row_at p (special_above p r count up w.limits f.room) f old v

pub above_none : (p : List Info) (r : MethodRef) (count a : ℕ) (old : NumberedFrames) (w : World) → IsProgram p → EndsAt p a → Invokes p r (special_above p r count (superclass_in (outline_at p a))) (invoked.Turned turn.NoRow) old old w w
above_none p r count a old w ok ends =
    each old.frame (λ f. (v : def.World) → Means p w v → InvokedTo p w.limits r (invoked.Turned turn.NoRow) f old old w (above_at p w r count f old v (superclass_in (outline_at p a))))
    (λ f v m. (ap (above_at p w r count f old v) (no_up p a ok ends), refl))

above_left : (p : List Info) (r : MethodRef) (count a u : ℕ) (old : NumberedFrames) (w mid : World) → IsProgram p → GoesOn p a u → Moves p w mid (consult (look p) (name_at p u)) → LeftTo p (special_above p r count (superclass_in (outline_at p a))) (selecting p count (select_named r (family (look p) (name_at p u)))) old w mid
above_left p r count a u old w mid ok goes moves =
    each old.frame (λ f. (v : def.World) → Means p w v → Leaves p (selecting p count (select_named r (family (look p) (name_at p u))) w.limits f.room) f old mid (above_at p w r count f old v (superclass_in (outline_at p a))))
    (λ f v m. record {
      world = consult (look p) (name_at p u) v;
      means = moves v m;
      left = ap (above_at p w r count f old v) (up_named p a u ok goes);
    })

pub above_call : (p : List Info) (r : MethodRef) (count a u : ℕ) (t : Invoked) (old new : NumberedFrames) (w mid x : World) → IsProgram p → GoesOn p a u → Moves p w mid (consult (look p) (name_at p u)) → mid.limits ≡ w.limits → Invokes p r (selecting p count (select_named r (family (look p) (name_at p u)))) t old new mid x → Invokes p r (special_above p r count (superclass_in (outline_at p a))) t old new w x
above_call p r count a u t old new w mid x ok goes moves same h =
    after p r (special_above p r count (superclass_in (outline_at p a))) (selecting p count (select_named r (family (look p) (name_at p u)))) t old new w mid x same
    (above_left p r count a u old w mid ok goes moves) h

-- ---- once the class of the frame was consulted

-- The row, by the name of the class of the frame.
abbrev looked_at : List Info → World → MethodRef → MethodAt → ℕ → NumberedFrame → NumberedFrames → def.World → Name → Effect
looked_at p w r m count f old v n =
    row_at p (special_in p r m count (superclass_in (outline_of (look p n)))
    (same r.class n || is_listed r.class (interfaces_in (outline_of (look p n)))) w.limits f.room)
    f old (consult (look p) n v)

looking_as : (p : List Info) (w : World) (r : MethodRef) (m : MethodAt) (count : ℕ) (f : NumberedFrame) (old : NumberedFrames) (v : def.World) → row_at p (special_looking p r m count w.limits f.room) f old v ≡ looked_at p w r m count f old v (name_at p f.class)
unfolding family
looking_as p w r m count f old v = refl

-- What is left of it once the class was consulted.
abbrev looked : List Info → MethodRef → MethodAt → ℕ → ℕ → RowOf
looked p r m count a = special_in p r m count (superclass_in (outline_at p a)) (is_own p a r.class)

looking_left : (p : List Info) (r : MethodRef) (m : MethodAt) (count a : ℕ) (old : NumberedFrames) (w mid : World) → RunsIn a old → Moves p w mid (consult (look p) (name_at p a)) → LeftTo p (special_looking p r m count) (looked p r m count a) old w mid
looking_left p r m count a old w mid runs moves =
    if_some old.frame (λ f. f.class ≡ a)
    (λ f. (v : def.World) → Means p w v → Leaves p (looked p r m count a w.limits f.room) f old mid (row_at p (special_looking p r m count w.limits f.room) f old v))
    (λ f e v k. record {
      world = consult (look p) (name_at p a) v;
      means = moves v k;
      left = looking_as p w r m count f old v ∙ ap (λ n. looked_at p w r m count f old v (name_at p n)) e;
    }) runs

pub looking_own : (p : List Info) (r : MethodRef) (m : MethodAt) (count a : ℕ) (t : Invoked) (old new : NumberedFrames) (w mid u : World) → RunsIn a old → Moves p w mid (consult (look p) (name_at p a)) → mid.limits ≡ w.limits → is_own p a r.class ≡ true → Invokes p r (calls_with p count m) t old new mid u → Invokes p r (special_looking p r m count) t old new w u
looking_own p r m count a t old new w mid u runs moves same own h =
    after p r (special_looking p r m count) (looked p r m count a) t old new w mid u same
    (looking_left p r m count a old w mid runs moves)
    (chosen p r (calls_with p count m) (special_above p r count (superclass_in (outline_at p a))) (is_own p a r.class) true t old new mid u own h)

pub looking_above : (p : List Info) (r : MethodRef) (m : MethodAt) (count a : ℕ) (t : Invoked) (old new : NumberedFrames) (w mid u : World) → RunsIn a old → Moves p w mid (consult (look p) (name_at p a)) → mid.limits ≡ w.limits → is_own p a r.class ≡ false → Invokes p r (special_above p r count (superclass_in (outline_at p a))) t old new mid u → Invokes p r (special_looking p r m count) t old new w u
looking_above p r m count a t old new w mid u runs moves same own h =
    after p r (special_looking p r m count) (looked p r m count a) t old new w mid u same
    (looking_left p r m count a old w mid runs moves)
    (chosen p r (calls_with p count m) (special_above p r count (superclass_in (outline_at p a))) (is_own p a r.class) false t old new mid u own h)

-- ---- on an object

pub on_initializer : (p : List Info) (r : MethodRef) (m : MethodAt) (x count : ℕ) (t : Invoked) (old new : NumberedFrames) (w u : World) → is_initializer_name r.name ≡ true → Invokes p r (calls_with p count m) t old new w u → Invokes p r (received x count (special_on p r m)) t old new w u
on_initializer p r m x count t old new w u e h =
    chosen p r (calls_with p count m) (special_looking p r m count) (is_initializer_name r.name) true t old new w u e h

pub on_other : (p : List Info) (r : MethodRef) (m : MethodAt) (x count : ℕ) (t : Invoked) (old new : NumberedFrames) (w u : World) → is_initializer_name r.name ≡ false → Invokes p r (special_looking p r m count) t old new w u → Invokes p r (received x count (special_on p r m)) t old new w u
on_other p r m x count t old new w u e h =
    chosen p r (calls_with p count m) (special_looking p r m count) (is_initializer_name r.name) false t old new w u e h

-- ---- the direct superinterfaces

pub interfaces_are : (p : List Info) (a : ℕ) (i : Info) → look p (name_at p a) ≡ Some (class_of i) → i.linked.interfaces ≡ interfaces_in (outline_at p a)
unfolding linked_of
interfaces_are p a i e = sym (ap (λ o. interfaces_in (outline_of o)) e)
