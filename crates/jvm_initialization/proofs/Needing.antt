-- What stands before the use of a class, by its number.
use Rattle.std.proofs.Common.{◌≡◌, ◌∙◌, inl, inr, sym, refl, ap, arith, ℕ, suc, ◌+◌, ◌<◌, Bool, true, false, cond, List, [], ◌∷◌, ◌++◌, map, drop, length, Option, None, Some, slice_get}
use Rattle.std.specs.Prelude.{if◌then◌else◌}
use Rattle.std.specs.List.{filter}
use Rattle.program_rules.specs.Names.{Name}
use Rattle.program_rules.specs.Outlines.{Outline, outline_of, is_of_library}
use Rattle.program_rules.specs.Programs.{Node, Rising, nodes, concat_over, option_list, superclass_in}
use Rattle.machine_rules.specs.declared.machine.InitState.{InitState}
use Rattle.machine_rules.specs.declared.machine.InitState.TheVariants.{Fresh, Running, Done, Failed}
use Rattle.machine_rules.specs.State as def
use Rattle.machine_rules.specs.Initialisation as rules
use Rattle.class_link.specs.declared.linked.LinkedClass.{LinkedClass}
use Rattle.class_link.specs.Info.{Info}
use Rattle.class_link.specs.View.{linked_of}
use Rattle.class_table.specs.Faults.{HasRightKinds}
use Rattle.class_table.specs.Table.{look, name_at, IsProgram}
use Rattle.class_family.specs.Once.{each_once}
use Rattle.class_family.specs.Families.{node_of, across, rising_at, GoesOn, EndsAt, AreAcross}
use Rattle.class_family.proofs.Levels.{rising_step}
use Rattle.class_family.proofs.Pushing.{append_nil}
use Rattle.class_family.proofs.Searches.{IsStep, found_once}
use Rattle.jvm_world.specs.declared.world.World.{World}
use Rattle.jvm_world.specs.View.{Means}
use Rattle.jvm_initialization.specs.declared.need.Need.{Need}
use Rattle.jvm_initialization.specs.declared.need.Need.TheVariants as need
use Rattle.jvm_initialization.specs.Needs.{node_at, state_at, need_at, is_interface_at, need_before, need_among, need_of, need_or, TellsState, TellsNeed, IsToBegin, NeedsSame, GoesUp, NeedsAcross}
use Rattle.jvm_initialization.proofs.Found.{dropped}
use Rattle.jvm_initialization.proofs.Walks as walks

-- ---- how far a class has come

pub library_state : (p : List Info) (a : ℕ) (l : LinkedClass) (w : World) → look p (name_at p a) ≡ Some (linked_of l) → l.library ≡ true → TellsState p w a Done
unfolding linked_of
library_state p a l w e h v m =
    ap (λ b. if b then Done else rules.init_in (name_at p a) v.inits) (ap (λ o. is_of_library (outline_of o)) e ∙ h)

pub marked_state : (p : List Info) (a : ℕ) (l : LinkedClass) (w : World) (s : InitState) → look p (name_at p a) ≡ Some (linked_of l) → l.library ≡ false → ((v : def.World) → Means p w v → rules.init_in (name_at p a) v.inits ≡ s) → TellsState p w a s
unfolding linked_of
marked_state p a l w s e h is v m =
    ap (λ b. if b then Done else rules.init_in (name_at p a) v.inits) (ap (λ o. is_of_library (outline_of o)) e ∙ h)
    ∙ is v m

-- ---- the superclass

first_name : (p : List Info) (m : Name) (b : ℕ) (xs ys : List Node) → node_of (look p) m ∷ xs ≡ node_of (look p) (name_at p b) ∷ ys → m ≡ name_at p b
first_name p m b xs ys e = ap head e
  where
    head : List Node → Name
    head [] = []
    head (n ∷ ns) = n.name

rest_of : {A : Type 0} (xs : List A) (x : A) (ys : List A) → x ∷ xs ≡ x ∷ ys → xs ≡ ys
rest_of xs x ys e = ap (drop 1) e

module _ (p : List Info) (ok : IsProgram p) where
  above_by : (b : ℕ) (o : Option Outline) → concat_over (nodes Rising (look p)) (superclass_in o) ≡ nodes Rising (look p) (name_at p b) → superclass_in o ≡ name_at p b ∷ []
  above_by b None e = absurd (let bad = e ∙ rising_step (look p) ok.ranks (name_at p b) in cc)
  above_by b (Some c) e = by_parent c.parent e
    where
      by_parent : (q : Option Name) → concat_over (nodes Rising (look p)) (option_list q) ≡ nodes Rising (look p) (name_at p b) → option_list q ≡ name_at p b ∷ []
      by_parent None h = absurd (let bad = h ∙ rising_step (look p) ok.ranks (name_at p b) in cc)
      by_parent (Some m) h =
          ap (λ n. n ∷ []) (first_name p m b _ _
          (sym (rising_step (look p) ok.ranks m) ∙ sym (append_nil (nodes Rising (look p) m)) ∙ h ∙ rising_step (look p) ok.ranks (name_at p b)))

  pub above : (a b : ℕ) → GoesOn p a b → superclass_in (outline_of (look p (name_at p a))) ≡ name_at p b ∷ []
  above a b e =
      above_by b (outline_of (look p (name_at p a)))
      (rest_of (concat_over (nodes Rising (look p)) (superclass_in (outline_of (look p (name_at p a))))) (node_of (look p) (name_at p a)) (rising_at p b)
      (sym (rising_step (look p) ok.ranks (name_at p a)) ∙ e))

  none_by : (o : Option Outline) → concat_over (nodes Rising (look p)) (superclass_in o) ≡ [] → superclass_in o ≡ []
  none_by None e = refl
  none_by (Some c) e = by_parent c.parent e
    where
      by_parent : (q : Option Name) → concat_over (nodes Rising (look p)) (option_list q) ≡ [] → option_list q ≡ []
      by_parent None h = refl
      by_parent (Some m) h = absurd (let bad = sym (rising_step (look p) ok.ranks m) ∙ sym (append_nil (nodes Rising (look p) m)) ∙ h in cc)

  pub none_above : (a : ℕ) → EndsAt p a → superclass_in (outline_of (look p (name_at p a))) ≡ []
  none_above a e =
      none_by (outline_of (look p (name_at p a)))
      (rest_of (concat_over (nodes Rising (look p)) (superclass_in (outline_of (look p (name_at p a))))) (node_of (look p) (name_at p a)) []
      (sym (rising_step (look p) ok.ranks (name_at p a)) ∙ e))

  -- ---- upwards

  module _ (kinds : HasRightKinds (look p)) (w : World) where
    -- the superclass of a class is none of the interfaces
    up_class : (a b : ℕ) → GoesOn p a b → is_interface_at p b ≡ false
    up_class a b e = walks.superclass_named (look p) ok.present kinds (name_at p a) (name_at p b) (above a b e)

    begun_by : (a : ℕ) (s : InitState) (b : Bool) → TellsState p w a s → rules.is_begun s ≡ b → (v : def.World) → Means p w v → rules.is_begun (state_at p a v) ≡ b
    begun_by a s b tells e v m = ap rules.is_begun (tells v m) ∙ e

    same_up : (a b : ℕ) → IsToBegin p w a → IsToBegin p w b → GoesOn p a b → NeedsSame p w a b
    same_up a b from to e v m =
        walks.need_of_class (look p) ok.ranks ok.present kinds v.inits (name_at p a) from.class
        ∙ walks.needed_up (look p) ok.ranks ok.present kinds v.inits (name_at p a) (name_at p b) (from.class, from.fresh v m) (to.class, to.fresh v m) (above a b e)
        ∙ sym (walks.need_of_class (look p) ok.ranks ok.present kinds v.inits (name_at p b) to.class)

    pub goes_up : (a b : ℕ) (s : InitState) → IsToBegin p w a → b < length p → GoesOn p a b → TellsState p w b s → rules.is_begun s ≡ false → GoesUp p w a b
    goes_up a b s from lt e tells not =
        let to : IsToBegin p w b = record { within = lt; class = up_class a b e; fresh = begun_by b s false tells not } in
        record { next = e; fresh = to; same = same_up a b from to e }

    pub stops_below : (a b : ℕ) (s : InitState) → IsToBegin p w a → GoesOn p a b → TellsState p w b s → rules.is_begun s ≡ true → NeedsAcross p w a
    stops_below a b s from e tells begun v m =
        walks.need_of_class (look p) ok.ranks ok.present kinds v.inits (name_at p a) from.class
        ∙ walks.needed_below (look p) ok.ranks ok.present kinds v.inits (name_at p a) (name_at p b) (from.class, from.fresh v m) (up_class a b e) (begun_by b s true tells begun v m) (above a b e)

    pub stops_top : (a : ℕ) → IsToBegin p w a → EndsAt p a → NeedsAcross p w a
    stops_top a from e v m =
        walks.need_of_class (look p) ok.ranks ok.present kinds v.inits (name_at p a) from.class
        ∙ walks.needed_top (look p) ok.ranks ok.present kinds v.inits (name_at p a) (from.class, from.fresh v m) (none_above a e)

    -- ---- one class

    pub begun_ready : (a : ℕ) (s : InitState) → TellsState p w a s → rules.is_begun s ≡ true → TellsNeed p w a need.Ready
    begun_ready a s tells begun v m = by_kind (is_interface_at p a) refl
      where
        ready_by : (t : InitState) → rules.is_begun t ≡ true → rules.need_with t (node_at p a) rules.Ready ≡ rules.Ready
        ready_by Fresh e = absurd cc
        ready_by Running e = refl
        ready_by Done e = refl
        ready_by Failed e = absurd cc

        by_kind : (b : Bool) → is_interface_at p a ≡ b → need_at p a v ≡ rules.Ready
        by_kind true e =
            walks.need_of_interface (look p) ok.ranks ok.present kinds v.inits (name_at p a) e
            ∙ ready_by (state_at p a v) (begun_by a s true tells begun v m)
        by_kind false e =
            walks.need_of_class (look p) ok.ranks ok.present kinds v.inits (name_at p a) e
            ∙ walks.needed_begun (look p) ok.ranks ok.present kinds v.inits (name_at p a) e (begun_by a s true tells begun v m)

    or_ready : (n : Need) → need_or p n rules.Ready ≡ need_of p n
    or_ready need.Ready = refl
    or_ready (need.Begins c) = refl
    or_ready need.Failing = refl

    pub interface_need : (a : ℕ) (s : InitState) (n : Need) → is_interface_at p a ≡ true → TellsState p w a s → ((rest : rules.Need) → rules.need_with s (node_at p a) rest ≡ need_or p n rest) → TellsNeed p w a n
    interface_need a s n e tells is v m =
        walks.need_of_interface (look p) ok.ranks ok.present kinds v.inits (name_at p a) e
        ∙ ap (λ t. rules.need_with t (node_at p a) rules.Ready) (tells v m)
        ∙ is rules.Ready ∙ or_ready n

-- ---- in order

need_cons : (p : List Info) (n : Name) (ns : List Name) (v : def.World) (b : Bool) → rules.first_need v.inits (cond b (node_of (look p) n ∷ filter rules.is_initialised_before (map (node_of (look p)) ns)) (filter rules.is_initialised_before (map (node_of (look p)) ns))) ≡ (if b then rules.need_with (rules.state_of v.inits (node_of (look p) n)) (node_of (look p) n) (need_among (look p) ns v) else need_among (look p) ns v)
need_cons p n ns v true = refl
need_cons p n ns v false = refl

-- the first of several
among_cons : (p : List Info) (a : ℕ) (ns : List Name) (v : def.World) → need_among (look p) (name_at p a ∷ ns) v ≡ need_before p a v (need_among (look p) ns v)
among_cons p a ns v = need_cons p (name_at p a) ns v (rules.is_initialised_before (node_at p a))

pub counts_not : (p : List Info) (a : ℕ) (v : def.World) (rest : rules.Need) → rules.is_initialised_before (node_at p a) ≡ false → need_before p a v rest ≡ rest
counts_not p a v rest e = ap (λ b. if b then rules.need_with (state_at p a v) (node_at p a) rest else rest) e

pub counts_one : (p : List Info) (a : ℕ) (w : World) (s : InitState) (n : Need) → rules.is_initialised_before (node_at p a) ≡ true → TellsState p w a s → ((rest : rules.Need) → rules.need_with s (node_at p a) rest ≡ need_or p n rest) → (v : def.World) (rest : rules.Need) → Means p w v → need_before p a v rest ≡ need_or p n rest
counts_one p a w s n e tells is v rest m =
    ap (λ b. if b then rules.need_with (state_at p a v) (node_at p a) rest else rest) e
    ∙ ap (λ t. rules.need_with t (node_at p a) rest) (tells v m) ∙ is rest

-- the classes from a place on, by the need of the first
pub next_among : (p : List Info) (ids : List ℕ) (j k a : ℕ) (last : List Name) (n : Need) (v : def.World) → j ≡ k + 1 → slice_get ids k ≡ Some a → ((rest : rules.Need) → need_before p a v rest ≡ need_or p n rest) → need_among (look p) (map (name_at p) (drop k ids) ++ last) v ≡ need_or p n (need_among (look p) (map (name_at p) (drop j ids) ++ last) v)
next_among p ids j k a last n v next there is =
    let s : suc k ≡ j = omega (arith, next) in
    ap (λ l. need_among (look p) (map (name_at p) l ++ last) v) (dropped ids k a there)
    ∙ among_cons p a (map (name_at p) (drop (suc k) ids) ++ last) v
    ∙ is (need_among (look p) (map (name_at p) (drop (suc k) ids) ++ last) v)
    ∙ ap (λ i. need_or p n (need_among (look p) (map (name_at p) (drop i ids) ++ last) v)) s

or_nothing : (p : List Info) (n : Need) → need_or p n rules.Ready ≡ need_of p n
or_nothing p need.Ready = refl
or_nothing p (need.Begins c) = refl
or_nothing p need.Failing = refl

pub last_among : (p : List Info) (a : ℕ) (n : Need) (v : def.World) → ((rest : rules.Need) → need_before p a v rest ≡ need_or p n rest) → need_among (look p) (name_at p a ∷ []) v ≡ need_of p n
last_among p a n v is = among_cons p a [] v ∙ is rules.Ready ∙ or_nothing p n

-- ---- each class once

need_step : (s : InitState) (n : Node) → IsStep (rules.need_with s n)
need_step Fresh n = inl (λ r t. refl)
need_step Running n = inr (λ r. refl)
need_step Done n = inr (λ r. refl)
need_step Failed n = inl (λ r t. refl)

before_step : (s : InitState) (n : Node) (b : Bool) → IsStep (λ rest. if b then rules.need_with s n rest else rest)
before_step s n true = need_step s n
before_step s n false = inr (λ r. refl)

pub among_once : (p : List Info) (ns last : List Name) (v : def.World) → need_among (look p) (each_once ns ++ last) v ≡ need_among (look p) (ns ++ last) v
among_once p ns last v =
    found_once
    (λ m rest. if rules.is_initialised_before (node_of (look p) m) then rules.need_with (rules.state_of v.inits (node_of (look p) m)) (node_of (look p) m) rest else rest)
    (λ ms. need_among (look p) (ms ++ last) v)
    (λ m ms. need_cons p m (ms ++ last) v (rules.is_initialised_before (node_of (look p) m)))
    (λ m. before_step (rules.state_of v.inits (node_of (look p) m)) (node_of (look p) m) (rules.is_initialised_before (node_of (look p) m))) ns

-- what a class needs, by its interfaces each once
pub across_need : (p : List Info) (w : World) (a b : ℕ) (ids : List ℕ) (n : Need) → NeedsSame p w a b → NeedsAcross p w b → AreAcross p b ids → ((v : def.World) → Means p w v → need_among (look p) (map (name_at p) ids ++ name_at p b ∷ []) v ≡ need_of p n) → TellsNeed p w a n
across_need p w a b ids n same needs found is v m =
    same v m ∙ needs v m
    ∙ sym (among_once p (across (look p) (name_at p b)) (name_at p b ∷ []) v)
    ∙ ap (λ l. need_among (look p) (l ++ name_at p b ∷ []) v) (sym found.named)
    ∙ is v m

pub begins_with : (p : List Info) (w : World) (a : ℕ) (s : InitState) → a < length p → is_interface_at p a ≡ false → TellsState p w a s → rules.is_begun s ≡ false → IsToBegin p w a
begins_with p w a s lt class tells not = record {
  within = lt;
  class = class;
  fresh = λ v m. ap rules.is_begun (tells v m) ∙ not;
}
