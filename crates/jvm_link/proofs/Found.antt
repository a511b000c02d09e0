-- What searches find, class by class.
use Rattle.std.proofs.Common.{◌≡◌, ◌∙◌, sym, refl, ap, subst, ℕ, zero, suc, ◌+◌, ◌<◌, ◌≤◌, List, [], ◌∷◌, map, length, take, drop, Option, None, Some, slice_get, arith}
use Rattle.std.proofs.lemmas.Simd.{map-map}
use Rattle.std.specs.Prelude.{if◌then◌else◌, IfSome, IfNone}
use Rattle.program_rules.specs.Names.{Name}
use Rattle.program_rules.specs.Faults.{Answer, Found, Fails}
use Rattle.program_rules.specs.declared.fault.Fault.TheVariants.{NoSuchFieldError}
use Rattle.program_rules.specs.Outlines.{field_in, head_in}
use Rattle.program_rules.specs.Programs.{Node, Rising, Searching, nodes, family, concat_over, superclass_in}
use Rattle.program_rules.specs.Resolution.{FieldAt, MethodAt, field_at, field_or, search_field, resolve_field, with_node, or_else, first_declared}
use Rattle.class_model.specs.declared.class.ClassId.{ClassId}
use Rattle.class_link.specs.Info.{Info}
use Rattle.class_table.specs.Table.{look, name_at, IsProgram}
use Rattle.class_family.specs.Families.{node_of, rising_at, AreClassesOf, GoesOn, EndsAt}
use Rattle.class_family.proofs.Levels.{rising_step}
use Rattle.class_family.proofs.Searches.{fields}
use Rattle.jvm_link.specs.declared.site.Site.{Site}
use Rattle.jvm_link.specs.Sites.{outline_at, node_at, nodes_at, rising_from, DeclaresField, IsField, AnswersField, IsResolvedField, ResolvesField, DeclaresMethod, IsMethod}
use Rattle.jvm_link.proofs.Members.{field_there}

-- ---- fields

dropped_one : (xs : List ℕ) (i x : ℕ) → slice_get xs i ≡ Some x → drop i xs ≡ x ∷ drop (suc i) xs
dropped_one [] i x h = absurd cc
dropped_one (y ∷ xs) zero x h = let e : y ≡ x = cc in ap (λ z. z ∷ xs) e
dropped_one (y ∷ xs) (suc i) x h = dropped_one xs i x h

dropped_past : (xs : List ℕ) (i : ℕ) → length xs ≤ i → drop i xs ≡ []
dropped_past [] zero h = refl
dropped_past [] (suc i) h = refl
dropped_past (x ∷ xs) zero h = absurd (omega (arith, h))
dropped_past (x ∷ xs) (suc i) h = dropped_past xs i (omega (arith, h))

module _ (p : List Info) (name desc : Name) (ids : List ℕ) where
  abbrev search : List Node → ℕ → Answer FieldAt
  search rising i = search_field rising name desc (nodes_at p (drop i ids))

  search_next : (i a : ℕ) (rising : List Node) → slice_get ids i ≡ Some a → search rising i ≡ field_or rising (node_at p a) (field_in name desc (outline_at p a)) (search rising (suc i))
  search_next i a rising there = ap (λ l. search_field rising name desc (nodes_at p l)) (dropped_one ids i a there)

  -- a class that declares no such field is passed
  pub field_passed : (i j a : ℕ) → j ≡ i + 1 → slice_get ids i ≡ Some a → field_in name desc (outline_at p a) ≡ None → ((rising : List Node) → search_field rising name desc (nodes_at p ids) ≡ search rising i) → (rising : List Node) → search_field rising name desc (nodes_at p ids) ≡ search rising j
  field_passed i j a next there none before rising =
      let e : suc i ≡ j = omega (arith, next) in
      before rising ∙ search_next i a rising there ∙ ap (λ o. field_or rising (node_at p a) o (search rising (suc i))) none ∙ ap (search rising) e

  -- the first class that declares one has the field
  pub field_here : (i : ℕ) (s : Site) → slice_get ids i ≡ Some s.class.0 → s.class.0 < length p → DeclaresField p s.class.0 name desc s.place → ((rising : List Node) → search_field rising name desc (nodes_at p ids) ≡ search rising i) → IsField p (λ rising. search_field rising name desc (nodes_at p ids)) s
  field_here i s there within declares before = record {
    within = within;
    field = declares.field;
    there = field_there name desc (outline_at p s.class.0) s.place declares.field declares.there;
    found = λ rising. before rising ∙ search_next i s.class.0 rising there ∙ ap (λ o. field_or rising (node_at p s.class.0) o (search rising (suc i))) declares.there;
  }

  pub field_nowhere : (i : ℕ) → length ids ≤ i → ((rising : List Node) → search_field rising name desc (nodes_at p ids) ≡ search rising i) → (rising : List Node) → search_field rising name desc (nodes_at p ids) ≡ Fails NoSuchFieldError
  field_nowhere i le before rising = before rising ∙ ap (λ l. search_field rising name desc (nodes_at p l)) (dropped_past ids i le)

module _ (p : List Info) (ok : IsProgram p) (a : ℕ) (name desc : Name) (ids : List ℕ) (classes : AreClassesOf Searching p a ids) where
  over_walk : (rising : List Node) → search_field rising name desc (nodes Searching (look p) (name_at p a)) ≡ search_field rising name desc (nodes_at p ids)
  over_walk rising =
      sym (fields (look p) ok.ranks Searching (name_at p a) rising name desc)
      ∙ ap (λ ns. search_field rising name desc (map (node_of (look p)) ns)) (sym classes.named)
      ∙ ap (search_field rising name desc) (map-map (node_of (look p)) (name_at p) ids)

  resolved_as : (answer : Answer FieldAt) → search_field (rising_at p a) name desc (nodes_at p ids) ≡ answer → IsResolvedField p a name desc answer
  unfolding resolve_field family
  resolved_as answer e class kind plain =
      ap (λ b. if b then Fails NoSuchFieldError else search_field (nodes Rising (look p) (name_at p a)) name desc (nodes Searching (look p) (name_at p a))) plain
      ∙ over_walk (nodes Rising (look p) (name_at p a)) ∙ e

  pub resolves : (found : Option Site) → AnswersField p (λ rising. search_field rising name desc (nodes_at p ids)) found → ResolvesField p a name desc found
  resolves None h = resolved_as (Fails NoSuchFieldError) (h (rising_at p a))
  resolves (Some s) h = record {
    within = h.within;
    field = h.field;
    there = h.there;
    resolved = resolved_as (Found (field_at (rising_at p a) (node_at p s.class.0) (s.place, h.field))) (h.found (rising_at p a));
  }

-- ---- methods

module _ (p : List Info) where
  -- in a loop over a class and its superclasses the class that is looked at is one of the program
  pub class_within : (next : Option ClassId) (a : ClassId) → IfSome next (λ (b : ClassId). b.0 < length p) → next ≡ Some a → a.0 < length p
  class_within next a within is = subst (λ o. IfSome o (λ (b : ClassId). b.0 < length p)) is within

  -- the walk upwards, with what a look at the next class says of it
  pub upwards : (a : ℕ) (up : Option ClassId) → IfSome up (λ u. GoesOn p a u.0) → IfNone up (EndsAt p a) → rising_at p a ≡ node_at p a ∷ rising_from p up
  upwards a None goes ends = ends
  upwards a (Some u) goes ends = goes

  -- fewer classes are left
  pub fewer_left : (next : Option ClassId) (a : ClassId) (up : Option ClassId) → next ≡ Some a → IfSome up (λ u. GoesOn p a.0 u.0) → IfNone up (EndsAt p a.0) → length (rising_from p up) < length (rising_from p next)
  fewer_left next a up is goes ends =
      let e = ap length (upwards a.0 up goes ends) in
      let q = ap (λ o. length (rising_from p o)) is in
      omega (arith, e, q)

module _ (p : List Info) (name desc : Name) where
  pub method_passed : (a : ℕ) (up : Option ClassId) → rising_at p a ≡ node_at p a ∷ rising_from p up → head_in name desc (outline_at p a) ≡ None → first_declared name desc (rising_at p a) ≡ first_declared name desc (rising_from p up)
  method_passed a up e none =
      ap (first_declared name desc) e ∙ ap (λ o. or_else (with_node (node_at p a) o) (first_declared name desc (rising_from p up))) none

  pub method_here : (answer : Option MethodAt) (s : Site) → IsProgram p → s.class.0 < length p → DeclaresMethod p s.class.0 name desc s.place → answer ≡ first_declared name desc (rising_at p s.class.0) → IsMethod p answer s
  method_here answer s ok within declares before = record {
    within = within;
    head = declares.head;
    there = declares.within;
    found = before ∙ ap (first_declared name desc) (rising_step (look p) ok.ranks (name_at p s.class.0)) ∙ ap (λ o. or_else (with_node (node_at p s.class.0) o) (first_declared name desc (concat_over (nodes Rising (look p)) (superclass_in (outline_at p s.class.0))))) declares.there;
  }

  own : (a : ℕ) → IsProgram p → first_declared name desc (take 1 (rising_at p a)) ≡ or_else (with_node (node_at p a) (head_in name desc (outline_at p a))) None
  own a ok = ap (λ l. first_declared name desc (take 1 l)) (rising_step (look p) ok.ranks (name_at p a))

  pub own_none : (a : ℕ) → IsProgram p → head_in name desc (outline_at p a) ≡ None → first_declared name desc (take 1 (rising_at p a)) ≡ None
  own_none a ok none = own a ok ∙ ap (λ o. or_else (with_node (node_at p a) o) None) none

  pub own_here : (s : Site) → IsProgram p → s.class.0 < length p → DeclaresMethod p s.class.0 name desc s.place → IsMethod p (first_declared name desc (take 1 (rising_at p s.class.0))) s
  own_here s ok within declares = record {
    within = within;
    head = declares.head;
    there = declares.within;
    found = own s.class.0 ok ∙ ap (λ o. or_else (with_node (node_at p s.class.0) o) None) declares.there;
  }
