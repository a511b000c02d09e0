-- What an object selects of a resolved method.
use Rattle.std.proofs.Common.{◌≡◌, ◌∙◌, sym, refl, ap, subst, ◌⊎◌, inl, inr, ℕ, zero, suc, ◌<◌, ◌≤◌, Bool, true, false, List, [], ◌∷◌, ◌++◌, map, length, Option, None, Some, slice_get, arith}
use Rattle.std.specs.Prelude.{◌&&◌, ◌||◌, if◌then◌else◌, IfSome, Result, Ok, Err}
use Rattle.std.specs.List.{list_any}
use Rattle.std.specs.Cmp.Lexicographic.{same_text}
use Rattle.program_rules.specs.Names.{Name, same, is_listed}
use Rattle.program_rules.specs.declared.fault.Fault.{Fault}
use Rattle.program_rules.specs.Faults.{Answer, Found, Fails}
use Rattle.program_rules.specs.Instructions.{MethodRef}
use Rattle.program_rules.specs.Linked as def
use Rattle.program_rules.specs.Linked.{is_private, is_open, is_abstract}
use Rattle.program_rules.specs.Outlines.{Head, Abstractly, head_of, head_in, heads_in, callable_of, outline_of}
use Rattle.program_rules.specs.Programs.{Look, Node, Order, Rising, Searching, nodes, family, top_of, concat_over, supers, superclass_in}
use Rattle.program_rules.specs.Resolution.{MethodAt, method_at, with_node, declared_method, or_else, found_or, clone_method, candidates, most_specific_concrete}
use Rattle.program_rules.specs.Selection.{overriding_methods, is_method_of, if_among, first_through, the_one, is_own, select_virtual}
use Rattle.class_model.specs.declared.class.ClassId.{ClassId}
use Rattle.class_link.specs.Info.{Info}
use Rattle.class_table.specs.Table.{look, name_at, IsProgram}
use Rattle.class_order.specs.Supers as below
use Rattle.class_order.specs.Ranks.{HasRanks}
use Rattle.class_order.proofs.Within.{same_itself, or_either, or_first, or_second, IsWithin}
use Rattle.class_family.specs.Once.{each_once}
use Rattle.class_family.specs.Families.{names_in, node_of, rising_at, GoesOn}
use Rattle.class_family.specs.Above.{is_above}
use Rattle.class_family.specs.Walks.{steps}
use Rattle.class_family.proofs.Levels.{AreNodes, nodes_are, walk_step, steps_in_parents, rising_step}
use Rattle.class_family.proofs.Pushing.{append_nil}
use Rattle.class_family.proofs.Above.{of_one, first_below, within_searched, once_listed, above_further, below_above}
use Rattle.jvm_link.specs.declared.site.Site.{Site}
use Rattle.jvm_link.specs.declared.site.Callee.{Callee}
use Rattle.jvm_link.specs.declared.site.Callee.TheVariants.{Method, ArrayClone}
use Rattle.jvm_link.specs.Sites.{outline_at, node_at, rising_from, HasHead, IsMethod, AnswersMethod}
use Rattle.jvm_link.specs.Candidates.{family_at, AreSearched}
use Rattle.jvm_link.specs.Overriding.{own_method, opens, is_opened, overrides, if_overriding, first_overriding, is_opened_at, IsShut, IsResolved, Takes, FirstOver}
use Rattle.jvm_link.specs.Answers.{IsCallee, FindsCallee, AnswersCall, SelectsAbove, SelectsOf}
use Rattle.jvm_link.proofs.Searched.{family_nodes, top_nodes}
use Rattle.jvm_link.proofs.Overrides.{Behind, chosen_is, walk_behind, own_class, any_of, any_at, both_true, and_true}
use Rattle.jvm_link.proofs.Resolving.{method_found}

-- ---- the superclass stands above

same_head : (x y : Node) (xs ys : List Node) → x ∷ xs ≡ y ∷ ys → x ≡ y
same_head x y xs ys e = cc

same_tail : (x y : Node) (xs ys : List Node) → x ∷ xs ≡ y ∷ ys → xs ≡ ys
same_tail x y xs ys e = cc

up_case : (p : List Info) (a u : ℕ) (ok : IsProgram p) (ns : List Name) → superclass_in (outline_at p a) ≡ ns → rising_at p u ≡ concat_over (nodes Rising (look p)) ns → is_above (look p) (name_at p a) (name_at p u) ≡ true
up_case p a u ok [] e h = let q : node_at p u ∷ concat_over (nodes Rising (look p)) (superclass_in (outline_at p u)) ≡ [] = sym (rising_step (look p) ok.ranks (name_at p u)) ∙ h in absurd cc
up_case p a u ok (q ∷ qs) e h =
    let above : List Node = concat_over (nodes Rising (look p)) (superclass_in (outline_of (look p q))) in
    let heads : node_at p u ∷ concat_over (nodes Rising (look p)) (superclass_in (outline_at p u)) ≡ node_of (look p) q ∷ (above ++ concat_over (nodes Rising (look p)) qs) =
    sym (rising_step (look p) ok.ranks (name_at p u)) ∙ h ∙ ap (λ l. l ++ concat_over (nodes Rising (look p)) qs) (rising_step (look p) ok.ranks q) in
    let named : name_at p u ≡ q = ap (λ (n : Node). n.name) (same_head (node_at p u) (node_of (look p) q) (concat_over (nodes Rising (look p)) (superclass_in (outline_at p u))) (above ++ concat_over (nodes Rising (look p)) qs) heads) in
    let listed : is_listed q (superclass_in (outline_at p a)) ≡ true = ap (is_listed q) e ∙ or_first (same q q) (is_listed q qs) (same_itself q) in
    subst (λ x. is_above (look p) (name_at p a) x ≡ true) (sym named) (below_above (look p) ok.ranks (name_at p a) q (below.next (name_at p a) q (steps_in_parents Rising (look p (name_at p a)) q listed)))

up_above : (p : List Info) (a u : ℕ) → IsProgram p → GoesOn p a u → is_above (look p) (name_at p a) (name_at p u) ≡ true
up_above p a u ok goes =
    up_case p a u ok (superclass_in (outline_at p a)) refl
    (same_tail (node_at p a) (node_at p a) (rising_at p u) (concat_over (nodes Rising (look p)) (superclass_in (outline_at p a))) (sym goes ∙ rising_step (look p) ok.ranks (name_at p a)))

-- ---- the loop upwards

module _ (p : List Info) (r : MethodRef) (over : ℕ) (wide : Bool) (ids : List ℕ) where
  abbrev from : MethodAt → List Node → Option MethodAt
  from m l = first_overriding (look p) r m (map (name_at p) ids) l

  -- what is still to be searched gives what the whole gives
  abbrev pub StillFirst : ℕ → Option ClassId → Type 0
  StillFirst a next = (m : MethodAt) → IsResolved p over wide m → from m (rising_at p a) ≡ from m (rising_from p next)

  pub over_passed : (start a : ℕ) (up : Option ClassId) → rising_at p a ≡ node_at p a ∷ rising_from p up → Takes p r over wide ids a None → ((m : MethodAt) → IsResolved p over wide m → from m (rising_at p start) ≡ from m (rising_at p a)) → StillFirst start up
  over_passed start a up e none before m is = before m is ∙ ap (from m) e ∙ ap (λ o. or_else o (from m (rising_from p up))) (none m is)

  pub over_here : (start a : ℕ) (s : Site) → IsProgram p → Takes p r over wide ids a (Some s) → ((m : MethodAt) → IsResolved p over wide m → from m (rising_at p start) ≡ from m (rising_at p a)) → FirstOver p r over wide ids start (Some s)
  over_here start a s ok some before m is =
      let h = some m is in
      record {
        within = h.within;
        head = h.head;
        there = h.there;
        found =
            before m is ∙ ap (from m) (rising_step (look p) ok.ranks (name_at p a))
            ∙ ap (λ o. or_else o (from m (concat_over (nodes Rising (look p)) (superclass_in (outline_at p a))))) h.found;
      }

  -- what no class above a class opens, none above its superclass does
  shut_by : (a u : ℕ) (x : Bool) → IsProgram p → is_above (look p) (name_at p a) (name_at p u) ≡ true → is_opened_at p r over ids u ≡ x → is_opened_at p r over ids a ≡ false → is_opened_at p r over ids u ≡ false
  shut_by a u false ok above e closed = e
  shut_by a u true ok above e closed =
      let d = any_of (λ x. opens (look p) r (name_at p over) x && is_above (look p) (name_at p u) x) (map (name_at p) ids) e in
      let parts = both_true (opens (look p) r (name_at p over) d.0) (is_above (look p) (name_at p u) d.0) d.2 in
      let opened : is_opened_at p r over ids a ≡ true =
      any_at (λ x. opens (look p) r (name_at p over) x && is_above (look p) (name_at p a) x) d.0 (map (name_at p) ids) d.1
      (and_true (opens (look p) r (name_at p over) d.0) (is_above (look p) (name_at p a) d.0) parts.0 (above_further (look p) ok.ranks (name_at p a) (name_at p u) d.0 above parts.1)) in
      absurd cc

  abbrev pub ShutFrom : Bool → Option ClassId → Type 0
  ShutFrom shut next = IfSome next (λ u. IsShut p r over ids u.0 shut)

  pub shut_up : (a : ℕ) (up : Option ClassId) (shut : Bool) → IsProgram p → IfSome up (λ u. GoesOn p a u.0) → IsShut p r over ids a shut → ShutFrom shut up
  shut_up a None shut ok goes h = tt
  shut_up a (Some u) shut ok goes h = λ is. shut_by a u.0 (is_opened_at p r over ids u.0) ok (up_above p a u.0 ok goes) refl (h is)

-- ---- the classes upwards are among those that are searched

module _ (p : Look) (ranks : HasRanks p) where
  abbrev risen : Name → List Name
  risen n = names_in (nodes Rising p n)

  risen_step : (n : Name) → risen n ≡ n ∷ concat_over risen (superclass_in (outline_of (p n)))
  risen_step n = walk_step p ranks Rising n ∙ ap (λ l. n ∷ l) (append_nil (concat_over risen (superclass_in (outline_of (p n)))))

  risen_split : (n m : Name) → is_listed m (risen n) ≡ true → (same n m ≡ true) ⊎ (is_listed m (concat_over risen (superclass_in (outline_of (p n)))) ≡ true)
  risen_split n m h = or_either (same n m) (is_listed m (concat_over risen (superclass_in (outline_of (p n))))) (sym (ap (is_listed m) (risen_step n)) ∙ h)

  risen_by : (k : ℕ) (n m : Name) → ranks.rank n ≤ k → is_listed m (risen n) ≡ true → IsWithin p n m
  risen_by zero n m le h = elim (risen_split n m h) [
    | inl s ↦ inl (same_text n m (sym s))
    | inr l ↦
        let q = of_one risen m (superclass_in (outline_of (p n))) l in
        let lt = ranks.lower n q.0 (steps_in_parents Rising (p n) q.0 q.1) in
        absurd (omega (arith, le, lt))
  ]
  risen_by (suc k) n m le h = elim (risen_split n m h) [
    | inl s ↦ inl (same_text n m (sym s))
    | inr l ↦
        let q = of_one risen m (superclass_in (outline_of (p n))) l in
        let up = steps_in_parents Rising (p n) q.0 q.1 in
        let lt = ranks.lower n q.0 up in
        inr (first_below p n q.0 m up (risen_by k q.0 m (omega (arith, le, lt)) q.2))
  ]

  risen_searched : (n m : Name) → is_listed m (risen n) ≡ true → is_listed m (names_in (nodes Searching p n)) ≡ true
  risen_searched n m h = within_searched p ranks n m (risen_by (ranks.rank n) n m (omega arith) h)

rising_listed : (p : List Info) (a : ℕ) (array : Bool) → IsProgram p → (x : Name) → is_listed x (names_in (family_at p a array).rising) ≡ true → is_listed x (names_in (family_at p a array).searching) ≡ true
unfolding family
rising_listed p a true ok x h = h
rising_listed p a false ok x h = risen_searched (look p) ok.ranks (name_at p a) x h

rising_nodes : (p : List Info) (a : ℕ) (array : Bool) → IsProgram p → AreNodes (look p) (family_at p a array).rising
unfolding family
rising_nodes p a true ok = top_nodes (look p) (nodes Rising (look p) (name_at p a)) (nodes_are (look p) ok.ranks Rising (name_at p a))
rising_nodes p a false ok = nodes_are (look p) ok.ranks Rising (name_at p a)

-- one class alone has nothing of it above
alone_behind : (p : Look) (ranks : HasRanks p) (ns : List Node) → ((n m : Node) (l : List Node) → ns ≡ n ∷ m ∷ l → ⊥) → Behind p (names_in ns) (names_in ns)
alone_behind p ranks [] h = tt
alone_behind p ranks (n ∷ []) h = (
  λ x l e. elim (or_either (same n.name x) false l) [
    | inl s ↦ (let f : is_above p n.name x ≡ false = ap (λ b. if b then false else is_listed x (supers p n.name)) s in absurd cc)
    | inr f ↦ f
  ],
  tt,
)
alone_behind p ranks (n ∷ m ∷ l) h = absurd (h n m l refl)

top_alone : (ns : List Node) (n m : Node) (l : List Node) → top_of ns ≡ n ∷ m ∷ l → ⊥
top_alone [] n m l e = absurd cc
top_alone (x ∷ []) n m l e = absurd cc
top_alone (x ∷ y ∷ ns) n m l e = top_alone (y ∷ ns) n m l e

family_behind : (p : List Info) (a : ℕ) (array : Bool) → IsProgram p → Behind (look p) (names_in (family_at p a array).searching) (names_in (family_at p a array).searching)
unfolding family
family_behind p a true ok = alone_behind (look p) ok.ranks (top_of (nodes Rising (look p) (name_at p a))) (top_alone (nodes Rising (look p) (name_at p a)))
family_behind p a false ok = walk_behind (look p) ok.ranks (name_at p a)

both_none : (b : Bool) (none : Option MethodAt) → none ≡ (if b then none else none)
both_none true none = refl
both_none false none = refl

-- ---- what the definitions select is the first that overrides

module _ (p : List Info) (a : ℕ) (array : Bool) (ok : IsProgram p) (r : MethodRef) (m : MethodAt) (shown : is_private m.flags ≡ false) (ids : List ℕ) (searched : AreSearched p a array ids) where
  abbrev all : List Name
  all = names_in (family_at p a array).searching

  alike : (x : Name) → is_listed x all ≡ is_listed x (map (name_at p) ids)
  alike x = sym (ap (is_listed x) searched.named ∙ once_listed x all)

  abbrev ms : List MethodAt
  ms = overriding_methods r m (map (node_of (look p)) all)

  one_same : (n : Name) → is_listed n all ≡ true → if_among ms (own_method (look p) r n) ≡ if_overriding (look p) r m (map (name_at p) ids) n
  one_same n l = by_own (own_method (look p) r n) refl
    where
      by_own : (o : Option MethodAt) → own_method (look p) r n ≡ o → if_among ms o ≡ (if overrides (look p) r m (map (name_at p) ids) n then o else None)
      by_own None e = both_none (overrides (look p) r m (map (name_at p) ids) n) None
      by_own (Some d) e =
          ap (λ c. if list_any (is_method_of c) ms then Some d else None) (own_class (look p) r n d e)
          ∙ ap (λ b. if b then Some d else None) (chosen_is (look p) r m ok.ranks shown (map (name_at p) ids) all n alike (family_behind p a array ok) l)

  all_same : (ns : List Name) → ((x : Name) → is_listed x ns ≡ true → is_listed x all ≡ true) → first_through (if_among ms) r (map (node_of (look p)) ns) ≡ first_overriding (look p) r m (map (name_at p) ids) (map (node_of (look p)) ns)
  all_same [] within = refl
  all_same (n ∷ ns) within =
      ap (λ o. or_else o (first_through (if_among ms) r (map (node_of (look p)) ns))) (one_same n (within n (or_first (same n n) (is_listed n ns) (same_itself n))))
      ∙ ap (or_else (if_overriding (look p) r m (map (name_at p) ids) n)) (all_same ns (λ x l. within x (or_second (same n x) (is_listed x ns) l)))

  first_same : first_through (if_among (overriding_methods r m (family_at p a array).searching)) r (family_at p a array).rising ≡ first_overriding (look p) r m (map (name_at p) ids) (family_at p a array).rising
  first_same =
      ap (λ l. first_through (if_among (overriding_methods r m l)) r (family_at p a array).rising) (family_nodes p a array ok)
      ∙ ap (first_through (if_among ms) r) (rising_nodes p a array ok)
      ∙ all_same (names_in (family_at p a array).rising) (rising_listed p a array ok)
      ∙ ap (first_overriding (look p) r m (map (name_at p) ids)) (sym (rising_nodes p a array ok))

  virtual_by : (start : ℕ) → is_own m.callable ≡ false → (family_at p a array).rising ≡ rising_at p start → select_virtual r m (family_at p a array) ≡ found_or (first_overriding (look p) r m (map (name_at p) ids) (rising_at p start)) (the_one (most_specific_concrete (candidates r.name r.desc (family_at p a array).searching)))
  unfolding select_virtual
  virtual_by start plain rising =
      ap (λ b. if b || is_own m.callable then Found m else found_or (first_through (if_among (overriding_methods r m (family_at p a array).searching)) r (family_at p a array).rising) (the_one (most_specific_concrete (candidates r.name r.desc (family_at p a array).searching)))) shown
      ∙ ap (λ b. if b then Found m else found_or (first_through (if_among (overriding_methods r m (family_at p a array).searching)) r (family_at p a array).rising) (the_one (most_specific_concrete (candidates r.name r.desc (family_at p a array).searching)))) plain
      ∙ ap (λ o. found_or o (the_one (most_specific_concrete (candidates r.name r.desc (family_at p a array).searching)))) (first_same ∙ ap (first_overriding (look p) r m (map (name_at p) ids)) rising)

-- ---- the resolved method

module _ (p : List Info) (a : ℕ) (array : Bool) (r : MethodRef) where
  pub clone_itself : SelectsOf p a array r ArrayClone (Ok ArrayClone)
  unfolding select_virtual
  clone_itself m h = record { method = m; found = ap (λ (x : MethodAt). if is_private x.flags || is_own x.callable then Found x else found_or (first_through (if_among (overriding_methods r x (family_at p a array).searching)) r (family_at p a array).rising) (the_one (most_specific_concrete (candidates r.name r.desc (family_at p a array).searching)))) h ∙ sym (ap Found h); callee = h }

  method_same : (m : MethodAt) (s : Site) (h : IsMethod p (Some m) s) → m ≡ method_at (node_at p s.class.0) (s.place, h.head)
  method_same m s h = let e = h.found in cc

  abbrev FlagsAre : Site → ℕ → Type 0
  FlagsAre s flags = (h : Head) → HasHead p s.class.0 s.place h → flags ≡ h.flags

  flags_same : (m : MethodAt) (s : Site) (flags : ℕ) → IsMethod p (Some m) s → FlagsAre s flags → m.flags ≡ flags
  flags_same m s flags h are = ap (λ (x : MethodAt). x.flags) (method_same m s h) ∙ sym (are h.head h.there)

  pub private_itself : (s : Site) (flags : ℕ) → FlagsAre s flags → is_private flags ≡ true → SelectsOf p a array r (Method s) (Ok (Method s))
  unfolding select_virtual
  private_itself s flags are private m h = record {
    method = m;
    found = ap (λ b. if b || is_own m.callable then Found m else found_or (first_through (if_among (overriding_methods r m (family_at p a array).searching)) r (family_at p a array).rising) (the_one (most_specific_concrete (candidates r.name r.desc (family_at p a array).searching)))) (ap is_private (flags_same m s flags h are) ∙ private);
    callee = h;
  }

  -- no class declares the `clone` of arrays
  head_plain : (c : def.LinkedMethod) → is_own (head_of c).callable ≡ false
  head_plain c = by_flag (is_abstract c.flags) c.body
    where
      by_flag : (b : Bool) (body : def.LinkedBody) → is_own (if b then Abstractly else callable_of body) ≡ false
      by_flag true body = refl
      by_flag false (def.HasCode code) = refl
      by_flag false (def.IsNative n) = refl
      by_flag false def.NoBody = refl

  in_heads : (ms : List def.LinkedMethod) (k : ℕ) (h : Head) → slice_get (map head_of ms) k ≡ Some h → is_own h.callable ≡ false
  in_heads [] k h e = absurd cc
  in_heads (c ∷ ms) zero h e = let s : head_of c ≡ h = cc in subst (λ (x : Head). is_own x.callable ≡ false) s (head_plain c)
  in_heads (c ∷ ms) (suc k) h e = in_heads ms k h e

  plain_by : (o : Option def.Linked) (k : ℕ) (h : Head) → slice_get (heads_in (outline_of o)) k ≡ Some h → is_own h.callable ≡ false
  plain_by None k h e = absurd cc
  plain_by (Some c) k h e = in_heads c.methods k h e

  own_plain : (m : MethodAt) (s : Site) → IsMethod p (Some m) s → is_own m.callable ≡ false
  own_plain m s h = ap (λ (x : MethodAt). is_own x.callable) (method_same m s h) ∙ plain_by (look p (name_at p s.class.0)) s.place h.head h.there

  module _ (ok : IsProgram p) (s : Site) (flags start : ℕ) (ids : List ℕ) (are : FlagsAre s flags) (free : is_private flags ≡ false) (searched : AreSearched p a array ids) (rising : (family_at p a array).rising ≡ rising_at p start) (wide : Bool) (opened : wide ≡ is_open flags) where
    resolved : (m : MethodAt) → IsMethod p (Some m) s → IsResolved p s.class.0 wide m
    resolved m h = record {
      class = ap (λ (x : MethodAt). x.class) (method_same m s h);
      wide = ap is_open (flags_same m s flags h are) ∙ sym opened;
    }

    selected : (m : MethodAt) → IsMethod p (Some m) s → select_virtual r m (family_at p a array) ≡ found_or (first_overriding (look p) r m (map (name_at p) ids) (rising_at p start)) (the_one (most_specific_concrete (candidates r.name r.desc (family_at p a array).searching)))
    selected m h = virtual_by p a array ok r m (ap is_private (flags_same m s flags h are) ∙ free) ids searched start (own_plain m s h) rising

    pub virtual_here : (t : Site) → FirstOver p r s.class.0 wide ids start (Some t) → SelectsOf p a array r (Method s) (Ok (Method t))
    virtual_here t first m h =
        method_found p (select_virtual r m (family_at p a array)) (first_overriding (look p) r m (map (name_at p) ids) (rising_at p start)) t (first m (resolved m h))
        (λ x e. selected m h ∙ ap (λ o. found_or o (the_one (most_specific_concrete (candidates r.name r.desc (family_at p a array).searching)))) e)

    pub virtual_above : (answer : Result Callee Fault) → FirstOver p r s.class.0 wide ids start None → SelectsAbove p a array r answer → SelectsOf p a array r (Method s) answer
    virtual_above answer first above m h =
        subst (λ x. AnswersCall p x answer)
        (sym (selected m h ∙ ap (λ o. found_or o (the_one (most_specific_concrete (candidates r.name r.desc (family_at p a array).searching)))) (first m (resolved m h)))) above
