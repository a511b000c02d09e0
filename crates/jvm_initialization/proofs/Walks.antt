-- What is initialised before a class, by the names of the walk (JVMS 5.5, step 7).
use Rattle.std.proofs.Common.{◌≡◌, ◌∙◌, sym, refl, ap, subst, arith, ℕ, zero, suc, ◌<◌, ◌≤◌, Bool, true, false, not, List, [], ◌∷◌, ◌++◌, append_assoc, map, Option, None, Some}
use Rattle.std.specs.Prelude.{◌||◌, ◌&&◌, if◌then◌else◌, is_none}
use Rattle.std.specs.List.{list_any, filter}
use Rattle.std.specs.Cmp.Lexicographic.{same_text}
use Rattle.program_rules.specs.Names.{Name, same, is_listed, object_name}
use Rattle.program_rules.specs.Linked.{Linked, parents_of, parents_with, is_interface}
use Rattle.program_rules.specs.Outlines.{outline_of, is_interface_class, interfaces_in, has_default}
use Rattle.program_rules.specs.Programs.{Look, Node, Rising, Beginning, nodes, supers, family, superclass_in, option_list, concat_over}
use Rattle.machine_rules.specs.declared.machine.InitState.{InitState}
use Rattle.machine_rules.specs.declared.machine.InitState.TheVariants.{Fresh, Running, Done, Failed}
use Rattle.machine_rules.specs.Initialisation as rules
use Rattle.machine_rules.specs.Initialisation.{need_of}
use Rattle.class_order.specs.Ranks.{HasRanks}
use Rattle.class_order.specs.Supers.{lacks_superclass, names_wrong_kind, is_wrong_superclass, is_no_superclass, is_no_interface, is_final}
use Rattle.class_order.proofs.Within.{same_itself, or_first, or_second}
use Rattle.class_table.specs.Faults.{HaveSupers, HasRightKinds}
use Rattle.class_family.specs.Families.{names_in, node_of, across}
use Rattle.class_family.proofs.Levels.{walk_step, nodes_are, rising_step, map_both}
use Rattle.class_family.proofs.Pushing.{append_nil}

abbrev pub Inits : Type 0
Inits = List (Name × InitState)

-- ---- lists of classes

or_none : (x y : Bool) → x ≡ false → y ≡ false → (x || y) ≡ false
or_none false false a b = refl
or_none true y a b = absurd cc
or_none false true a b = absurd cc

or_left : (x y : Bool) → (x || y) ≡ false → x ≡ false
or_left false y e = refl
or_left true y e = absurd cc

or_right : (x y : Bool) → (x || y) ≡ false → y ≡ false
or_right false y e = e
or_right true y e = absurd cc

or_same : (x : Bool) → (x || false) ≡ x
or_same true = refl
or_same false = refl

any_both : {A : Type 0} (f : A → Bool) (xs ys : List A) → list_any f (xs ++ ys) ≡ (list_any f xs || list_any f ys)
any_both f [] ys = refl
any_both f (x ∷ xs) ys = by_test (f x) (any_both f xs ys)
  where
    by_test : (b : Bool) → list_any f (xs ++ ys) ≡ (list_any f xs || list_any f ys) → (b || list_any f (xs ++ ys)) ≡ ((b || list_any f xs) || list_any f ys)
    by_test true rest = refl
    by_test false rest = rest

none_by : (f : Name → Bool) (n : Name) (ns : List Name) (m : Name) (b : Bool) → same n m ≡ b → f n ≡ false → (is_listed m ns ≡ true → f m ≡ false) → (b || is_listed m ns) ≡ true → f m ≡ false
none_by f n ns m true s one rest h = ap f (sym (same_text n m (sym s))) ∙ one
none_by f n ns m false s one rest h = rest h

none_of : (f : Name → Bool) (ns : List Name) (m : Name) → list_any f ns ≡ false → is_listed m ns ≡ true → f m ≡ false
none_of f [] m e h = absurd cc
none_of f (n ∷ ns) m e h =
    none_by f n ns m (same n m) refl (or_left (f n) (list_any f ns) e) (λ k. none_of f ns m (or_right (f n) (list_any f ns) e) k) h

-- ---- the needs of classes

module _ (is : Inits) where
  abbrev pub any_begun : List Node → Bool
  any_begun xs = list_any (rules.is_begun_class is) xs

  abbrev pub first : List Node → rules.Need
  first xs = rules.first_need is (filter rules.is_initialised_before xs)

  none_begun : (xs : List Node) → any_begun xs ≡ false → rules.behind_begun is xs ≡ xs
  none_begun [] e = refl
  none_begun (x ∷ xs) e = ap (λ b. if b then rules.behind_begun is xs else x ∷ xs) e

  -- what is behind the last one that has begun, where none of the last ones has
  behind_both : (xs ys : List Node) → any_begun ys ≡ false → rules.behind_begun is (xs ++ ys) ≡ rules.behind_begun is xs ++ ys
  behind_both [] ys e = none_begun ys e
  behind_both (x ∷ xs) ys e =
      ap (λ b. if b then rules.behind_begun is (xs ++ ys) else x ∷ (xs ++ ys))
      (any_both (rules.is_begun_class is) (x ∷ xs) ys ∙ ap (λ b. any_begun (x ∷ xs) || b) e ∙ or_same (any_begun (x ∷ xs)))
      ∙ by_test (any_begun (x ∷ xs)) (behind_both xs ys e)
    where
      by_test : (b : Bool) → rules.behind_begun is (xs ++ ys) ≡ rules.behind_begun is xs ++ ys → (if b then rules.behind_begun is (xs ++ ys) else x ∷ (xs ++ ys)) ≡ (if b then rules.behind_begun is xs else x ∷ xs) ++ ys
      by_test true rest = rest
      by_test false rest = refl

  last_begun : (x : Node) → rules.is_begun_class is x ≡ true → any_begun (x ∷ []) ≡ true
  last_begun x e = ap (λ b. b || false) e

  -- nothing is behind the last one that has begun
  none_behind : (xs : List Node) (x : Node) → rules.is_begun_class is x ≡ true → rules.behind_begun is (xs ++ x ∷ []) ≡ []
  none_behind [] x e = ap (λ b. if b then [] else x ∷ []) (last_begun x e)
  none_behind (y ∷ xs) x e =
      ap (λ b. if b then rules.behind_begun is (xs ++ x ∷ []) else y ∷ (xs ++ x ∷ []))
      (any_both (rules.is_begun_class is) (y ∷ xs) (x ∷ []) ∙ ap (λ b. any_begun (y ∷ xs) || b) (last_begun x e) ∙ or_second (any_begun (y ∷ xs)) true refl)
      ∙ none_behind xs x e

  need_settled : (s : InitState) (x : Node) (a b : rules.Need) → rules.is_begun s ≡ false → rules.need_with s x a ≡ rules.need_with s x b
  need_settled Fresh x a b e = refl
  need_settled Running x a b e = absurd cc
  need_settled Done x a b e = absurd cc
  need_settled Failed x a b e = refl

  -- what stands behind a class that hasn't begun counts no more
  settled : (xs : List Node) (x : Node) (ys : List Node) → rules.is_initialised_before x ≡ true → rules.is_begun (rules.state_of is x) ≡ false → first (xs ++ x ∷ ys) ≡ first (xs ++ x ∷ [])
  settled [] x ys counts fresh =
      ap (λ b. rules.first_need is (if b then x ∷ filter rules.is_initialised_before ys else filter rules.is_initialised_before ys)) counts
      ∙ need_settled (rules.state_of is x) x (first ys) rules.Ready fresh
      ∙ sym (ap (λ b. rules.first_need is (if b then x ∷ [] else [])) counts)
  settled (y ∷ xs) x ys counts fresh = by_test (rules.is_initialised_before y) (settled xs x ys counts fresh)
    where
      by_test : (b : Bool) → first (xs ++ x ∷ ys) ≡ first (xs ++ x ∷ []) → rules.first_need is (if b then y ∷ filter rules.is_initialised_before (xs ++ x ∷ ys) else filter rules.is_initialised_before (xs ++ x ∷ ys)) ≡ rules.first_need is (if b then y ∷ filter rules.is_initialised_before (xs ++ x ∷ []) else filter rules.is_initialised_before (xs ++ x ∷ []))
      by_test true rest = ap (rules.need_with (rules.state_of is y) y) rest
      by_test false rest = rest

-- ---- supers of the right kind

present_by : (o : Option Linked) → is_none o ≡ false → is_no_interface o ≡ false → is_interface_class (outline_of o) ≡ true
present_by None e h = absurd cc
present_by (Some c) e h = by_flag (is_interface c.flags) h
  where
    by_flag : (b : Bool) → not b ≡ false → b ≡ true
    by_flag true k = refl
    by_flag false k = absurd cc

super_by : (o : Option Linked) → is_no_superclass o ≡ false → is_interface_class (outline_of o) ≡ false
super_by None e = refl
super_by (Some c) e = or_right (is_final c.flags) (is_interface c.flags) e

listed_behind : (q : Option Name) (ns : List Name) (m : Name) → is_listed m ns ≡ true → is_listed m (parents_with q ns) ≡ true
listed_behind None ns m e = e
listed_behind (Some n) ns m e = or_second (same n m) (is_listed m ns) e

module _ (p : Look) (present : HaveSupers p) (kinds : HasRightKinds p) where
  interface_by : (o : Option Linked) (m : Name) → list_any (λ k. is_none (p k)) (parents_of o) ≡ false → names_wrong_kind p o ≡ false → is_listed m (interfaces_in (outline_of o)) ≡ true → is_interface_class (outline_of (p m)) ≡ true
  interface_by None m there right h = absurd cc
  interface_by (Some c) m there right h =
      present_by (p m)
      (none_of (λ k. is_none (p k)) (parents_of (Some c)) m there (listed_behind c.parent c.interfaces m h))
      (none_of (λ k. is_no_interface (p k)) c.interfaces m
      (or_right (list_any (is_wrong_superclass p c) (option_list c.parent)) (list_any (λ k. is_no_interface (p k)) c.interfaces) right) h)

  -- what is named as an interface is one
  pub interface_named : (n m : Name) → is_listed m (interfaces_in (outline_of (p n))) ≡ true → is_interface_class (outline_of (p m)) ≡ true
  interface_named n m h =
      interface_by (p n) m
      (or_right (lacks_superclass n (p n)) (list_any (λ k. is_none (p k)) (parents_of (p n))) (present n)) (kinds n) h

  superclass_by : (o : Option Linked) (m : Name) → names_wrong_kind p o ≡ false → superclass_in (outline_of o) ≡ m ∷ [] → is_interface_class (outline_of (p m)) ≡ false
  superclass_by None m right h = absurd cc
  superclass_by (Some c) m right h =
      let named = or_left (list_any (is_wrong_superclass p c) (option_list c.parent)) (list_any (λ k. is_no_interface (p k)) c.interfaces) right in
      let alone = subst (λ l. list_any (is_wrong_superclass p c) l ≡ false) h named in
      super_by (p m)
      (or_left (is_no_superclass (p m)) (is_interface c.flags && not (same m object_name))
      (or_left (is_wrong_superclass p c m) false alone))

  -- a superclass is no interface
  pub superclass_named : (n m : Name) → superclass_in (outline_of (p n)) ≡ m ∷ [] → is_interface_class (outline_of (p m)) ≡ false
  superclass_named n m h = superclass_by (p n) m (kinds n) h

-- ---- the walk

module _ (p : Look) (ranks : HasRanks p) (present : HaveSupers p) (kinds : HasRightKinds p) (is : Inits) where
  abbrev pub walk : Name → List Name
  walk n = names_in (nodes Beginning p n)

  abbrev pub as_nodes : List Name → List Node
  as_nodes ns = map (node_of p) ns

  -- a class that is no interface, and hasn't begun
  abbrev pub IsFresh : Name → Type 0
  IsFresh n = (is_interface_class (outline_of (p n)) ≡ false) × (rules.is_begun (rules.state_of is (node_of p n)) ≡ false)

  counted : (n : Name) → is_interface_class (outline_of (p n)) ≡ false → rules.is_initialised_before (node_of p n) ≡ true
  counted n e = ap (λ b. if b then has_default (outline_of (p n)) else true) e

  begun_class : (n : Name) → is_interface_class (outline_of (p n)) ≡ false → rules.is_begun (rules.state_of is (node_of p n)) ≡ true → rules.is_begun_class is (node_of p n) ≡ true
  begun_class n e h = ap (λ b. (if b then false else true) && rules.is_begun (rules.state_of is (node_of p n))) e ∙ h

  fresh_class : (n : Name) → IsFresh n → rules.is_begun_class is (node_of p n) ≡ false
  fresh_class n h = ap (λ b. (if b then false else true) && rules.is_begun (rules.state_of is (node_of p n))) h.0 ∙ h.1

  interface_class : (n : Name) → is_interface_class (outline_of (p n)) ≡ true → rules.is_begun_class is (node_of p n) ≡ false
  interface_class n e = ap (λ b. (if b then false else true) && rules.is_begun (rules.state_of is (node_of p n))) e

  alone : (n : Name) → rules.is_begun_class is (node_of p n) ≡ false → any_begun is (as_nodes (n ∷ [])) ≡ false
  alone n e = ap (λ b. b || false) e

  none_both : (xs ys : List Name) → any_begun is (as_nodes xs) ≡ false → any_begun is (as_nodes ys) ≡ false → any_begun is (as_nodes (xs ++ ys)) ≡ false
  none_both xs ys a b =
      ap (any_begun is) (map_both (node_of p) xs ys) ∙ any_both (rules.is_begun_class is) (as_nodes xs) (as_nodes ys)
      ∙ or_none (any_begun is (as_nodes xs)) (any_begun is (as_nodes ys)) a b

  none_over : (ns : List Name) → ((m : Name) → is_listed m ns ≡ true → any_begun is (as_nodes (walk m)) ≡ false) → any_begun is (as_nodes (concat_over walk ns)) ≡ false
  none_over [] h = refl
  none_over (n ∷ ns) h =
      none_both (walk n) (concat_over walk ns) (h n (or_first (same n n) (is_listed n ns) (same_itself n)))
      (none_over ns (λ m e. h m (or_second (same n m) (is_listed m ns) e)))

  -- what comes before the class itself
  middle : (b : Bool) (n : Name) → is_interface_class (outline_of (p n)) ≡ b → walk n ≡ concat_over walk ((if b then [] else superclass_in (outline_of (p n))) ++ interfaces_in (outline_of (p n))) ++ n ∷ []
  middle b n e =
      walk_step p ranks Beginning n
      ∙ ap (λ c. concat_over walk ((if c then [] else superclass_in (outline_of (p n))) ++ interfaces_in (outline_of (p n))) ++ n ∷ []) e

  -- the last of a walk is the class
  ended : (n : Name) → walk n ≡ concat_over walk ((if is_interface_class (outline_of (p n)) then [] else superclass_in (outline_of (p n))) ++ interfaces_in (outline_of (p n))) ++ n ∷ []
  ended n = middle (is_interface_class (outline_of (p n))) n refl

  rank_listed : (n m : Name) → is_listed m (interfaces_in (outline_of (p n))) ≡ true → ranks.rank m < ranks.rank n
  rank_listed n m h = ranks.lower n m (by_class (p n) h)
    where
      by_class : (o : Option Linked) → is_listed m (interfaces_in (outline_of o)) ≡ true → is_listed m (parents_of o) ≡ true
      by_class None e = absurd cc
      by_class (Some c) e = listed_behind c.parent c.interfaces m e

  -- no class has begun among the interfaces
  interface_with : (n : Name) → is_interface_class (outline_of (p n)) ≡ true → ((m : Name) → is_listed m (interfaces_in (outline_of (p n))) ≡ true → any_begun is (as_nodes (walk m)) ≡ false) → any_begun is (as_nodes (walk n)) ≡ false
  interface_with n e h =
      ap (λ l. any_begun is (as_nodes l)) (middle true n e)
      ∙ none_both (concat_over walk (interfaces_in (outline_of (p n)))) (n ∷ [])
      (none_over (interfaces_in (outline_of (p n))) h) (alone n (interface_class n e))

  interface_walk : (k : ℕ) (n : Name) → ranks.rank n ≤ k → is_interface_class (outline_of (p n)) ≡ true → any_begun is (as_nodes (walk n)) ≡ false
  interface_walk zero n le e =
      interface_with n e (λ m h. absurd (let lt = rank_listed n m h in omega (arith, lt, le)))
  interface_walk (suc k) n le e =
      interface_with n e (λ m h.
      let lt = rank_listed n m h in
      interface_walk k m (omega (arith, lt, le)) (interface_named p present kinds n m h))

  none_across : (n : Name) → any_begun is (as_nodes (across p n)) ≡ false
  none_across n = none_over (interfaces_in (outline_of (p n)))
      (λ m h. interface_walk (ranks.rank m) m (omega arith) (interface_named p present kinds n m h))

  -- the interfaces of a class and the class
  abbrev pub own : Name → List Name
  own n = across p n ++ n ∷ []

  none_own : (n : Name) → IsFresh n → any_begun is (as_nodes (own n)) ≡ false
  none_own n h = none_both (across p n) (n ∷ []) (none_across n) (alone n (fresh_class n h))

  concat_joined : (xs ys : List Name) → concat_over walk (xs ++ ys) ≡ concat_over walk xs ++ concat_over walk ys
  concat_joined [] ys = refl
  concat_joined (x ∷ xs) ys = ap (λ l. walk x ++ l) (concat_joined xs ys) ∙ sym (append_assoc (walk x) (concat_over walk xs) (concat_over walk ys))

  -- a class, behind what its superclass has before it
  class_walk : (n : Name) → is_interface_class (outline_of (p n)) ≡ false → walk n ≡ concat_over walk (superclass_in (outline_of (p n))) ++ own n
  class_walk n e =
      middle false n e
      ∙ ap (λ l. l ++ n ∷ []) (concat_joined (superclass_in (outline_of (p n))) (interfaces_in (outline_of (p n))))
      ∙ append_assoc (concat_over walk (superclass_in (outline_of (p n)))) (across p n) (n ∷ [])

  -- what is needed before a class, and by it
  abbrev pub needed : Name → rules.Need
  needed n = first is (rules.behind_begun is (as_nodes (walk n)))

  begun_end : (n : Name) → is_interface_class (outline_of (p n)) ≡ false → rules.is_begun (rules.state_of is (node_of p n)) ≡ true → rules.behind_begun is (as_nodes (walk n)) ≡ []
  begun_end n e h =
      ap (λ l. rules.behind_begun is (as_nodes l)) (ended n)
      ∙ ap (rules.behind_begun is) (map_both (node_of p) (concat_over walk ((if is_interface_class (outline_of (p n)) then [] else superclass_in (outline_of (p n))) ++ interfaces_in (outline_of (p n)))) (n ∷ []))
      ∙ none_behind is (as_nodes (concat_over walk ((if is_interface_class (outline_of (p n)) then [] else superclass_in (outline_of (p n))) ++ interfaces_in (outline_of (p n))))) (node_of p n) (begun_class n e h)

  -- behind a class that hasn't begun
  behind_class : (n : Name) → IsFresh n → rules.behind_begun is (as_nodes (walk n)) ≡ rules.behind_begun is (as_nodes (concat_over walk (superclass_in (outline_of (p n))))) ++ as_nodes (own n)
  behind_class n h =
      ap (λ l. rules.behind_begun is (as_nodes l)) (class_walk n h.0)
      ∙ ap (rules.behind_begun is) (map_both (node_of p) (concat_over walk (superclass_in (outline_of (p n)))) (own n))
      ∙ behind_both is (as_nodes (concat_over walk (superclass_in (outline_of (p n))))) (as_nodes (own n)) (none_own n h)

  one_over : (n m : Name) → superclass_in (outline_of (p n)) ≡ m ∷ [] → concat_over walk (superclass_in (outline_of (p n))) ≡ walk m
  one_over n m e = ap (concat_over walk) e ∙ append_nil (walk m)

  -- where the superclass hasn't begun either, it needs the same
  pub needed_up : (n m : Name) → IsFresh n → IsFresh m → superclass_in (outline_of (p n)) ≡ m ∷ [] → needed n ≡ needed m
  needed_up n m fresh over e =
      let lead = concat_over walk ((if is_interface_class (outline_of (p m)) then [] else superclass_in (outline_of (p m))) ++ interfaces_in (outline_of (p m))) in
      let up : rules.behind_begun is (as_nodes (walk m)) ≡ rules.behind_begun is (as_nodes lead) ++ node_of p m ∷ [] =
      ap (λ l. rules.behind_begun is (as_nodes l)) (ended m)
      ∙ ap (rules.behind_begun is) (map_both (node_of p) lead (m ∷ []))
      ∙ behind_both is (as_nodes lead) (node_of p m ∷ []) (alone m (fresh_class m over)) in
      ap (first is) (behind_class n fresh
      ∙ ap (λ l. rules.behind_begun is (as_nodes l) ++ as_nodes (own n)) (one_over n m e)
      ∙ ap (λ l. l ++ as_nodes (own n)) up
      ∙ append_assoc (rules.behind_begun is (as_nodes lead)) (node_of p m ∷ []) (as_nodes (own n)))
      ∙ settled is (rules.behind_begun is (as_nodes lead)) (node_of p m) (as_nodes (own n)) (counted m over.0) over.1
      ∙ sym (ap (first is) up)

  -- where it has, only the class and its interfaces count
  pub needed_below : (n m : Name) → IsFresh n → is_interface_class (outline_of (p m)) ≡ false → rules.is_begun (rules.state_of is (node_of p m)) ≡ true → superclass_in (outline_of (p n)) ≡ m ∷ [] → needed n ≡ first is (as_nodes (own n))
  needed_below n m fresh class begun e =
      ap (first is) (behind_class n fresh
      ∙ ap (λ l. rules.behind_begun is (as_nodes l) ++ as_nodes (own n)) (one_over n m e)
      ∙ ap (λ l. l ++ as_nodes (own n)) (begun_end m class begun))

  -- so do they where there is none
  pub needed_top : (n : Name) → IsFresh n → superclass_in (outline_of (p n)) ≡ [] → needed n ≡ first is (as_nodes (own n))
  needed_top n fresh e =
      ap (first is) (behind_class n fresh
      ∙ ap (λ ns. rules.behind_begun is (as_nodes (concat_over walk ns)) ++ as_nodes (own n)) e)

  -- a class that has begun needs nothing
  pub needed_begun : (n : Name) → is_interface_class (outline_of (p n)) ≡ false → rules.is_begun (rules.state_of is (node_of p n)) ≡ true → needed n ≡ rules.Ready
  needed_begun n e h = ap (first is) (begun_end n e h)

  -- ---- the definitions' need

  need_by : (b : Bool) (n : Name) → is_interface_class (outline_of (p n)) ≡ b → rules.need_of is (family p n) ≡ (if b then rules.first_need is (rules.first_of (nodes Rising p n)) else first is (rules.behind_begun is (nodes Beginning p n)))
  unfolding need_of family
  need_by b n e = ap (λ c. if c then rules.first_need is (rules.first_of (nodes Rising p n)) else first is (rules.behind_begun is (nodes Beginning p n))) e

  pub need_of_class : (n : Name) → is_interface_class (outline_of (p n)) ≡ false → rules.need_of is (family p n) ≡ needed n
  need_of_class n e = need_by false n e ∙ ap (λ l. first is (rules.behind_begun is l)) (nodes_are p ranks Beginning n)

  pub need_of_interface : (n : Name) → is_interface_class (outline_of (p n)) ≡ true → rules.need_of is (family p n) ≡ rules.need_with (rules.state_of is (node_of p n)) (node_of p n) rules.Ready
  need_of_interface n e =
      need_by true n e ∙ ap (λ l. rules.first_need is (rules.first_of l)) (rising_step p ranks n)
