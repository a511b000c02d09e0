-- The walk up from a class, by the classes that stand above it.
use Rattle.std.proofs.Common.{◌≡◌, ◌⊎◌, inl, inr, ◌∙◌, sym, refl, ap, subst, ℕ, zero, suc, ◌<◌, ◌≤◌, Bool, true, false, List, [], ◌∷◌, ◌++◌, Option, None, Some, arith}
use Rattle.std.specs.Prelude.{◌||◌, ◌&&◌, not, is_none, if◌then◌else◌}
use Rattle.std.specs.List.{list_any}
use Rattle.std.specs.Cmp.Lexicographic.{same_text}
use Rattle.program_rules.specs.Names.{Name, same, object_name, is_listed}
use Rattle.program_rules.specs.Linked.{Linked, parents_of, parents_with}
use Rattle.program_rules.specs.Outlines.{outline_of, is_interface_class, fields_in, interfaces_in}
use Rattle.program_rules.specs.Programs.{Look, Node, Rising, node, nodes, nodes_within, concat_over, supers, supers_within, superclass_in, option_list, top_of}
use Rattle.program_rules.specs.Resolution.{or_else, superclasses_behind}
use Rattle.type_rules.specs.References.{is_subtype}
use Rattle.type_laws.specs.Values.{kinds_of, instance_kinds, field_kinds}
use Rattle.type_laws.specs.Soundness.{AllObject, HasLayout, StartsWith, kinds_behind}
use Rattle.class_order.specs.Supers.{IsBelow, next, further, lacks_superclass, is_no_interface, is_wrong_superclass, names_wrong_kind}
use Rattle.class_order.specs.Ranks.{IsOrdered}
use Rattle.program_laws.specs.Walks.{HasAbove, IsPassed, AllPassed, LeadsTo, MeetsAlone, PassesOver, HasAlone, first_of_names}
use Rattle.program_laws.proofs.Built.{IsWithin, same_itself, or_left, or_right, or_either, or_first, or_second, and_not, each_false, below_lower, super_there, to_object, object_alone, interface_entry, below_interface, subtype_within, within_subtype}

-- ---- lists over names

over_alike : {A : Type 0} (f g : Name → List A) (ns : List Name) → ((m : Name) → is_listed m ns ≡ true → f m ≡ g m) → concat_over f ns ≡ concat_over g ns
over_alike f g [] h = refl
over_alike f g (n ∷ ns) h =
    ap (λ xs. xs ++ concat_over f ns) (h n (or_first (same n n) (is_listed n ns) (same_itself n)))
    ∙ ap (λ ys. g n ++ ys) (over_alike f g ns (λ m l. h m (or_second (same n m) (is_listed m ns) l)))

none_listed : (ns : List Name) → ((m : Name) → is_listed m ns ≡ true → ⊥) → ns ≡ []
none_listed [] h = refl
none_listed (n ∷ ns) h = absurd (h n (or_first (same n n) (is_listed n ns) (same_itself n)))

append_none : {A : Type 0} (xs : List A) → xs ++ [] ≡ xs
append_none [] = refl
append_none (x ∷ xs) = ap (λ ys. x ∷ ys) (append_none xs)

append_on : {A : Type 0} (xs ys zs : List A) → (xs ++ ys) ++ zs ≡ xs ++ (ys ++ zs)
append_on [] ys zs = refl
append_on (x ∷ xs) ys zs = ap (λ l. x ∷ l) (append_on xs ys zs)

-- ---- the superclass is among the supers

parent_listed : (o : Option Name) (is : List Name) (m : Name) → is_listed m (option_list o) ≡ true → is_listed m (parents_with o is) ≡ true
parent_listed None is m h = absurd cc
parent_listed (Some x) is m h = elim (or_either (same x m) false h) [ inl s ↦ or_first (same x m) (is_listed m is) s | inr f ↦ absurd (let q : false ≡ true = f in cc) ]

superclass_listed : (o : Option Linked) (m : Name) → is_listed m (superclass_in (outline_of o)) ≡ true → is_listed m (parents_of o) ≡ true
superclass_listed None m h = absurd cc
superclass_listed (Some c) m h = parent_listed c.parent c.interfaces m h

there_with : (o : Option Linked) (m : Name) → is_listed m (parents_of o) ≡ true → is_none o ≡ false
there_with None m h = absurd cc
there_with (Some c) m h = refl

parent_or_interface : (o : Option Name) (is : List Name) (m : Name) → is_listed m (parents_with o is) ≡ true → (option_list o ≡ m ∷ []) ⊎ (is_listed m is ≡ true)
parent_or_interface None is m h = inr h
parent_or_interface (Some x) is m h = elim (or_either (same x m) (is_listed m is) h) [ inl s ↦ inl (ap (λ y. y ∷ []) (same_text x m (sym s))) | inr l ↦ inr l ]

super_or_interface : (o : Option Linked) (m : Name) → is_listed m (parents_of o) ≡ true → (superclass_in (outline_of o) ≡ m ∷ []) ⊎ (is_listed m (interfaces_in (outline_of o)) ≡ true)
super_or_interface None m h = absurd cc
super_or_interface (Some c) m h = parent_or_interface c.parent c.interfaces m h

interface_kind : (p : Look) (o : Option Linked) (m : Name) → names_wrong_kind p o ≡ false → is_listed m (interfaces_in (outline_of o)) ≡ true → is_no_interface (p m) ≡ false
interface_kind p None m h l = absurd cc
interface_kind p (Some c) m h l = each_false (λ x. is_no_interface (p x)) m c.interfaces (or_right (list_any (is_wrong_superclass p c) (option_list c.parent)) (list_any (λ x. is_no_interface (p x)) c.interfaces) h) l

one_same : {A : Type 0} (x y : A) → x ∷ [] ≡ y ∷ [] → x ≡ y
one_same x y e = cc

-- ---- nodes of which some stand before others

kinds_appended : (xs ys : List Node) → kinds_of (xs ++ ys) ≡ kinds_of ys ++ kinds_of xs
kinds_appended [] ys = sym (append_none (kinds_of ys))
kinds_appended (x ∷ xs) ys =
    ap (λ ks. ks ++ instance_kinds x.class (fields_in x.class)) (kinds_appended xs ys)
    ∙ append_on (kinds_of ys) (kinds_of xs) (instance_kinds x.class (fields_in x.class))

passed_by : {X : Type 0} (p : Look) (b : Name) (search : List Node → X) → PassesOver p b search → (xs ys : List Node) → AllPassed p b xs → search (xs ++ ys) ≡ search ys
passed_by p b search over [] ys h = refl
passed_by p b search over (x ∷ xs) ys h = over x (xs ++ ys) h.0 ∙ passed_by p b search over xs ys h.1

behind_over : (p : Look) (b : Name) → PassesOver p b (superclasses_behind b)
behind_over p b n ns h = by_test (same n.name b) refl
  where
    by_test : (t : Bool) → same n.name b ≡ t → (if t then ns else superclasses_behind b ns) ≡ superclasses_behind b ns
    by_test true e = absurd (h.1 (same_text n.name b (sym e)))
    by_test false e = refl

no_value : {X : Type 0} (p : Look) (b : Name) (value : Name → Option X) (n : Name) → HasAlone p b value → IsPassed p b n → value n ≡ None
no_value {X} p b value n alone h = by_value (value n) refl
  where
    by_value : (o : Option X) → value n ≡ o → o ≡ None
    by_value (Some y) e = absurd (h.1 (alone n y h.0 e))
    by_value None e = refl

first_over : {X : Type 0} (p : Look) (b : Name) (value : Name → Option X) → HasAlone p b value → PassesOver p b (first_of_names value)
first_over p b value alone n ns h = ap (λ o. or_else o (first_of_names value ns)) (no_value p b value n.name alone h)

test_fails : (p : Look) (b : Name) (test : Name → Bool) (n : Name) → MeetsAlone p b test → IsPassed p b n → test n ≡ false
test_fails p b test n alone h = by_test (test n) refl
  where
    by_test : (t : Bool) → test n ≡ t → t ≡ false
    by_test true e = absurd (h.1 (alone n h.0 e))
    by_test false e = refl

none_before : (p : Look) (b : Name) (test : Name → Bool) → MeetsAlone p b test → (ns : List Node) → AllPassed p b ns → list_any (λ n. test n.name) ns ≡ false
none_before p b test alone [] h = refl
none_before p b test alone (n ∷ ns) h =
    ap (λ t. t || list_any (λ m. test m.name) ns) (test_fails p b test n.name alone h.0)
    ∙ none_before p b test alone ns h.1

pub none_passed : (p : Look) (a b : Name) (test : Name → Bool) → MeetsAlone p b test → (w : LeadsTo p a b) → list_any (λ n. test n.name) w.before ≡ false
none_passed p a b test alone w = none_before p b test alone w.before w.passed

module _ (p : Look) (ok : IsOrdered p) where
  above_lower : (n m : Name) → is_listed m (superclass_in (outline_of (p n))) ≡ true → ok.ranks.rank m < ok.ranks.rank n
  above_lower n m l = ok.ranks.lower n m (superclass_listed (p n) m l)

  -- ---- the walk is the same at each number of levels from the rank on

  no_supers : (n : Name) → ok.ranks.rank n ≤ 0 → parents_of (p n) ≡ []
  no_supers n le = none_listed (parents_of (p n)) (λ m l. let lt = ok.ranks.lower n m l in absurd (omega (arith, lt, le)))

  no_superclass : (n : Name) → ok.ranks.rank n ≤ 0 → superclass_in (outline_of (p n)) ≡ []
  no_superclass n le = none_listed (superclass_in (outline_of (p n))) (λ m l. let lt = above_lower n m l in absurd (omega (arith, lt, le)))

  lone_supers : (j : ℕ) (n : Name) → ok.ranks.rank n ≤ 0 → n ∷ [] ≡ supers_within j p n
  lone_supers zero n le = refl
  lone_supers (suc j) n le = ap (λ ns. n ∷ concat_over (supers_within j p) ns) (sym (no_supers n le))

  supers_settled : (k j : ℕ) (n : Name) → ok.ranks.rank n ≤ k → ok.ranks.rank n ≤ j → supers_within k p n ≡ supers_within j p n
  supers_settled zero j n le1 le2 = lone_supers j n le1
  supers_settled (suc k) zero n le1 le2 = sym (lone_supers (suc k) n le2)
  supers_settled (suc k) (suc j) n le1 le2 = ap (λ ns. n ∷ ns) (over_alike (supers_within k p) (supers_within j p) (parents_of (p n)) (λ m l. let lt = ok.ranks.lower n m l in supers_settled k j m (omega (arith, lt, le1)) (omega (arith, lt, le2))))

  lone_nodes : (j : ℕ) (n : Name) → ok.ranks.rank n ≤ 0 → nodes_within Rising zero p n ≡ nodes_within Rising j p n
  lone_nodes zero n le = refl
  lone_nodes (suc j) n le =
      ap (λ ns. node n (outline_of (p n)) ns ∷ []) (lone_supers (suc j) n le)
      ∙ ap (λ ns. node n (outline_of (p n)) (supers_within (suc j) p n) ∷ concat_over (nodes_within Rising j p) ns) (sym (no_superclass n le))

  nodes_settled : (k j : ℕ) (n : Name) → ok.ranks.rank n ≤ k → ok.ranks.rank n ≤ j → nodes_within Rising k p n ≡ nodes_within Rising j p n
  nodes_settled zero j n le1 le2 = lone_nodes j n le1
  nodes_settled (suc k) zero n le1 le2 = sym (lone_nodes (suc k) n le2)
  nodes_settled (suc k) (suc j) n le1 le2 =
      ap (λ ns. node n (outline_of (p n)) ns ∷ concat_over (nodes_within Rising k p) (superclass_in (outline_of (p n)))) (supers_settled (suc k) (suc j) n le1 le2)
      ∙ ap (λ ns. node n (outline_of (p n)) (supers_within (suc j) p n) ∷ ns) (over_alike (nodes_within Rising k p) (nodes_within Rising j p) (superclass_in (outline_of (p n))) (λ m l. let lt = above_lower n m l in nodes_settled k j m (omega (arith, lt, le1)) (omega (arith, lt, le2))))

  -- it is the class, and then the whole walk from its superclass
  step_of : (k : ℕ) (n : Name) → ok.ranks.rank n ≤ suc k → nodes_within Rising (suc k) p n ≡ node n (outline_of (p n)) (supers_within (suc k) p n) ∷ concat_over (nodes_within Rising (suc k) p) (superclass_in (outline_of (p n)))
  step_of k n le = ap (λ ns. node n (outline_of (p n)) (supers_within (suc k) p n) ∷ ns) (over_alike (nodes_within Rising k p) (nodes_within Rising (suc k) p) (superclass_in (outline_of (p n))) (λ m l. let lt = above_lower n m l in nodes_settled k (suc k) m (omega (arith, lt, le)) (omega (arith, lt, le))))

  pub nodes_of : (n : Name) → nodes Rising p n ≡ node n (outline_of (p n)) (supers p n) ∷ concat_over (nodes Rising p) (superclass_in (outline_of (p n)))
  unfolding nodes supers
  nodes_of n = step_of 4294967295 n (let lt = ok.ranks.few n in omega (arith, lt))

  alone_of : (n : Name) → superclass_in (outline_of (p n)) ≡ [] → nodes Rising p n ≡ node n (outline_of (p n)) (supers p n) ∷ []
  alone_of n e = nodes_of n ∙ ap (λ ns. node n (outline_of (p n)) (supers p n) ∷ concat_over (nodes Rising p) ns) e

  onward_of : (n m : Name) → superclass_in (outline_of (p n)) ≡ m ∷ [] → nodes Rising p n ≡ node n (outline_of (p n)) (supers p n) ∷ nodes Rising p m
  onward_of n m e = nodes_of n ∙ ap (λ ns. node n (outline_of (p n)) (supers p n) ∷ concat_over (nodes Rising p) ns) e ∙ ap (λ ns. node n (outline_of (p n)) (supers p n) ∷ ns) (append_none (nodes Rising p m))

  superclass_is : (n m : Name) → superclass_in (outline_of (p n)) ≡ m ∷ [] → is_listed m (superclass_in (outline_of (p n))) ≡ true
  superclass_is n m e = subst (λ ns. is_listed m ns ≡ true) (sym e) (or_first (same m m) false (same_itself m))

  -- ---- a class that is there has a superclass, or is Object

  by_superclass : (n : Name) → is_none (p n) ≡ false → ((same n object_name ≡ true) × (superclass_in (outline_of (p n)) ≡ [])) ⊎ ((m : Name) × (superclass_in (outline_of (p n)) ≡ m ∷ []))
  by_superclass n there = by_class (p n) refl
    where
      by_class : (o : Option Linked) → p n ≡ o → ((same n object_name ≡ true) × (superclass_in (outline_of (p n)) ≡ [])) ⊎ ((m : Name) × (superclass_in (outline_of (p n)) ≡ m ∷ []))
      by_class None e = let q : true ≡ false = subst (λ o. is_none o ≡ false) e there in absurd cc
      by_class (Some c) e = by_parent c.parent refl
        where
          lacks : lacks_superclass n (Some c) ≡ false
          lacks = subst (λ o. lacks_superclass n o ≡ false) e (or_left (lacks_superclass n (p n)) (list_any (λ x. is_none (p x)) (parents_of (p n))) (ok.present n))

          by_parent : (o : Option Name) → c.parent ≡ o → ((same n object_name ≡ true) × (superclass_in (outline_of (p n)) ≡ [])) ⊎ ((m : Name) × (superclass_in (outline_of (p n)) ≡ m ∷ []))
          by_parent None q = inl (and_not true (same n object_name) (subst (λ o. (is_none o && not (same n object_name)) ≡ false) q lacks) refl, subst (λ o. superclass_in (outline_of o) ≡ []) (sym e) (ap option_list q))
          by_parent (Some m) q = inr (m, subst (λ o. superclass_in (outline_of o) ≡ m ∷ []) (sym e) (ap option_list q))

  superclass_there : (n m : Name) → superclass_in (outline_of (p n)) ≡ m ∷ [] → is_none (p m) ≡ false
  superclass_there n m e = super_there p ok n m (superclass_listed (p n) m (superclass_is n m e))

  -- ---- where the walk ends

  top_behind : (x : Node) (n : Name) (ns : List Node) → nodes Rising p n ≡ ns → top_of (x ∷ nodes Rising p n) ≡ top_of (nodes Rising p n)
  top_behind x n [] e = let q : [] ≡ node n (outline_of (p n)) (supers p n) ∷ concat_over (nodes Rising p) (superclass_in (outline_of (p n))) = sym e ∙ nodes_of n in absurd cc
  top_behind x n (y ∷ ys) e = subst (λ l. top_of (x ∷ l) ≡ top_of l) (sym e) refl

  top_alone : (n : Name) → same n object_name ≡ true → superclass_in (outline_of (p n)) ≡ [] → AllObject (top_of (nodes Rising p n))
  top_alone n s e = subst (λ l. AllObject (top_of l)) (sym (alone_of n e)) (s, tt)

  top_within : (k : ℕ) (n : Name) → ok.ranks.rank n ≤ k → is_none (p n) ≡ false → AllObject (top_of (nodes Rising p n))
  top_within zero n le there = elim (by_superclass n there) [
    | inl h ↦ top_alone n h.0 h.1
    | inr h ↦ (let lt = above_lower n h.0 (superclass_is n h.0 h.1) in absurd (omega (arith, lt, le)))
  ]
  top_within (suc k) n le there = elim (by_superclass n there) [
    | inl h ↦ top_alone n h.0 h.1
    | inr h ↦
        let lt = above_lower n h.0 (superclass_is n h.0 h.1) in
        subst (λ l. AllObject (top_of l)) (sym (onward_of n h.0 h.1)) (subst AllObject (sym (top_behind (node n (outline_of (p n)) (supers p n)) h.0 (nodes Rising p h.0) refl)) (top_within k h.0 (omega (arith, lt, le)) (superclass_there n h.0 h.1)))
  ]

  pub tops : (n : Name) → is_none (p n) ≡ false → AllObject (top_of (nodes Rising p n))
  tops n there = top_within (ok.ranks.rank n) n (omega arith) there

  -- ---- what it passes

  interface_of : (n m : Name) → is_listed m (parents_of (p n)) ≡ true → is_listed m (interfaces_in (outline_of (p n))) ≡ true → is_interface_class (outline_of (p m)) ≡ true
  interface_of n m l i = interface_entry p ok m (interface_kind p (p n) m (ok.kinds n) i) (super_there p ok n m l)

  no_class : {A : Type 0} (b : Name) → is_interface_class (outline_of (p b)) ≡ false → is_interface_class (outline_of (p b)) ≡ true → A
  no_class b plain e = let q : true ≡ false = sym e ∙ plain in absurd cc

  -- above a superclass of one that stands below it, or that superclass
  above_superclass : (a b m : Name) → IsBelow p a b → is_interface_class (outline_of (p b)) ≡ false → superclass_in (outline_of (p a)) ≡ m ∷ [] → IsWithin p m b
  above_superclass a b m (next x y l) plain e = elim (super_or_interface (p a) b l) [
    | inl q ↦ inl (one_same m b (sym e ∙ q))
    | inr i ↦ no_class b plain (interface_of a b l i)
  ]
  above_superclass a b m (further x y z l rest) plain e = elim (super_or_interface (p a) y l) [
    | inl q ↦ inr (subst (λ x. IsBelow p x b) (sym (one_same m y (sym e ∙ q))) rest)
    | inr i ↦ elim (below_interface p ok y b rest (interface_of a y l i)) [
      | inl q ↦ subst (IsWithin p m) (sym q) (to_object p ok (ok.ranks.rank m) m (omega arith) (superclass_there a m e))
      | inr j ↦ no_class b plain j
    ]
  ]

  has_superclass : (a b : Name) → IsBelow p a b → (m : Name) × (superclass_in (outline_of (p a)) ≡ m ∷ [])
  has_superclass a b h = elim (by_superclass a (below_there a b h)) [
    | inl q ↦ absurd (object_alone p ok b (subst (λ x. IsBelow p x b) (same_text a object_name (sym q.0)) h))
    | inr m ↦ m
  ]
    where
      below_there : (x y : Name) → IsBelow p x y → is_none (p x) ≡ false
      below_there x y (next n m l) = there_with (p x) y l
      below_there x y (further n k m l rest) = there_with (p x) k l

  not_itself : (a b : Name) → IsBelow p a b → a ≡ b → ⊥
  not_itself a b h e = let lt = below_lower p ok a b h in let same_rank : ok.ranks.rank a ≡ ok.ranks.rank b = ap ok.ranks.rank e in absurd (omega (arith, lt, same_rank))

  leads_within : (k : ℕ) (a b : Name) → ok.ranks.rank a ≤ k → IsWithin p a b → is_interface_class (outline_of (p b)) ≡ false → LeadsTo p a b
  leads_within k a b le (inl e) plain = record { before = []; walk = ap (nodes Rising p) e; passed = tt }
  leads_within zero a b le (inr h) plain = let lt = below_lower p ok a b h in absurd (omega (arith, lt, le))
  leads_within (suc k) a b le (inr h) plain =
      let s = has_superclass a b h in
      let lt = above_lower a s.0 (superclass_is a s.0 s.1) in
      let w = leads_within k s.0 b (omega (arith, lt, le)) (above_superclass a b s.0 h plain s.1) plain in
      record {
        before = node a (outline_of (p a)) (supers p a) ∷ w.before;
        walk = onward_of a s.0 s.1 ∙ ap (λ ns. node a (outline_of (p a)) (supers p a) ∷ ns) w.walk;
        passed = ((within_subtype p ok a b (inr h), not_itself a b h), w.passed);
      }

  pub leads : (a b : Name) → HasAbove p a b → LeadsTo p a b
  leads a b h = leads_within (ok.ranks.rank a) a b (omega arith) (subtype_within p ok a b h.above) h.class

  -- ---- what is searched on it

  pub agree : {X : Type 0} (a b : Name) (search : List Node → X) → HasAbove p a b → PassesOver p b search → search (nodes Rising p a) ≡ search (nodes Rising p b)
  agree a b search h over =
      let w = leads a b h in
      ap search w.walk ∙ passed_by p b search over w.before (nodes Rising p b) w.passed

  pub first_found : {X : Type 0} (a b : Name) (x : X) (value : Name → Option X) → HasAbove p a b → value b ≡ Some x → HasAlone p b value → first_of_names value (nodes Rising p a) ≡ Some x
  first_found a b x value h e alone =
      agree a b (first_of_names value) h (first_over p b value alone)
      ∙ ap (first_of_names value) (nodes_of b)
      ∙ ap (λ o. or_else o (first_of_names value (concat_over (nodes Rising p) (superclass_in (outline_of (p b)))))) e

  -- ---- how fields are laid out

  begins : (a b : Name) → is_subtype p a b ≡ true → is_interface_class (outline_of (p b)) ≡ false → StartsWith (field_kinds p a) (field_kinds p b)
  begins a b h plain =
      let w = leads a b record { above = h; class = plain } in
      (kinds_of w.before, ap kinds_of w.walk ∙ kinds_appended w.before (nodes Rising p b))

  behind : (a b : Name) → is_subtype p a b ≡ true → is_interface_class (outline_of (p b)) ≡ false → kinds_behind p a b ≡ kinds_behind p b b
  behind a b h plain = ap kinds_of (agree a b (superclasses_behind b) record { above = h; class = plain } (behind_over p b))

  pub laid_out : fields_in (outline_of (p object_name)) ≡ [] → HasLayout p
  laid_out none = record { object = none; begins = begins; behind = behind }
