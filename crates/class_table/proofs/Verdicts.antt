-- What is found of the classes by number is what is asked of them by name.
use Rattle.std.proofs.Common.{◌≡◌, ◌⊎◌, inl, inr, ◌∙◌, sym, refl, ap, subst, ℕ, zero, suc, ◌+◌, ◌<◌, ◌^◌, Bool, true, false, List, [], ◌∷◌, ◌++◌, length, length-append, map, Option, None, Some, slice_get, arith}
use Rattle.std.specs.Prelude.{IsTrue, ◌||◌, is_none, option_and_then}
use Rattle.std.specs.List.{list_any}
use Rattle.std.specs.Option.{option_map, option_to_list}
use Rattle.std.specs.Cmp.Lexicographic.{same_text, bytes_decides}
use Rattle.std.proofs.lemmas.List.{length-map}
use Rattle.std.proofs.lemmas.Option.{slice_get-map, slice_get_within}
use Rattle.program_rules.specs.Names.{Name, same, is_listed}
use Rattle.program_rules.specs.Linked.{parents_of, parents_with}
use Rattle.program_rules.specs.Programs.{Look}
use Rattle.class_link.specs.Info.{Info, class_of}
use Rattle.class_order.specs.declared.links.Links.{Links}
use Rattle.class_order.specs.declared.standing.Standing.{Standing}
use Rattle.class_order.specs.declared.standing.Standing.TheVariants.{New, Open, Ranked, Cyclic}
use Rattle.class_order.specs.Graph as graph
use Rattle.class_order.specs.Graph.{with_parent, supers_of, supers_in, supers_at, AreWithin, Leads, IsAboveItself}
use Rattle.class_order.specs.Standings.{AreStandings, IsStanding, IsLower, cyclic, ranked}
use Rattle.class_order.specs.Supers.{is_super_missing, IsBelow, next, further, IsOwnSuper, is_super_of_wrong_kind, names_wrong_kind, lacks_superclass, IsLeastWith}
use Rattle.class_order.specs.Ranks.{HasRanks}
use Rattle.class_order.specs.Above.{rank_of, AreRanked}
use Rattle.class_table.specs.Table.{names, number_of, class_at, name_at, look, AreDistinct}
use Rattle.class_table.specs.Least.{IsMarked, IsLeastMarked}
use Rattle.class_table.specs.Supers.{misses, names_wrong, numbers_known, IsLinked, AreLinked, AreLinks, is_cyclic, IsRanked}
use Rattle.class_table.proofs.Places.{name_at_place, number_within, number_named, name_of_class, look_at, none_past}

-- ---- one class more

one_item : {A : Type 0} (o : Option A) (x y : A) → o ≡ Some x → o ≡ Some y → x ≡ y
one_item o x y h k = let e : Some x ≡ Some y = sym h ∙ k in cc

last_case : {A : Type 0} (xs : List A) (x : A) (i : ℕ) (y : A) → slice_get (xs ++ x ∷ []) i ≡ Some y → (slice_get xs i ≡ Some y) ⊎ ((i ≡ length xs) × (y ≡ x))
last_case [] x zero y h = inr (refl, cc)
last_case [] x (suc i) y h = absurd cc
last_case (z ∷ xs) x zero y h = inl h
last_case (z ∷ xs) x (suc i) y h = elim (last_case xs x i y h) [ inl e ↦ inl e | inr e ↦ inr (omega (arith, e.0), e.1) ]

pub linked_next : (p : List Info) (count : ℕ) (g : List Links) (i : Info) (l : Links) → slice_get p count ≡ Some i → IsLinked p i l → AreLinked p count g → AreLinked p (count + 1) (g ++ l ∷ [])
linked_next p count g i l there linked before = record {
  each = length-append g (l ∷ []) ∙ ap (λ n. n + 1) before.each;
  fit = λ a j k h e. elim (last_case g l a k e) [
    | inl old ↦ before.fit a j k h old
    | inr new ↦
        let at : a ≡ count = new.0 ∙ before.each in
        let one : i ≡ j = one_item (slice_get p count) i j there (subst (λ n. slice_get p n ≡ Some j) at h) in
        subst (λ x. IsLinked p j x) (sym new.1) (subst (λ x. IsLinked p x l) one linked)
  ];
}

-- ---- names and numbers

same_itself : (n : Name) → same n n ≡ true
same_itself n = (bytes_decides n n).1 refl

or_left : (x y : Bool) → (x || y) ≡ false → x ≡ false
or_left true y e = e
or_left false y e = refl

or_right : (x y : Bool) → (x || y) ≡ false → y ≡ false
or_right true y e = absurd cc
or_right false y e = e

or_second : (x y : Bool) → y ≡ true → (x || y) ≡ true
or_second true y e = refl
or_second false y e = e

listed_at : (m : Name) (ns : List Name) → is_listed m ns ≡ true → (k : ℕ) × (slice_get ns k ≡ Some m)
listed_at m [] e = absurd cc
listed_at m (n ∷ ns) e = by_test (same n m) refl (listed_at m ns)
  where
    by_test : (b : Bool) → same n m ≡ b → (is_listed m ns ≡ true → (k : ℕ) × (slice_get ns k ≡ Some m)) → (k : ℕ) × (slice_get (n ∷ ns) k ≡ Some m)
    by_test true q rest = (0, ap Some (same_text n m (sym q)))
    by_test false q rest = let r = rest (subst (λ b. (b || is_listed m ns) ≡ true) q e) in (suc r.0, r.1)

at_listed : (m : Name) (ns : List Name) (k : ℕ) → slice_get ns k ≡ Some m → is_listed m ns ≡ true
at_listed m [] k h = absurd cc
at_listed m (n ∷ ns) zero h = let e : m ≡ n = cc in subst (λ x. (same n x || is_listed x ns) ≡ true) (sym e) (subst (λ b. (b || is_listed n ns) ≡ true) (sym (same_itself n)) refl)
at_listed m (n ∷ ns) (suc k) h = or_second (same n m) (is_listed m ns) (at_listed m ns k h)

each_false : (test : Name → Bool) (m : Name) (ns : List Name) → list_any test ns ≡ false → (k : ℕ) → slice_get ns k ≡ Some m → test m ≡ false
each_false test m [] e k h = absurd cc
each_false test m (x ∷ xs) e zero h = let q : x ≡ m = cc in subst (λ y. test y ≡ false) q (or_left (test x) (list_any test xs) e)
each_false test m (x ∷ xs) e (suc k) h = each_false test m xs (or_right (test x) (list_any test xs) e) k h

-- ---- supers by number

module _ (p : List Info) where
  known_named : (ns : List Name) (k b : ℕ) → slice_get (numbers_known p ns) k ≡ Some b → (is_listed (name_at p b) ns ≡ true) × (b < length p)
  known_named [] k b h = absurd cc
  known_named (n ∷ ns) k b h = by_number (number_of p n) refl k (subst (λ o. slice_get (option_to_list o ++ numbers_known p ns) k ≡ Some b) refl h) (λ j e. known_named ns j b e)
    where
      second : (is_listed (name_at p b) ns ≡ true) × (b < length p) → (is_listed (name_at p b) (n ∷ ns) ≡ true) × (b < length p)
      second r = (or_second (same n (name_at p b)) (is_listed (name_at p b) ns) r.0, r.1)

      by_number : (o : Option ℕ) → number_of p n ≡ o → (k : ℕ) → slice_get (option_to_list (number_of p n) ++ numbers_known p ns) k ≡ Some b → ((j : ℕ) → slice_get (numbers_known p ns) j ≡ Some b → (is_listed (name_at p b) ns ≡ true) × (b < length p)) → (is_listed (name_at p b) (n ∷ ns) ≡ true) × (b < length p)
      by_number None e k h rest = second (rest k (subst (λ o. slice_get (option_to_list o ++ numbers_known p ns) k ≡ Some b) e h))
      by_number (Some c) e zero h rest =
          let q : slice_get (c ∷ numbers_known p ns) 0 ≡ Some b = subst (λ o. slice_get (option_to_list o ++ numbers_known p ns) 0 ≡ Some b) e h in
          let one : c ≡ b = cc in
          let number : number_of p n ≡ Some b = e ∙ ap Some one in
          let name : name_at p b ≡ n = number_named p n b number in
          (subst (λ x. (same n x || is_listed x ns) ≡ true) (sym name) (subst (λ t. (t || is_listed n ns) ≡ true) (sym (same_itself n)) refl), number_within p n b number)
      by_number (Some c) e (suc j) h rest = second (rest j (subst (λ o. slice_get (option_to_list o ++ numbers_known p ns) (suc j) ≡ Some b) e h))

  known_has : (m : Name) (b : ℕ) (ns : List Name) → is_listed m ns ≡ true → number_of p m ≡ Some b → (k : ℕ) × (slice_get (numbers_known p ns) k ≡ Some b)
  known_has m b [] e number = absurd cc
  known_has m b (n ∷ ns) e number = by_test (same n m) refl (λ h. known_has m b ns h number)
    where
      behind : (o : Option ℕ) → (k : ℕ) × (slice_get (numbers_known p ns) k ≡ Some b) → (k : ℕ) × (slice_get (option_to_list o ++ numbers_known p ns) k ≡ Some b)
      behind None r = r
      behind (Some c) r = (suc r.0, r.1)

      by_test : (t : Bool) → same n m ≡ t → (is_listed m ns ≡ true → (k : ℕ) × (slice_get (numbers_known p ns) k ≡ Some b)) → (k : ℕ) × (slice_get (numbers_known p (n ∷ ns)) k ≡ Some b)
      by_test true q rest = (0, subst (λ o. slice_get (option_to_list o ++ numbers_known p ns) 0 ≡ Some b) (sym (ap (number_of p) (same_text n m (sym q)) ∙ number)) refl)
      by_test false q rest = behind (number_of p n) (rest (subst (λ t. (t || is_listed m ns) ≡ true) q e))

  module _ (g : List Links) (links : AreLinks p g) where
    parents_known : (o : Option Name) (is : List Name) → with_parent (option_and_then (number_of p) o) (numbers_known p is) ≡ numbers_known p (parents_with o is)
    parents_known None is = refl
    parents_known (Some n) is = by_number (number_of p n) refl
      where
        by_number : (o : Option ℕ) → number_of p n ≡ o → with_parent (number_of p n) (numbers_known p is) ≡ option_to_list (number_of p n) ++ numbers_known p is
        by_number None e = subst (λ x. with_parent x (numbers_known p is) ≡ option_to_list x ++ numbers_known p is) (sym e) refl
        by_number (Some k) e = subst (λ x. with_parent x (numbers_known p is) ≡ option_to_list x ++ numbers_known p is) (sym e) refl

    pub supers_known : (a : ℕ) (i : Info) → slice_get p a ≡ Some i → supers_at g a ≡ numbers_known p (parents_of (Some (class_of i)))
    supers_known a i h = by_links (slice_get g a) refl
      where
        by_links : (o : Option Links) → slice_get g a ≡ o → supers_at g a ≡ numbers_known p (parents_of (Some (class_of i)))
        by_links None e =
            let w = slice_get_within p a i h in
            let each = links.each in
            absurd (none_past g a e (omega (arith, w, each)))
        by_links (Some l) e =
            let fit = links.fit a i l h e in
            ap supers_in e ∙ ap (λ o. with_parent o l.interfaces.items) fit.parent ∙ ap (with_parent (option_and_then (number_of p) (class_of i).parent)) fit.interfaces ∙ parents_known (class_of i).parent (class_of i).interfaces

    pub links_within : AreWithin g (length g)
    links_within a k b h = by_links (slice_get p a) refl
      where
        each : length g ≡ length p
        each = links.each

        by_links : (o : Option Info) → slice_get p a ≡ o → b < length g
        by_links None e =
            by_get (slice_get g a) refl
          where
            by_get : (o : Option Links) → slice_get g a ≡ o → b < length g
            by_get None q = let z : slice_get {X = ℕ} [] k ≡ Some b = subst (λ x. slice_get (supers_in x) k ≡ Some b) q h in absurd cc
            by_get (Some l) q = let w = slice_get_within g a l q in absurd (none_past p a e (omega (arith, w, each)))
        by_links (Some i) e =
            let r = known_named (parents_of (Some (class_of i))) k b (subst (λ l. slice_get l k ≡ Some b) (supers_known a i e) h) in
            let lt = r.1 in
            omega (arith, lt, each)

module _ (p : List Info) (distinct : AreDistinct (names p)) where
  -- the class of a name that stands among the names
  named_class : (k : ℕ) (m : Name) → slice_get (names p) k ≡ Some m → (i : Info) × (slice_get p k ≡ Some i) × (i.name ≡ m)
  named_class k m h = by_class (slice_get p k) refl
    where
      by_class : (o : Option Info) → slice_get p k ≡ o → (i : Info) × (slice_get p k ≡ Some i) × (i.name ≡ m)
      by_class None e = let q : None ≡ Some m = sym (slice_get-map (λ i. i.name) p k ∙ ap (option_map (λ i. i.name)) e) ∙ h in absurd cc
      by_class (Some i) e = (i, e, (let q : Some i.name ≡ Some m = sym (slice_get-map (λ j. j.name) p k ∙ ap (option_map (λ j. j.name)) e) ∙ h in cc))

  look_of_class : (k : ℕ) (i : Info) → slice_get p k ≡ Some i → look p i.name ≡ Some (class_of i)
  look_of_class k i h = ap (look p) (sym (name_of_class p k i h)) ∙ look_at p k i distinct h

  -- a name has no class, or stands among the names
  none_or_at : (m : Name) → (look p m ≡ None) ⊎ ((k : ℕ) × (number_of p m ≡ Some k) × (slice_get (names p) k ≡ Some m))
  none_or_at m = by_number (number_of p m) refl
    where
      by_number : (o : Option ℕ) → number_of p m ≡ o → (look p m ≡ None) ⊎ ((k : ℕ) × (number_of p m ≡ Some k) × (slice_get (names p) k ≡ Some m))
      by_number None e = inl (ap (option_and_then (class_at p)) e)
      by_number (Some k) e = inr (k, e, name_at_place m k (names p) e)

  -- a test of the class of a name, and the same test of a class of the program
  module _ (test : Look → Name → Bool) (of : Info → Bool) (agrees : (i : Info) → look p i.name ≡ Some (class_of i) → test (look p) i.name ≡ of i) (none : (m : Name) → look p m ≡ None → test (look p) m ≡ false) where
    mark_is : (k : ℕ) (m : Name) → slice_get (names p) k ≡ Some m → slice_get (map of p) k ≡ Some (test (look p) m)
    mark_is k m h =
        let r = named_class k m h in
        slice_get-map of p k ∙ ap (option_map of) r.1 ∙ ap Some (sym (agrees r.0 (look_of_class k r.0 r.1)) ∙ ap (test (look p)) r.2)

    pub tested_least : (n : Name) → IsLeastMarked (names p) (map of p) (Some n) → IsLeastWith (names p) (λ m. IsTrue (test (look p) m)) n
    tested_least n h = record {
      listed = at_listed n (names p) h.place h.there;
      has = (let q : Some (test (look p) n) ≡ Some true = sym (mark_is h.place n h.there) ∙ h.marked in let e : test (look p) n ≡ true = cc in e);
      least = λ m listed has.
          let r = listed_at m (names p) listed in
          let e : test (look p) m ≡ true = has in
          h.least r.0 m r.1 (mark_is r.0 m r.1 ∙ ap Some e);
    }

    pub tested_none : IsLeastMarked (names p) (map of p) None → (m : Name) → test (look p) m ≡ false
    tested_none h m = by_test (test (look p) m) refl
      where
        by_test : (b : Bool) → test (look p) m ≡ b → test (look p) m ≡ false
        by_test false e = e
        by_test true e = elim (none_or_at m) [
          | inl absent ↦ none m absent
          | inr r ↦ absurd (h r.0 m r.2 (mark_is r.0 m r.2 ∙ ap Some e))
        ]

  -- ---- supers that are missing, and those of a wrong kind

  missing_agrees : (i : Info) → look p i.name ≡ Some (class_of i) → is_super_missing (look p) i.name ≡ misses p i
  missing_agrees i e = ap (λ o. lacks_superclass i.name o || list_any (λ m. is_none (look p m)) (parents_of o)) e

  missing_none : (m : Name) → look p m ≡ None → is_super_missing (look p) m ≡ false
  missing_none m e = ap (λ o. lacks_superclass m o || list_any (λ x. is_none (look p x)) (parents_of o)) e

  pub missing_least : (n : Name) → IsLeastMarked (names p) (map (misses p) p) (Some n) → IsLeastWith (names p) (λ m. IsTrue (is_super_missing (look p) m)) n
  missing_least n h = tested_least is_super_missing (misses p) missing_agrees missing_none n h

  pub none_missing : IsLeastMarked (names p) (map (misses p) p) None → (m : Name) → is_super_missing (look p) m ≡ false
  none_missing h m = tested_none is_super_missing (misses p) missing_agrees missing_none h m

  wrong_agrees : (i : Info) → look p i.name ≡ Some (class_of i) → is_super_of_wrong_kind (look p) i.name ≡ names_wrong p i
  wrong_agrees i e = ap (names_wrong_kind (look p)) e

  wrong_none : (m : Name) → look p m ≡ None → is_super_of_wrong_kind (look p) m ≡ false
  wrong_none m e = ap (names_wrong_kind (look p)) e

  pub wrong_least : (n : Name) → IsLeastMarked (names p) (map (names_wrong p) p) (Some n) → IsLeastWith (names p) (λ m. IsTrue (is_super_of_wrong_kind (look p) m)) n
  wrong_least n h = tested_least is_super_of_wrong_kind (names_wrong p) wrong_agrees wrong_none n h

  pub none_wrong : IsLeastMarked (names p) (map (names_wrong p) p) None → (m : Name) → is_super_of_wrong_kind (look p) m ≡ false
  none_wrong h m = tested_none is_super_of_wrong_kind (names_wrong p) wrong_agrees wrong_none h m

  -- ---- supers by number, as they are by name

  module _ (g : List Links) (links : AreLinks p g) where
    -- a super by number is one by name
    pub step_named : (a k b : ℕ) → slice_get (supers_at g a) k ≡ Some b → a < length p → (is_listed (name_at p b) (parents_of (look p (name_at p a))) ≡ true) × (b < length p)
    step_named a k b h lt = by_class (slice_get p a) refl
      where
        by_class : (o : Option Info) → slice_get p a ≡ o → (is_listed (name_at p b) (parents_of (look p (name_at p a))) ≡ true) × (b < length p)
        by_class None e = absurd (none_past p a e lt)
        by_class (Some i) e =
            let r = known_named p (parents_of (Some (class_of i))) k b (subst (λ l. slice_get l k ≡ Some b) (supers_known p g links a i e) h) in
            (subst (λ o. is_listed (name_at p b) (parents_of o) ≡ true) (sym (look_at p a i distinct e)) r.0, r.1)

    pub leads_below : (b c : ℕ) → Leads g b c → (n : Name) → is_listed (name_at p b) (parents_of (look p n)) ≡ true → b < length p → IsBelow (look p) n (name_at p c)
    leads_below b c (graph.same x) n listed lt = next n (name_at p b) listed
    leads_below b c (graph.up x k d y names rest) n listed lt =
        let r = step_named b k d names lt in
        further n (name_at p b) (name_at p c) listed (leads_below d c rest (name_at p b) r.0 r.1)

    cyclic_named : (a : ℕ) → a < length p → IsAboveItself g a → IsOwnSuper (look p) (name_at p a)
    cyclic_named a lt h =
        let r = step_named a h.place h.over h.names lt in
        leads_below h.over a h.back (name_at p a) r.0 r.1

    module _ (present : (n : Name) → is_super_missing (look p) n ≡ false) where
      -- a super that is named is there
      super_there : (n m : Name) → is_listed m (parents_of (look p n)) ≡ true → is_none (look p m) ≡ false
      super_there n m listed =
          let r = listed_at m (parents_of (look p n)) listed in
          each_false (λ x. is_none (look p x)) m (parents_of (look p n)) (or_right (lacks_superclass n (look p n)) (list_any (λ x. is_none (look p x)) (parents_of (look p n))) (present n)) r.0 r.1

      pub super_number : (n m : Name) → is_listed m (parents_of (look p n)) ≡ true → (b : ℕ) × (number_of p m ≡ Some b)
      super_number n m listed = by_number (number_of p m) refl
        where
          by_number : (o : Option ℕ) → number_of p m ≡ o → (b : ℕ) × (number_of p m ≡ Some b)
          by_number None e = let q : true ≡ false = subst (λ o. is_none (option_and_then (class_at p) o) ≡ false) e (super_there n m listed) in absurd cc
          by_number (Some b) e = (b, e)

      -- a class of which something is a super has a number
      class_number : (n m : Name) → is_listed m (parents_of (look p n)) ≡ true → (a : ℕ) × (number_of p n ≡ Some a) × (i : Info) × (slice_get p a ≡ Some i) × (look p n ≡ Some (class_of i))
      class_number n m listed = elim (none_or_at n) [
        | inl none ↦ (let q : is_listed m (parents_of None) ≡ true = subst (λ o. is_listed m (parents_of o) ≡ true) none listed in absurd cc)
        | inr r ↦ (let c = named_class r.0 n r.2 in (r.0, r.1, c.0, c.1, subst (λ x. look p x ≡ Some (class_of c.0)) c.2 (look_of_class r.0 c.0 c.1)))
      ]

      -- a super by name is one by number
      step_number : (n m : Name) (a b : ℕ) → is_listed m (parents_of (look p n)) ≡ true → number_of p n ≡ Some a → number_of p m ≡ Some b → (k : ℕ) × (slice_get (supers_at g a) k ≡ Some b)
      step_number n m a b listed na nb =
          let c = class_number n m listed in
          let one : c.0 ≡ a = one_item (number_of p n) c.0 a c.1 na in
          let at : slice_get p a ≡ Some c.2 = subst (λ x. slice_get p x ≡ Some c.2) one c.3 in
          let r = known_has p m b (parents_of (Some (class_of c.2))) (subst (λ o. is_listed m (parents_of o) ≡ true) c.4 listed) nb in
          (r.0, subst (λ l. slice_get l r.0 ≡ Some b) (sym (supers_known p g links a c.2 at)) r.1)

      pub below_leads : (n m : Name) → IsBelow (look p) n m → (a b : ℕ) → number_of p n ≡ Some a → number_of p m ≡ Some b → (k : ℕ) × (over : ℕ) × (slice_get (supers_at g a) k ≡ Some over) × Leads g over b
      below_leads n m (next x y listed) a b na nb =
          let r = step_number n m a b listed na nb in
          (r.0, b, r.1, graph.same b)
      below_leads n m (further x j y listed rest) a b na nb =
          let d = super_number n j listed in
          let r = step_number n j a d.0 listed na d.1 in
          let s = below_leads j m rest d.0 b d.1 nb in
          (r.0, d.0, r.1, graph.up d.0 s.0 s.1 b s.2 s.3)

      own_number : (m : Name) (a : ℕ) → IsOwnSuper (look p) m → number_of p m ≡ Some a → IsAboveItself g a
      own_number m a h number =
          let r = below_leads m m h a a number number in
          record { place = r.0; over = r.1; names = r.2; back = r.3 }

      own_class : (n m : Name) → IsBelow (look p) n m → (a : ℕ) × (number_of p n ≡ Some a) × (slice_get (names p) a ≡ Some n)
      own_class n m (next x y listed) = let c = class_number n m listed in (c.0, c.1, name_at_place n c.0 (names p) c.1)
      own_class n m (further x j y listed rest) = let c = class_number n j listed in (c.0, c.1, name_at_place n c.0 (names p) c.1)

      module _ (ranked : IsRanked g) where
        number_rank : Option ℕ → ℕ
        number_rank None = 0
        number_rank (Some a) = ranked.rank a

        few_ranks : (o : Option ℕ) → number_rank o < 2 ^ 32
        unfolding number_rank
        few_ranks None = omega arith
        few_ranks (Some a) = ranked.few a

        lower_name : (n m : Name) → is_listed m (parents_of (look p n)) ≡ true → number_rank (number_of p m) < number_rank (number_of p n)
        unfolding number_rank
        lower_name n m l =
            let c = class_number n m l in
            let d = super_number n m l in
            let r = step_number n m c.0 d.0 l c.1 d.1 in
            subst (λ o. number_rank o < number_rank (number_of p n)) (sym d.1) (subst (λ o. ranked.rank d.0 < number_rank o) (sym c.1) (ranked.lower c.0 r.0 d.0 r.1))

        pub ranks_named : HasRanks (look p)
        ranks_named = record { rank = λ n. number_rank (number_of p n); few = λ n. few_ranks (number_of p n); lower = lower_name }

      module _ (found : List Standing) (right : AreStandings g found) where
        marked_cyclic : (k : ℕ) → IsMarked (map is_cyclic found) k → slice_get found k ≡ Some Cyclic
        marked_cyclic k h = by_standing (slice_get found k) refl
          where
            mark : slice_get (map is_cyclic found) k ≡ option_map is_cyclic (slice_get found k)
            mark = slice_get-map is_cyclic found k

            by_standing : (o : Option Standing) → slice_get found k ≡ o → slice_get found k ≡ Some Cyclic
            by_standing None e = let q : None ≡ Some true = sym (mark ∙ ap (option_map is_cyclic) e) ∙ h in absurd cc
            by_standing (Some New) e = let q : Some false ≡ Some true = sym (mark ∙ ap (option_map is_cyclic) e) ∙ h in absurd cc
            by_standing (Some (Open place)) e = let q : Some false ≡ Some true = sym (mark ∙ ap (option_map is_cyclic) e) ∙ h in absurd cc
            by_standing (Some (Ranked rank)) e = let q : Some false ≡ Some true = sym (mark ∙ ap (option_map is_cyclic) e) ∙ h in absurd cc
            by_standing (Some Cyclic) e = e

        own_marked : (k : ℕ) → k < length g → IsAboveItself g k → IsMarked (map is_cyclic found) k
        own_marked k lt h = by_standing (slice_get found k) refl
          where
            each : length found ≡ length g
            each = right.each

            marked : (s : Standing) → slice_get found k ≡ Some s → IsStanding g found k s → is_cyclic s ≡ true
            marked New e fit = absurd fit
            marked (Open place) e fit = absurd fit
            marked (Ranked rank) e fit = absurd (fit.0 h)
            marked Cyclic e fit = refl

            by_standing : (o : Option Standing) → slice_get found k ≡ o → IsMarked (map is_cyclic found) k
            by_standing None e = absurd (none_past found k e (omega (arith, lt, each)))
            by_standing (Some s) e = slice_get-map is_cyclic found k ∙ ap (option_map is_cyclic) e ∙ ap Some (marked s e (right.fit k s e))

        within : (k : ℕ) (m : Name) → slice_get (names p) k ≡ Some m → k < length p
        within k m h = let w = slice_get_within (names p) k m h in omega (arith, w, length-map p (λ i. i.name))

        pub cyclic_least : (n : Name) → IsLeastMarked (names p) (map is_cyclic found) (Some n) → IsLeastWith (names p) (IsOwnSuper (look p)) n
        cyclic_least n h = record {
          listed = at_listed n (names p) h.place h.there;
          has =
              let r = named_class h.place n h.there in
              let name : name_at p h.place ≡ n = name_of_class p h.place r.0 r.1 ∙ r.2 in
              let own = right.fit h.place Cyclic (marked_cyclic h.place h.marked) in
              subst (IsOwnSuper (look p)) name (cyclic_named h.place (within h.place n h.there) own);
          least = λ m listed has.
              let r = listed_at m (names p) listed in
              let c = own_class m m has in
              let lt = within c.0 m c.2 in
              let each = links.each in
              h.least c.0 m c.2 (own_marked c.0 (omega (arith, lt, each)) (own_number m c.0 has c.1));
        }

        pub none_cyclic : IsLeastMarked (names p) (map is_cyclic found) None → (m : Name) → IsOwnSuper (look p) m → ⊥
        none_cyclic h m has =
            let c = own_class m m has in
            let lt = within c.0 m c.2 in
            let each = links.each in
            h c.0 m c.2 (own_marked c.0 (omega (arith, lt, each)) (own_number m c.0 has c.1))

        -- where no class stands above itself, none is marked
        pub none_marked : ((m : Name) → IsOwnSuper (look p) m → ⊥) → (k : ℕ) → IsMarked (map is_cyclic found) k → k < length p → ⊥
        none_marked acyclic k mark lt = acyclic (name_at p k) (cyclic_named k lt (right.fit k Cyclic (marked_cyclic k mark)))

-- ---- ranks

module _ (p : List Info) (g : List Links) (links : AreLinks p g) (found : List Standing) (right : AreStandings g found) (none : (k : ℕ) → IsMarked (map is_cyclic found) k → k < length p → ⊥) where
  each : length found ≡ length p
  each = right.each ∙ links.each

  not_cyclic : (a : ℕ) → slice_get found a ≡ Some Cyclic → ⊥
  not_cyclic a h = none a (slice_get-map is_cyclic found a ∙ ap (option_map is_cyclic) h) (let w = slice_get_within found a Cyclic h in omega (arith, w, each))

  few : (a : ℕ) → rank_of (slice_get found a) < 2 ^ 32
  few a = by_standing (slice_get found a) refl
    where
      by_standing : (o : Option Standing) → slice_get found a ≡ o → rank_of (slice_get found a) < 2 ^ 32
      by_standing None e = subst (λ o. rank_of o < 2 ^ 32) (sym e) (omega arith)
      by_standing (Some New) e = subst (λ o. rank_of o < 2 ^ 32) (sym e) (omega arith)
      by_standing (Some (Open place)) e = subst (λ o. rank_of o < 2 ^ 32) (sym e) (omega arith)
      by_standing (Some (Ranked rank)) e = subst (λ o. rank_of o < 2 ^ 32) (sym e) (right.few a rank e)
      by_standing (Some Cyclic) e = subst (λ o. rank_of o < 2 ^ 32) (sym e) (omega arith)

  lower_rank : (b rank : ℕ) → IsLower (slice_get found b) rank → rank_of (slice_get found b) < rank
  lower_rank b rank (cyclic e) = absurd (not_cyclic b e)
  lower_rank b rank (ranked r e lt) = subst (λ o. rank_of o < rank) (sym e) lt

  lower : (a k b : ℕ) → slice_get (supers_at g a) k ≡ Some b → rank_of (slice_get found b) < rank_of (slice_get found a)
  lower a k b sup = by_standing (slice_get found a) refl
    where
      in_range : a < length g
      in_range = by_links (slice_get g a) refl
        where
          by_links : (o : Option Links) → slice_get g a ≡ o → a < length g
          by_links None q = let z : slice_get {X = ℕ} [] k ≡ Some b = subst (λ x. slice_get (supers_in x) k ≡ Some b) q sup in absurd cc
          by_links (Some l) q = slice_get_within g a l q

      by_standing : (o : Option Standing) → slice_get found a ≡ o → rank_of (slice_get found b) < rank_of (slice_get found a)
      by_standing None e = let long = right.each in let w = in_range in absurd (none_past found a e (omega (arith, w, long)))
      by_standing (Some New) e = absurd (right.fit a New e)
      by_standing (Some (Open place)) e = absurd (right.fit a (Open place) e)
      by_standing (Some (Ranked rank)) e = subst (λ o. rank_of (slice_get found b) < rank_of o) (sym e) (lower_rank b rank ((right.fit a (Ranked rank) e).1 k b sup))
      by_standing (Some Cyclic) e = absurd (not_cyclic a e)

  pub are_ranked : IsRanked g
  are_ranked = record { rank = λ a. rank_of (slice_get found a); few = few; lower = lower }

  pub are_falling : AreRanked g found
  are_falling a b s = lower a s.place b s.there
