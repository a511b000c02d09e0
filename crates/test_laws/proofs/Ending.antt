-- No more superclasses are found than there are names of class files.
use Rattle.std.proofs.Common.{◌≡◌, ◌∙◌, ℕ, zero, suc, ◌<◌, ◌≤◌, Bool, true, false, List, [], ◌∷◌, map, take, length, Option, Some, None, refl, sym, ap, subst, arith, ◌⊎◌, inl, inr, ⊎_elim}
use Rattle.std.specs.Prelude.{◌||◌, ◌==◌, if◌then◌else◌, option_and_then}
use Rattle.std.specs.Cmp.Lexicographic.{same_text, bytes_decides}
use Rattle.std.proofs.lemmas.Bool.{eqb-true}
use Rattle.class_model.specs.Pool.{class_name_of}
use Rattle.class_model.specs.declared.class.Class.{Class}
use Rattle.class_model.specs.declared.constant.Const.{Const}
use Rattle.program_rules.specs.Names.{Name, same, is_listed}
use Rattle.program_rules.specs.Linked.{Linked, parents_with, parents_of}
use Rattle.program_rules.specs.Programs.{Look}
use Rattle.class_order.specs.Ranks.{HasRanks}
use Rattle.class_link.specs.Info.{own_name}
use Rattle.class_link.specs.Linking.{link, class_or_none}
use Rattle.class_link.specs.Symbols.{name_or_empty}
use Rattle.test_discovery.specs.Listed.{Files, superclass_of, file_above, rising_from}
use Rattle.test_laws.specs.Laws.{AreNamed, AreMeant, AreAmong, RisingEnds}

-- ---- names among names

abbrev In : Name → List Name → Type 0
In x [] = ⊥
In x (y ∷ ys) = (y ≡ x) ⊎ In x ys

abbrev Once : List Name → Type 0
Once [] = Unit {0}
Once (x ∷ xs) = (In x xs → ⊥) × Once xs

or_case : (a b : Bool) → a || b ≡ true → (a ≡ true) ⊎ (b ≡ true)
or_case true b e = inl refl
or_case false b e = inr e

listed_in : (n : Name) (xs : List Name) → is_listed n xs ≡ true → In n xs
listed_in n [] e = absurd cc
listed_in n (x ∷ xs) e = ⊎_elim (λ (h : same x n ≡ true). inl (same_text x n (sym h))) (λ (h : is_listed n xs ≡ true). inr (listed_in n xs h)) (or_case (same x n) (is_listed n xs) e)

abbrev Without : Name → List Name → Type 0
Without x ns = (ms : List Name) × (length ns ≡ suc (length ms)) × ((y : Name) → (y ≡ x → ⊥) → In y ns → In y ms)

taken : (x : Name) (ns : List Name) → In x ns → Without x ns
taken x [] q = absurd q
taken x (n ∷ ns) q =
    ⊎_elim
    (λ (e : n ≡ x). (ns, refl, λ y other r. ⊎_elim (λ (f : n ≡ y). absurd (other (sym f ∙ e))) (λ (s : In y ns). s) r))
    (λ (r : In x ns). let t = taken x ns r in (n ∷ t.0, ap suc t.1, λ y other s. ⊎_elim (λ (f : n ≡ y). inl f) (λ (s : In y ns). inr (t.2 y other s)) s))
    q

no_more : (xs ns : List Name) → Once xs → ((y : Name) → In y xs → In y ns) → length xs ≤ length ns
no_more [] ns once all = omega arith
no_more (x ∷ xs) ns once all =
    let t = taken x ns (all x (inl refl)) in
    let rest = no_more xs t.0 once.1 (λ y q. t.2 y (λ e. once.0 (subst (λ (z : Name). In z xs) e q)) (all y (inr q))) in
    let len = t.1 in
    omega (arith, rest, len)

-- ---- superclasses

zero_case : (b : Bool) (pool : List Const) (index : ℕ) (m : Name) → b ≡ (index == 0) → class_name_of pool index ≡ Some m → class_or_none pool index ≡ Some m
zero_case true pool index m e h =
    let none : class_name_of pool index ≡ None = ap (class_name_of pool) (eqb-true index 0 (sym e)) in
    let both : None ≡ Some m = sym none ∙ h in
    absurd cc
zero_case false pool index m e h =
    subst (λ (z : Bool). (if z then None else Some (name_or_empty (class_name_of pool index))) ≡ Some m) e (ap (λ (o : Option Name). Some (name_or_empty o)) h)

super_linked : (c : Class) (m : Name) → superclass_of c ≡ Some m → (link c).parent ≡ Some m
unfolding link
super_linked c m h = zero_case (c.parent == 0) c.pool c.parent m refl h

parent_first : (o : Option Name) (m : Name) (is : List Name) → o ≡ Some m → is_listed m (parents_with o is) ≡ true
parent_first None m is h = absurd cc
parent_first (Some n) m is h =
    let same_name : n ≡ m = cc in
    subst (λ (z : Name). is_listed m (parents_with (Some z) is) ≡ true) (sym same_name) (ap (λ (b : Bool). b || is_listed m is) ((bytes_decides m m).1 refl))

none_up : (k : ℕ) (files : Files) → rising_from k files None ≡ []
none_up zero files = refl
none_up (suc k) files = refl

abbrev names_up : ℕ → Files → Option Class → List Name
names_up k files o = map own_name (rising_from k files o)

module _ (p : Look) (files : Files) (ranks : HasRanks p) (named : AreNamed files) (meant : AreMeant p files) where
  above_lower : (n m : Name) (c : Class) → files n ≡ Some c → superclass_of c ≡ Some m → ranks.rank m < ranks.rank n
  above_lower n m c e s =
      ranks.lower n m (subst (λ (o : Option Linked). is_listed m (parents_of o) ≡ true) (sym (meant n c e)) (parent_first (link c).parent m (link c).interfaces (super_linked c m s)))

  abbrev AreLower : ℕ → Type 0
  AreLower k = (m x : Name) → In x (names_up k files (files m)) → ranks.rank x ≤ ranks.rank m

  above_case : (k : ℕ) → AreLower k → (n : Name) (c : Class) (s : Option Name) → files n ≡ Some c → superclass_of c ≡ s → (x : Name) → In x (names_up k files (option_and_then files s)) → ranks.rank x < ranks.rank n
  above_case k ih n c None e s x q = absurd (subst (λ (cs : List Class). In x (map own_name cs)) (none_up k files) q)
  above_case k ih n c (Some m) e s x q = let le = ih m x q in let lt = above_lower n m c e s in omega (arith, le, lt)

  lower_case : (k : ℕ) (n : Name) (o : Option Class) → files n ≡ o → AreLower k → (x : Name) → In x (names_up (suc k) files o) → ranks.rank x ≤ ranks.rank n
  lower_case k n None e ih x q = absurd q
  lower_case k n (Some c) e ih x q =
      ⊎_elim (λ (here : own_name c ≡ x). let same_rank : ranks.rank x ≡ ranks.rank n = ap ranks.rank (sym here ∙ named n c e) in omega (arith, same_rank))
      (λ (r : In x (names_up k files (file_above files c))). let lt = above_case k ih n c (superclass_of c) e refl x r in omega (arith, lt)) q

  nothing : (n : Name) (o : Option Class) (x : Name) → In x (names_up zero files o) → ⊥
  nothing n None x q = q
  nothing n (Some c) x q = q

  lower : (k : ℕ) → AreLower k
  lower zero n x q = absurd (nothing n (files n) x q)
  lower (suc k) n x q = lower_case k n (files n) refl (lower k) x q

  once_above : (k : ℕ) (s : Option Name) → ((m : Name) → Once (names_up k files (files m))) → Once (names_up k files (option_and_then files s))
  once_above k None ih = subst (λ (cs : List Class). Once (map own_name cs)) (sym (none_up k files)) tt
  once_above k (Some m) ih = ih m

  once_case : (k : ℕ) (n : Name) (o : Option Class) → files n ≡ o → ((m : Name) → Once (names_up k files (files m))) → Once (names_up (suc k) files o)
  once_case k n None e ih = tt
  once_case k n (Some c) e ih = (
    λ q. let lt = above_case k (lower k) n c (superclass_of c) e refl (own_name c) q in let same_rank : ranks.rank (own_name c) ≡ ranks.rank n = ap ranks.rank (named n c e) in omega (arith, lt, same_rank),
    once_above k (superclass_of c) ih,
  )

  once_zero : (o : Option Class) → Once (names_up zero files o)
  once_zero None = tt
  once_zero (Some c) = tt

  once_up : (k : ℕ) (n : Name) → Once (names_up k files (files n))
  once_up zero n = once_zero (files n)
  once_up (suc k) n = once_case k n (files n) refl (once_up k)

  module _ (names : List Name) (among : AreAmong names files) where
    among_above : (k : ℕ) (s : Option Name) → ((m x : Name) → In x (names_up k files (files m)) → In x names) → (x : Name) → In x (names_up k files (option_and_then files s)) → In x names
    among_above k None ih x q = absurd (subst (λ (cs : List Class). In x (map own_name cs)) (none_up k files) q)
    among_above k (Some m) ih x q = ih m x q

    among_case : (k : ℕ) (n : Name) (o : Option Class) → files n ≡ o → ((m x : Name) → In x (names_up k files (files m)) → In x names) → (x : Name) → In x (names_up (suc k) files o) → In x names
    among_case k n None e ih x q = absurd q
    among_case k n (Some c) e ih x q =
        ⊎_elim (λ (here : own_name c ≡ x). subst (λ (z : Name). In z names) (sym (named n c e) ∙ here) (listed_in n names (among n c e)))
        (λ (r : In x (names_up k files (file_above files c))). among_above k (superclass_of c) ih x r) q

    among_up : (k : ℕ) (n x : Name) → In x (names_up k files (files n)) → In x names
    among_up zero n x q = absurd (nothing n (files n) x q)
    among_up (suc k) n x q = among_case k n (files n) refl (among_up k) x q

    mapped : (cs : List Class) → length (map own_name cs) ≡ length cs
    mapped [] = refl
    mapped (c ∷ cs) = ap suc (mapped cs)

    few_up : (k : ℕ) (n : Name) → length (rising_from k files (files n)) ≤ length names
    few_up k n =
        let le : length (map own_name (rising_from k files (files n))) ≤ length names = no_more (names_up k files (files n)) names (once_up k n) (among_up k n) in
        let len : length (map own_name (rising_from k files (files n))) ≡ length (rising_from k files (files n)) = mapped (rising_from k files (files n)) in
        omega (arith, le, len)

-- ---- fewer levels

take_all : {X : Type 0} (k : ℕ) (xs : List X) → length xs ≤ k → take k xs ≡ xs
take_all zero [] le = refl
take_all zero (x ∷ xs) le = absurd (omega (arith, le))
take_all (suc k) [] le = refl
take_all (suc k) (x ∷ xs) le = ap (λ ys. x ∷ ys) (take_all k xs (omega (arith, le)))

front_up : (files : Files) (k j : ℕ) (o : Option Class) → k ≤ j → rising_from k files o ≡ take k (rising_from j files o)
front_up files zero j None le = refl
front_up files zero j (Some c) le = refl
front_up files (suc k) zero o le = absurd (omega (arith, le))
front_up files (suc k) (suc j) None le = refl
front_up files (suc k) (suc j) (Some c) le = ap (λ cs. c ∷ cs) (front_up files k j (file_above files c) (omega (arith, le)))

pub ends : RisingEnds
ends p files names most n ranks named meant among le =
    sym
    (front_up files (length names) most (files n) le
    ∙ take_all (length names) (rising_from most files (files n)) (few_up p files ranks named meant names among most n))
