-- Names and descriptors by number, and methods that are declared twice.
use Rattle.std.proofs.Common.{◌≡◌, ◌≢◌, ◌⊎◌, inl, inr, ◌∙◌, sym, refl, ap, ℕ, zero, suc, ◌+◌, ◌<◌, ◌≤◌, Bool, true, false, List, [], ◌∷◌, ◌++◌, map, take, Option, None, Some, arith, subst}
use Rattle.std.specs.Prelude.{◌&&◌, ◌||◌, not, nat_eq, if◌then◌else◌, cond, slice_get}
use Rattle.std.specs.Cmp.Lexicographic.{slice_cmp, same_text, bytes_decides}
use Rattle.std.specs.Ordering.{nat_cmp}
use Rattle.std.specs.BTreeMap.{BTreeMap, get, btree_map_len}
use Rattle.std.specs.BTreeSet.{BTreeSet, contains}
use Rattle.std.specs.List.{list_any}
use Rattle.std.proofs.lemmas.Bool.Decides.{eqb_tells}
use Rattle.std.proofs.lemmas.Cmp.{nat_list_eq_equiv}
use Rattle.program_rules.specs.Names.{Name, same}
use Rattle.program_rules.specs.Linked.{method_from}
use Rattle.type_rules.specs.Rules.{is_first}
use Rattle.class_link.specs.declared.linked.Entry.{Entry}
use Rattle.class_link.specs.declared.linked.LinkedMethod.{LinkedMethod}
use Rattle.class_link.specs.View.{method_of}
use Rattle.type_verifier.specs.Pairs.{pair_cmp}
use Rattle.type_verifier.proofs.Ties.{same_pair}
use Rattle.type_verifier.specs.ProgramHeads.{declares, AreWords, IsNumber, pair_met, AreNoted}

-- ---- one more number

module _ (old new : BTreeMap Name ℕ) (text : Name) (are : AreWords old) (absent : get (slice_cmp nat_cmp) old text ≡ None) (adds : (q : Name) → get (slice_cmp nat_cmp) new q ≡ cond (same text q) (Some (btree_map_len old)) (get (slice_cmp nat_cmp) old q)) (long : btree_map_len new ≡ btree_map_len old + 1) where
  old_or_new : (n : Name) (w : ℕ) → get (slice_cmp nat_cmp) new n ≡ Some w → ((text ≡ n) × (w ≡ btree_map_len old)) ⊎ (get (slice_cmp nat_cmp) old n ≡ Some w)
  old_or_new n w e = by_test (same text n) refl (sym (adds n) ∙ e)
    where
      by_test : (t : Bool) → t ≡ same text n → cond t (Some (btree_map_len old)) (get (slice_cmp nat_cmp) old n) ≡ Some w → ((text ≡ n) × (w ≡ btree_map_len old)) ⊎ (get (slice_cmp nat_cmp) old n ≡ Some w)
      by_test true same_is e = inl (same_text text n same_is, (let p : btree_map_len old ≡ w = cc in sym p))
      by_test false same_is e = inr e

  one_added : (n k : Name) (w : ℕ) → get (slice_cmp nat_cmp) new n ≡ Some w → get (slice_cmp nat_cmp) new k ≡ Some w → n ≡ k
  one_added n k w en ek =
      elim (old_or_new n w en) [
        | inl h ↦ elim (old_or_new k w ek) [
          | inl g ↦ sym h.0 ∙ g.0
          | inr g ↦ (let lt = are.below k w g in absurd (omega (arith, lt, h.1)))
        ]
        | inr h ↦ elim (old_or_new k w ek) [
          | inl g ↦ (let lt = are.below n w h in absurd (omega (arith, lt, g.1)))
          | inr g ↦ are.one n k w h g
        ]
      ]

  below_added : (n : Name) (w : ℕ) → get (slice_cmp nat_cmp) new n ≡ Some w → w < btree_map_len new
  below_added n w en =
      elim (old_or_new n w en) [
        | inl h ↦ omega (arith, h.1, long)
        | inr h ↦ (let lt = are.below n w h in omega (arith, lt, long))
      ]

  kept_test : (n : Name) (w : ℕ) (t : Bool) → t ≡ same text n → get (slice_cmp nat_cmp) old n ≡ Some w → cond t (Some (btree_map_len old)) (get (slice_cmp nat_cmp) old n) ≡ Some w
  kept_test n w true e g = absurd (let h : None ≡ Some w = sym absent ∙ ap (get (slice_cmp nat_cmp) old) (same_text text n e) ∙ g in cc)
  kept_test n w false e g = g

  fresh_added : (n : Name) (w : ℕ) → get (slice_cmp nat_cmp) new n ≡ Some w → get (slice_cmp nat_cmp) old n ≡ None → btree_map_len old ≤ w
  fresh_added n w en none =
      elim (old_or_new n w en) [
        | inl h ↦ omega (arith, h.1)
        | inr h ↦ absurd (let g : None ≡ Some w = sym none ∙ h in cc)
      ]

  pub number_added : IsNumber old new text (btree_map_len old)
  number_added = record {
    words = record { one = one_added; below = below_added };
    kept = λ n w g. adds n ∙ kept_test n w (same text n) refl g;
    fresh = fresh_added;
    longer = omega (arith, long);
    number = adds text ∙ ap (λ t. cond t (Some (btree_map_len old)) (get (slice_cmp nat_cmp) old text)) (nat_list_eq_equiv.refl text);
  }

pub number_found : (words : BTreeMap Name ℕ) (text : Name) (k : ℕ) → AreWords words → get (slice_cmp nat_cmp) words text ≡ Some k → IsNumber words words text k
number_found words text k are e = record {
  words = are;
  kept = λ n w g. g;
  fresh = λ n w g none. absurd (let h : None ≡ Some w = sym none ∙ g in cc);
  longer = omega arith;
  number = e;
}

-- ---- what was met stays so

not_true : (b : Bool) → (b ≡ true → ⊥) → b ≡ false
not_true true h = absurd (h refl)
not_true false h = refl

module _ (old new : BTreeMap Name ℕ) (met : BTreeSet (ℕ × ℕ)) (text : Name) (k : ℕ) (ms : List LinkedMethod) (grown : IsNumber old new text k) (are : AreNoted old met ms) where
  left_new : (n : Name) (a b : ℕ) → get (slice_cmp nat_cmp) new n ≡ Some a → get (slice_cmp nat_cmp) old n ≡ None → contains pair_cmp met (a, b) ≡ false
  left_new n a b e none = not_true (contains pair_cmp met (a, b)) (λ h. (let l : a < btree_map_len old = are.first (a, b) h in let f = grown.fresh n a e none in omega (arith, l, f)))

  right_new : (d : Name) (a b : ℕ) → get (slice_cmp nat_cmp) new d ≡ Some b → get (slice_cmp nat_cmp) old d ≡ None → contains pair_cmp met (a, b) ≡ false
  right_new d a b e none = not_true (contains pair_cmp met (a, b)) (λ h. (let l : b < btree_map_len old = are.second (a, b) h in let f = grown.fresh d b e none in omega (arith, l, f)))

  pair_case : (n d : Name) (u v x y : Option ℕ) → get (slice_cmp nat_cmp) old n ≡ u → get (slice_cmp nat_cmp) old d ≡ v → get (slice_cmp nat_cmp) new n ≡ x → get (slice_cmp nat_cmp) new d ≡ y → pair_met met x y ≡ pair_met met u v
  pair_case n d (Some a) (Some b) x y eu ev ex ey =
      ap (λ z. pair_met met z y) (sym ex ∙ grown.kept n a eu) ∙ ap (pair_met met (Some a)) (sym ey ∙ grown.kept d b ev)
  pair_case n d (Some a) None None y eu ev ex ey = refl
  pair_case n d (Some a) None (Some c) None eu ev ex ey = refl
  pair_case n d (Some a) None (Some c) (Some e) eu ev ex ey = right_new d c e ey ev
  pair_case n d None v None y eu ev ex ey = refl
  pair_case n d None v (Some c) None eu ev ex ey = refl
  pair_case n d None v (Some c) (Some e) eu ev ex ey = left_new n c e ex eu

  pub noted_on : AreNoted new met ms
  noted_on = record {
    numbers = grown.words;
    first = λ h e. (let l = are.first h e in omega (arith, l, grown.longer));
    second = λ h e. (let l = are.second h e in omega (arith, l, grown.longer));
    noted = λ n d. pair_case n d (get (slice_cmp nat_cmp) old n) (get (slice_cmp nat_cmp) old d) (get (slice_cmp nat_cmp) new n) (get (slice_cmp nat_cmp) new d) refl refl refl refl ∙ are.noted n d;
  }

-- ---- one more method

module _ (words : BTreeMap Name ℕ) (are : AreWords words) where
  differ : (k n : Name) (a b : ℕ) (t : Bool) → t ≡ same k n → get (slice_cmp nat_cmp) words k ≡ Some a → get (slice_cmp nat_cmp) words n ≡ Some b → a ≢ b → false ≡ t
  differ k n a b true e ka nb apart =
      let one : k ≡ n = same_text k n e in
      let there : Some a ≡ Some b = sym ka ∙ ap (get (slice_cmp nat_cmp) words) one ∙ nb in
      absurd (apart cc)
  differ k n a b false e ka nb apart = refl

  word_same : (k n : Name) (a b : ℕ) → get (slice_cmp nat_cmp) words k ≡ Some a → get (slice_cmp nat_cmp) words n ≡ Some b → nat_eq a b ≡ same k n
  word_same k n a b ka nb =
      elim (eqb_tells a b) [
        | inl h ↦ h.0 ∙ sym ((bytes_decides k n).1 (are.one k n a ka (nb ∙ ap Some (sym h.1))))
        | inr h ↦ h.0 ∙ differ k n a b (same k n) refl ka nb h.1
      ]

  unnumbered : (k n : Name) (a : ℕ) (t : Bool) → t ≡ same k n → get (slice_cmp nat_cmp) words k ≡ Some a → get (slice_cmp nat_cmp) words n ≡ None → t ≡ false
  unnumbered k n a true e ka none =
      absurd (let there : Some a ≡ None = sym ka ∙ ap (get (slice_cmp nat_cmp) words) (same_text k n e) ∙ none in cc)
  unnumbered k n a false e ka none = refl

and_false : (t : Bool) → (t && false) ≡ false
and_false true = refl
and_false false = refl

or_false : (t : Bool) → t ≡ (t || false)
or_false true = refl
or_false false = refl

or_or : (t r s : Bool) → (t || (r || s)) ≡ ((t || r) || s)
or_or true r s = refl
or_or false r s = refl

any_more : {A : Type 0} (p : A → Bool) (xs : List A) (x : A) → list_any p (xs ++ x ∷ []) ≡ (list_any p xs || p x)
any_more p [] x = sym (or_false (p x))
any_more p (y ∷ xs) x = ap (λ b. p y || b) (any_more p xs x) ∙ or_or (p y) (list_any p xs) (p x)

one_more : (t r : Bool) → cond t true r ≡ (r || t)
one_more true true = refl
one_more true false = refl
one_more false true = refl
one_more false false = refl

same_first : (a b c d : ℕ) (t : Bool) → t ≡ nat_eq a c → (t && nat_eq b d) ≡ true → a ≡ c
same_first a b c d t e h = elim (eqb_tells a c) [
  | inl x ↦ x.1
  | inr x ↦ absurd (let f : false ≡ true = sym (ap (λ z. z && nat_eq b d) (e ∙ x.0)) ∙ h in cc)
]

same_second : (b d : ℕ) (t : Bool) → (t && nat_eq b d) ≡ true → b ≡ d
same_second b d true h = elim (eqb_tells b d) [
  | inl x ↦ x.1
  | inr x ↦ absurd (let f : false ≡ true = sym x.0 ∙ h in cc)
]
same_second b d false h = absurd cc

module _ (words : BTreeMap Name ℕ) (old new : BTreeSet (ℕ × ℕ)) (m : LinkedMethod) (a b : ℕ) (ms : List LinkedMethod) (are : AreNoted words old ms) (name : get (slice_cmp nat_cmp) words m.name ≡ Some a) (desc : get (slice_cmp nat_cmp) words m.desc ≡ Some b) (adds : (q : ℕ × ℕ) → contains pair_cmp new q ≡ cond (same_pair (a, b) q) true (contains pair_cmp old q)) where
  pub first_met : contains pair_cmp old (a, b) ≡ declares m.name m.desc ms
  first_met = ap (λ x. pair_met old x (Some b)) (sym name) ∙ ap (pair_met old (get (slice_cmp nat_cmp) words m.name)) (sym desc) ∙ are.noted m.name m.desc

  there_test : (h : ℕ × ℕ) (t : Bool) → t ≡ same_pair (a, b) h → cond t true (contains pair_cmp old h) ≡ true → (h.0 < btree_map_len words) × (h.1 < btree_map_len words)
  there_test h true e g =
      let l = are.numbers.below m.name a name in
      let r = are.numbers.below m.desc b desc in
      let p : a ≡ h.0 = same_first a b h.0 h.1 (nat_eq a h.0) refl (sym e) in
      let q : b ≡ h.1 = same_second b h.1 (nat_eq a h.0) (sym e) in
      (subst (λ n. n < btree_map_len words) p l, subst (λ n. n < btree_map_len words) q r)
  there_test h false e g = (are.first h g, are.second h g)

  more_case : (n d : Name) (x y : Option ℕ) → get (slice_cmp nat_cmp) words n ≡ x → get (slice_cmp nat_cmp) words d ≡ y → pair_met new x y ≡ (pair_met old x y || (same m.name n && same m.desc d))
  more_case n d (Some w) (Some v) ex ey =
      adds (w, v) ∙ one_more (same_pair (a, b) (w, v)) (contains pair_cmp old (w, v))
      ∙ ap (λ t. contains pair_cmp old (w, v) || (t && nat_eq b v)) (word_same words are.numbers m.name n a w name ex)
      ∙ ap (λ t. contains pair_cmp old (w, v) || (same m.name n && t)) (word_same words are.numbers m.desc d b v desc ey)
  more_case n d (Some w) None ex ey =
      sym (ap (λ t. false || (same m.name n && t)) (unnumbered words are.numbers m.desc d b (same m.desc d) refl desc ey) ∙ and_false (same m.name n))
  more_case n d None y ex ey =
      sym (ap (λ t. false || (t && same m.desc d)) (unnumbered words are.numbers m.name n a (same m.name n) refl name ex))

  pub noted_more : AreNoted words new (ms ++ m ∷ [])
  noted_more = record {
    numbers = are.numbers;
    first = λ h e. (there_test h (same_pair (a, b) h) refl (sym (adds h) ∙ e)).0;
    second = λ h e. (there_test h (same_pair (a, b) h) refl (sym (adds h) ∙ e)).1;
    noted = λ n d.
        more_case n d (get (slice_cmp nat_cmp) words n) (get (slice_cmp nat_cmp) words d) refl refl
        ∙ ap (λ t. t || (same m.name n && same m.desc d)) (are.noted n d)
        ∙ sym (any_more (λ k. same k.name n && same k.desc d) ms m);
  }

-- ---- the first of its name and descriptor

eq_same : (i j : ℕ) → i ≡ j → nat_eq i j ≡ true
eq_same i j e = elim (eqb_tells i j) [
  | inl x ↦ x.0
  | inr x ↦ absurd (x.1 e)
]

eq_other : (i j : ℕ) → i ≢ j → nat_eq i j ≡ false
eq_other i j e = elim (eqb_tells i j) [
  | inl x ↦ absurd (e x.1)
  | inr x ↦ x.0
]

behind_test : (t : Bool) (i k : ℕ) (rest : Option ℕ) (others : Bool) → is_first rest (suc i + k) ≡ not others → is_first (if t then Some i else rest) (i + suc k) ≡ not (t || others)
behind_test true i k rest others e = eq_other i (i + suc k) (λ h. omega (arith, h))
behind_test false i k rest others e = (let p : i + suc k ≡ suc i + k = omega arith in ap (is_first rest) p) ∙ e

pub first_from : (es : List Entry) (ms : List LinkedMethod) (k i : ℕ) (m : LinkedMethod) → slice_get ms k ≡ Some m → is_first (method_from m.name m.desc i (map (method_of es) ms)) (i + k) ≡ not (declares m.name m.desc (take k ms))
first_from es [] k i m h = absurd cc
first_from es (x ∷ ms) zero i m h =
    let one : x ≡ m = cc in
    ap (λ z. is_first (if same z.name m.name && same z.desc m.desc then Some i else method_from m.name m.desc (suc i) (map (method_of es) ms)) (i + 0)) one
    ∙ ap (λ t. is_first (if t && same m.desc m.desc then Some i else method_from m.name m.desc (suc i) (map (method_of es) ms)) (i + 0)) (nat_list_eq_equiv.refl m.name)
    ∙ ap (λ t. is_first (if t then Some i else method_from m.name m.desc (suc i) (map (method_of es) ms)) (i + 0)) (nat_list_eq_equiv.refl m.desc)
    ∙ eq_same i (i + 0) (omega arith)
first_from es (x ∷ ms) (suc k) i m h =
    behind_test (same x.name m.name && same x.desc m.desc) i k (method_from m.name m.desc (suc i) (map (method_of es) ms)) (declares m.name m.desc (take k ms)) (first_from es ms k (suc i) m h)
