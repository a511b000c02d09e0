-- What stands above a class is what its walk comes to behind it.
use Rattle.std.proofs.Common.{◌≡◌, ◌∙◌, sym, refl, ap, subst, ◌⊎◌, inl, inr, ℕ, zero, suc, ◌+◌, ◌<◌, ◌≤◌, Bool, true, false, not, cond, List, [], ◌∷◌, ◌++◌, map, length, take, drop, Option, None, Some, slice_get, arith}
use Rattle.std.specs.Prelude.{◌||◌, if◌then◌else◌}
use Rattle.std.specs.List.{list_any}
use Rattle.std.specs.Cmp.Lexicographic.{same_text}
use Rattle.program_rules.specs.Names.{Name, same, is_listed}
use Rattle.program_rules.specs.Linked.{Linked, parents_of, parents_with}
use Rattle.program_rules.specs.Outlines.{outline_of}
use Rattle.program_rules.specs.Programs.{Look, Searching, nodes, supers, concat_over, option_list}
use Rattle.class_order.specs.Supers.{IsBelow, next, further}
use Rattle.class_order.specs.Ranks.{HasRanks}
use Rattle.class_order.proofs.Within.{same_itself, or_either, or_first, or_second, listed_left, listed_right, listed_either, IsWithin, walked_within, within_walked}
use Rattle.class_family.specs.Once.{each_once}
use Rattle.class_family.specs.Families.{names_in}
use Rattle.class_family.specs.Above.{is_above}
use Rattle.class_family.specs.Walks.{steps}
use Rattle.class_family.proofs.Onces.{others}
use Rattle.class_family.proofs.Pushing.{append_nil}
use Rattle.class_family.proofs.Levels.{walk_step, steps_in_parents}

-- ---- names

pub equal_tests : (x y : Bool) → (x ≡ true → y ≡ true) → (y ≡ true → x ≡ true) → x ≡ y
equal_tests true y f g = sym (f refl)
equal_tests false true f g = g refl
equal_tests false false f g = refl

pub of_one : (f : Name → List Name) (b : Name) (ns : List Name) → is_listed b (concat_over f ns) ≡ true → (m : Name) × (is_listed m ns ≡ true) × (is_listed b (f m) ≡ true)
of_one f b [] e = absurd cc
of_one f b (n ∷ ns) e = elim (listed_either b (f n) (concat_over f ns) e) [
  | inl h ↦ (n, or_first (same n n) (is_listed n ns) (same_itself n), h)
  | inr h ↦ (let r = of_one f b ns h in (r.0, or_second (same n r.0) (is_listed r.0 ns) r.1, r.2))
]

pub in_all : (f : Name → List Name) (b m : Name) (ns : List Name) → is_listed m ns ≡ true → is_listed b (f m) ≡ true → is_listed b (concat_over f ns) ≡ true
in_all f b m [] e h = absurd cc
in_all f b m (n ∷ ns) e h = elim (or_either (same n m) (is_listed m ns) e) [
  | inl s ↦ listed_left b (f n) (concat_over f ns) (subst (λ x. is_listed b (f x) ≡ true) (sym (same_text n m (sym s))) h)
  | inr k ↦ listed_right b (f n) (concat_over f ns) (in_all f b m ns k h)
]

other_way : (n x : Name) → same n x ≡ false → same x n ≡ false
other_way n x e = equal_tests (same x n) false (λ f. sym e ∙ ap (same n) (same_text x n (sym f)) ∙ same_itself n) (λ f. absurd cc)

-- a name is among others where it is another one
pub others_listed : (n m : Name) (ns : List Name) → is_listed m (others n ns) ≡ cond (same n m) false (is_listed m ns)
others_listed n m [] = by_test (same n m)
  where
    by_test : (b : Bool) → false ≡ cond b false false
    by_test true = refl
    by_test false = refl
others_listed n m (x ∷ ns) = by_test (same n x) refl (same n m) refl (others_listed n m ns)
  where
    by_test : (b : Bool) → same n x ≡ b → (t : Bool) → same n m ≡ t → is_listed m (others n ns) ≡ cond t false (is_listed m ns) → is_listed m (cond (not b) (x ∷ others n ns) (others n ns)) ≡ cond t false (same x m || is_listed m ns)
    by_test true e true h rest = rest
    by_test true e false h rest = rest ∙ ap (λ b. b || is_listed m ns) (sym h ∙ ap (λ y. same y m) (same_text n x (sym e)))
    by_test false e true h rest = ap (λ b. b || is_listed m (others n ns)) (sym (ap (same x) (same_text n m (sym h))) ∙ other_way n x e) ∙ rest
    by_test false e false h rest = ap (λ b. same x m || b) rest

pub once_listed : (m : Name) (ns : List Name) → is_listed m (each_once ns) ≡ is_listed m ns
once_listed m [] = refl
once_listed m (n ∷ ns) = by_test (same n m) (others_listed n m (each_once ns)) (once_listed m ns)
  where
    by_test : (b : Bool) → is_listed m (others n (each_once ns)) ≡ cond b false (is_listed m (each_once ns)) → is_listed m (each_once ns) ≡ is_listed m ns → (b || is_listed m (others n (each_once ns))) ≡ (b || is_listed m ns)
    by_test true e rest = refl
    by_test false e rest = e ∙ rest

-- ---- above

module _ (p : Look) where
  pub below_further : (a b c : Name) → IsBelow p a b → IsBelow p b c → IsBelow p a c
  below_further a b c (next x y l) h = further a b c l h
  below_further a b c (further x y z l rest) h = further a y c l (below_further y b c rest h)

  pub first_below : (a b c : Name) → is_listed b (parents_of (p a)) ≡ true → IsWithin p b c → IsBelow p a c
  first_below a b c l h = elim h [
    | inl e ↦ next a c (subst (λ x. is_listed x (parents_of (p a)) ≡ true) e l)
    | inr below ↦ further a b c l below
  ]

  parents_in_steps : (c : Option Linked) (m : Name) → is_listed m (parents_of c) ≡ true → is_listed m (steps Searching (outline_of c)) ≡ true
  parents_in_steps None m e = e
  parents_in_steps (Some c) m e = by_parent c.parent refl e
    where
      by_parent : (q : Option Name) → c.parent ≡ q → is_listed m (parents_with q c.interfaces) ≡ true → is_listed m (c.interfaces ++ option_list c.parent) ≡ true
      by_parent None named h = listed_left m c.interfaces (option_list c.parent) h
      by_parent (Some n) named h = elim (or_either (same n m) (is_listed m c.interfaces) h) [
        | inl s ↦ listed_right m c.interfaces (option_list c.parent) (subst (λ o. is_listed m (option_list o) ≡ true) (sym named) (or_first (same n m) false s))
        | inr l ↦ listed_left m c.interfaces (option_list c.parent) l
      ]

  module _ (ranks : HasRanks p) where
    pub below_rank : (a b : Name) → IsBelow p a b → ranks.rank b < ranks.rank a
    below_rank a b (next x y l) = ranks.lower a b l
    below_rank a b (further x y z l rest) = let lt = ranks.lower a y l in let less = below_rank y b rest in omega (arith, lt, less)

    pub below_other : (a b : Name) → IsBelow p a b → same a b ≡ false
    below_other a b h = equal_tests (same a b) false (λ e. let lt = below_rank a b h in let r : ranks.rank a ≡ ranks.rank b = ap ranks.rank (same_text a b (sym e)) in absurd (omega (arith, lt, r))) (λ f. absurd cc)

    pub below_above : (a b : Name) → IsBelow p a b → is_above p a b ≡ true
    below_above a b h = ap (λ t. if t then false else is_listed b (supers p a)) (below_other a b h) ∙ within_walked p ranks a b (inr h)

    above_by : (a b : Name) (t : Bool) → same a b ≡ t → (if t then false else is_listed b (supers p a)) ≡ true → IsBelow p a b
    above_by a b true s e = absurd cc
    above_by a b false s e = elim (walked_within p a b e) [
      | inl one ↦ (let own : same a b ≡ true = subst (λ x. same a x ≡ true) one (same_itself a) in absurd cc)
      | inr below ↦ below
    ]

    pub above_below : (a b : Name) → is_above p a b ≡ true → IsBelow p a b
    above_below a b e = above_by a b (same a b) refl e

    pub above_further : (a b c : Name) → is_above p a b ≡ true → is_above p b c ≡ true → is_above p a c ≡ true
    above_further a b c e h = below_above a c (below_further a b c (above_below a b e) (above_below b c h))

    -- ---- the walk of a search comes to what is above

    abbrev searched : Name → List Name
    searched n = names_in (nodes Searching p n)

    searched_step : (n : Name) → searched n ≡ n ∷ concat_over searched (steps Searching (outline_of (p n)))
    searched_step n = walk_step p ranks Searching n ∙ ap (λ l. n ∷ l) (append_nil (concat_over searched (steps Searching (outline_of (p n)))))

    in_searched : (n m : Name) → is_listed m (concat_over searched (steps Searching (outline_of (p n)))) ≡ true → is_listed m (searched n) ≡ true
    in_searched n m h = ap (is_listed m) (searched_step n) ∙ or_second (same n m) (is_listed m (concat_over searched (steps Searching (outline_of (p n))))) h

    own_searched : (n : Name) → is_listed n (searched n) ≡ true
    own_searched n = ap (is_listed n) (searched_step n) ∙ or_first (same n n) (is_listed n (concat_over searched (steps Searching (outline_of (p n))))) (same_itself n)

    below_searched : (n m : Name) → IsBelow p n m → is_listed m (searched n) ≡ true
    below_searched n m (next x y l) = in_searched n m (in_all searched m m (steps Searching (outline_of (p n))) (parents_in_steps (p n) m l) (own_searched m))
    below_searched n m (further x y z l rest) = in_searched n m (in_all searched m y (steps Searching (outline_of (p n))) (parents_in_steps (p n) y l) (below_searched y m rest))

    pub within_searched : (n m : Name) → IsWithin p n m → is_listed m (searched n) ≡ true
    within_searched n m h = elim h [
      | inl e ↦ subst (λ x. is_listed x (searched n) ≡ true) e (own_searched n)
      | inr below ↦ below_searched n m below
    ]

    split : (n m : Name) → is_listed m (searched n) ≡ true → (same n m ≡ true) ⊎ (is_listed m (concat_over searched (steps Searching (outline_of (p n)))) ≡ true)
    split n m h = or_either (same n m) (is_listed m (concat_over searched (steps Searching (outline_of (p n))))) (sym (ap (is_listed m) (searched_step n)) ∙ h)

    searched_by : (k : ℕ) (n m : Name) → ranks.rank n ≤ k → is_listed m (searched n) ≡ true → IsWithin p n m
    searched_by zero n m le h = elim (split n m h) [
      | inl s ↦ inl (same_text n m (sym s))
      | inr l ↦
          let r = of_one searched m (steps Searching (outline_of (p n))) l in
          let lt = ranks.lower n r.0 (steps_in_parents Searching (p n) r.0 r.1) in
          absurd (omega (arith, le, lt))
    ]
    searched_by (suc k) n m le h = elim (split n m h) [
      | inl s ↦ inl (same_text n m (sym s))
      | inr l ↦
          let r = of_one searched m (steps Searching (outline_of (p n))) l in
          let up = steps_in_parents Searching (p n) r.0 r.1 in
          let lt = ranks.lower n r.0 up in
          inr (first_below n r.0 m up (searched_by k r.0 m (omega (arith, le, lt)) r.2))
    ]

    pub searched_within : (n m : Name) → is_listed m (searched n) ≡ true → IsWithin p n m
    searched_within n m h = searched_by (ranks.rank n) n m (omega arith) h

    -- the walks of the supers have what is above
    pub steps_above : (n m : Name) → is_listed m (concat_over searched (steps Searching (outline_of (p n)))) ≡ is_above p n m
    steps_above n m = equal_tests (is_listed m (concat_over searched (steps Searching (outline_of (p n))))) (is_above p n m) onwards back
      where
        onwards : is_listed m (concat_over searched (steps Searching (outline_of (p n)))) ≡ true → is_above p n m ≡ true
        onwards l =
            let r = of_one searched m (steps Searching (outline_of (p n))) l in
            below_above n m (first_below n r.0 m (steps_in_parents Searching (p n) r.0 r.1) (searched_within r.0 m r.2))

        by_below : (a b : Name) → IsBelow p a b → is_listed b (concat_over searched (steps Searching (outline_of (p a)))) ≡ true
        by_below a b (next x y l) = in_all searched b b (steps Searching (outline_of (p a))) (parents_in_steps (p a) b l) (own_searched b)
        by_below a b (further x y z l rest) = in_all searched b y (steps Searching (outline_of (p a))) (parents_in_steps (p a) y l) (below_searched y b rest)

        back : is_above p n m ≡ true → is_listed m (concat_over searched (steps Searching (outline_of (p n)))) ≡ true
        back e = by_below n m (above_below n m e)
