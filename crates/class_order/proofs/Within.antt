-- The walk over what stands above a class has exactly what stands above it, since ranks are below
-- its levels.
use Rattle.std.proofs.Common.{◌≡◌, ◌⊎◌, inl, inr, sym, refl, subst, ℕ, zero, suc, ◌≤◌, Bool, true, false, List, [], ◌∷◌, ◌++◌, arith}
use Rattle.std.specs.Prelude.{◌||◌}
use Rattle.std.specs.Cmp.Lexicographic.{same_text, bytes_decides}
use Rattle.program_rules.specs.Names.{Name, same, is_listed}
use Rattle.program_rules.specs.Linked.{parents_of}
use Rattle.program_rules.specs.Programs.{Look, concat_over, supers_within, supers}
use Rattle.class_order.specs.Supers.{IsBelow, next, further}
use Rattle.class_order.specs.Ranks.{HasRanks}

pub same_itself : (n : Name) → same n n ≡ true
same_itself n = (bytes_decides n n).1 refl

pub or_either : (x y : Bool) → (x || y) ≡ true → (x ≡ true) ⊎ (y ≡ true)
or_either true y e = inl refl
or_either false y e = inr e

pub or_first : (x y : Bool) → x ≡ true → (x || y) ≡ true
or_first true y e = refl
or_first false y e = absurd cc

pub or_second : (x y : Bool) → y ≡ true → (x || y) ≡ true
or_second true y e = refl
or_second false y e = e

pub listed_left : (m : Name) (xs ys : List Name) → is_listed m xs ≡ true → is_listed m (xs ++ ys) ≡ true
listed_left m [] ys e = absurd cc
listed_left m (x ∷ xs) ys e = elim (or_either (same x m) (is_listed m xs) e) [ inl h ↦ or_first (same x m) (is_listed m (xs ++ ys)) h | inr h ↦ or_second (same x m) (is_listed m (xs ++ ys)) (listed_left m xs ys h) ]

pub listed_right : (m : Name) (xs ys : List Name) → is_listed m ys ≡ true → is_listed m (xs ++ ys) ≡ true
listed_right m [] ys e = e
listed_right m (x ∷ xs) ys e = or_second (same x m) (is_listed m (xs ++ ys)) (listed_right m xs ys e)

pub listed_either : (m : Name) (xs ys : List Name) → is_listed m (xs ++ ys) ≡ true → (is_listed m xs ≡ true) ⊎ (is_listed m ys ≡ true)
listed_either m [] ys e = inr e
listed_either m (x ∷ xs) ys e = elim (or_either (same x m) (is_listed m (xs ++ ys)) e) [
  | inl h ↦ inl (or_first (same x m) (is_listed m xs) h)
  | inr h ↦ elim (listed_either m xs ys h) [ inl k ↦ inl (or_second (same x m) (is_listed m xs) k) | inr k ↦ inr k ]
]

-- A class is another one, or stands below it.
abbrev pub IsWithin : Look → Name → Name → Type 0
IsWithin p a b = (a ≡ b) ⊎ IsBelow p a b

-- a name of the walks from these names is of the walk from one of them
of_one : (f : Name → List Name) (b : Name) (ns : List Name) → is_listed b (concat_over f ns) ≡ true → (m : Name) × (is_listed m ns ≡ true) × (is_listed b (f m) ≡ true)
of_one f b [] e = absurd cc
of_one f b (n ∷ ns) e = elim (listed_either b (f n) (concat_over f ns) e) [
  | inl h ↦ (n, or_first (same n n) (is_listed n ns) (same_itself n), h)
  | inr h ↦ (let r = of_one f b ns h in (r.0, or_second (same n r.0) (is_listed r.0 ns) r.1, r.2))
]

in_all : (f : Name → List Name) (b m : Name) (ns : List Name) → is_listed m ns ≡ true → is_listed b (f m) ≡ true → is_listed b (concat_over f ns) ≡ true
in_all f b m [] e h = absurd cc
in_all f b m (n ∷ ns) e h = elim (or_either (same n m) (is_listed m ns) e) [
  | inl s ↦ listed_left b (f n) (concat_over f ns) (subst (λ x. is_listed b (f x) ≡ true) (sym (same_text n m (sym s))) h)
  | inr k ↦ listed_right b (f n) (concat_over f ns) (in_all f b m ns k h)
]

-- each name of a walk stands above its first one
walk_above : (k : ℕ) (p : Look) (a b : Name) → is_listed b (supers_within k p a) ≡ true → IsWithin p a b
walk_above zero p a b e = elim (or_either (same a b) false e) [ inl s ↦ inl (same_text a b (sym s)) | inr f ↦ absurd (let q : false ≡ true = f in cc) ]
walk_above (suc k) p a b e = elim (or_either (same a b) (is_listed b (concat_over (supers_within k p) (parents_of (p a)))) e) [
  | inl s ↦ inl (same_text a b (sym s))
  | inr h ↦
      let r = of_one (supers_within k p) b (parents_of (p a)) h in
      elim (walk_above k p r.0 b r.2) [
        | inl same_one ↦ inr (next a b (subst (λ x. is_listed x (parents_of (p a)) ≡ true) same_one r.1))
        | inr below ↦ inr (further a r.0 b r.1 below)
      ]
]

module _ (p : Look) where
  walk_itself : (k : ℕ) (a : Name) → is_listed a (supers_within k p a) ≡ true
  walk_itself zero a = or_first (same a a) false (same_itself a)
  walk_itself (suc k) a = or_first (same a a) (is_listed a (concat_over (supers_within k p) (parents_of (p a)))) (same_itself a)

  pub walked_within : (a b : Name) → is_listed b (supers p a) ≡ true → IsWithin p a b
  unfolding supers
  walked_within a b e = walk_above 4294967296 p a b e

  module _ (ranks : HasRanks p) where
    -- the walk has all that stands above, where it has as many levels as the rank
    below_walked : (k : ℕ) (a b : Name) → IsBelow p a b → ranks.rank a ≤ k → is_listed b (supers_within k p a) ≡ true
    below_walked zero a b (next x y l) le = let lt = ranks.lower a b l in absurd (omega (arith, lt, le))
    below_walked zero a b (further x y z l rest) le = let lt = ranks.lower a y l in absurd (omega (arith, lt, le))
    below_walked (suc k) a b (next x y l) le = or_second (same a b) (is_listed b (concat_over (supers_within k p) (parents_of (p a)))) (in_all (supers_within k p) b b (parents_of (p a)) l (walk_itself k b))
    below_walked (suc k) a b (further x y z l rest) le = let lt = ranks.lower a y l in or_second (same a b) (is_listed b (concat_over (supers_within k p) (parents_of (p a)))) (in_all (supers_within k p) b y (parents_of (p a)) l (below_walked k y b rest (omega (arith, lt, le))))

    pub within_walked : (a b : Name) → IsWithin p a b → is_listed b (supers p a) ≡ true
    unfolding supers
    within_walked a b h = elim h [
      | inl e ↦ subst (λ x. is_listed x (supers_within 4294967296 p a) ≡ true) e (walk_itself 4294967296 a)
      | inr l ↦ below_walked 4294967296 a b l (let lt = ranks.few a in omega (arith, lt))
    ]
