-- A sorted list of pairs in which equal neighbours stand once is the list that puts them in order.
use Rattle.std.proofs.Common.{◌≡◌, ◌∙◌, ℕ, ◌<◌, Bool, true, false, cond, ◌&&◌, ◌||◌, eqb, ltb, List, [], ◌∷◌, Ordering, Less, Equal, Greater, refl, sym, ap, ap₂, subst, ⊎_elim, ◌⊎◌, inl, inr, arith}
use Rattle.std.specs.Prelude.{nat_eq, nat_lt, if◌then◌else◌}
use Rattle.std.specs.List.{AllByRecursion, dedup, dedup_from, fold, list_any}
use Rattle.std.specs.List.Sorted.{IsPermutation, IsSorted, IsStrictlySortedBy}
use Rattle.std.specs.Ordering.{eq_by_cmp, is_eq, nat_cmp, ordering_then}
use Rattle.std.specs.Cmp.{IsTotalOrder}
use Rattle.std.proofs.lemmas.Bool.{and_from, cases_order, eqb-true, eq-eqb, ltb-true, lt-ltb}
use Rattle.std.proofs.lemmas.List.Kept.{IsStrictlySortedBy-dedup}
use Rattle.std.proofs.lemmas.List.Sorted.{list_any-IsPermutation}
use Rattle.record_rules.specs.Records.{is_before, put_pair}

abbrev Pair : Type 0
Pair = ℕ × ℕ

or_cases : (a b : Bool) → (a || b) ≡ true → (a ≡ true) ⊎ (b ≡ true)
or_cases true b h = inl refl
or_cases false b h = inr h

both : (a b : Bool) → (a && b) ≡ true → (a ≡ true) × (b ≡ true)
both true b h = (refl, h)
both false b h = absurd cc

-- ---- one pair before another

abbrev Before : Pair → Pair → Type 0
Before x y = (x.0 < y.0) ⊎ ((x.0 ≡ y.0) × (x.1 < y.1))

before_is : (x y : Pair) → is_before x y ≡ true → Before x y
before_is x y h =
    ⊎_elim (λ (e : nat_lt x.0 y.0 ≡ true). inl (ltb-true x.0 y.0 e))
    (λ (e : (nat_eq x.0 y.0 && nat_lt x.1 y.1) ≡ true). let p = both (nat_eq x.0 y.0) (nat_lt x.1 y.1) e in inr (eqb-true x.0 y.0 p.0, ltb-true x.1 y.1 p.1))
    (or_cases (nat_lt x.0 y.0) (nat_eq x.0 y.0 && nat_lt x.1 y.1) h)

or_first : (a b : Bool) → a ≡ true → (a || b) ≡ true
or_first true b h = refl
or_first false b h = absurd cc

or_second : (a b : Bool) → b ≡ true → (a || b) ≡ true
or_second true b h = refl
or_second false b h = h

before_from : (x y : Pair) → Before x y → is_before x y ≡ true
before_from x y (inl lt) = or_first (nat_lt x.0 y.0) (nat_eq x.0 y.0 && nat_lt x.1 y.1) (lt-ltb x.0 y.0 lt)
before_from x y (inr p) = or_second (nat_lt x.0 y.0) (nat_eq x.0 y.0 && nat_lt x.1 y.1) (and_from (nat_eq x.0 y.0) (nat_lt x.1 y.1) (eq-eqb x.0 y.0 p.0) (lt-ltb x.1 y.1 p.1))

trans : (x y z : Pair) → Before x y → Before y z → Before x z
trans x y z (inl a) (inl b) = inl (omega (arith, a, b))
trans x y z (inl a) (inr b) = inl (let e = b.0 in omega (arith, a, e))
trans x y z (inr a) (inl b) = inl (let e = a.0 in omega (arith, b, e))
trans x y z (inr a) (inr b) = inr ((let e = a.0 in let f = b.0 in omega (arith, e, f)), (let e = a.1 in let f = b.1 in omega (arith, e, f)))

not_both : (x y : Pair) → Before x y → Before y x → ⊥
not_both x y (inl a) (inl b) = omega (arith, a, b)
not_both x y (inl a) (inr b) = let e = b.0 in omega (arith, a, e)
not_both x y (inr a) (inl b) = let e = a.0 in omega (arith, b, e)
not_both x y (inr a) (inr b) = let e = a.1 in let f = b.1 in omega (arith, e, f)

never : {P : Type 0} (b : Bool) → b ≡ true → b ≡ false → P
never true e f = absurd cc
never false e f = absurd cc

same_pair : (x y : Pair) → is_before x y ≡ false → is_before y x ≡ false → x ≡ y
same_pair x y a b =
    ⊎_elim (λ (e : x.0 ≡ y.0). by_second e (cases_order x.1 y.1))
    (λ r. ⊎_elim (λ (l : x.0 < y.0). never (is_before x y) (before_from x y (inl l)) a) (λ (g : y.0 < x.0). never (is_before y x) (before_from y x (inl g)) b) r)
    (cases_order x.0 y.0)
  where
    by_second : x.0 ≡ y.0 → ((x.1 ≡ y.1) ⊎ ((x.1 < y.1) ⊎ (y.1 < x.1))) → x ≡ y
    by_second e (inl f) = ap₂ (λ (m n : ℕ). (m, n)) e f
    by_second e (inr (inl l)) = never (is_before x y) (before_from x y (inr (e, l))) a
    by_second e (inr (inr g)) = never (is_before y x) (before_from y x (inr (sym e, g))) b

-- ---- lists in order

abbrev Above : Pair → List Pair → Type 0
Above x [] = Unit {0}
Above x (y ∷ ys) = Before x y × Above x ys

abbrev Up : List Pair → Type 0
Up [] = Unit {0}
Up (x ∷ xs) = Above x xs × Up xs

above_more : (x y : Pair) (ys : List Pair) → Before x y → Above y ys → Above x ys
above_more x y [] h a = tt
above_more x y (z ∷ zs) h a = (trans x y z h a.0, above_more x y zs h a.1)

above_case : (x y z : Pair) (ys rest : List Pair) (a b : Bool) → Before x z → Before x y → Above x ys → Above x rest → Above x (if a then z ∷ y ∷ ys else if b then y ∷ rest else y ∷ ys)
above_case x y z ys rest true b hz hy up r = (hz, (hy, up))
above_case x y z ys rest false true hz hy up r = (hy, r)
above_case x y z ys rest false false hz hy up r = (hy, up)

above_put : (x z : Pair) (ys : List Pair) → Before x z → Above x ys → Above x (put_pair ys z)
above_put x z [] h a = (h, tt)
above_put x z (y ∷ ys) h a = above_case x y z ys (put_pair ys z) (is_before z y) (is_before y z) h a.0 a.1 (above_put x z ys h a.1)

up_case : (x y : Pair) (ys : List Pair) (a b : Bool) → a ≡ is_before x y → b ≡ is_before y x → Above y ys → Up ys → Up (put_pair ys x) → Up (if a then x ∷ y ∷ ys else if b then y ∷ put_pair ys x else y ∷ ys)
up_case x y ys true b e f above up r = let h = before_is x y (sym e) in ((h, above_more x y ys h above), (above, up))
up_case x y ys false true e f above up r = (above_put y x ys (before_is y x (sym f)) above, r)
up_case x y ys false false e f above up r = (above, up)

up_put : (ys : List Pair) (x : Pair) → Up ys → Up (put_pair ys x)
up_put [] x up = (tt, tt)
up_put (y ∷ ys) x up = up_case x y ys (is_before x y) (is_before y x) refl refl up.0 up.1 (up_put ys x up.1)

up_fold : (xs kept : List Pair) → Up kept → Up (fold put_pair kept xs)
up_fold [] kept up = up
up_fold (x ∷ xs) kept up = up_fold xs (put_pair kept x) (up_put kept x up)

-- ---- what is in a list

abbrev is_pair : Pair → Pair → Bool
is_pair z x = eqb x.0 z.0 && eqb x.1 z.1

abbrev has : Pair → List Pair → Bool
has z xs = list_any (is_pair z) xs

is_itself : (x : Pair) → is_pair x x ≡ true
is_itself x = and_from (eqb x.0 x.0) (eqb x.1 x.1) (eq-eqb x.0 x.0 refl) (eq-eqb x.1 x.1 refl)

pair_is : (z x : Pair) → is_pair z x ≡ true → x ≡ z
pair_is z x h = let p = both (eqb x.0 z.0) (eqb x.1 z.1) h in ap₂ (λ (m n : ℕ). (m, n)) (eqb-true x.0 z.0 p.0) (eqb-true x.1 z.1 p.1)

swap_or : (a b c : Bool) → (a || (b || c)) ≡ (b || (a || c))
swap_or true true c = refl
swap_or true false c = refl
swap_or false b c = refl

twice_or : (a b c : Bool) → a ≡ b → (a || c) ≡ (b || (a || c))
twice_or true true c e = refl
twice_or false false c e = refl
twice_or true false c e = absurd cc
twice_or false true c e = absurd cc

has_case : (z x y : Pair) (ys rest : List Pair) (a b : Bool) → a ≡ is_before x y → b ≡ is_before y x → has z rest ≡ (is_pair z x || has z ys) → has z (if a then x ∷ y ∷ ys else if b then y ∷ rest else y ∷ ys) ≡ (is_pair z x || has z (y ∷ ys))
has_case z x y ys rest true b e f r = refl
has_case z x y ys rest false true e f r = ap (λ t. is_pair z y || t) r ∙ swap_or (is_pair z y) (is_pair z x) (has z ys)
has_case z x y ys rest false false e f r = twice_or (is_pair z y) (is_pair z x) (has z ys) (ap (is_pair z) (sym (same_pair x y (sym e) (sym f))))

has_put : (z : Pair) (ys : List Pair) (x : Pair) → has z (put_pair ys x) ≡ (is_pair z x || has z ys)
has_put z [] x = refl
has_put z (y ∷ ys) x = has_case z x y ys (put_pair ys x) (is_before x y) (is_before y x) refl refl (has_put z ys x)

or_from_both : (a b c : Bool) → ((a || b) || c) ≡ (b || (a || c))
or_from_both true true c = refl
or_from_both true false c = refl
or_from_both false b c = refl

has_fold : (z : Pair) (xs kept : List Pair) → has z (fold put_pair kept xs) ≡ (has z kept || has z xs)
has_fold z [] kept = or_none (has z kept)
  where
    or_none : (a : Bool) → a ≡ (a || false)
    or_none true = refl
    or_none false = refl
has_fold z (x ∷ xs) kept =
    has_fold z xs (put_pair kept x) ∙ ap (λ t. t || has z xs) (has_put z kept x) ∙ or_from_both (is_pair z x) (has z kept) (has z xs)

above_has : (x z : Pair) (ys : List Pair) → Above x ys → has z ys ≡ true → Before x z
above_has x z [] a h = absurd cc
above_has x z (y ∷ ys) a h =
    ⊎_elim (λ (e : is_pair z y ≡ true). subst (Before x) (pair_is z y e) a.0) (λ (e : has z ys ≡ true). above_has x z ys a.1 e) (or_cases (is_pair z y) (has z ys) h)

-- ---- two lists in order that have the same are one

first_is : (x y : Pair) (xs ys : List Pair) → Above x xs → Above y ys → has x (y ∷ ys) ≡ true → has y (x ∷ xs) ≡ true → x ≡ y
first_is x y xs ys a b h k =
    ⊎_elim (λ (e : is_pair x y ≡ true). sym (pair_is x y e))
    (λ (e : has x ys ≡ true).
    ⊎_elim (λ (f : is_pair y x ≡ true). pair_is y x f) (λ (f : has y xs ≡ true). absurd (not_both x y (above_has x y xs a f) (above_has y x ys b e))) (or_cases (is_pair y x) (has y xs) k))
    (or_cases (is_pair x y) (has x ys) h)

not_above : (x : Pair) (ys : List Pair) (b : Bool) → b ≡ has x ys → Above x ys → has x ys ≡ false
not_above x ys true e a = let h = above_has x x ys a (sym e) in absurd (not_both x x h h)
not_above x ys false e a = sym e

without : (x z : Pair) (xs ys : List Pair) (b : Bool) → b ≡ is_pair z x → Above x xs → Above x ys → (is_pair z x || has z xs) ≡ (is_pair z x || has z ys) → has z xs ≡ has z ys
without x z xs ys true e a b h =
    let is = pair_is z x (sym e) in
    let one = not_above x xs (has x xs) refl a in
    let two = not_above x ys (has x ys) refl b in
    subst (λ w. has w xs ≡ has w ys) is (one ∙ sym two)
without x z xs ys false e a b h = subst (λ (t : Bool). (t || has z xs) ≡ (t || has z ys)) (sym e) h

one_list : (xs ys : List Pair) → Up xs → Up ys → ((z : Pair) → has z xs ≡ has z ys) → xs ≡ ys
one_list [] [] u v h = refl
one_list [] (y ∷ ys) u v h = never (has y (y ∷ ys)) (or_first (is_pair y y) (has y ys) (is_itself y)) (sym (h y))
one_list (x ∷ xs) [] u v h = never (has x (x ∷ xs)) (or_first (is_pair x x) (has x xs) (is_itself x)) (h x)
one_list (x ∷ xs) (y ∷ ys) u v h =
    let there : has x (y ∷ ys) ≡ true = sym (h x) ∙ or_first (is_pair x x) (has x xs) (is_itself x) in
    let here : has y (x ∷ xs) ≡ true = h y ∙ or_first (is_pair y y) (has y ys) (is_itself y) in
    let e = first_is x y xs ys u.0 v.0 there here in
    let above : Above x ys = subst (λ w. Above w ys) (sym e) v.0 in
    let rest : (z : Pair) → has z xs ≡ has z ys = λ z. without x z xs ys (is_pair z x) refl u.0 above (h z ∙ ap (λ w. is_pair z w || has z ys) (sym e)) in
    ap₂ (λ w (ws : List Pair). w ∷ ws) e (one_list xs ys u.1 v.1 rest)

-- ---- what a sort and `dedup` leave

abbrev same : Pair → Pair → Bool
same x y = eqb x.0 y.0 && eqb x.1 y.1

abbrev order : Pair → Pair → Ordering
order x y = ordering_then (nat_cmp x.0 y.0) (nat_cmp x.1 y.1)

less_case : (x y : Pair) (a b c d : Bool) → a ≡ ltb x.0 y.0 → b ≡ eqb x.0 y.0 → c ≡ ltb x.1 y.1 → ordering_then (cond a Less (cond b Equal Greater)) (cond c Less (cond d Equal Greater)) ≡ Less → Before x y
less_case x y true b c d e f g h = inl (ltb-true x.0 y.0 (sym e))
less_case x y false true true d e f g h = inr (eqb-true x.0 y.0 (sym f), ltb-true x.1 y.1 (sym g))
less_case x y false true false true e f g h = absurd cc
less_case x y false true false false e f g h = absurd cc
less_case x y false false c d e f g h = absurd cc

less_is : (x y : Pair) → order x y ≡ Less → Before x y
less_is x y h = less_case x y (ltb x.0 y.0) (eqb x.0 y.0) (ltb x.1 y.1) (eqb x.1 y.1) refl refl refl h

apart : {P : Type 0} (m n : ℕ) → true ≡ ltb m n → true ≡ eqb m n → P
apart m n e f = let l : m < n = ltb-true m n (sym e) in let s : m ≡ n = eqb-true m n (sym f) in absurd (omega (arith, l, s))

tie_case : (x y : Pair) (a b c d : Bool) → a ≡ ltb x.0 y.0 → b ≡ eqb x.0 y.0 → c ≡ ltb x.1 y.1 → d ≡ eqb x.1 y.1 → (b && d) ≡ is_eq (ordering_then (cond a Less (cond b Equal Greater)) (cond c Less (cond d Equal Greater)))
tie_case x y true true c d e f g h = apart x.0 y.0 e f
tie_case x y true false c d e f g h = refl
tie_case x y false false c d e f g h = refl
tie_case x y false true true true e f g h = apart x.1 y.1 g h
tie_case x y false true true false e f g h = refl
tie_case x y false true false true e f g h = refl
tie_case x y false true false false e f g h = refl

pub ties : (x y : Pair) → same x y ≡ eq_by_cmp order x y
ties x y = tie_case x y (ltb x.0 y.0) (eqb x.0 y.0) (ltb x.1 y.1) (eqb x.1 y.1) refl refl refl refl

dedup_case : (z k x : Pair) (xs : List Pair) (b : Bool) → b ≡ same x k → has z (dedup_from same k xs) ≡ (is_pair z k || has z xs) → has z (dedup_from same x xs) ≡ (is_pair z x || has z xs) → has z (cond b (dedup_from same k xs) (k ∷ dedup_from same x xs)) ≡ (is_pair z k || (is_pair z x || has z xs))
dedup_case z k x xs true e one two =
    let is : x ≡ k = pair_is k x (sym e) in
    one ∙ ap (λ w. is_pair z w || has z xs) (sym is) ∙ twice_or (is_pair z x) (is_pair z k) (has z xs) (ap (is_pair z) is)
dedup_case z k x xs false e one two = ap (λ t. is_pair z k || t) two

dedup_has : (z k : Pair) (xs : List Pair) → has z (dedup_from same k xs) ≡ (is_pair z k || has z xs)
dedup_has z k [] = refl
dedup_has z k (x ∷ xs) = dedup_case z k x xs (same x k) refl (dedup_has z k xs) (dedup_has z x xs)

all_has : (z : Pair) (xs : List Pair) → has z (dedup same xs) ≡ has z xs
all_has z [] = refl
all_has z (x ∷ xs) = dedup_has z x xs

above_from : (x : Pair) (xs : List Pair) → AllByRecursion (λ y. order x y ≡ Less) xs → Above x xs
above_from x [] a = tt
above_from x (y ∷ ys) a = (less_is x y a.0, above_from x ys a.1)

up_from : (xs : List Pair) → IsStrictlySortedBy order xs → Up xs
unfolding IsStrictlySortedBy
up_from [] s = tt
up_from (x ∷ xs) s = (above_from x xs s.0, up_from xs s.1)

pub sorted_once : (xs ys zs : List Pair) → IsTotalOrder order → ((x y : Pair) → same x y ≡ eq_by_cmp order x y) → IsPermutation xs ys → IsSorted order ys → zs ≡ dedup same ys → zs ≡ fold put_pair [] xs
sorted_once xs ys zs total ties moved sorted once =
    let up : Up (dedup same ys) = up_from (dedup same ys) (IsStrictlySortedBy-dedup total ties ys sorted) in
    once
    ∙ one_list (dedup same ys) (fold put_pair [] xs) up (up_fold xs [] tt) (λ z.
    all_has z ys ∙ sym (list_any-IsPermutation (is_pair z) xs ys moved) ∙ sym (has_fold z xs []))
