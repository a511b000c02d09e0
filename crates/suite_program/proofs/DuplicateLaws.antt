-- Names that stand twice, by places and as a list, and the least of them.
use Rattle.std.proofs.Common.{◌≡◌, ◌⊎◌, ◌∙◌, ℕ, zero, suc, ◌+◌, ◌/◌, ◌%◌, ◌<◌, Bool, true, false, List, [], ◌∷◌, ◌++◌, Option, Some, None, slice_get, refl, sym, ap, subst, arith, inl, inr, ⊎_elim}
use Rattle.std.specs.Prelude.{if◌then◌else◌, IsTrue, nat_lt, ◌||◌}
use Rattle.std.specs.List.{list_any}
use Rattle.std.specs.declared.cmp.Ordering.{Ordering}
use Rattle.std.specs.declared.cmp.Ordering.TheVariants.{Less, Equal, Greater}
use Rattle.std.specs.Ordering.{nat_cmp, is_lt, is_le, ordering_reverse}
use Rattle.std.specs.Cmp.Lexicographic.{slice_cmp, same_text, bytes_decides, nat_list_cmp_total}
use Rattle.std.specs.FinMap.{slice_cmp-IsAntisymmetric, nat_cmp-IsAntisymmetric}
use Rattle.std.proofs.lemmas.Option.{slice_get_within}
use Rattle.class_model.specs.Text.{text, unit_bytes, is_single}
use Rattle.program_rules.specs.Names.{Name, same}
use Rattle.class_table.specs.Numbers.{is_before, lesser}
use Rattle.class_table.specs.Table.{place_in, name_or_none, AreDistinct, IsDuplicate, IsLeastDuplicate}
use Rattle.suite_program.specs.Duplicates.{again, least, duplicate_in}

-- ---- names among names

abbrev pub In : Name → List Name → Type 0
In n [] = ⊥
In n (x ∷ xs) = (x ≡ n) ⊎ In n xs

in_at : (n : Name) (xs : List Name) (i : ℕ) → slice_get xs i ≡ Some n → In n xs
in_at n [] i h = absurd cc
in_at n (x ∷ xs) zero h = inl cc
in_at n (x ∷ xs) (suc i) h = inr (in_at n xs i h)

abbrev Stands : Name → List Name → Type 0
Stands n xs = (i : ℕ) × (slice_get xs i ≡ Some n)

at_in : (n : Name) (xs : List Name) → In n xs → Stands n xs
at_in n [] q = absurd q
at_in n (x ∷ xs) q = ⊎_elim (λ (e : x ≡ n). (zero, ap Some e)) (λ (r : In n xs). let s = at_in n xs r in (suc s.0, s.1)) q

pub or_case : (a b : Bool) → (a || b) ≡ true → (a ≡ true) ⊎ (b ≡ true)
or_case true b e = inl refl
or_case false b e = inr e

pub or_left : (a b : Bool) → a ≡ true → (a || b) ≡ true
or_left true b e = refl
or_left false b e = absurd cc

pub or_right : (a b : Bool) → b ≡ true → (a || b) ≡ true
or_right true b e = refl
or_right false b e = e

pub any_in : (n : Name) (xs : List Name) → list_any (same n) xs ≡ true → In n xs
any_in n [] e = absurd cc
any_in n (x ∷ xs) e = ⊎_elim (λ (h : same n x ≡ true). inl (sym (same_text n x (sym h)))) (λ (h : list_any (same n) xs ≡ true). inr (any_in n xs h)) (or_case (same n x) (list_any (same n) xs) e)

pub in_any : (n : Name) (xs : List Name) → In n xs → list_any (same n) xs ≡ true
in_any n [] q = absurd q
in_any n (x ∷ xs) q = ⊎_elim (λ (e : x ≡ n). or_left (same n x) (list_any (same n) xs) ((bytes_decides n x).1 (sym e))) (λ (r : In n xs). or_right (same n x) (list_any (same n) xs) (in_any n xs r)) q

-- ---- duplicates

shifted : (n x : Name) (xs : List Name) → IsDuplicate xs n → IsDuplicate (x ∷ xs) n
shifted n x xs d = record { first = suc d.first; second = suc d.second; apart = (let lt = d.apart in omega (arith, lt)); one = d.one; two = d.two }

at_front : (n x : Name) (xs : List Name) → x ≡ n → In x xs → IsDuplicate (x ∷ xs) n
at_front n x xs e q = let s = at_in x xs q in record { first = zero; second = suc s.0; apart = omega arith; one = ap Some e; two = s.1 ∙ ap Some e }

twice_case : (n x : Name) (xs : List Name) (b : Bool) → list_any (same x) xs ≡ b → (In n (again xs) → IsDuplicate xs n) → In n (if b then x ∷ again xs else again xs) → IsDuplicate (x ∷ xs) n
twice_case n x xs true e rest q = ⊎_elim (λ (here : x ≡ n). at_front n x xs here (any_in x xs e)) (λ (r : In n (again xs)). shifted n x xs (rest r)) q
twice_case n x xs false e rest q = shifted n x xs (rest q)

again_twice : (n : Name) (xs : List Name) → In n (again xs) → IsDuplicate xs n
again_twice n [] q = absurd q
again_twice n (x ∷ xs) q = twice_case n x xs (list_any (same x) xs) refl (again_twice n xs) q

front_case : (n x : Name) (xs : List Name) (b : Bool) → b ≡ true → x ≡ n → In n (if b then x ∷ again xs else again xs)
front_case n x xs true e here = inl here
front_case n x xs false e here = absurd cc

rest_case : (n x : Name) (xs : List Name) (b : Bool) → In n (again xs) → In n (if b then x ∷ again xs else again xs)
rest_case n x xs true q = inr q
rest_case n x xs false q = q

twice_at : (n : Name) (xs : List Name) (i j : ℕ) → i < j → slice_get xs i ≡ Some n → slice_get xs j ≡ Some n → In n (again xs)
twice_at n [] i j lt one two = absurd cc
twice_at n (x ∷ xs) i zero lt one two = absurd (omega (arith, lt))
twice_at n (x ∷ xs) zero (suc j) lt one two =
    let here : x ≡ n = cc in
    front_case n x xs (list_any (same x) xs) (in_any x xs (in_at x xs j (two ∙ ap Some (sym here)))) here
twice_at n (x ∷ xs) (suc i) (suc j) lt one two = rest_case n x xs (list_any (same x) xs) (twice_at n xs i j (omega (arith, lt)) one two)

distinct_once : (n : Name) (xs : List Name) → AreDistinct xs → IsDuplicate xs n → ⊥
distinct_once n xs distinct d =
    let lt = d.apart in
    let one = distinct d.first (slice_get_within xs d.first n d.one) in
    let two = distinct d.second (slice_get_within xs d.second n d.two) in
    let at : Some d.first ≡ Some d.second = sym one ∙ ap (λ o. place_in xs (name_or_none o)) (d.one ∙ sym d.two) ∙ two in
    let e : d.first ≡ d.second = cc in
    omega (arith, lt, e)

pub nothing_in : (xs : List Name) → ((n : Name) → In n xs → ⊥) → xs ≡ []
nothing_in [] h = refl
nothing_in (x ∷ xs) h = absurd (h x (inl refl))

-- A name of two lists stands twice in both together.
in_both : (n : Name) (xs ys : List Name) → In n ys → In n (xs ++ ys)
in_both n [] ys q = q
in_both n (x ∷ xs) ys q = inr (in_both n xs ys q)

again_in : (n : Name) (xs ys : List Name) → In n xs → In n ys → In n (again (xs ++ ys))
again_in n [] ys q r = absurd q
again_in n (x ∷ xs) ys q r =
    ⊎_elim
    (λ (e : x ≡ n). front_case n x (xs ++ ys) (list_any (same x) (xs ++ ys)) (in_any x (xs ++ ys) (in_both x xs ys (subst (λ (m : Name). In m ys) (sym e) r))) e)
    (λ (s : In n xs). rest_case n x (xs ++ ys) (list_any (same x) (xs ++ ys)) (again_in n xs ys s r))
    q

-- Where names are apart no name is one of two lists.
pub apart_lists : (n : Name) (xs ys : List Name) → AreDistinct (xs ++ ys) → In n xs → In n ys → ⊥
apart_lists n xs ys distinct q r = distinct_once n (xs ++ ys) distinct (again_twice n (xs ++ ys) (again_in n xs ys q r))

pub no_duplicate : (xs : List Name) → AreDistinct xs → duplicate_in xs ≡ None
no_duplicate xs distinct = ap least (nothing_in (again xs) (λ n q. distinct_once n xs distinct (again_twice n xs q)))

-- ---- texts of names

abbrev Shape : ℕ → Type 0
Shape u = ((unit_bytes u ≡ u ∷ []) × (u < 128))
    ⊎ (((unit_bytes u ≡ (192 + u / 64) ∷ (128 + u % 64) ∷ []) × (u < 2048)) ⊎ (unit_bytes u ≡ (224 + u / 4096) ∷ (128 + u / 64 % 64) ∷ (128 + u % 64) ∷ []))

shape_with : (u : ℕ) (a b : Bool) → is_single u ≡ a → nat_lt u 0x800 ≡ b → Shape u
shape_with u true b e f = inl (rw e refl, grind (arith, e))
shape_with u false true e f = inr (inl (rw (e, f) refl, grind (arith, f)))
shape_with u false false e f = inr (inr (rw (e, f) refl))

shape : (u : ℕ) → Shape u
shape u = shape_with u (is_single u) (nat_lt u 0x800) refl refl

abbrev Parts : ℕ → ℕ → List ℕ → List ℕ → Type 0
Parts u v us vs = (u ≡ v) × (us ≡ vs)

heads : (u v : ℕ) (us vs : List ℕ) → Shape u → Shape v → unit_bytes u ++ us ≡ unit_bytes v ++ vs → Parts u v us vs
heads u v us vs (inl p) (inl q) e = let f : u ∷ us ≡ v ∷ vs = sym (ap (λ z. z ++ us) p.0) ∙ e ∙ ap (λ z. z ++ vs) q.0 in (cc, cc)
heads u v us vs (inl p) (inr (inl q)) e =
    let f : u ∷ us ≡ (192 + v / 64) ∷ (128 + v % 64) ∷ vs = sym (ap (λ z. z ++ us) p.0) ∙ e ∙ ap (λ z. z ++ vs) q.0 in
    let g : u ≡ 192 + v / 64 = cc in let lt = p.1 in absurd (omega (arith, g, lt))
heads u v us vs (inl p) (inr (inr q)) e =
    let f : u ∷ us ≡ (224 + v / 4096) ∷ (128 + v / 64 % 64) ∷ (128 + v % 64) ∷ vs = sym (ap (λ z. z ++ us) p.0) ∙ e ∙ ap (λ z. z ++ vs) q in
    let g : u ≡ 224 + v / 4096 = cc in let lt = p.1 in absurd (omega (arith, g, lt))
heads u v us vs (inr (inl p)) (inl q) e =
    let f : (192 + u / 64) ∷ (128 + u % 64) ∷ us ≡ v ∷ vs = sym (ap (λ z. z ++ us) p.0) ∙ e ∙ ap (λ z. z ++ vs) q.0 in
    let g : 192 + u / 64 ≡ v = cc in let lt = q.1 in absurd (omega (arith, g, lt))
heads u v us vs (inr (inl p)) (inr (inl q)) e =
    let f : (192 + u / 64) ∷ (128 + u % 64) ∷ us ≡ (192 + v / 64) ∷ (128 + v % 64) ∷ vs = sym (ap (λ z. z ++ us) p.0) ∙ e ∙ ap (λ z. z ++ vs) q.0 in
    let g : 192 + u / 64 ≡ 192 + v / 64 = cc in let h : 128 + u % 64 ≡ 128 + v % 64 = cc in let r : us ≡ vs = cc in (omega (arith, g, h), r)
heads u v us vs (inr (inl p)) (inr (inr q)) e =
    let f : (192 + u / 64) ∷ (128 + u % 64) ∷ us ≡ (224 + v / 4096) ∷ (128 + v / 64 % 64) ∷ (128 + v % 64) ∷ vs = sym (ap (λ z. z ++ us) p.0) ∙ e ∙ ap (λ z. z ++ vs) q in
    let g : 192 + u / 64 ≡ 224 + v / 4096 = cc in let lt = p.1 in absurd (omega (arith, g, lt))
heads u v us vs (inr (inr p)) (inl q) e =
    let f : (224 + u / 4096) ∷ (128 + u / 64 % 64) ∷ (128 + u % 64) ∷ us ≡ v ∷ vs = sym (ap (λ z. z ++ us) p) ∙ e ∙ ap (λ z. z ++ vs) q.0 in
    let g : 224 + u / 4096 ≡ v = cc in let lt = q.1 in absurd (omega (arith, g, lt))
heads u v us vs (inr (inr p)) (inr (inl q)) e =
    let f : (224 + u / 4096) ∷ (128 + u / 64 % 64) ∷ (128 + u % 64) ∷ us ≡ (192 + v / 64) ∷ (128 + v % 64) ∷ vs = sym (ap (λ z. z ++ us) p) ∙ e ∙ ap (λ z. z ++ vs) q.0 in
    let g : 224 + u / 4096 ≡ 192 + v / 64 = cc in let lt = q.1 in absurd (omega (arith, g, lt))
heads u v us vs (inr (inr p)) (inr (inr q)) e =
    let f : (224 + u / 4096) ∷ (128 + u / 64 % 64) ∷ (128 + u % 64) ∷ us ≡ (224 + v / 4096) ∷ (128 + v / 64 % 64) ∷ (128 + v % 64) ∷ vs = sym (ap (λ z. z ++ us) p) ∙ e ∙ ap (λ z. z ++ vs) q in
    let g : 224 + u / 4096 ≡ 224 + v / 4096 = cc in let h : 128 + u / 64 % 64 ≡ 128 + v / 64 % 64 = cc in let k : 128 + u % 64 ≡ 128 + v % 64 = cc in let r : us ≡ vs = cc in (omega (arith, g, h, k), r)

no_head : (u : ℕ) (us : List ℕ) → Shape u → [] ≡ unit_bytes u ++ us → ⊥
no_head u us (inl p) e = let f : [] ≡ u ∷ us = e ∙ ap (λ z. z ++ us) p.0 in absurd cc
no_head u us (inr (inl p)) e = let f : [] ≡ (192 + u / 64) ∷ (128 + u % 64) ∷ us = e ∙ ap (λ z. z ++ us) p.0 in absurd cc
no_head u us (inr (inr p)) e = let f : [] ≡ (224 + u / 4096) ∷ (128 + u / 64 % 64) ∷ (128 + u % 64) ∷ us = e ∙ ap (λ z. z ++ us) p in absurd cc

same_names : (n m : Name) → text n ≡ text m → n ≡ m
same_names [] [] e = refl
same_names [] (v ∷ vs) e = absurd (no_head v (text vs) (shape v) e)
same_names (u ∷ us) [] e = absurd (no_head u (text us) (shape u) (sym e))
same_names (u ∷ us) (v ∷ vs) e =
    let parts = heads u v (text us) (text vs) (shape u) (shape v) e in
    let rest = same_names us vs parts.1 in
    (λ i. parts.0 i ∷ rest i)

-- ---- the least

abbrev cmp : Name → Name → Ordering
cmp n m = slice_cmp nat_cmp (text n) (text m)

abbrev pub Le : Name → Name → Type 0
Le n m = IsTrue (is_le (cmp n m))

turned : (o : Ordering) → is_lt o ≡ false → IsTrue (is_le (ordering_reverse o))
turned Less e = absurd cc
turned Equal e = refl
turned Greater e = refl

-- A name that no other one comes before.
pub not_before : (n m : Name) → is_lt (cmp m n) ≡ false → Le n m
not_before n m e = subst (λ o. IsTrue (is_le o)) (sym (nat_list_cmp_total.antisymm (text n) (text m))) (turned (cmp m n) e)

must_equal : (o : Ordering) → IsTrue (is_le o) → is_lt o ≡ false → o ≡ Equal
must_equal Less le lt = absurd cc
must_equal Equal le lt = refl
must_equal Greater le lt = absurd cc

not_less : (o : Ordering) → IsTrue (is_le (ordering_reverse o)) → is_lt o ≡ true → ⊥
not_less Less le lt = absurd cc
not_less Equal le lt = absurd cc
not_less Greater le lt = absurd cc

tied : (n m : Name) → Le n m → is_before n m ≡ false → n ≡ m
tied n m le lt = same_names n m (slice_cmp-IsAntisymmetric nat_cmp-IsAntisymmetric (text n) (text m) (must_equal (cmp n m) le lt))

no_lesser : (n m : Name) → Le n m → is_before m n ≡ true → ⊥
no_lesser n m le lt = not_less (cmp m n) (subst (λ o. IsTrue (is_le o)) (nat_list_cmp_total.antisymm (text n) (text m)) le) lt

picked : (n m k : Name) (b : Bool) → Some (if b then m else n) ≡ Some k → (n ≡ k) ⊎ (m ≡ k)
picked n m k true e = inr cc
picked n m k false e = inl cc

least_case : (o : Option Name) (x k : Name) (xs : List Name) → ((m : Name) → o ≡ Some m → In m xs) → Some (lesser o x) ≡ Some k → In k (x ∷ xs)
least_case None x k xs h e = inl cc
least_case (Some m) x k xs h e = ⊎_elim (λ (p : m ≡ k). inr (h k (ap Some p))) (λ (p : x ≡ k). inl p) (picked m x k (is_before x m) e)

least_in : (xs : List Name) (k : Name) → least xs ≡ Some k → In k xs
least_in [] k e = absurd cc
least_in (x ∷ xs) k e = least_case (least xs) x k xs (least_in xs) e

front_least : (n k : Name) (b : Bool) → is_before n k ≡ b → Le n k → Some (if b then n else k) ≡ Some n
front_least n k true e le = refl
front_least n k false e le = ap Some (sym (tied n k le e))

front_is : (n : Name) (xs : List Name) (o : Option Name) → ((m : Name) → o ≡ Some m → In m xs) → ((m : Name) → In m xs → Le n m) → Some (lesser o n) ≡ Some n
front_is n xs None h all = refl
front_is n xs (Some k) h all = front_least n k (is_before n k) refl (all k (h k refl))

rest_least : (n x : Name) (b : Bool) → is_before x n ≡ b → Le n x → Some (if b then x else n) ≡ Some n
rest_least n x true e le = absurd (no_lesser n x le e)
rest_least n x false e le = refl

pub least_is : (n : Name) (xs : List Name) → In n xs → ((m : Name) → In m xs → Le n m) → least xs ≡ Some n
least_is n [] q all = absurd q
least_is n (x ∷ xs) q all =
    ⊎_elim
    (λ (e : x ≡ n). subst (λ z. Some (lesser (least xs) z) ≡ Some n) (sym e) (front_is n xs (least xs) (least_in xs) (λ m r. all m (inr r))))
    (λ (r : In n xs). ap (λ o. Some (lesser o x)) (least_is n xs r (λ m p. all m (inr p))) ∙ rest_least n x (is_before x n) refl (all x (inl refl)))
    q

pub is_duplicate : (xs : List Name) (n : Name) → IsLeastDuplicate xs n → duplicate_in xs ≡ Some n
is_duplicate xs n d =
    let twice = d.duplicate in
    least_is n (again xs) (twice_at n xs twice.first twice.second twice.apart twice.one twice.two) (λ m q. d.least m (again_twice m xs q))
