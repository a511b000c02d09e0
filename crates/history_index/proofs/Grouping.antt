-- What is set in the map of a test is found there, and the maps of other tests stay.
use Rattle.std.proofs.Common.{◌≡◌, ◌∙◌, ℕ, zero, suc, ◌/◌, ◌<◌, ◌≤◌, Bool, true, false, ltb, List, [], ◌∷◌, ◌++◌, get_or, length, refl, sym, ap, arith}
use Rattle.std.specs.Prelude.{slice_set, nat_eq, if◌then◌else◌}
use Rattle.std.proofs.lemmas.Bool.{eqb-true, ltb-false, ltb-true}
use Rattle.history_index.specs.Groups.{group_of}
use Rattle.history_index.proofs.Positions.{eq_suc, suc_apart, zero_apart}

-- ---- items of a list

pub there : {M : Type 0} (xs : List M) (i : ℕ) (d e : M) → i < length xs → get_or xs i d ≡ get_or xs i e
there [] i d e lt = absurd (omega (arith, lt))
there (x ∷ xs) zero d e lt = refl
there (x ∷ xs) (suc i) d e lt = there xs i d e (omega (arith, lt))

pub past : {M : Type 0} (xs : List M) (i : ℕ) (d : M) → length xs ≤ i → d ≡ get_or xs i d
past [] i d le = refl
past (x ∷ xs) zero d le = absurd (omega (arith, le))
past (x ∷ xs) (suc i) d le = past xs i d (omega (arith, le))

set_item : {M : Type 0} (xs : List M) (i j : ℕ) (m d : M) → i < length xs → get_or (slice_set xs i m) j d ≡ (if nat_eq i j then m else get_or xs j d)
set_item [] i j m d lt = absurd (omega (arith, lt))
set_item (x ∷ xs) zero zero m d lt = refl
set_item (x ∷ xs) zero (suc j) m d lt = ap (λ b. if b then m else get_or xs j d) (sym (zero_apart j))
set_item (x ∷ xs) (suc i) zero m d lt = ap (λ b. if b then m else x) (sym (suc_apart i))
set_item (x ∷ xs) (suc i) (suc j) m d lt = set_item xs i j m d (omega (arith, lt)) ∙ ap (λ b. if b then m else get_or xs j d) (sym (eq_suc i j))

eq_self : (n : ℕ) → nat_eq n n ≡ true
eq_self zero = refl
eq_self (suc n) = eq_suc n n ∙ eq_self n

-- ---- one map is another

-- What is read of a map is what was set, where it is read of what was set, and else as it was: of
-- the others,
pub read_other : {M R : Type 0} (read : M → R) (i j : ℕ) (m last : M) (others : List M) (b : Bool) (o : R) → i < length others → read m ≡ (if b then o else read (get_or others i last)) → (b ≡ true → i ≡ j) → read (get_or (slice_set others i m) j last) ≡ (if b then o else read (get_or others j last))
read_other read i j m last others b o lt is own = ap read (set_item others i j m last lt) ∙ by (nat_eq i j) refl b is own
  where
    by : (e : Bool) → e ≡ nat_eq i j → (d : Bool) → read m ≡ (if d then o else read (get_or others i last)) → (d ≡ true → i ≡ j) → read (if e then m else get_or others j last) ≡ (if d then o else read (get_or others j last))
    by true same d gives at = gives ∙ ap (λ k. if d then o else read (get_or others k last)) (eqb-true i j (sym same))
    by false same true gives at = absurd (let f : false ≡ true = same ∙ ap (nat_eq i) (sym (at refl)) ∙ eq_self i in cc)
    by false same false gives at = refl

-- and of the last.
pub read_last : {M R : Type 0} (read : M → R) (i j : ℕ) (m last : M) (others : List M) (b : Bool) (o : R) → length others ≤ i → read m ≡ (if b then o else read last) → (b ≡ true → i ≡ j) → read (get_or others j m) ≡ (if b then o else read (get_or others j last))
read_last read i j m last others b o le is own = by (ltb j (length others)) refl b is own
  where
    by : (e : Bool) → e ≡ ltb j (length others) → (d : Bool) → read m ≡ (if d then o else read last) → (d ≡ true → i ≡ j) → read (get_or others j m) ≡ (if d then o else read (get_or others j last))
    by true less true gives at =
        let lt : j < length others = ltb-true j (length others) (sym less) in
        let same = at refl in
        absurd (omega (arith, lt, same, le))
    by true less false gives at = ap read (there others j m last (ltb-true j (length others) (sym less)))
    by false less d gives at =
        let behind : length others ≤ j = ltb-false j (length others) (sym less) in
        ap read (sym (past others j m behind)) ∙ gives ∙ ap (λ l. if d then o else read l) (past others j last behind)

-- ---- the map of a test

pub group_other : {M : Type 0} (last : M) (others : List M) (test place : ℕ) (m d : M) → place ≡ test / 15 → place < length others → m ≡ get_or others place d → m ≡ group_of last others test
group_other last others test place m d at lt is = is ∙ there others place d last lt ∙ ap (λ i. get_or others i last) at

pub group_last : {M : Type 0} (last : M) (others : List M) (test place : ℕ) → place ≡ test / 15 → length others ≤ place → last ≡ group_of last others test
group_last last others test place at le = past others place last le ∙ ap (λ i. get_or others i last) at

-- ---- maps that are all the same

-- Each of these is so, and the last where that is.
pub record AreGroups {M : Type 0} (P : M → Type 0) (others : List M) : Type 0 where
  pub at : (last : M) → P last → (i : ℕ) → P (get_or others i last)

pub no_groups : {M : Type 0} (P : M → Type 0) → AreGroups P []
no_groups P = record { at = λ last p i. p }

more : {M : Type 0} (P : M → Type 0) (others : List M) (m : M) → ((last : M) → P last → (i : ℕ) → P (get_or others i last)) → P m → (last : M) → P last → (i : ℕ) → P (get_or (others ++ m ∷ []) i last)
more P [] m all is last p zero = is
more P [] m all is last p (suc i) = p
more P (x ∷ xs) m all is last p zero = all last p 0
more P (x ∷ xs) m all is last p (suc i) = more P xs m (λ l q k. all l q (suc k)) is last p i

pub more_groups : {M : Type 0} (P : M → Type 0) (others : List M) (m : M) → AreGroups P others → P m → AreGroups P (others ++ m ∷ [])
more_groups P others m all is = record { at = more P others m all.at is }
