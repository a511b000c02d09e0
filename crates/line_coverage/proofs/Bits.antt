-- The bits that are set in a word: the lowest first, and how many.
use Rattle.std.proofs.Common.{◌≡◌, ℕ, zero, suc, ◌+◌, ◌*◌, ◌/◌, ◌%◌, ◌^◌, ◌<◌, ◌≤◌, Bool, true, false, cond, eqb, List, [], ◌∷◌, map, length, filter, refl, sym, ap, ap₂, ◌∙◌, subst, ⊎_elim, arith, w64, bit_and, count_ones, le_refl, add-one}
use Rattle.std.specs.Int.{bit_at, bit_not, trailing_zeros}
use Rattle.std.specs.List.{range_with_len}
use Rattle.std.proofs.lemmas.Bool.{cases_eq}
use Rattle.std.proofs.lemmas.List.{length-map}
use Rattle.std.proofs.lemmas.Nat.{and_le_l, ones_cat, ones_le_self, shr_below, zero_from_ones, div-add-mod'}
use Rattle.std.proofs.lemmas.Nat.Bits.{bit_at_lowest, bit_at-suc, bit_at-trailing_zeros, bit_at_clear_same, bit_at_clear_other, bit_at-zero}
use Rattle.line_coverage.specs.Words.{is_set, bits_of}

-- ---- numbers in a row that pass a test

-- the same pass two tests that agree there
pub same_passing : (p q : ℕ → Bool) (a n : ℕ) → ((i : ℕ) → a ≤ i → i < a + n → p i ≡ q i) → filter p (range_with_len a n) ≡ filter q (range_with_len a n)
same_passing p q a zero h = refl
same_passing p q a (suc n) h =
    ap₂ (λ (b : Bool) (xs : List ℕ). cond b (a ∷ xs) xs) (h a (omega arith) (omega arith)) (same_passing p q (a + 1) n (λ i from below. h i (omega arith) (omega arith)))

pub none_passing : (p : ℕ → Bool) (a n : ℕ) → ((i : ℕ) → a ≤ i → p i ≡ false) → filter p (range_with_len a n) ≡ []
none_passing p a zero h = refl
none_passing p a (suc n) h =
    ap₂ (λ (b : Bool) (xs : List ℕ). cond b (a ∷ xs) xs) (h a (le_refl a)) (none_passing p (a + 1) n (λ i from. h i (omega arith)))

-- the first that passes, and those that pass besides
first_passing : (p q : ℕ → Bool) (k a n : ℕ) → a ≤ k → k < a + n → p k ≡ true → q k ≡ false → ((i : ℕ) → i < k → p i ≡ false) → ((i : ℕ) → i < a + n → (i ≡ k → ⊥) → q i ≡ p i)
    → filter p (range_with_len a n) ≡ k ∷ filter q (range_with_len a n)
first_passing p q k a zero from below at_p at_q before others = absurd (let l = from in let b = below in omega arith)
first_passing p q k a (suc n) from below at_p at_q before others =
    ⊎_elim here (there (λ less. first_passing p q k (a + 1) n (omega arith) (omega arith) at_p at_q before (λ i under other. others i (omega arith) other))) (cases_eq a k)
  where
    ps : List ℕ
    ps = filter p (range_with_len (a + 1) n)

    qs : List ℕ
    qs = filter q (range_with_len (a + 1) n)

    here : a ≡ k → cond (p a) (a ∷ ps) ps ≡ k ∷ cond (q a) (a ∷ qs) qs
    here e =
        ap (λ b. cond b (a ∷ ps) ps) (ap p e ∙ at_p)
        ∙ ap₂ (λ x xs. x ∷ xs) e (same_passing p q (a + 1) n (λ i above under. sym (others i (omega arith) (λ same. (let s = same in let t = e in let u = above in omega arith)))))
        ∙ ap (λ b. k ∷ cond b (a ∷ qs) qs) (sym (ap q e ∙ at_q))

    there : (a < k → ps ≡ k ∷ qs) → (a ≡ k → ⊥) → cond (p a) (a ∷ ps) ps ≡ k ∷ cond (q a) (a ∷ qs) qs
    there rest apart =
        let less : a < k = omega arith in
        ap (λ b. cond b (a ∷ ps) ps) (before a less)
        ∙ rest less
        ∙ ap (λ b. k ∷ cond b (a ∷ qs) qs) (sym (others a (omega arith) apart ∙ before a less))

-- those that pass from a place on are those that pass another test, moved
pub moved_passing : (p q : ℕ → Bool) (base j a n : ℕ) → a ≡ base + j → ((b : ℕ) → j ≤ b → b < j + n → p (base + b) ≡ q b) → filter p (range_with_len a n) ≡ map (λ b. base + b) (filter q (range_with_len j n))
moved_passing p q base j a zero is h = refl
moved_passing p q base j a (suc n) is h =
    by (moved_passing p q base (j + 1) (a + 1) n (omega arith) (λ b from below. h b (omega arith) (omega arith))) (q j) (ap p is ∙ h j (le_refl j) (omega arith))
  where
    by : filter p (range_with_len (a + 1) n) ≡ map (λ b. base + b) (filter q (range_with_len (j + 1) n)) → (t : Bool) → p a ≡ t → cond (p a) (a ∷ filter p (range_with_len (a + 1) n)) (filter p (range_with_len (a + 1) n)) ≡ map (λ b. base + b) (cond t (j ∷ filter q (range_with_len (j + 1) n)) (filter q (range_with_len (j + 1) n)))
    by rest true at = ap (λ b. cond b (a ∷ filter p (range_with_len (a + 1) n)) (filter p (range_with_len (a + 1) n))) at ∙ ap₂ (λ x xs. x ∷ xs) is rest
    by rest false at = ap (λ b. cond b (a ∷ filter p (range_with_len (a + 1) n)) (filter p (range_with_len (a + 1) n))) at ∙ rest

-- ---- the lowest bit, and the others

abbrev pub without : ℕ → ℕ → ℕ
without n k = bit_and n (bit_not w64 (1 * 2 ^ k % 2 ^ 64))

pub lowest_bit : (n k : ℕ) → 0 < n → n < 2 ^ 64 → k ≡ trailing_zeros w64 n → k < 64
lowest_bit n k some fits is = subst (λ j. j < 64) (sym is) (bit_at-trailing_zeros w64 n some fits).0

pub next_bit : (n k : ℕ) → 0 < n → n < 2 ^ 64 → k ≡ trailing_zeros w64 n → bits_of n ≡ k ∷ bits_of (without n k)
unfolding bits_of
next_bit n k some fits is =
    let low = bit_at-trailing_zeros w64 n some fits in
    let within = lowest_bit n k some fits is in
    first_passing (is_set n) (is_set (without n k)) k 0 64 (omega arith) within
    (ap (λ b. eqb b 1) (ap (bit_at n) is ∙ low.1))
    (ap (λ b. eqb b 1) (bit_at_clear_same w64 n k within))
    (λ i below. ap (λ b. eqb b 1) (low.2 i (subst (λ j. i < j) is below)))
    (λ i below other. ap (λ b. eqb b 1) (bit_at_clear_other w64 n k within i below other))

pub fewer_bits : (n k : ℕ) → 0 < n → n < 2 ^ 64 → k ≡ trailing_zeros w64 n → without n k < n
fewer_bits n k some fits is =
    let within = lowest_bit n k some fits is in
    let one : bit_at n k ≡ 1 = ap (bit_at n) is ∙ (bit_at-trailing_zeros w64 n some fits).1 in
    let none = bit_at_clear_same w64 n k within in
    let le = and_le_l n (bit_not w64 (1 * 2 ^ k % 2 ^ 64)) in
    ⊎_elim (λ (same : without n k ≡ n). absurd (let e : 0 ≡ 1 = sym none ∙ ap (λ m. bit_at m k) same ∙ one in omega arith)) (λ apart. omega arith) (cases_eq (without n k) n)

pub no_bits : (n : ℕ) → n ≡ 0 → bits_of n ≡ []
unfolding bits_of
no_bits n is = none_passing (is_set n) 0 64 (λ i from. ap (λ b. eqb b 1) (ap (λ m. bit_at m i) is ∙ bit_at-zero i))

-- ---- how many they are

ones_below : (k n : ℕ) → n < 2 ^ k → count_ones n ≡ length (filter (is_set n) (range_with_len 0 k))
ones_below zero n h = let e : n ≡ 0 = omega arith in let o = ones_le_self n in omega arith
ones_below (suc k) n h =
    ap count_ones (sym (div-add-mod' n 2)) ∙ ones_cat 1 (n / 2) (n % 2) (omega arith)
    ∙ ap (λ o. o + count_ones (n % 2)) (ones_below k (n / 2) (shr_below n k 1 (subst (λ x. n < 2 ^ x) (sym (add-one k)) h)))
    ∙ lowest (n % 2) (omega arith) (bit_at_lowest n)
  where
    others : filter (is_set n) (range_with_len 1 k) ≡ map (λ b. 1 + b) (filter (is_set (n / 2)) (range_with_len 0 k))
    others = moved_passing (is_set n) (is_set (n / 2)) 1 0 1 k refl (λ b from below. ap (λ x. eqb x 1) (ap (bit_at n) (omega arith) ∙ bit_at-suc n b))

    lowest : (r : ℕ) → r < 2 → bit_at n 0 ≡ r → length (filter (is_set (n / 2)) (range_with_len 0 k)) + count_ones r ≡ length (cond (is_set n 0) (0 ∷ filter (is_set n) (range_with_len 1 k)) (filter (is_set n) (range_with_len 1 k)))
    lowest zero small is =
        let one : count_ones 0 ≡ 0 = (let o = ones_le_self 0 in omega arith) in
        let long = ap length others ∙ length-map (filter (is_set (n / 2)) (range_with_len 0 k)) (λ b. 1 + b) in
        let all = ap (λ b. length (cond b (0 ∷ filter (is_set n) (range_with_len 1 k)) (filter (is_set n) (range_with_len 1 k)))) (ap (λ b. eqb b 1) is) in
        omega arith
    lowest (suc zero) small is =
        let one : count_ones 1 ≡ 1 = ⊎_elim (λ (none : count_ones 1 ≡ 0). absurd (let e = zero_from_ones 1 none in omega arith)) (λ some. (let o = ones_le_self 1 in omega arith)) (cases_eq (count_ones 1) 0) in
        let long = ap length others ∙ length-map (filter (is_set (n / 2)) (range_with_len 0 k)) (λ b. 1 + b) in
        let all = ap (λ b. length (cond b (0 ∷ filter (is_set n) (range_with_len 1 k)) (filter (is_set n) (range_with_len 1 k)))) (ap (λ b. eqb b 1) is) in
        omega arith
    lowest (suc (suc r)) small is = absurd (let s = small in omega arith)

pub count_is : (n : ℕ) → n < 2 ^ 64 → count_ones n ≡ length (bits_of n)
unfolding bits_of
count_is n h = ones_below 64 n h
