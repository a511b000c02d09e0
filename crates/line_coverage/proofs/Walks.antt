-- Tests word by word: one more word, and all of them.
use Rattle.std.proofs.Common.{◌≡◌, ℕ, zero, suc, ◌+◌, ◌*◌, ◌/◌, ◌%◌, ◌^◌, ◌<◌, ◌≤◌, Bool, false, ◌&&◌, ◌||◌, ◌==◌, eqb, List, [], ◌∷◌, ◌++◌, map, length, filter, get_or, set, drop, bit_or, refl, sym, ap, ap₂, ◌∙◌, ⊎_elim, arith, w64, append-nil, append_assoc, add_comm, get_or-set_same, get_or-set_other, true}
use Rattle.std.specs.Int.{bit_at, trailing_zeros}
use Rattle.std.specs.List.{range_with_len}
use Rattle.std.proofs.lemmas.Bool.{cases_eq, eq-eqb, ne_eqb, and_from, and_left, and_right, or_right}
use Rattle.std.proofs.lemmas.List.{drop_more, get_or_past}
use Rattle.std.proofs.lemmas.List.Elements.{filter-append}
use Rattle.std.proofs.lemmas.Nat.Bits.{bit_at-trailing_zeros, bit_at-zero, bit_at_set_same, bit_at_set_other}
use Rattle.line_coverage.specs.Words.{is_set, has_test, bits_of, tests_of, tests_from}
use Rattle.line_coverage.proofs.Bits.{moved_passing, none_passing, no_bits, next_bit, without}

-- ---- a bit is set

or_false : (x y : Bool) → y ≡ false → x ≡ (x || y)
or_false true y is = refl
or_false false y is = sym is

pub bit_set : (ws : List ℕ) (at bit : ℕ) → at < length ws → bit < 64 → (i b : ℕ) → b < 64
    → is_set (get_or (set ws at (bit_or (get_or ws at 0) (1 * 2 ^ bit % 2 ^ 64))) i 0) b ≡ (is_set (get_or ws i 0) b || (i == at && b == bit))
bit_set ws at bit there within i b below = ⊎_elim here else (cases_eq i at)
  where
    word : ℕ
    word = bit_or (get_or ws at 0) (1 * 2 ^ bit % 2 ^ 64)

    here : i ≡ at → is_set (get_or (set ws at word) i 0) b ≡ (is_set (get_or ws i 0) b || (i == at && b == bit))
    here same =
        let is : get_or (set ws at word) i 0 ≡ word = ap (λ j. get_or (set ws at word) j 0) same ∙ get_or-set_same ws at word 0 there in
        let was : get_or ws at 0 ≡ get_or ws i 0 = ap (λ j. get_or ws j 0) (sym same) in
        ap (λ w. is_set w b) is
        ∙ ⊎_elim
        (λ (one : b ≡ bit). ap (λ x. eqb x 1) (ap (bit_at word) one ∙ bit_at_set_same w64 (get_or ws at 0) bit within) ∙ sym (or_right (is_set (get_or ws i 0) b) (i == at && b == bit) (and_from (i == at) (b == bit) (eq-eqb i at same) (eq-eqb b bit one))))
        (λ (other : b ≡ bit → ⊥). ap (λ x. eqb x 1) (bit_at_set_other w64 (get_or ws at 0) bit within b other ∙ ap (λ w. bit_at w b) was) ∙ or_false (is_set (get_or ws i 0) b) (i == at && b == bit) (and_right (i == at) (b == bit) (ne_eqb b bit other)))
        (cases_eq b bit)

    else : (i ≡ at → ⊥) → is_set (get_or (set ws at word) i 0) b ≡ (is_set (get_or ws i 0) b || (i == at && b == bit))
    else apart =
        ap (λ w. is_set w b) (get_or-set_other ws at i word 0 apart)
        ∙ or_false (is_set (get_or ws i 0) b) (i == at && b == bit) (and_left (i == at) (b == bit) (ne_eqb i at apart))

-- ---- one more test of a word

pub pushed : (old new all : List ℕ) (base rest k : ℕ) → 0 < rest → rest < 2 ^ 64 → k ≡ trailing_zeros w64 rest → new ≡ old ++ (base + k) ∷ [] → old ++ tests_of base rest ≡ all
    → new ++ tests_of base (without rest k) ≡ all
pushed old new all base rest k some fits is more so_far =
    ap (λ xs. xs ++ tests_of base (without rest k)) more
    ∙ append_assoc old ((base + k) ∷ []) (tests_of base (without rest k))
    ∙ ap (λ bs. old ++ map (λ b. base + b) bs) (sym (next_bit rest k some fits is))
    ∙ so_far

pub none_left : (old all : List ℕ) (base rest : ℕ) → rest ≡ 0 → old ++ tests_of base rest ≡ all → old ≡ all
none_left old all base rest is so_far =
    sym (append-nil old) ∙ ap (λ bs. old ++ map (λ b. base + b) bs) (sym (no_bits rest is)) ∙ so_far

-- ---- one more word

pub more_words : (ws : List ℕ) (i : ℕ) → i < length ws → tests_from (64 * i) (drop i ws) ≡ tests_of (64 * i) (get_or ws i 0) ++ tests_from (64 * (i + 1)) (drop (i + 1) ws)
more_words ws i lt =
    ap (tests_from (64 * i)) (drop_more ws i 0 lt)
    ∙ ap (λ b. tests_of (64 * i) (get_or ws i 0) ++ tests_from b (drop (i + 1) ws)) (omega arith)

-- a test of the word at a place is one of the words'
pub at_place : (ws : List ℕ) (i b : ℕ) → b < 64 → has_test ws (64 * i + b) ≡ is_set (get_or ws i 0) b
at_place ws i b below = ap₂ (λ j k. is_set (get_or ws j 0) k) (omega arith) (omega arith)

-- where the tests of a word are numbers of 32 bits, so is its place
pub place_below : (at word : ℕ) → 0 < word → word < 2 ^ 64 → ((b : ℕ) → b < 64 → is_set word b ≡ true → 64 * at + b < 2 ^ 32) → at < 2 ^ 26
place_below at word some fits h =
    let low = bit_at-trailing_zeros w64 word some fits in
    let t = h (trailing_zeros w64 word) low.0 (ap (λ b. eqb b 1) low.1) in
    omega arith

pub no_tests : (old : List ℕ) (base word : ℕ) → word ≡ 0 → old ≡ old ++ tests_of base word
no_tests old base word is = sym (append-nil old) ∙ ap (λ bs. old ++ map (λ b. base + b) bs) (sym (no_bits word is))

-- ---- all words

range_append : (a m n : ℕ) → range_with_len a (m + n) ≡ range_with_len a m ++ range_with_len (a + m) n
range_append a zero n = ap₂ range_with_len (omega arith) (omega arith)
range_append a (suc m) n =
    let e : suc m + n ≡ suc (m + n) = omega arith in
    ap (range_with_len a) e
    ∙ ap (λ xs. a ∷ xs) (range_append (a + 1) m n ∙ ap (λ b. range_with_len (a + 1) m ++ range_with_len b n) (omega arith))

parted : (p : ℕ → Bool) (a m n k : ℕ) → k ≡ m + n → filter p (range_with_len a m) ++ filter p (range_with_len (a + m) n) ≡ filter p (range_with_len a k)
parted p a m n k is =
    sym (filter-append p (range_with_len a m) (range_with_len (a + m) n)) ∙ ap (filter p) (sym (range_append a m n)) ∙ ap (λ j. filter p (range_with_len a j)) (sym is)

of_word : (p : ℕ → Bool) (base word : ℕ) → ((b : ℕ) → b < 64 → p (base + b) ≡ is_set word b) → tests_of base word ≡ filter p (range_with_len base 64)
unfolding bits_of
of_word p base word h = sym (moved_passing p (is_set word) base 0 base 64 (omega arith) (λ b from below. h b (omega arith)))

of_words : (ws : List ℕ) (base : ℕ) (p : ℕ → Bool) → ((i b : ℕ) → b < 64 → p (base + (64 * i + b)) ≡ is_set (get_or ws i 0) b) → tests_from base ws ≡ filter p (range_with_len base (64 * length ws))
of_words [] base p h = refl
of_words (w ∷ ws) base p h =
    ap₂ (λ xs ys. xs ++ ys) (of_word p base w (λ b below. ap p (omega arith) ∙ h 0 b below)) (of_words ws (base + 64) p (λ i b below. ap p (omega arith) ∙ h (suc i) b below))
    ∙ parted p base 64 (64 * length ws) (64 * suc (length ws)) (omega arith)

further : (p : ℕ → Bool) (m n : ℕ) → ((t : ℕ) → m ≤ t → p t ≡ false) → filter p (range_with_len 0 (m + n)) ≡ filter p (range_with_len 0 m)
further p m n h =
    sym (parted p 0 m n (m + n) refl)
    ∙ ap (λ xs. filter p (range_with_len 0 m) ++ xs) (none_passing p (0 + m) n (λ t from. h t (omega arith)))
    ∙ append-nil (filter p (range_with_len 0 m))

-- the tests of words, where none of them stands behind n
pub words_are : (ws : List ℕ) (n : ℕ) → ((t : ℕ) → n ≤ t → has_test ws t ≡ false) → tests_from 0 ws ≡ filter (has_test ws) (range_with_len 0 n)
words_are ws n h =
    of_words ws 0 (has_test ws) (λ i b below. ap (has_test ws) (omega arith) ∙ at_place ws i b below)
    ∙ sym (further (has_test ws) (64 * length ws) n (λ t from. ap (λ w. is_set w (t % 64)) (get_or_past ws (t / 64) 0 (omega arith)) ∙ ap (λ b. eqb b 1) (bit_at-zero (t % 64))))
    ∙ ap (λ k. filter (has_test ws) (range_with_len 0 k)) (add_comm (64 * length ws) n)
    ∙ further (has_test ws) n (64 * length ws) h
