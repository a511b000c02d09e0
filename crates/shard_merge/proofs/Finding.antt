-- The least number that passes a test.
use Rattle.std.proofs.Common.{◌≡◌, ◌∙◌, ℕ, zero, suc, ◌+◌, ◌<◌, Bool, true, false, cond, Option, Some, None, sym, ap, subst, arith}
use Rattle.std.specs.Prelude.{find}
use Rattle.std.specs.List.{range_with_len}

more_case : (b : Bool) (a : ℕ) (o p : Option ℕ) → cond b (Some a) o ≡ None → (o ≡ None → p ≡ None) → cond b (Some a) p ≡ None
more_case true a o p e f = absurd cc
more_case false a o p e f = f e

-- one number more that doesn't pass
none_from : (test : ℕ → Bool) (a n : ℕ) → find test (range_with_len a n) ≡ None → test (a + n) ≡ false → find test (range_with_len a (suc n)) ≡ None
none_from test a zero e f = let at : a + 0 ≡ a = omega arith in ap (λ (b : Bool). cond b (Some a) None) (subst (λ (k : ℕ). test k ≡ false) at f)
none_from test a (suc n) e f =
    let at : a + suc n ≡ a + 1 + n = omega arith in
    more_case (test a) a (find test (range_with_len (a + 1) n)) (find test (range_with_len (a + 1) (suc n))) e (λ g. none_from test (a + 1) n g (subst (λ (k : ℕ). test k ≡ false) at f))

pub none_more : (test : ℕ → Bool) (n : ℕ) → find test (range_with_len 1 n) ≡ None → test (n + 1) ≡ false → find test (range_with_len 1 (n + 1)) ≡ None
none_more test n e f =
    let at : n + 1 ≡ 1 + n = omega arith in
    let next : suc n ≡ n + 1 = omega arith in
    subst (λ (k : ℕ). find test (range_with_len 1 k) ≡ None) next (none_from test 1 n e (subst (λ (k : ℕ). test k ≡ false) at f))

found_case : (b : Bool) (a k : ℕ) (o p : Option ℕ) → cond b (Some a) o ≡ None → (o ≡ None → p ≡ Some k) → cond b (Some a) p ≡ Some k
found_case true a k o p e f = absurd cc
found_case false a k o p e f = f e

-- the first one that passes
found_from : (test : ℕ → Bool) (a n m : ℕ) → n < m → find test (range_with_len a n) ≡ None → test (a + n) ≡ true → find test (range_with_len a m) ≡ Some (a + n)
found_from test a n zero lt e f = absurd (omega (arith, lt))
found_from test a zero (suc m) lt e f =
    let at : a + 0 ≡ a = omega arith in
    ap (λ (b : Bool). cond b (Some a) (find test (range_with_len (a + 1) m))) (subst (λ (k : ℕ). test k ≡ true) at f) ∙ ap (λ (k : ℕ). Some k) (sym at)
found_from test a (suc n) (suc m) lt e f =
    let at : a + suc n ≡ a + 1 + n = omega arith in
    found_case (test a) a (a + suc n) (find test (range_with_len (a + 1) n)) (find test (range_with_len (a + 1) m)) e
    (λ g. found_from test (a + 1) n m (omega (arith, lt)) g (subst (λ (k : ℕ). test k ≡ true) at f) ∙ ap (λ (k : ℕ). Some k) (sym at))

pub found_first : (test : ℕ → Bool) (n m : ℕ) → n < m → find test (range_with_len 1 n) ≡ None → test (n + 1) ≡ true → find test (range_with_len 1 m) ≡ Some (n + 1)
found_first test n m lt e f =
    let at : n + 1 ≡ 1 + n = omega arith in
    found_from test 1 n m lt e (subst (λ (k : ℕ). test k ≡ true) at f) ∙ ap (λ (k : ℕ). Some k) (sym at)
