-- What std's operations on words leave is what the whole numbers leave, wrapped.
use Rattle.std.proofs.Common.{◌≡◌, refl, sym, ap, ◌∙◌, arith, ℕ, zero, suc, ◌-◌, ◌*◌, ◌/◌, ◌%◌, ◌^◌, ◌<◌, ◌≤◌}
use Rattle.std.specs.Prelude.{ℤ, pos, negsuc, ◌*ℤ◌, ◌≤ℤ◌, ◌⊎◌, neg_ℤ, unsigned_abs, bit_and, int_div, int_rem, ◌≢◌}
use Rattle.std.specs.Int.{Width, w32, cast_unsigned, cast_signed, int_wrap, int_rem_euclid, int_shl, int_wrapping_div}
use Rattle.std.proofs.lemmas.Int.{ints, to_z-of_z, wrapping_mul-bits, int_wrap-mul_right, SFits-int_wrap, int_rem_euclid_is, quot-rem, rem_below}
use Rattle.std.proofs.Common.{inl, inr}
use Rattle.std.proofs.lemmas.Nat.{pow_pos, and_mask}
use Rattle.std.proofs.Math.Nat.{mod-eq_of_lt, div-le_self, pow-suc, lt_of_lt_of_le}
use Rattle.std.proofs.Math.Pow.{pow_mono}
use Rattle.jvm_arith.specs.Division.{IsDivision}
use mir.Val.{bits, hbits, SFits}
use mir.ValLaws.{of_z_fits, half_full, pow-bits}

-- a number with few enough bits keeps them
pub wrapped-bits : (w : Width) (z : ℤ) → unsigned_abs z < 2 ^ bits w → cast_signed w (cast_unsigned w z) ≡ int_wrap w z
unfolding int_wrap
wrapped-bits w (pos n) h = ap (cast_signed w) (sym (mod-eq_of_lt h))
wrapped-bits w (negsuc n) h =
    let small : n < 2 ^ bits w = omega arith in
    let same : 2 ^ bits w - suc n ≡ 2 ^ bits w - 1 - n = omega arith in
    ap (cast_signed w) (same ∙ ap (λ r. 2 ^ bits w - 1 - r) (sym (mod-eq_of_lt small)))

-- a wrapped number is passed on as it is
pub passed : (w : Width) (r z : ℤ) → r ≡ int_wrap w z → cast_signed w (cast_unsigned w r) ≡ int_wrap w z
passed w r z e = ap (λ x. cast_signed w (cast_unsigned w x)) e ∙ to_z-of_z w (int_wrap w z) (SFits-int_wrap w z)

abs-fits : (w : Width) (z : ℤ) → SFits w z → unsigned_abs z < 2 ^ bits w
abs-fits w (pos n) f = half_full w f.sfits
abs-fits w (negsuc n) f = let h = f.sfits in let p = pow_pos (hbits w) in omega (arith, pow-bits w)

-- ---- quotients

abs-neg : (n : ℕ) → unsigned_abs (neg_ℤ (pos n)) ≡ n
abs-neg zero = refl
abs-neg (suc n) = refl

abs-div_le : (a b : ℤ) → unsigned_abs (int_div a b) ≤ unsigned_abs a
abs-div_le (pos a) (pos b) = div-le_self a b
abs-div_le (pos a) (negsuc b) = omega (arith, abs-neg (a / suc b), div-le_self a (suc b))
abs-div_le (negsuc a) (pos b) = omega (arith, abs-neg (suc a / b), div-le_self (suc a) b)
abs-div_le (negsuc a) (negsuc b) = div-le_self (suc a) (suc b)

pub quotient : (w : Width) (a b r : ℤ) → SFits w a → SFits w b → r ≡ int_wrapping_div w (cast_signed w (cast_unsigned w a)) (cast_signed w (cast_unsigned w b)) → cast_signed w (cast_unsigned w r) ≡ int_wrap w (int_div a b)
quotient w a b r f g e =
    let small : unsigned_abs (int_div a b) < 2 ^ bits w = omega (arith, abs-div_le a b, abs-fits w a f) in
    passed w r (int_div a b) (e ∙ (λ i. int_wrapping_div w (to_z-of_z w a f i) (to_z-of_z w b g i)) ∙ wrapped-bits w (int_div a b) small)

-- ---- shifts

-- the low bits of a number, n of which make up its word
pub low_bits : (w : Width) (z : ℤ) (n q : ℕ) → SFits w z → 0 < n → q * n ≡ 2 ^ bits w → cast_unsigned w z % n ≡ unsigned_abs (int_rem_euclid z (pos n))
low_bits w (pos m) n q f p e = refl
low_bits w (negsuc m) n q f p e =
    let fits = abs-fits w (negsuc m) f in
    let small : suc m ≤ q * n = omega (arith, e, fits) in
    let there : 2 ^ bits w - suc m ≡ q * n - suc m = omega (arith, e) in
    ap (λ x. x % n) there ∙ ap unsigned_abs (sym (int_rem_euclid_is (negsuc m) (pos n) n q (q * n - suc m) p refl (omega (arith, ints))))

pub distance : (by : ℤ) (d n q : ℕ) → SFits w32 by → 0 < n → q * n ≡ 2 ^ 32 → d ≡ cast_unsigned w32 (cast_signed w32 (cast_unsigned w32 by)) → d % n ≡ unsigned_abs (int_rem_euclid by (pos n))
distance by d n q f p e is = ap (λ x. x % n) (is ∙ ap (cast_unsigned w32) (to_z-of_z w32 by f)) ∙ low_bits w32 by n q f p e

pow_below : (i j : ℕ) → i < j → 2 ^ i < 2 ^ j
pow_below i j h = let up : 2 ^ suc i ≤ 2 ^ j = pow_mono h in let p = pow_pos i in omega (arith, pow-suc 2 i)

shl-mul : (w : Width) (a : ℤ) (k : ℕ) → SFits w a → k < bits w → int_shl w a k ≡ int_wrap w (a *ℤ pos (2 ^ k))
shl-mul w a k f h =
    let small = pow_below k (bits w) h in
    wrapping_mul-bits w (cast_unsigned w a) (2 ^ k) (of_z_fits w a f).fits small
    ∙ (λ i. int_wrap w (to_z-of_z w a f i *ℤ wrapped-bits w (pos (2 ^ k)) small i))
    ∙ int_wrap-mul_right w a (pos (2 ^ k))

pub left : (w : Width) (a r : ℤ) (k j : ℕ) → SFits w a → k < bits w → k ≡ j → r ≡ int_shl w (cast_signed w (cast_unsigned w a)) k → cast_signed w (cast_unsigned w r) ≡ int_wrap w (a *ℤ pos (2 ^ j))
left w a r k j f h same e =
    passed w r (a *ℤ pos (2 ^ j)) (e ∙ ap (λ x. int_shl w x k) (to_z-of_z w a f) ∙ shl-mul w a k f h ∙ ap (λ i. int_wrap w (a *ℤ pos (2 ^ i))) same)

pub unsigned : (w : Width) (a r : ℤ) (n m k j : ℕ) → SFits w a → k ≡ j → n ≡ cast_unsigned w (cast_signed w (cast_unsigned w a)) → m ≡ n / 2 ^ k → r ≡ cast_signed w m → cast_signed w (cast_unsigned w r) ≡ int_wrap w (pos (cast_unsigned w a / 2 ^ j))
unsigned w a r n m k j f same en em er =
    let whole : n ≡ cast_unsigned w a = en ∙ ap (cast_unsigned w) (to_z-of_z w a f) in
    let part : m ≡ cast_unsigned w a / 2 ^ j = em ∙ (λ i. whole i / 2 ^ same i) in
    let fits = (of_z_fits w a f).fits in
    let small : cast_unsigned w a / 2 ^ j < 2 ^ bits w = omega (arith, div-le_self (cast_unsigned w a) (2 ^ j), fits) in
    passed w r (pos (cast_unsigned w a / 2 ^ j)) (er ∙ ap (cast_signed w) part ∙ wrapped-bits w (pos (cast_unsigned w a / 2 ^ j)) small)

-- ---- division

abs-pos : (b : ℤ) → b ≢ pos 0 → 0 < unsigned_abs b
abs-pos (pos zero) h = absurd (h refl)
abs-pos (pos (suc n)) h = omega arith
abs-pos (negsuc n) h = omega arith

rest_sign : (a b : ℤ) → (int_rem a b ≡ pos 0) ⊎ (((pos 0 ≤ℤ a) × (pos 0 ≤ℤ int_rem a b)) ⊎ ((a ≤ℤ pos 0) × (int_rem a b ≤ℤ pos 0)))
rest_sign (pos a) b = inr (inl (omega (arith, ints), omega (arith, ints)))
rest_sign (negsuc a) b = inr (inr (omega (arith, ints), omega (arith, ints)))

pub divides : (a b : ℤ) → b ≢ pos 0 → IsDivision a b (int_div a b) (int_rem a b)
divides a b h = record { law = quot-rem a b; small = rem_below a b (abs-pos b h); sign = rest_sign a b }

-- ---- low bits

-- the low bits of a word, read as a smaller word, so many of which make up the larger one
pub low_word : (w v : Width) (a r : ℤ) (n q : ℕ) → SFits w a → q * 2 ^ bits v ≡ 2 ^ bits w → n ≡ cast_unsigned w (cast_signed w (cast_unsigned w a)) → r ≡ cast_signed v (bit_and n (2 ^ bits v - 1)) → r ≡ int_wrap v a
unfolding int_wrap
low_word w v a r n q f e en er =
    let whole : n ≡ cast_unsigned w a = en ∙ ap (cast_unsigned w) (to_z-of_z w a f) in
    er ∙ ap (cast_signed v) (and_mask n (bits v) ∙ ap (λ x. x % 2 ^ bits v) whole ∙ low_bits w a (2 ^ bits v) q f (pow_pos (bits v)) e)

-- a smaller word, passed on as a larger one
pub widened : (w v : Width) (a r : ℤ) → 2 ^ hbits v ≤ 2 ^ hbits w → r ≡ int_wrap v a → cast_signed w (cast_unsigned w (cast_signed v (cast_unsigned v r))) ≡ int_wrap v a
widened w v a r h e =
    let f = SFits-int_wrap v a in
    let small : SFits w (int_wrap v a) = record { sfits = lt_of_lt_of_le f.sfits h } in
    ap (λ x. cast_signed w (cast_unsigned w x)) (passed v r a e) ∙ to_z-of_z w (int_wrap v a) small
