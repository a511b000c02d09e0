-- Numbers lie in the range that was asked for.
use Rattle.std.proofs.Common.{◌≡◌, ℕ, ◌-◌, ◌≤◌, ◌<◌, ◌^◌, Bool, true, false, cond, List, Some, None, refl, rules, arith}
use Rattle.std.specs.Prelude.{ℤ, pos, negsuc, ◌≤ℤ◌, nat_lt, nat_le, ◌&&◌, ◌||◌, IfSome, FitsSigned}
use Rattle.std.specs.Int.{w8, w16, w32}
use Rattle.std.proofs.lemmas.Int.{ints}
use Rattle.std.proofs.lemmas.Bool.{ltb-true, ltb-false, leb-true}
use Rattle.asm_words.specs.Numbers.{number_in, not_past, up_to, signed, between}
use Rattle.asm_words.specs.Labels.{label_at, start_in, end_in}
use Rattle.asm_words.specs.declared.labels.Labels.{Labels}
use Rattle.asm_words.proofs.IfSome.{of_then, of_if, of_unless, always}

or_false : (a b : Bool) → a || b ≡ false → b ≡ false
or_false true b e = absurd cc
or_false false b e = e

pub and_left : (a b : Bool) → a && b ≡ true → a ≡ true
and_left true b e = refl
and_left false b e = absurd cc

pub and_right : (a b : Bool) → a && b ≡ true → b ≡ true
and_right true b e = e
and_right false b e = absurd cc

not_past_is : (bound : ℕ) (n : Bool × ℕ) → IfSome (not_past bound n) (λ x. x ≤ bound)
not_past_is bound n = of_unless (n.0 && nat_lt 0 n.1 || nat_lt bound n.1) (Some n.1) (λ x. x ≤ bound) (λ e. ltb-false bound n.1 (or_false (n.0 && nat_lt 0 n.1) (nat_lt bound n.1) e))

pub up_to_is : (bound : ℕ) (word : List ℕ) → IfSome (up_to bound word) (λ n. n ≤ bound)
up_to_is bound word = of_then (not_past bound) (number_in word) (λ n. n ≤ bound) (always (number_in word) (λ n. IfSome (not_past bound n) (λ x. x ≤ bound)) (not_past_is bound))

-- one below the negative of the bound up to the bound
pub record IsBetween (bound : ℕ) (z : ℤ) : Type 0 where
  pub low : negsuc bound ≤ℤ z
  pub high : z ≤ℤ pos bound

negative : (bound n : ℕ) → n ≤ bound → IsBetween bound (negsuc n)
negative bound n le = record { low = omega (arith, ints, le); high = omega (arith, ints) }

positive : (bound n : ℕ) → n ≤ bound → IsBetween bound (pos n)
positive bound n le = record { low = omega (arith, ints); high = omega (arith, ints, le) }

signed_by : (bound size : ℕ) (minus past : Bool) → nat_lt bound size ≡ past → IfSome (cond minus (cond (nat_lt bound (size - 1)) None (Some (negsuc (size - 1)))) (cond past None (Some (pos size)))) (IsBetween bound)
signed_by bound size true past test = of_unless (nat_lt bound (size - 1)) (Some (negsuc (size - 1))) (IsBetween bound) (λ e. negative bound (size - 1) (ltb-false _ _ e))
signed_by bound size false true test = tt
signed_by bound size false false test = positive bound size (ltb-false _ _ test)

signed_is : (bound : ℕ) (n : Bool × ℕ) → IfSome (signed bound n) (IsBetween bound)
signed_is bound n = signed_by bound n.1 (n.0 && nat_lt 0 n.1) (nat_lt bound n.1) refl

pub between_is : (bound : ℕ) (word : List ℕ) → IfSome (between bound word) (IsBetween bound)
between_is bound word = of_then (signed bound) (number_in word) (IsBetween bound) (always (number_in word) (λ n. IfSome (signed bound n) (IsBetween bound)) (signed_is bound))

pub fits_one : (z : ℤ) → IsBetween 0x7F z → FitsSigned w8 z
fits_one z b = search (rules, b.low, b.high)

pub fits_two : (z : ℤ) → IsBetween 0x7FFF z → FitsSigned w16 z
fits_two z b = search (rules, b.low, b.high)

pub fits_four : (z : ℤ) → IsBetween 0x7FFF_FFFF z → FitsSigned w32 z
fits_four z b = search (rules, b.low, b.high)

-- ---- labels

pub start_is : (labels : Labels) (name : List ℕ) → IfSome (start_in labels name) (λ n. (n < labels.total) × (n < 2 ^ 32))
start_is labels name =
    of_then (λ (at : ℕ). cond (nat_lt at labels.total && nat_lt at (2 ^ 32)) (Some at) None) (label_at labels name) (λ n. (n < labels.total) × (n < 2 ^ 32))
    (always (label_at labels name) (λ (at : ℕ). IfSome (cond (nat_lt at labels.total && nat_lt at (2 ^ 32)) (Some at) None) (λ n. (n < labels.total) × (n < 2 ^ 32)))
    (λ at. of_if (nat_lt at labels.total && nat_lt at (2 ^ 32)) (Some at) (λ n. (n < labels.total) × (n < 2 ^ 32))
    (λ e. (ltb-true _ _ (and_left (nat_lt at labels.total) (nat_lt at (2 ^ 32)) e), ltb-true _ _ (and_right (nat_lt at labels.total) (nat_lt at (2 ^ 32)) e)))))

pub end_is : (labels : Labels) (name : List ℕ) → IfSome (end_in labels name) (λ n. n ≤ labels.total)
end_is labels name =
    of_then (λ (at : ℕ). cond (nat_le at labels.total && nat_lt at (2 ^ 32)) (Some at) None) (label_at labels name) (λ n. n ≤ labels.total)
    (always (label_at labels name) (λ (at : ℕ). IfSome (cond (nat_le at labels.total && nat_lt at (2 ^ 32)) (Some at) None) (λ n. n ≤ labels.total))
    (λ at. of_if (nat_le at labels.total && nat_lt at (2 ^ 32)) (Some at) (λ n. n ≤ labels.total)
    (λ e. leb-true _ _ (and_left (nat_le at labels.total) (nat_lt at (2 ^ 32)) e))))
