-- Numbers are read as they are printed.
use Rattle.std.proofs.Common.{◌≡◌, ◌∙◌, refl, sym, ap, ℕ, zero, suc, ◌+◌, ◌-◌, ◌*◌, ◌/◌, ◌%◌, ◌<◌, ◌≤◌, Bool, true, false, cond, List, [], ◌∷◌, ◌++◌, length, Option, Some, None, arith}
use Rattle.std.specs.Prelude.{ℤ, pos, negsuc, nat_lt, ◌==◌, ◌&&◌, option_and_then, FitsSigned}
use Rattle.std.specs.Fmt.{decimal, signed_decimal}
use Rattle.std.specs.Int.{w8, w16, w32, w64}
use Rattle.std.specs.List.{AllByRecursion}
use Rattle.std.specs.Option.{option_map}
use Rattle.std.proofs.lemmas.Bool.{lt-ltb, le-ltb, le-leb, ne_eqb}
use Rattle.std.proofs.lemmas.Fmt.{decimal_by_steps, decimal_digit, decimal_nonempty}
use Rattle.asm_words.specs.Numbers.{is_digit, decimal_from, natural, number_in, not_past, up_to, signed, between}

digit_is : (d : ℕ) → d < 10 → is_digit (48 + d) ≡ true
digit_is d lt = rw (le-leb 48 (48 + d) (omega arith), le-leb (48 + d) 57 (omega (arith, lt)))

-- one digit more
more_is : (v d : ℕ) → v < 1_000_000_000_000_000_000 → d < 10 → decimal_from v ((48 + d) ∷ []) ≡ Some (v * 10 + d)
more_is v d small lt =
    ap (λ (b : Bool). cond (b && nat_lt v 1_000_000_000_000_000_000) (Some (v * 10 + ((48 + d) - 48))) None) (digit_is d lt)
    ∙ ap (λ (b : Bool). cond b (Some (v * 10 + ((48 + d) - 48))) None) (lt-ltb v 1_000_000_000_000_000_000 small)
    ∙ ap (λ (n : ℕ). Some (v * 10 + n)) (omega arith)

from_append : (v : ℕ) (ds : List ℕ) (w : ℕ) (es : List ℕ) → decimal_from v ds ≡ Some w → decimal_from v (ds ++ es) ≡ decimal_from w es
from_append v [] w es e = ap (λ (o : Option ℕ). option_and_then (λ (x : ℕ). decimal_from x es) o) e
from_append v (d ∷ ds) w es e = by (is_digit d && nat_lt v 1_000_000_000_000_000_000) (from_append (v * 10 + (d - 48)) ds w es) e
  where
    by : (b : Bool) → (decimal_from (v * 10 + (d - 48)) ds ≡ Some w → decimal_from (v * 10 + (d - 48)) (ds ++ es) ≡ decimal_from w es)
        → cond b (decimal_from (v * 10 + (d - 48)) ds) None ≡ Some w → cond b (decimal_from (v * 10 + (d - 48)) (ds ++ es)) None ≡ decimal_from w es
    by true f h = f h
    by false f h = absurd cc

-- What a printed number looks like: its digits are it, and it begins with 0 only where it is 0.
record IsPrinted (n : ℕ) (ds : List ℕ) : Type 0 where
  first : ℕ
  rest : List ℕ
  is : ds ≡ first ∷ rest
  from : decimal_from 0 ds ≡ Some n
  low : 48 ≤ first
  high : first ≤ 57
  lead : 0 < n → 48 < first

Prints : ℕ → List ℕ → Type 0
Prints n ds = n < 10_000_000_000_000_000_000 → IsPrinted n ds

prints_one : (n : ℕ) → n < 10 → IsPrinted n ((48 + n) ∷ [])
prints_one n lt = record { first = 48 + n; rest = []; is = refl; from = more_is 0 n (omega arith) lt ∙ ap (λ (x : ℕ). Some x) (omega arith); low = omega arith; high = omega (arith, lt); lead = λ some. omega (arith, some) }

prints_more : (n : ℕ) (ds : List ℕ) → 10 ≤ n → IsPrinted (n / 10) ds → n / 10 < 1_000_000_000_000_000_000 → IsPrinted n (ds ++ ((48 + n % 10) ∷ []))
prints_more n ds ten p small = record {
  first = p.first;
  rest = p.rest ++ ((48 + n % 10) ∷ []);
  is = ap (λ (xs : List ℕ). xs ++ ((48 + n % 10) ∷ [])) p.is;
  from = from_append 0 ds (n / 10) ((48 + n % 10) ∷ []) p.from ∙ more_is (n / 10) (n % 10) small (omega arith) ∙ ap (λ (x : ℕ). Some x) (omega arith);
  low = p.low;
  high = p.high;
  lead = λ some. p.lead (omega (arith, ten));
}

printed : (n : ℕ) → n < 10_000_000_000_000_000_000 → IsPrinted n (decimal n)
printed n small =
    decimal_by_steps (λ (m : ℕ) (ds : List ℕ). m < 10_000_000_000_000_000_000 → IsPrinted m ds) (λ m lt s. prints_one m lt)
    (λ m ds ten h s. prints_more m ds ten (h (omega (arith, s))) (omega (arith, s))) n (omega (arith, small)) small

natural_is : (n : ℕ) → n < 10_000_000_000_000_000_000 → natural (decimal n) ≡ Some n
natural_is zero small = ap natural (decimal_digit 0 (omega arith))
natural_is (suc m) small =
    let p = printed (suc m) small in
    ap natural p.is
    ∙ ap (λ (b : Bool). cond b (cond (length p.rest == 0) (Some 0) None) (decimal_from 0 (p.first ∷ p.rest))) (ne_eqb p.first 48 (λ e. omega (arith, e, p.lead (omega arith))))
    ∙ ap (decimal_from 0) (sym p.is) ∙ p.from

number_is : (n : ℕ) → n < 10_000_000_000_000_000_000 → number_in (decimal n) ≡ Some (false, n)
number_is n small =
    let p = printed n small in
    ap number_in p.is
    ∙ ap (λ (b : Bool). cond b (option_map (λ (k : ℕ). (true, k)) (natural p.rest)) (option_map (λ (k : ℕ). (false, k)) (natural (p.first ∷ p.rest)))) (ne_eqb p.first 45 (λ e. omega (arith, e, p.low)))
    ∙ ap (λ (ds : List ℕ). option_map (λ (k : ℕ). (false, k)) (natural ds)) (sym p.is)
    ∙ ap (λ (o : Option ℕ). option_map (λ (k : ℕ). (false, k)) o) (natural_is n small)

minus_is : (n : ℕ) → n < 10_000_000_000_000_000_000 → number_in (45 ∷ decimal n) ≡ Some (true, n)
minus_is n small = ap (λ (o : Option ℕ). option_map (λ (k : ℕ). (true, k)) o) (natural_is n small)

-- A number up to a bound.
pub up_to_is : (bound n : ℕ) → bound < 10_000_000_000_000_000_000 → n ≤ bound → up_to bound (decimal n) ≡ Some n
up_to_is bound n small le =
    ap (option_and_then (not_past bound)) (number_is n (omega (arith, small, le)))
    ∙ ap (λ (b : Bool). cond b None (Some n)) (le-ltb bound n le)

signed_pos : (bound n : ℕ) → n ≤ bound → signed bound (false, n) ≡ Some (pos n)
signed_pos bound n le = ap (λ (b : Bool). cond b None (Some (pos n))) (le-ltb bound n le)

signed_neg : (bound n : ℕ) → n ≤ bound → signed bound (true, suc n) ≡ Some (negsuc n)
signed_neg bound n le =
    ap (λ (b : Bool). cond b (cond (nat_lt bound (suc n - 1)) None (Some (negsuc (suc n - 1)))) (cond (nat_lt bound (suc n)) None (Some (pos (suc n))))) (lt-ltb 0 (suc n) (omega arith))
    ∙ ap (λ (m : ℕ). cond (nat_lt bound m) None (Some (negsuc m))) (omega arith)
    ∙ ap (λ (b : Bool). cond b None (Some (negsuc n))) (le-ltb bound n le)

-- how large a number with a sign is
abbrev pub size : ℤ → ℕ
size (pos n) = n
size (negsuc n) = n

small_suc : (bound n : ℕ) → bound < 9_999_999_999_999_999_999 → n ≤ bound → suc n < 10_000_000_000_000_000_000
small_suc bound n small le = omega (arith, small, le)

small_pos : (bound n : ℕ) → bound < 9_999_999_999_999_999_999 → n ≤ bound → n < 10_000_000_000_000_000_000
small_pos bound n small le = omega (arith, small, le)

-- A number with a sign.
pub between_is : (bound : ℕ) (z : ℤ) → bound < 9_999_999_999_999_999_999 → size z ≤ bound → between bound (signed_decimal z) ≡ Some z
between_is bound (pos n) small le = ap (option_and_then (signed bound)) (number_is n (small_pos bound n small le)) ∙ signed_pos bound n le
between_is bound (negsuc n) small le = ap (option_and_then (signed bound)) (minus_is (suc n) (small_suc bound n small le)) ∙ signed_neg bound n le

pub fits_one : (z : ℤ) → FitsSigned w8 z → size z ≤ 0x7F
fits_one (pos n) h = omega (arith, h.sfits)
fits_one (negsuc n) h = omega (arith, h.sfits)

pub fits_two : (z : ℤ) → FitsSigned w16 z → size z ≤ 0x7FFF
fits_two (pos n) h = omega (arith, h.sfits)
fits_two (negsuc n) h = omega (arith, h.sfits)

pub fits_four : (z : ℤ) → FitsSigned w32 z → size z ≤ 0x7FFF_FFFF
fits_four (pos n) h = omega (arith, h.sfits)
fits_four (negsuc n) h = omega (arith, h.sfits)

pub fits_eight : (z : ℤ) → FitsSigned w64 z → size z ≤ 0x7FFF_FFFF_FFFF_FFFF
fits_eight (pos n) h = omega (arith, h.sfits)
fits_eight (negsuc n) h = omega (arith, h.sfits)

-- ---- the units of a printed number

-- A digit or a minus sign.
abbrev pub IsGlyph : ℕ → Type 0
IsGlyph unit = (45 ≤ unit) × (unit ≤ 57)

glyphs_append : (xs : List ℕ) (y : ℕ) → AllByRecursion IsGlyph xs → IsGlyph y → AllByRecursion IsGlyph (xs ++ y ∷ [])
glyphs_append [] y a g = (g, tt)
glyphs_append (x ∷ xs) y a g = (a.0, glyphs_append xs y a.1 g)

pub glyphs_are : (n : ℕ) → n < 10_000_000_000_000_000_000 → AllByRecursion IsGlyph (decimal n)
glyphs_are n small =
    decimal_by_steps (λ (m : ℕ) (ds : List ℕ). AllByRecursion IsGlyph ds) (λ m lt. ((omega arith, omega (arith, lt)), tt))
    (λ m ds ten h. glyphs_append ds (48 + m % 10) h (omega arith, omega arith)) n (omega (arith, small))

pub signed_glyphs_are : (z : ℤ) → size z < 9_999_999_999_999_999_999 → AllByRecursion IsGlyph (signed_decimal z)
signed_glyphs_are (pos n) small = glyphs_are n (small_next n small)
  where
    small_next : (n : ℕ) → n < 9_999_999_999_999_999_999 → n < 10_000_000_000_000_000_000
    small_next n lt = omega (arith, lt)
signed_glyphs_are (negsuc n) small = ((omega arith, omega arith), glyphs_are (suc n) (small_next n small))
  where
    small_next : (n : ℕ) → n < 9_999_999_999_999_999_999 → suc n < 10_000_000_000_000_000_000
    small_next n lt = omega (arith, lt)

pub decimal_some : (n : ℕ) → n < 10_000_000_000_000_000_000 → 0 < length (decimal n)
decimal_some n small = decimal_nonempty n (omega (arith, small))

pub signed_some : (z : ℤ) → size z < 9_999_999_999_999_999_999 → 0 < length (signed_decimal z)
signed_some (pos n) small = decimal_some n (small_next n small)
  where
    small_next : (n : ℕ) → n < 9_999_999_999_999_999_999 → n < 10_000_000_000_000_000_000
    small_next n lt = omega (arith, lt)
signed_some (negsuc n) small = omega arith
