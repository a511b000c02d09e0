-- Rows that are opened and closed in order.
use Rattle.std.proofs.Common.{◌≡◌, ◌<◌, ◌≤◌, ℕ, zero, suc, ◌+◌, ◌&&◌, ◌||◌, Bool, true, false, List, [], ◌∷◌, ◌++◌, length, drop, cond, refl, sym, ap, ◌∙◌, subst, arith}
use Rattle.std.specs.Prelude.{nat_le, nat_lt, slice_index_or}
use Rattle.std.specs.List.{list_any, filter}
use Rattle.std.specs.List.Sorted.{IsNonDecreasingBy, IsPermutation}
use Rattle.std.proofs.lemmas.Bool.{leb-true, ltb-true, ltb-false, and_parts}
use Rattle.std.proofs.lemmas.List.Folds.{list_any-append}
use Rattle.std.proofs.lemmas.List.Sorted.{list_any-IsPermutation}
use Rattle.vframes.specs.declared.handlers.Handler.{Handler}
use Rattle.vframes.specs.declared.sweep.Sweep.{Sweep}
use Rattle.vframes.specs.Sweeps.{is_over, IsOfOver, AreOpen, AreLeft, HasReached, AreAhead}

-- ---- tests

or_none : (a : Bool) → (a || false) ≡ a
or_none true = refl
or_none false = refl

or_moved : (a b c : Bool) → ((a || (b || false)) || c) ≡ (a || (b || c))
or_moved true b c = refl
or_moved false true c = refl
or_moved false false c = refl

not_so : (b : Bool) → (b ≡ true → ⊥) → b ≡ false
not_so true f = absurd (f refl)
not_so false f = refl

begins_by : (at : ℕ) (h : Handler) → is_over at h ≡ true → h.start ≤ at
begins_by at h e = leb-true h.start at (and_parts (nat_le h.start at) (nat_lt at h.end) e).0

ends_after : (at : ℕ) (h : Handler) → is_over at h ≡ true → at < h.end
ends_after at h e = ltb-true at h.end (and_parts (nat_le h.start at) (nat_lt at h.end) e).1

-- ---- the beginning

pub at_first : (all rows : List Handler) → IsPermutation all rows → AreLeft all 0 [] rows
at_first all rows h at p l o = sym (list_any-IsPermutation p all rows h)

-- ---- one row is opened

pub opened : (all some rest : List Handler) (from : ℕ) (x : Handler) → AreLeft all from some (x ∷ rest) → AreLeft all from (some ++ x ∷ []) rest
opened all some rest from x h at p l o =
    ap (λ b. b || list_any p rest) (list_any-append p some (x ∷ []))
    ∙ or_moved (list_any p some) (p x) (list_any p rest) ∙ h at p l o

-- ---- rows are closed

still_step : (from at : ℕ) (p : Handler → Bool) (h : Handler) (hs : List Handler) (b : Bool) → nat_lt from h.end ≡ b → from ≤ at → IsOfOver at p → list_any p (filter (λ h. nat_lt from h.end) hs) ≡ list_any p hs → list_any p (filter (λ h. nat_lt from h.end) (h ∷ hs)) ≡ list_any p (h ∷ hs)
still_step from at p h hs true e l o ih =
    ap (λ c. list_any p (cond c (h ∷ filter (λ h. nat_lt from h.end) hs) (filter (λ h. nat_lt from h.end) hs))) e
    ∙ ap (λ z. p h || z) ih
still_step from at p h hs false e l o ih =
    ap (λ c. list_any p (cond c (h ∷ filter (λ h. nat_lt from h.end) hs) (filter (λ h. nat_lt from h.end) hs))) e
    ∙ ih ∙ ap (λ b. b || list_any p hs) (sym (not_so (p h) (λ k. omega (arith, ltb-false from h.end e, ends_after at h (o h k), l))))

any_still : (from at : ℕ) (p : Handler → Bool) (hs : List Handler) → from ≤ at → IsOfOver at p → list_any p (filter (λ h. nat_lt from h.end) hs) ≡ list_any p hs
any_still from at p [] l o = refl
any_still from at p (h ∷ hs) l o = still_step from at p h hs (nat_lt from h.end) refl l o (any_still from at p hs l o)

pub still_left : (all some kept rest : List Handler) (from : ℕ) → kept ≡ filter (λ h. nat_lt from h.end) some → AreLeft all from some rest → AreLeft all from kept rest
still_left all some kept rest from e h at p l o =
    ap (λ k. list_any p k || list_any p rest) e ∙ ap (λ b. b || list_any p rest) (any_still from at p some l o) ∙ h at p l o

-- ---- no row is left

start_rises : (m : ℕ) (xs : List Handler) → ((j : ℕ) (d : Handler) → j < length xs → m < (slice_index_or xs j d).start) → AreAhead m xs
start_rises m [] f = tt
start_rises m (y ∷ ys) f = (f 0 y (omega arith), start_rises m ys (λ j d l. f (suc j) d (omega (arith, l))))

pub ahead : (at : ℕ) (xs : List Handler) (n : ℕ) (d : Handler) → n < length xs → IsNonDecreasingBy (λ h. h.start) xs → at < (slice_index_or xs n d).start → AreAhead at (drop n xs)
ahead at [] n d l r e = absurd (omega (arith, l))
ahead at (x ∷ xs) zero d l r e = start_rises at (x ∷ xs) (λ j f k. omega (arith, e, r 0 j f (omega arith) k))
ahead at (x ∷ xs) (suc n) d l r e = ahead at xs n d (omega (arith, l)) (λ i j f a b. r (suc i) (suc j) f (omega (arith, a)) (omega (arith, b))) e

pub no_row : (at n : ℕ) (xs : List Handler) → length xs ≤ n → AreAhead at (drop n xs)
no_row at zero [] l = tt
no_row at (suc n) [] l = tt
no_row at zero (x ∷ xs) l = absurd (omega (arith, l))
no_row at (suc n) (x ∷ xs) l = no_row at n xs (omega (arith, l))

pub none_over : (at : ℕ) (p : Handler → Bool) (rest : List Handler) → IsOfOver at p → AreAhead at rest → list_any p rest ≡ false
none_over at p [] o a = refl
none_over at p (h ∷ hs) o a =
    ap (λ b. b || list_any p hs) (not_so (p h) (λ k. omega (arith, begins_by at h (o h k), a.0))) ∙ none_over at p hs o a.1

pub open_are : (all some rest : List Handler) (at : ℕ) → AreLeft all at some rest → AreAhead at rest → AreOpen all at some
open_are all some rest at h a p o =
    sym (or_none (list_any p some)) ∙ ap (λ b. list_any p some || b) (sym (none_over at p rest o a)) ∙ h at p (omega arith) o

pub later : (all some rest : List Handler) (at : ℕ) → AreLeft all at some rest → AreLeft all (at + 1) some rest
later all some rest at h k p l o = h k p (omega (arith, l)) o
