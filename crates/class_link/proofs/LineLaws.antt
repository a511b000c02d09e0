-- The line of an instruction is that of the last row that starts there, else that of the
-- instruction before it.
use Rattle.std.proofs.Common.{◌≡◌, ◌∙◌, sym, refl, ap, ℕ, zero, suc, ◌+◌, ◌<◌, ◌≤◌, Bool, true, false, ◌≢◌, ◌⊎◌, inl, inr, List, [], ◌∷◌, ◌++◌, length, replicate, get_or, Option, None, Some, slice_get, slice_set, arith}
use Rattle.std.specs.Prelude.{◌&&◌, nat_lt, nat_le, nat_eq, if◌then◌else◌}
use Rattle.std.specs.Option.{unwrap_or}
use Rattle.std.proofs.lemmas.Bool.Decides.{nat_tests}
use Rattle.std.proofs.lemmas.Option.{slice_get_within, slice_get-get_or, get_or_from_slice_get}
use Rattle.std.proofs.lemmas.List.{get_or-replicate, length-replicate}
use Rattle.program_rules.specs.Linked.{LinkedLine, is_later, line_row, line_number, line_at}
use Rattle.class_link.specs.Lines.{some_or, line_from, AreStartsOf, AreLinesOf}

-- The row that counts before an instruction.
abbrev pub row_before : ℕ → List LinkedLine → Option LinkedLine
row_before at [] = None
row_before at (r ∷ rs) = if nat_lt r.start at && is_later r (row_before at rs) then Some r else row_before at rs

abbrev pub line_before : ℕ → List LinkedLine → ℕ
line_before at rows = line_number (row_before at rows)

pub none_before : (rows : List LinkedLine) → row_before 0 rows ≡ None
none_before [] = refl
none_before (r ∷ rs) = let tail = none_before rs in let past : nat_lt r.start 0 ≡ false = grind (arith, nat_tests) in rw past tail

pub before_next : (at : ℕ) (rows : List LinkedLine) → row_before (at + 1) rows ≡ line_row at rows
before_next at [] = refl
before_next at (r ∷ rs) = let tail = before_next at rs in let same : nat_lt r.start (at + 1) ≡ nat_le r.start at = grind (arith, nat_tests) in rw (same, tail) refl

-- What the row that counts is, by the line that starts at the instruction.
abbrev Steps : ℕ → List LinkedLine → Option ℕ → Type 0
Steps at rows None = line_row at rows ≡ row_before at rows
Steps at rows (Some line) = (q : LinkedLine) × (line_row at rows ≡ Some q) × (q.start ≡ at) × (q.line ≡ line)

abbrev IsBefore : ℕ → Option LinkedLine → Type 0
IsBefore at None = Unit {0}
IsBefore at (Some q) = q.start < at

before_case : (at : ℕ) (r : LinkedLine) (o : Option LinkedLine) (past later : Bool) → nat_lt r.start at ≡ past → IsBefore at o → IsBefore at (if past && later then Some r else o)
before_case at r o true true e h = grind (arith, nat_tests)
before_case at r o true false e h = h
before_case at r o false later e h = h

is_before : (at : ℕ) (rows : List LinkedLine) → IsBefore at (row_before at rows)
is_before at [] = tt
is_before at (r ∷ rs) = before_case at r (row_before at rs) (nat_lt r.start at) (is_later r (row_before at rs)) refl (is_before at rs)

is_later_than : (r : LinkedLine) (at : ℕ) (o : Option LinkedLine) → r.start ≡ at → IsBefore at o → is_later r o ≡ true
is_later_than r at None e h = refl
is_later_than r at (Some q) e h = grind (arith, nat_tests)

none_case : (at : ℕ) (r : LinkedLine) (rs : List LinkedLine) (here : Bool) → nat_eq r.start at ≡ here → line_row at rs ≡ row_before at rs → Steps at (r ∷ rs) (if here then Some r.line else None)
none_case at r rs true e h =
    let same : r.start ≡ at = grind (arith, nat_tests) in
    let le : nat_le r.start at ≡ true = grind (arith, nat_tests) in
    let later : is_later r (line_row at rs) ≡ true = ap (is_later r) h ∙ is_later_than r at (row_before at rs) same (is_before at rs) in
    (r, rw (le, later) refl, same, refl)
none_case at r rs false e h =
    let same : nat_le r.start at ≡ nat_lt r.start at = grind (arith, nat_tests) in
    rw (same, h) refl

some_case : (at line : ℕ) (r : LinkedLine) (rs : List LinkedLine) → Steps at rs (Some line) → Steps at (r ∷ rs) (Some line)
some_case at line r rs h =
    let le_later : (nat_le r.start at && is_later r (Some h.0)) ≡ false = grind (arith, nat_tests, h.2) in
    (h.0, rw (h.1, le_later) refl, h.2, h.3)

steps_case : (at : ℕ) (r : LinkedLine) (rs : List LinkedLine) (o : Option ℕ) → Steps at rs o → Steps at (r ∷ rs) (some_or o (if nat_eq r.start at then Some r.line else None))
steps_case at r rs None h = none_case at r rs (nat_eq r.start at) refl h
steps_case at r rs (Some line) h = some_case at line r rs h

steps : (at : ℕ) (rows : List LinkedLine) → Steps at rows (line_from at rows)
steps at [] = refl
steps at (r ∷ rs) = steps_case at r rs (line_from at rs) (steps at rs)

line_case : (at : ℕ) (rows : List LinkedLine) (o : Option ℕ) → Steps at rows o → line_at at rows ≡ unwrap_or o (line_before at rows)
line_case at rows None h = ap line_number h
line_case at rows (Some line) h = ap line_number h.1 ∙ h.3

line_is : (at : ℕ) (rows : List LinkedLine) → line_at at rows ≡ unwrap_or (line_from at rows) (line_before at rows)
line_is at rows = line_case at rows (line_from at rows) (steps at rows)

pub line_next : (at : ℕ) (rows : List LinkedLine) → line_before (at + 1) rows ≡ line_at at rows
line_next at rows = ap line_number (before_next at rows)

-- ---- one more row

some_or_none : (o : Option ℕ) → some_or o None ≡ o
some_or_none None = refl
some_or_none (Some n) = refl

some_or_more : (o p q : Option ℕ) → some_or (some_or o p) q ≡ some_or o (some_or p q)
some_or_more None p q = refl
some_or_more (Some n) p q = refl

from_both : (at : ℕ) (xs ys : List LinkedLine) → line_from at (xs ++ ys) ≡ some_or (line_from at ys) (line_from at xs)
from_both at [] ys = sym (some_or_none (line_from at ys))
from_both at (r ∷ xs) ys = let here : Option ℕ = if nat_eq r.start at then Some r.line else None in ap (λ o. some_or o here) (from_both at xs ys) ∙ some_or_more (line_from at ys) (line_from at xs) here

from_here : (at : ℕ) (rows : List LinkedLine) (r : LinkedLine) → r.start ≡ at → line_from at (rows ++ r ∷ []) ≡ Some r.line
from_here at rows r e = let here : nat_eq r.start at ≡ true = grind (arith, nat_tests) in from_both at rows (r ∷ []) ∙ rw here refl

from_elsewhere : (at : ℕ) (rows : List LinkedLine) (r : LinkedLine) → r.start ≢ at → line_from at (rows ++ r ∷ []) ≡ line_from at rows
from_elsewhere at rows r e = let here : nat_eq r.start at ≡ false = grind (arith, nat_tests) in from_both at rows (r ∷ []) ∙ rw here refl

set_case : (starts : List (Option ℕ)) (i at : ℕ) (x o : Option ℕ) → slice_get (slice_set starts i x) at ≡ Some o → ((at ≡ i) × (o ≡ x)) ⊎ ((at ≢ i) × (slice_get starts at ≡ Some o))
set_case [] i at x o h = absurd cc
set_case (s ∷ starts) zero zero x o h = inl (refl, cc)
set_case (s ∷ starts) zero (suc at) x o h = inr ((λ e. omega (arith, e)), h)
set_case (s ∷ starts) (suc i) zero x o h = inr ((λ e. omega (arith, e)), h)
set_case (s ∷ starts) (suc i) (suc at) x o h = elim (set_case starts i at x o h) [ inl e ↦ inl (ap suc e.0, e.1) | inr e ↦ inr ((λ same. e.0 (omega (arith, same))), e.1) ]

pub starts_here : (starts : List (Option ℕ)) (rows : List LinkedLine) (r : LinkedLine) → AreStartsOf starts rows → AreStartsOf (slice_set starts r.start (Some r.line)) (rows ++ r ∷ [])
starts_here starts rows r h at o e =
    elim (set_case starts r.start at (Some r.line) o e) [
      | inl same ↦ same.1 ∙ sym (from_here at rows r (sym same.0))
      | inr other ↦ h at o other.1 ∙ sym (from_elsewhere at rows r (λ same. other.0 (sym same)))
    ]

pub starts_past : (starts : List (Option ℕ)) (rows : List LinkedLine) (r : LinkedLine) → length starts ≤ r.start → AreStartsOf starts rows → AreStartsOf starts (rows ++ r ∷ [])
starts_past starts rows r past h at o e =
    let within = slice_get_within starts at o e in
    h at o e ∙ sym (from_elsewhere at rows r (λ same. omega (arith, within, past, same)))

pub starts_none : (count : ℕ) → AreStartsOf (replicate count None) []
starts_none count at o e =
    let none : Option ℕ = None in
    let within : at < count = (let lt = slice_get_within (replicate count none) at o e in omega (arith, lt, length-replicate count none)) in
    sym (get_or_from_slice_get (replicate count none) at o none e) ∙ get_or-replicate count at none none within

-- ---- one more line

last_case : (lines : List ℕ) (x at line : ℕ) → slice_get (lines ++ x ∷ []) at ≡ Some line → (slice_get lines at ≡ Some line) ⊎ ((at ≡ length lines) × (line ≡ x))
last_case [] x zero line h = inr (refl, cc)
last_case [] x (suc at) line h = absurd cc
last_case (y ∷ lines) x zero line h = inl h
last_case (y ∷ lines) x (suc at) line h = elim (last_case lines x at line h) [ inl e ↦ inl e | inr e ↦ inr (omega (arith, e.0), e.1) ]

pub lines_more : (lines : List ℕ) (rows : List LinkedLine) (line : ℕ) → AreLinesOf lines rows → line ≡ line_at (length lines) rows → AreLinesOf (lines ++ line ∷ []) rows
lines_more lines rows line h here at l e =
    elim (last_case lines line at l e) [
      | inl before ↦ h at l before
      | inr last ↦ last.1 ∙ here ∙ ap (λ n. line_at n rows) (sym last.0)
    ]

pub lines_none : (rows : List LinkedLine) → AreLinesOf [] rows
lines_none rows zero line e = absurd cc
lines_none rows (suc at) line e = absurd cc

pub line_step : (starts : List (Option ℕ)) (rows : List LinkedLine) (at line : ℕ) → AreStartsOf starts rows → at < length starts → line ≡ line_before at rows → unwrap_or (get_or starts at None) line ≡ line_at at rows
line_step starts rows at line h lt before =
    let start : get_or starts at None ≡ line_from at rows = h at (get_or starts at None) (slice_get-get_or starts at None lt) in
    ap (λ o. unwrap_or o line) start ∙ ap (unwrap_or (line_from at rows)) before ∙ sym (line_is at rows)
