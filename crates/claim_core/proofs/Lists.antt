-- The lists of the workers after one more entry.
use Rattle.std.proofs.Common.{◌≡◌, ◌≢◌, ◌⊎◌, ℕ, ◌+◌, ◌<◌, List, [], ◌∷◌, ◌++◌, Bool, true, false, cond, ◌||◌, refl, sym, ap, ◌∙◌, subst, inl, inr, ⊎_elim, arith, true≢false, length, length-append}
use Rattle.std.specs.Prelude.{AllPairs, Contains, slice_index_or, count_by, nat_le}
use Rattle.std.proofs.lemmas.List.{get_or_append_left, get_or-set_same, get_or-set_other, length-set}
use Rattle.std.proofs.lemmas.List.Elements.{Contains-push, Contains-push_cases, All-contains_itself}
use Rattle.std.proofs.lemmas.List.Quantifiers.{all_pairs_push}
use Rattle.std.proofs.lemmas.List.Folds.{list_any-append, list_any_at}
use Rattle.std.proofs.lemmas.List.Sums.{sum_by-set}
use Rattle.std.proofs.lemmas.Bool.{leb-false}
use mathlib.Core.Logic.{dite}
use native.Mathlib.Decide.{ℕ_discrete}
use Rattle.claim_core.specs.declared.events.ClaimEntry.{ClaimEntry}
use Rattle.claim_core.specs.declared.events.ClaimEntry.TheVariants.{Claimed}
use Rattle.claim_core.specs.Claims.{noted, is_past, is_exhausted}

-- the list of a worker
abbrev pub at : List (List ClaimEntry) → ℕ → List ClaimEntry
at lists w = slice_index_or lists w []

pub noted_here : (lists : List (List ClaimEntry)) (w : ℕ) (e : ClaimEntry) → w < length lists → at (noted lists w e) w ≡ at lists w ++ e ∷ []
noted_here lists w e lt = get_or-set_same lists w (at lists w ++ e ∷ []) [] lt

pub noted_else : (lists : List (List ClaimEntry)) (w : ℕ) (e : ClaimEntry) (v : ℕ) → v ≢ w → at (noted lists w e) v ≡ at lists v
noted_else lists w e v apart = get_or-set_other lists w v (at lists w ++ e ∷ []) [] apart

pub length-noted : (lists : List (List ClaimEntry)) (w : ℕ) (e : ClaimEntry) → length (noted lists w e) ≡ length lists
length-noted lists w e = length-set lists w (at lists w ++ e ∷ [])

contains_front : (es : List ClaimEntry) (e d : ClaimEntry) → Contains es d → Contains (es ++ e ∷ []) d
contains_front es e d c = (c.0, (let lt = c.1 in omega (arith, length-append es (e ∷ []))), get_or_append_left es (e ∷ []) d c.0 c.1 ∙ c.2)

-- who has an entry keeps it
pub contains_kept : (lists : List (List ClaimEntry)) (w : ℕ) (e : ClaimEntry) (v : ℕ) (d : ClaimEntry) → w < length lists → Contains (at lists v) d → Contains (at (noted lists w e) v) d
contains_kept lists w e v d lt c = dite (ℕ_discrete v w)
    (λ same. subst (λ l. Contains l d) (sym (ap (at (noted lists w e)) same ∙ noted_here lists w e lt)) (contains_front (at lists w) e d (subst (λ u. Contains (at lists u) d) same c)))
    (λ apart. subst (λ l. Contains l d) (sym (noted_else lists w e v apart)) c)

-- the worker has the new one
pub contains_new : (lists : List (List ClaimEntry)) (w : ℕ) (e : ClaimEntry) → w < length lists → Contains (at (noted lists w e) w) e
contains_new lists w e lt = subst (λ l. Contains l e) (sym (noted_here lists w e lt)) (Contains-push (at lists w) e)

-- and nobody has more than that
pub contains_noted : (lists : List (List ClaimEntry)) (w : ℕ) (e : ClaimEntry) (v : ℕ) (d : ClaimEntry) → w < length lists → Contains (at (noted lists w e) v) d → Contains (at lists v) d ⊎ ((v ≡ w) × (e ≡ d))
contains_noted lists w e v d lt c = dite (ℕ_discrete v w)
    (λ same. ⊎_elim
    (λ (t : Contains (at lists w) d). inl (subst (λ u. Contains (at lists u) d) (sym same) t))
    (λ is. inr (same, is))
    (Contains-push_cases (at lists w) e d (subst (λ l. Contains l d) (ap (at (noted lists w e)) same ∙ noted_here lists w e lt) c)))
    (λ apart. inl (subst (λ l. Contains l d) (noted_else lists w e v apart) c))

pub contains_was : (lists : List (List ClaimEntry)) (w : ℕ) (e : ClaimEntry) (v : ℕ) (d : ClaimEntry) → w < length lists → (e ≡ d → ⊥) → Contains (at (noted lists w e) v) d → Contains (at lists v) d
contains_was lists w e v d lt other c = ⊎_elim (λ t. t) (λ t. absurd (other t.1)) (contains_noted lists w e v d lt c)

-- what holds of all pairs of a list holds on, where it holds of each entry and the new one
pub pairs_noted : (R : ClaimEntry → ClaimEntry → Type 0) (lists : List (List ClaimEntry)) (w : ℕ) (e : ClaimEntry) (v : ℕ) → w < length lists
    → AllPairs R (at lists v) → ((d : ClaimEntry) → Contains (at lists w) d → R d e) → AllPairs R (at (noted lists w e) v)
pairs_noted R lists w e v lt h new = dite (ℕ_discrete v w)
    (λ same. subst (AllPairs R) (sym (ap (at (noted lists w e)) same ∙ noted_here lists w e lt))
    (all_pairs_push R (at lists w) e (subst (λ u. AllPairs R (at lists u)) same h) (λ k d in_list. new (slice_index_or (at lists w) k d) (All-contains_itself (at lists w) k d in_list))))
    (λ apart. subst (AllPairs R) (sym (noted_else lists w e v apart)) h)

-- a list that isn't exhausted is so after one more entry exactly where that is past the cells
pub exhausted-push : (cells : ℕ) (es : List ClaimEntry) (e : ClaimEntry) → is_exhausted cells es ≡ false → is_exhausted cells (es ++ e ∷ []) ≡ is_past cells e
exhausted-push cells es e none = list_any-append (is_past cells) es (e ∷ []) ∙ ap (λ b. b || (is_past cells e || false)) none ∙ or_false (is_past cells e)
  where
    or_false : (b : Bool) → (b || false) ≡ b
    or_false true = refl
    or_false false = refl

pub exhausted-same : (cells : ℕ) (es : List ClaimEntry) (e : ClaimEntry) → is_past cells e ≡ false → is_exhausted cells (es ++ e ∷ []) ≡ is_exhausted cells es
exhausted-same cells es e below = list_any-append (is_past cells) es (e ∷ []) ∙ ap (λ b. is_exhausted cells es || (b || false)) below ∙ or_false (is_exhausted cells es)
  where
    or_false : (b : Bool) → (b || false) ≡ b
    or_false true = refl
    or_false false = refl

abbrev pub one_if : Bool → ℕ
one_if b = cond b 1 0

-- how many lists are exhausted after one more entry
pub count-noted : (cells : ℕ) (lists : List (List ClaimEntry)) (w : ℕ) (e : ClaimEntry) → w < length lists
    → count_by (is_exhausted cells) (noted lists w e) + one_if (is_exhausted cells (at lists w)) ≡ count_by (is_exhausted cells) lists + one_if (is_exhausted cells (at lists w ++ e ∷ []))
count-noted cells lists w e lt = sum_by-set (λ es. one_if (is_exhausted cells es)) lists w (at lists w ++ e ∷ []) [] lt

pub count-same : (cells : ℕ) (lists : List (List ClaimEntry)) (w : ℕ) (e : ClaimEntry) → w < length lists → is_past cells e ≡ false → count_by (is_exhausted cells) (noted lists w e) ≡ count_by (is_exhausted cells) lists
count-same cells lists w e lt below =
    let same : one_if (is_exhausted cells (at lists w ++ e ∷ [])) ≡ one_if (is_exhausted cells (at lists w)) = ap one_if (exhausted-same cells (at lists w) e below) in
    omega (arith, count-noted cells lists w e lt, same)

pub count-more : (cells : ℕ) (lists : List (List ClaimEntry)) (w : ℕ) (e : ClaimEntry) → w < length lists → is_exhausted cells (at lists w) ≡ false
    → count_by (is_exhausted cells) (noted lists w e) ≡ count_by (is_exhausted cells) lists + one_if (is_past cells e)
count-more cells lists w e lt none =
    let before : one_if (is_exhausted cells (at lists w)) ≡ 0 = ap one_if none in
    let now : one_if (is_exhausted cells (at lists w ++ e ∷ [])) ≡ one_if (is_past cells e) = ap one_if (exhausted-push cells (at lists w) e none) in
    omega (arith, count-noted cells lists w e lt, before, now)

-- the claims of a list that isn't exhausted are of cells
pub under_cells : (cells : ℕ) (es : List ClaimEntry) (n : ℕ) → is_exhausted cells es ≡ false → Contains es (Claimed n) → n < cells
under_cells cells es n none c = by_case (nat_le cells n) refl
  where
    by_case : (b : Bool) → nat_le cells n ≡ b → n < cells
    by_case true is = absurd (true≢false (sym (list_any_at (is_past cells) es c.0 (Claimed n) c.1 (ap (is_past cells) c.2 ∙ is)) ∙ none))
    by_case false is = leb-false cells n is
