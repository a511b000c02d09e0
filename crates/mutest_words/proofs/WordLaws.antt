-- A word without one `/` at its end.
use Rattle.std.proofs.Common.{◌≡◌, ℕ, ◌+◌, ◌-◌, ◌<◌, Bool, true, false, cond, eqb, ltb, List, [], ◌∷◌, ◌++◌, length, take, drop, refl, sym, ap, ◌∙◌, arith}
use Rattle.std.specs.Prelude.{slice_index, ◌&&◌}
use Rattle.std.specs.Io.BufRead.{ends_with_byte, strip_last}
use Rattle.std.proofs.lemmas.Bool.{eqb-true, ltb-true}
use Rattle.std.proofs.lemmas.List.{take-append-drop, drop_more, length-drop, nil_from_length}

both_true : (a b : Bool) → a && b ≡ true → (a ≡ true) × (b ≡ true)
both_true true b e = (refl, e)
both_true false b e = absurd cc

last_there : (byte : ℕ) (xs : List ℕ) → ends_with_byte byte xs ≡ true → xs ≡ take (length xs - 1) xs ++ (byte ∷ [])
last_there byte xs e =
    let t = both_true (ltb 0 (length xs)) (eqb (slice_index xs (length xs - 1)) byte) e in
    let some : 0 < length xs = ltb-true _ _ t.0 in
    let k = length xs - 1 in
    let below : k < length xs = omega (arith, some) in
    let none : drop (k + 1) xs ≡ [] = nil_from_length (drop (k + 1) xs) (omega (arith, length-drop (k + 1) xs, some)) in
    let last : drop k xs ≡ byte ∷ [] = drop_more xs k 0 below ∙ (λ i. eqb-true _ _ t.1 i ∷ none i) in
    sym (take-append-drop k xs) ∙ ap (λ (z : List ℕ). take k xs ++ z) last

-- a word without `/` at its end stays
pub folder_stays : (word : List ℕ) → ((front : List ℕ) → word ≡ front ++ (47 ∷ []) → ⊥) → word ≡ strip_last 47 word
folder_stays word none = by_test (ends_with_byte 47 word) refl
  where
    by_test : (t : Bool) → ends_with_byte 47 word ≡ t → word ≡ cond t (take (length word - 1) word) word
    by_test true e = absurd (none (take (length word - 1) word) (last_there 47 word e))
    by_test false e = refl
