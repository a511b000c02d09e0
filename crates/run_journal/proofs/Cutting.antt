-- An entry as it is written, chunk by chunk.
use Rattle.std.proofs.Common.{◌≡◌, ◌∙◌, ℕ, zero, suc, ◌+◌, ◌<◌, ◌≤◌, List, [], ◌∷◌, ◌++◌, length, take, drop, refl, sym, ap, subst, append_assoc, append-nil, arith, length-drop}
use Rattle.std.specs.List.{flat_map}
use Rattle.run_journal.specs.Entries.{chunk_bytes, cut_into}

pub take_over : (n : ℕ) (xs : List ℕ) → length xs ≤ n → take n xs ≡ take (length xs) xs
take_over zero [] le = refl
take_over (suc n) [] le = refl
take_over zero (x ∷ xs) le = absurd (omega (arith, le))
take_over (suc n) (x ∷ xs) le = ap (λ (ys : List ℕ). x ∷ ys) (take_over n xs (omega (arith, le)))

pub drop_over : (n : ℕ) (xs : List ℕ) → length xs ≤ n → drop n xs ≡ drop (length xs) xs
drop_over zero [] le = refl
drop_over (suc n) [] le = refl
drop_over zero (x ∷ xs) le = absurd (omega (arith, le))
drop_over (suc n) (x ∷ xs) le = drop_over n xs (omega (arith, le))

-- So much is written, and this is left.
abbrev pub Halfway : List ℕ → List ℕ → List ℕ → Type 0
Halfway out rest target =
    (turns : ℕ) × (length rest ≤ turns) × (out ++ flat_map chunk_bytes (cut_into turns rest) ≡ target)

pub one_chunk : (out mid new rest chunk behind target : List ℕ) → 0 < length rest → chunk ≡ take 255 rest → behind ≡ drop 255 rest → mid ≡ out ++ length chunk ∷ [] → new ≡ mid ++ chunk → Halfway out rest target → Halfway new behind target
one_chunk out mid new [] chunk behind target lt t d m n h = absurd (omega (arith, lt))
one_chunk out mid new (x ∷ xs) chunk behind target lt t d m n (zero, le, e) = absurd (omega (arith, le))
one_chunk out mid new (x ∷ xs) chunk behind target lt t d m n (suc turns, le, e) =
    let rest = x ∷ xs in
    let more = flat_map chunk_bytes (cut_into turns (drop 255 rest)) in
    let now : new ≡ out ++ length (take 255 rest) ∷ take 255 rest =
    n ∙ ap (λ (z : List ℕ). z ++ chunk) m ∙ append_assoc out (length chunk ∷ []) chunk ∙ ap (λ (c : List ℕ). out ++ length c ∷ c) t in
    let len : length behind ≡ length (drop 255 rest) = ap (λ (z : List ℕ). length z) d in
    let fits : length behind ≤ turns = omega (arith, le, len, length-drop 255 rest) in
    let same = ap (λ (z : List ℕ). new ++ flat_map chunk_bytes (cut_into turns z)) d ∙ ap (λ (z : List ℕ). z ++ more) now ∙ append_assoc out (length (take 255 rest) ∷ take 255 rest) more ∙ e in
    (turns, fits, same)

no_chunks : (turns : ℕ) → cut_into turns [] ≡ []
no_chunks zero = refl
no_chunks (suc turns) = refl

pub last_chunk : (out zeroed new rest old text : List ℕ) → length rest ≤ 0 → Halfway out rest (old ++ text) → zeroed ≡ out ++ 0 ∷ [] → new ≡ zeroed ++ 1 ∷ [] → new ≡ old ++ (text ++ 0 ∷ 1 ∷ [])
last_chunk out zeroed new (x ∷ xs) old text le h z n = absurd (omega (arith, le))
last_chunk out zeroed new [] old text le (turns, fits, e) z n =
    let whole : out ≡ old ++ text = sym (append-nil out) ∙ ap (λ (cs : List (List ℕ)). out ++ flat_map chunk_bytes cs) (sym (no_chunks turns)) ∙ e in
    n ∙ ap (λ (y : List ℕ). y ++ 1 ∷ []) z ∙ append_assoc out (0 ∷ []) (1 ∷ []) ∙ ap (λ (y : List ℕ). y ++ 0 ∷ 1 ∷ []) whole ∙ append_assoc old text (0 ∷ 1 ∷ [])
