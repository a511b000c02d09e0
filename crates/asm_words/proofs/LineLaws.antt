-- Items that were read, in front of the pieces of what is left.
use Rattle.std.proofs.Common.{◌≡◌, List, [], ◌∷◌, ◌++◌, refl, ap, append_assoc}
use Rattle.asm_words.specs.Lines.{in_front}

abbrev pub joined : {A : Type 0} → List A → List (List A) → List (List A)
joined [] rest = rest
joined (item ∷ piece) [] = (item ∷ piece) ∷ []
joined (item ∷ piece) (first ∷ rest) = ((item ∷ piece) ++ first) ∷ rest

-- one more item
pub joined_more : {A : Type 0} → (piece : List A) (item : A) (rest : List (List A)) → joined (piece ++ item ∷ []) rest ≡ joined piece (in_front item rest)
joined_more [] item [] = refl
joined_more [] item (first ∷ rest) = refl
joined_more (x ∷ piece) item [] = refl
joined_more (x ∷ piece) item (first ∷ rest) = ap (λ p. (x ∷ p) ∷ rest) (append_assoc piece (item ∷ []) first)
