-- What is told of parts of a list is told of the list.
use Rattle.std.proofs.Common.{◌≡◌, ◌∙◌, sym, refl, ap, ap₂, ℕ, zero, suc, ◌+◌, ◌*◌, ◌/◌, ◌%◌, ◌<◌, ◌≤◌, min, Bool, List, [], ◌∷◌, ◌++◌, length, map, take, drop, slice_index_or, arith}
use Rattle.std.specs.Prelude.{IfOk, Result, Ok, Err}
use Rattle.std.specs.Fork.{slice_chunk}
use Rattle.std.proofs.Math.Nat.{suc-mul, zero-mul}
use Rattle.std.proofs.lemmas.Nat.{div-add-mod', mod_below}
use Rattle.std.proofs.lemmas.List.{append_assoc, drop-drop, map-append}
use Rattle.class_model.specs.declared.memory.Memory.{Memory}
use Rattle.suite_workers.specs.Viability.{told_by, with_rest}

none_left : {X : Type 0} (n : ℕ) (xs : List X) → length xs ≤ n → drop n xs ≡ []
none_left zero [] le = refl
none_left zero (x ∷ xs) le = absurd (omega (arith, le))
none_left (suc n) [] le = refl
none_left (suc n) (x ∷ xs) le = none_left n xs (omega (arith, le))

joined_again : {X : Type 0} (n : ℕ) (xs : List X) → take n xs ++ drop n xs ≡ xs
joined_again zero xs = refl
joined_again (suc n) [] = refl
joined_again (suc n) (x ∷ xs) = ap (λ l. x ∷ l) (joined_again n xs)

-- One of these ends is that all are told, and so is the rest.
rest_told : (told all : List Bool) (r : Result (List Bool) Memory) → with_rest told r ≡ Ok all → (rest : List Bool) × (r ≡ Ok rest) × (all ≡ told ++ rest)
rest_told told all (Ok rest) e = (rest, refl, cc)
rest_told told all (Err memory) e = absurd cc

module _ {X : Type 0} (f : X → Bool) (size : ℕ) (xs : List X) where
  -- what is told of a part
  abbrev pub IsPart : ℕ → Result (List Bool) Memory → Type 0
  IsPart n r = IfOk r (λ told. told ≡ map f (slice_chunk xs size n))

  parts_told : (n : ℕ) (rs : List (Result (List Bool) Memory)) (all : List Bool) → length xs ≤ (n + length rs) * size → ((k : ℕ) (d : Result (List Bool) Memory) → k < length rs → IsPart (n + k) (slice_index_or rs k d)) → told_by rs ≡ Ok all → all ≡ map f (drop (n * size) xs)
  parts_told n [] all within each is =
      let none : [] ≡ all = cc in
      let same : (n + 0) * size ≡ n * size = ap (λ m. m * size) (omega arith) in
      sym none ∙ ap (map f) (sym (none_left (n * size) xs (omega (arith, within, same))))
  parts_told n (Err memory ∷ rs) all within each is = absurd cc
  parts_told n (Ok told ∷ rs) all within each is =
      let r = rest_told told all (told_by rs) is in
      let first : told ≡ map f (slice_chunk xs size n) = subst_place (each 0 (Ok told) (omega arith)) in
      let same : (suc n + length rs) * size ≡ (n + suc (length rs)) * size = ap (λ m. m * size) (omega arith) in
      let more = parts_told (suc n) rs r.0 (omega (arith, within, same)) (λ k d lt. next k d (each (suc k) d (omega (arith, lt)))) r.1 in
      let left : drop (suc n * size) xs ≡ drop size (drop (n * size) xs) = ap (λ m. drop m xs) (suc-mul n size) ∙ sym (drop-drop size (n * size) xs) in
      r.2 ∙ ap₂ (λ a b. a ++ b) first (more ∙ ap (map f) left) ∙ sym (map-append f (take size (drop (n * size) xs)) (drop size (drop (n * size) xs))) ∙ ap (map f) (joined_again size (drop (n * size) xs))
    where
      subst_place : IsPart (n + 0) (Ok told) → told ≡ map f (slice_chunk xs size n)
      subst_place h = h ∙ ap (λ m. map f (slice_chunk xs size m)) (omega arith)

      next : (k : ℕ) (d : Result (List Bool) Memory) → IsPart (n + suc k) (slice_index_or (Ok told ∷ rs) (suc k) d) → IsPart (suc n + k) (slice_index_or rs k d)
      next k d h = moved (slice_index_or rs k d) h
        where
          moved : (r : Result (List Bool) Memory) → IsPart (n + suc k) r → IsPart (suc n + k) r
          moved (Ok t) h = h ∙ ap (λ m. map f (slice_chunk xs size m)) (omega arith)
          moved (Err e) h = tt

-- One part more is told.
pub one_more : (all told : List Bool) (r : Result (List Bool) Memory) → with_rest (all ++ told) r ≡ with_rest all (with_rest told r)
one_more all told (Ok rest) = ap Ok (append_assoc all told rest)
one_more all told (Err memory) = refl

pub none_more : (r : Result (List Bool) Memory) → with_rest [] r ≡ r
none_more (Ok rest) = refl
none_more (Err memory) = refl

-- What is told of a list that is a part.
pub part_of : {X : Type 0} (f : X → Bool) (size : ℕ) (xs : List X) (n : ℕ) (part : List X) → part ≡ take size (drop (n * size) xs) → (r : Result (List Bool) Memory) → IfOk r (λ told. told ≡ map f part) → IsPart f size xs n r
part_of f size xs n part is (Ok told) h = h ∙ ap (map f) is
part_of f size xs n part is (Err memory) h = tt

-- All are in so many parts.
covered : (count len size : ℕ) → 0 < size → count ≡ len / size + min 1 (len % size) → len ≤ count * size
covered count len size some is = by_rest (len % size) refl
  where
    by_rest : (r : ℕ) → len % size ≡ r → len ≤ count * size
    by_rest zero e =
        let whole = div-add-mod' len size in
        let parts : count ≡ len / size = omega (arith, is, e) in
        let same = ap (λ n. n * size) parts in
        omega (arith, whole, e, same)
    by_rest (suc r) e =
        let whole = div-add-mod' len size in
        let rest = mod_below len size some in
        let parts : count ≡ suc (len / size) = omega (arith, is, e) in
        let same = ap (λ n. n * size) parts ∙ suc-mul (len / size) size in
        omega (arith, whole, rest, same)

-- All parts together.
pub all_told : {X : Type 0} (f : X → Bool) (size : ℕ) (xs : List X) (rs : List (Result (List Bool) Memory)) → 0 < size → length rs ≡ length xs / size + min 1 (length xs % size) → ((k : ℕ) (d : Result (List Bool) Memory) → k < length rs → IsPart f size xs k (slice_index_or rs k d)) → (all : Result (List Bool) Memory) → IfOk all (λ told. told_by rs ≡ Ok told) → IfOk all (λ told. told ≡ map f xs)
all_told f size xs rs some count each (Err memory) is = tt
all_told f size xs rs some count each (Ok told) is =
    let within = covered (length rs) (length xs) size some count in
    let none : 0 + length rs ≡ length rs = omega arith in
    let start : (0 + length rs) * size ≡ length rs * size = ap (λ n. n * size) none in
    let zeroth : 0 * size ≡ 0 = zero-mul size in
    parts_told f size xs 0 rs told (omega (arith, within, start)) (λ k d lt. placed k (slice_index_or rs k d) (each k d lt)) is ∙ ap (λ n. map f (drop n xs)) zeroth
  where
    placed : (k : ℕ) (r : Result (List Bool) Memory) → IsPart f size xs k r → IsPart f size xs (0 + k) r
    placed k (Ok t) h = h ∙ ap (λ m. map f (slice_chunk xs size m)) (omega arith)
    placed k (Err e) h = tt
