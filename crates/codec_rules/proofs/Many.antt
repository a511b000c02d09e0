-- So many values, one after the other, are read as they are spelled.
use Rattle.std.proofs.Common.{◌≡◌, ℕ, zero, suc, ◌+◌, List, [], ◌∷◌, ◌++◌, length, Ok, refl, sym, ap, subst, ◌∙◌, append_assoc, arith}
use Rattle.std.specs.List.{flat_map, AllByRecursion}
use Rattle.std.proofs.lemmas.List.{length-append}
use Rattle.std.proofs.lemmas.List.Concat.{flat_map-cons}
use Rattle.codec_rules.specs.Input.{Input, IsBytes}
use Rattle.codec_rules.specs.Sequence.{◌>>=◌}
use Rattle.codec_rules.specs.Reading.{Reader, many_at}
use Rattle.codec_rules.specs.Spelling.{Speller, Takes, IsCodecAt, input_at, spelled_from}
use Rattle.codec_rules.proofs.Sequence.{bind_ok, ok_is, done}
use Rattle.codec_rules.proofs.Codec.{Takes-then, respelled}

many_takes : {F A : Type 0} (read : Reader F A) (spell : Speller A) (P : A → Type 0) → IsCodecAt read spell P → (n : ℕ) (input : Input) (xs : List A) (rest : Input) → IsBytes input.bytes → many_at read n input ≡ Ok (xs, rest)
    → Takes input (spelled_from spell input.at xs) rest × (AllByRecursion P xs × (length xs ≡ n))
unfolding many_at
many_takes {F} {A} r s P codec zero input xs rest bytes e =
    subst (λ (z : List A × Input). Takes input (spelled_from s input.at z.0) z.1 × (AllByRecursion P z.0 × (length z.0 ≡ 0))) (ok_is {F = F} ([], input) (xs, rest) e) (record { parts = refl; place = omega arith; rest_fits = bytes }, (tt, refl))
many_takes {F} {A} r s P codec (suc n) input xs rest bytes e =
    let a = bind_ok (r input) (λ first. many_at r n first.1 >>= λ others. Ok (first.0 ∷ others.0, others.1)) (xs, rest) e in
    let b = bind_ok (many_at r n a.0.1) (λ others. Ok (a.0.0 ∷ others.0, others.1)) (xs, rest) a.2 in
    let t = codec.takes input a.0.0 a.0.1 bytes a.1 in
    let u = many_takes r s P codec n a.0.1 b.0.0 b.0.1 t.0.rest_fits b.1 in
    let both = Takes-then input (s input.at a.0.0) a.0.1 (spelled_from s a.0.1.at b.0.0) b.0.1 t.0 u.0 in
    let m : List A × Input = (a.0.0 ∷ b.0.0, b.0.1) in
    subst (λ (z : List A × Input). Takes input (spelled_from s input.at z.0) z.1 × (AllByRecursion P z.0 × (length z.0 ≡ suc n))) (ok_is {F = F} m (xs, rest) b.2)
    (subst (λ (k : ℕ). Takes input (s input.at a.0.0 ++ spelled_from s k b.0.0) b.0.1) t.0.place both, ((t.1, u.1.0), ap suc u.1.1))

many_again : {F A : Type 0} (read : Reader F A) (spell : Speller A) (P : A → Type 0) → IsCodecAt read spell P → (xs : List A) (at : ℕ) (rest : List ℕ) → AllByRecursion P xs
    → many_at read (length xs) (input_at at (spelled_from spell at xs ++ rest)) ≡ Ok (xs, input_at (at + length (spelled_from spell at xs)) rest)
unfolding many_at
many_again {F} {A} r s P codec [] at rest q = let h : at ≡ at + 0 = omega arith in ap (λ (n : ℕ). done (([], input_at n rest))) h
many_again {F} {A} r s P codec (x ∷ xs) at rest q =
    let front = s at x in
    let back = spelled_from s (at + length front) xs in
    let place : at + length front + length back ≡ at + length (front ++ back) = omega (arith, length-append front back) in
    ap (λ (t : List ℕ). many_at r (suc (length xs)) (input_at at t)) (append_assoc front back rest)
    ∙ rw (codec.again x at (back ++ rest) q.0, many_again r s P codec xs (at + length front) rest q.1) (ap (λ (n : ℕ). done ((x ∷ xs, input_at n rest))) place)

pub many : {F A : Type 0} (read : Reader F A) (spell : Speller A) (P : A → Type 0) → IsCodecAt read spell P → (count : ℕ) → IsCodecAt (many_at read count) (spelled_from spell) (λ xs. AllByRecursion P xs × (length xs ≡ count))
many r s P codec n = record {
  takes = many_takes r s P codec n;
  again = λ xs at rest q. ap (λ k. many_at r k (input_at at (spelled_from s at xs ++ rest))) (sym q.1) ∙ many_again r s P codec xs at rest q.0;
}

-- a spelling that is the same everywhere
pub spelled_from-flat_map : {A : Type 0} (spell : A → List ℕ) (xs : List A) (at : ℕ) → spelled_from (λ at. spell) at xs ≡ flat_map spell xs
spelled_from-flat_map spell [] at = refl
spelled_from-flat_map spell (x ∷ xs) at = rw (spelled_from-flat_map spell xs (at + length (spell x)), flat_map-cons) refl

-- So many values whose spelling is the same everywhere.
pub many_flat : {F A : Type 0} (read : Reader F A) (spell : A → List ℕ) (P : A → Type 0) → IsCodecAt read (λ at. spell) P → (count : ℕ) → IsCodecAt (many_at read count) (λ at. flat_map spell) (λ xs. AllByRecursion P xs × (length xs ≡ count))
many_flat {F} {A} r s P codec n = respelled (many_at r n) (spelled_from (λ at. s)) (λ at. flat_map s) (λ (xs : List A). AllByRecursion P xs × (length xs ≡ n)) (many r (λ at. s) P codec n) (λ xs q at. spelled_from-flat_map s xs at)
