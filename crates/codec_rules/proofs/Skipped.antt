-- Bytes that hold no value, as padding: they are read first and judged once the value behind them
-- is read.
use Rattle.std.proofs.Common.{◌≡◌, ℕ, ◌+◌, List, ◌++◌, length, Option, None, Result, Ok, ap, subst, ◌∙◌, append_assoc, arith}
use Rattle.std.proofs.lemmas.List.{length-append}
use Rattle.codec_rules.specs.Input.{Input}
use Rattle.codec_rules.specs.Sequence.{◌>>=◌, or_fault, unless}
use Rattle.codec_rules.specs.Reading.{Reader, bytes_at}
use Rattle.codec_rules.specs.Spelling.{Speller, Takes, IsCodecAt, input_at}
use Rattle.codec_rules.proofs.Sequence.{bind_ok, unless_ok}
use Rattle.codec_rules.proofs.Codec.{Takes-then}
use Rattle.codec_rules.proofs.Numbers.{bytes_codec}

-- so many bytes from a place, the only ones that are let through
pub record IsSkipped {F : Type 0} (count : ℕ → ℕ) (skip : ℕ → List ℕ) (judge : ℕ → List ℕ → Option F) : Type 0 where
  pub long : (at : ℕ) → length (skip at) ≡ count at
  pub only : (at : ℕ) (bytes : List ℕ) → length bytes ≡ count at → judge at bytes ≡ None → bytes ≡ skip at
  pub good : (at : ℕ) → judge at (skip at) ≡ None

pub skipped : {F A : Type 0} (fault : ℕ → F) (count : ℕ → ℕ) (skip : ℕ → List ℕ) (judge : ℕ → List ℕ → Option F) (read : Reader F A) (spell : Speller A) (P : A → Type 0) → IsSkipped count skip judge → IsCodecAt read spell P
    → IsCodecAt (λ input. or_fault fault (bytes_at (count input.at) input) >>= λ b. read b.1 >>= λ x. unless (judge input.at b.0) x) (λ at x. skip at ++ spell (at + length (skip at)) x) P
skipped {F} {A} fault count skip judge r s P is codec = record {
  takes = λ input y rest bytes e.
      let b = bind_ok (or_fault fault (bytes_at (count input.at) input)) (λ b. r b.1 >>= λ x. unless (judge input.at b.0) x) (y, rest) e in
      let t = (bytes_codec fault (count input.at)).takes input b.0.0 b.0.1 bytes b.1 in
      let x = bind_ok (r b.0.1) (λ x. unless (judge input.at b.0.0) x) (y, rest) b.2 in
      let g = unless_ok (judge input.at b.0.0) x.0 (y, rest) x.2 in
      let u = codec.takes b.0.1 x.0.0 x.0.1 t.0.rest_fits x.1 in
      let same : b.0.0 ≡ skip input.at = is.only input.at b.0.0 t.1 g.0 in
      let both = Takes-then input b.0.0 b.0.1 (s b.0.1.at x.0.0) x.0.1 t.0 u.0 in
      let placed : Takes input (b.0.0 ++ s (input.at + length b.0.0) x.0.0) x.0.1 = subst (λ (n : ℕ). Takes input (b.0.0 ++ s n x.0.0) x.0.1) t.0.place both in
      let known : Takes input (skip input.at ++ s (input.at + length (skip input.at)) x.0.0) x.0.1 = subst (λ (front : List ℕ). Takes input (front ++ s (input.at + length front) x.0.0) x.0.1) same placed in
      subst (λ (z : A × Input). Takes input (skip input.at ++ s (input.at + length (skip input.at)) z.0) z.1 × P z.0) g.1 (known, u.1);
  again = λ y at rest q.
      let front = skip at in
      let back = s (at + length front) y in
      let one = (bytes_codec fault (count at)).again front at (back ++ rest) (is.long at) in
      let two = codec.again y (at + length front) rest q in
      let place : at + length front + length back ≡ at + length (front ++ back) = omega (arith, length-append front back) in
      ap (λ (t : List ℕ). or_fault fault (bytes_at (count at) (input_at at t)) >>= λ b. r b.1 >>= λ x. unless (judge at b.0) x) (append_assoc front back rest)
      ∙ ap (λ (z : Result (List ℕ × Input) F). z >>= λ b. r b.1 >>= λ x. unless (judge at b.0) x) one
      ∙ ap (λ (z : Result (A × Input) F). z >>= λ x. unless (judge at front) x) two
      ∙ ap (λ (z : Option F). unless z (y, input_at (at + length front + length back) rest)) (is.good at)
      ∙ ap (λ (n : ℕ). Ok (y, input_at n rest)) place;
}
