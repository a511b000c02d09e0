-- A value that fills a part of a stated length is read as it is spelled.
use Rattle.std.proofs.Common.{◌≡◌, ℕ, ◌+◌, ◌<◌, get_or, inl, inr, cond, eqb, List, [], ◌++◌, length, Result, Ok, Err, refl, sym, ap, subst, ◌∙◌, arith}
use Rattle.std.proofs.lemmas.Bool.{eqb-true, cases_lt}
use Rattle.std.proofs.lemmas.List.{append-nil, nil_from_length, get_or_append_left, get_or_past}
use Rattle.codec_rules.specs.Input.{Input, IsBytes}
use Rattle.codec_rules.specs.Sequence.{◌>>=◌, or_fault}
use Rattle.codec_rules.specs.Reading.{Reader, bytes_at, filling_at}
use Rattle.codec_rules.specs.Spelling.{Takes, IsCodecAt, input_at}
use Rattle.codec_rules.proofs.Sequence.{bind_ok, guard_passed}
use Rattle.codec_rules.proofs.Numbers.{bytes_codec}

abbrev filled : {F A : Type 0} → F → Input → A × Input → Result (A × Input) F
filled more behind value = cond (eqb (length value.1.bytes) 0) (Ok (value.0, behind)) (Err more)

-- the front of bytes is bytes
front_fits : (input : Input) (front : List ℕ) (behind : Input) → IsBytes input.bytes → input.bytes ≡ front ++ behind.bytes → IsBytes front
front_fits input front behind fits e i =
    elim (cases_lt i (length front)) [
      | inl less ↦ subst (λ (n : ℕ). n < 256) (ap (λ (x : List ℕ). get_or x i 0) e ∙ get_or_append_left front behind.bytes 0 i less) (fits i)
      | inr more ↦ rw (get_or_past front i 0 more) (omega arith)
    ]

pub filling : {F A : Type 0} (cut : ℕ → F) (more : F) (count : ℕ) (read : Reader F A) (spell : A → List ℕ) (P : A → Type 0) → IsCodecAt read (λ at. spell) P → IsCodecAt (filling_at cut more count read) (λ at. spell) (λ x. P x × (length (spell x) ≡ count))
unfolding filling_at
filling {F} {A} cut more count r s P codec = record {
  takes = λ input y rest bytes e.
      let a = bind_ok (or_fault cut (bytes_at count input)) (λ part. r (input_at input.at part.0) >>= filled more part.1) (y, rest) e in
      let part = a.0.0 in
      let behind = a.0.1 in
      let t = (bytes_codec cut count).takes input part behind bytes a.1 in
      let b = bind_ok (r (input_at input.at part)) (filled more behind) (y, rest) a.2 in
      let fits : IsBytes part = front_fits input part behind bytes t.0.parts in
      let u = codec.takes (input_at input.at part) b.0.0 b.0.1 fits b.1 in
      let m : A × Input = (b.0.0, behind) in
      let g = guard_passed (eqb (length b.0.1.bytes) 0) more m (y, rest) b.2 in
      let none : b.0.1.bytes ≡ [] = nil_from_length b.0.1.bytes (eqb-true (length b.0.1.bytes) 0 g.0) in
      let whole : part ≡ s b.0.0 = u.0.parts ∙ ap (λ (x : List ℕ). s b.0.0 ++ x) none ∙ append-nil (s b.0.0) in
      let there : Takes input (s b.0.0) behind = subst (λ (x : List ℕ). Takes input x behind) whole t.0 in
      let long : length (s b.0.0) ≡ count = ap (λ (x : List ℕ). length x) (sym whole) ∙ t.1 in
      subst (λ (z : A × Input). Takes input (s z.0) z.1 × (P z.0 × (length (s z.0) ≡ count))) g.1 (there, (u.1, long));
  again = λ y at rest q.
      let one = (bytes_codec cut count).again (s y) at rest q.1 in
      let bare : r (input_at at (s y)) ≡ Ok (y, input_at (at + length (s y)) []) = ap (λ (x : List ℕ). r (input_at at x)) (sym (append-nil (s y))) ∙ codec.again y at [] q.0 in
      rw (one, bare) refl;
}
