-- Bytes and numbers are read as they are spelled.
use Rattle.std.proofs.Common.{◌≡◌, ℕ, ◌+◌, ◌*◌, ◌^◌, ◌%◌, ◌<◌, ◌≤◌, Bool, true, false, cond, ltb, List, [], ◌∷◌, ◌++◌, length, take, drop, Ok, Err, refl, sym, ap, subst, arith, inl, inr}
use Rattle.std.specs.Int.{Width, w8, w16, w32, w64, byte_len, from_be_bytes, to_be_bytes, cast_signed, cast_unsigned}
use Rattle.std.specs.Prelude.{ℤ, FitsSigned}
use Rattle.std.proofs.lemmas.Int.{of_z-to_z}
use Rattle.std.proofs.Math.Facts.{sfits_to_z, Fits-of_z, to_z-of_z}
use Rattle.std.proofs.lemmas.Bool.{cases_lt, ltb-false, le-ltb}
use Rattle.std.proofs.lemmas.List.{take_at, drop_at, take-append-drop, length-append, length-take, get_or-drop, get_or-take, get_or_past}
use Rattle.std.proofs.lemmas.Nat.{be_bytes_2, be_bytes_4, be_bytes_8, from_be_bytes-to_be_bytes_2, from_be_bytes-to_be_bytes_4, from_be_bytes-to_be_bytes_8}
use Rattle.codec_rules.specs.Input.{Input, IsBytes, behind}
use Rattle.codec_rules.specs.Sequence.{◌>>=◌, or_fault}
use Rattle.codec_rules.specs.Reading.{number_at, bytes_at}
use Rattle.codec_rules.specs.Spelling.{Takes, IsCodecAt}
use Rattle.codec_rules.proofs.Codec.{made}

pub IsBytes-drop : (n : ℕ) (bytes : List ℕ) → IsBytes bytes → IsBytes (drop n bytes)
IsBytes-drop n bytes h i = rw get_or-drop (h (n + i))

pub IsBytes-take : (n : ℕ) (bytes : List ℕ) → IsBytes bytes → IsBytes (take n bytes)
IsBytes-take n bytes h i =
    elim (cases_lt i n) [
      | inl lt ↦ rw (get_or-take n bytes i 0 lt) (h i)
      | inr le ↦ rw (get_or_past (take n bytes) i 0 (omega (arith, length-take n bytes))) (omega arith)
    ]

-- a step that wanted enough bytes and had them
enough : {F A : Type 0} (fault : ℕ → F) (test : Bool) (at : ℕ) (a b : A) → or_fault fault (cond test (Err at) (Ok a)) ≡ Ok b → (test ≡ false) × (a ≡ b)
enough fault true at a b e = absurd cc
enough fault false at a b e = (refl, cc)

-- So many bytes.
pub bytes_codec : {F : Type 0} (fault : ℕ → F) (count : ℕ) → IsCodecAt (λ input. or_fault fault (bytes_at count input)) (λ at bytes. bytes) (λ bytes. length bytes ≡ count)
bytes_codec fault n = record {
  takes = λ input x rest bytes e.
      let m : List ℕ × Input = (take n input.bytes, behind n input) in
      let g = enough fault (ltb (length input.bytes) n) input.at m (x, rest) e in
      let long : n ≤ length input.bytes = ltb-false _ _ g.0 in
      let len : length (take n input.bytes) ≡ n = omega (arith, length-take n input.bytes) in
      subst (λ (z : List ℕ × Input). Takes input z.0 z.1 × (length z.0 ≡ n)) g.1
      (record { parts = sym (take-append-drop n input.bytes); place = omega (arith, len); rest_fits = IsBytes-drop n input.bytes bytes }, len);
  again = λ x at rest q.
      let long : ltb (length (x ++ rest)) n ≡ false = le-ltb _ _ (omega (arith, length-append x rest, q)) in
      rw (long, take_at x rest n q, drop_at x rest n q, q) refl;
}

-- A width whose numbers and bytes are each other's.
pub record IsWide (width : Width) : Type 0 where
  pub len : (n : ℕ) → length (to_be_bytes width n) ≡ byte_len width
  pub back : (bytes : List ℕ) → length bytes ≡ byte_len width → IsBytes bytes → to_be_bytes width (from_be_bytes width bytes) ≡ bytes
  pub again : (n : ℕ) → n < 2 ^ (8 * byte_len width) → from_be_bytes width (to_be_bytes width n) ≡ n
  pub below : (bytes : List ℕ) → IsBytes bytes → from_be_bytes width bytes < 2 ^ (8 * byte_len width)

-- An unsigned number.
pub number_codec : {F : Type 0} (fault : ℕ → F) (width : Width) → IsWide width → IsCodecAt (λ input. or_fault fault (number_at width input)) (λ at. to_be_bytes width) (λ n. n < 2 ^ (8 * byte_len width))
number_codec fault w wide = record {
  takes = λ input x rest bytes e.
      let n = byte_len w in
      let m : ℕ × Input = (from_be_bytes w (take n input.bytes), behind n input) in
      let g = enough fault (ltb (length input.bytes) n) input.at m (x, rest) e in
      let long : n ≤ length input.bytes = ltb-false _ _ g.0 in
      let len : length (take n input.bytes) ≡ n = omega (arith, length-take n input.bytes) in
      let same : to_be_bytes w (from_be_bytes w (take n input.bytes)) ≡ take n input.bytes = wide.back (take n input.bytes) len (IsBytes-take n input.bytes bytes) in
      subst (λ (z : ℕ × Input). Takes input (to_be_bytes w z.0) z.1 × (z.0 < 2 ^ (8 * byte_len w))) g.1
      (record { parts = rw same (sym (take-append-drop n input.bytes)); place = omega (arith, wide.len (from_be_bytes w (take n input.bytes))); rest_fits = IsBytes-drop n input.bytes bytes }, wide.below (take n input.bytes) (IsBytes-take n input.bytes bytes));
  again = λ x at rest q.
      let n = byte_len w in
      let len = wide.len x in
      let long : ltb (length (to_be_bytes w x ++ rest)) n ≡ false = le-ltb _ _ (omega (arith, length-append (to_be_bytes w x) rest, len)) in
      rw (long, take_at (to_be_bytes w x) rest n len, drop_at (to_be_bytes w x) rest n len, wide.again x q, len) refl;
}

-- A width whose signed numbers are those of its bits.
pub record IsTwos (width : Width) : Type 0 where
  pub fits : (n : ℕ) → n < 2 ^ (8 * byte_len width) → FitsSigned width (cast_signed width n)
  pub again : (n : ℕ) → n < 2 ^ (8 * byte_len width) → cast_unsigned width (cast_signed width n) ≡ n
  pub below : (z : ℤ) → FitsSigned width z → cast_unsigned width z < 2 ^ (8 * byte_len width)
  pub back : (z : ℤ) → FitsSigned width z → cast_signed width (cast_unsigned width z) ≡ z

-- A signed number, in two's complement.
pub signed_codec : {F : Type 0} (fault : ℕ → F) (width : Width) → IsWide width → IsTwos width
    → IsCodecAt (λ input. or_fault fault (number_at width input) >>= λ x. Ok (cast_signed width x.0, x.1)) (λ at z. to_be_bytes width (cast_unsigned width z)) (λ z. FitsSigned width z)
signed_codec fault w wide twos =
    made (λ input. or_fault fault (number_at w input)) (λ at. to_be_bytes w) (λ n. n < 2 ^ (8 * byte_len w)) (cast_signed w) (cast_unsigned w) (λ z. FitsSigned w z) (number_codec fault w wide)
    (λ n lt. (twos.fits n lt, twos.again n lt))
    (λ z fits. (twos.below z fits, twos.back z fits))

one_byte : (bytes : List ℕ) → length bytes ≡ 1 → IsBytes bytes → to_be_bytes w8 (from_be_bytes w8 bytes) ≡ bytes
one_byte [] len fits = absurd (omega (arith, len))
one_byte (b ∷ []) len fits = let e : b % 256 ≡ b = omega (arith, fits 0) in ap (λ (n : ℕ). n ∷ []) e
one_byte (b ∷ c ∷ bytes) len fits = absurd (omega (arith, len))

pub wide8 : IsWide w8
wide8 = record {
  len = λ n. refl;
  back = one_byte;
  again = λ n lt. let e : n % 256 ≡ n = omega arith in e;
  below = λ bytes fits. omega (arith, fits 0);
}

pub wide16 : IsWide w16
wide16 = record {
  len = λ n. refl;
  back = λ bytes len fits. be_bytes_2 bytes _ len fits refl;
  again = λ n lt. from_be_bytes-to_be_bytes_2 n lt;
  below = λ bytes fits. omega (arith, fits 0, fits 1);
}

pub wide32 : IsWide w32
wide32 = record {
  len = λ n. refl;
  back = λ bytes len fits. be_bytes_4 bytes _ len fits refl;
  again = λ n lt. from_be_bytes-to_be_bytes_4 n lt;
  below = λ bytes fits. omega (arith, fits 0, fits 1, fits 2, fits 3);
}

pub wide64 : IsWide w64
wide64 = record {
  len = λ n. refl;
  back = λ bytes len fits. be_bytes_8 bytes _ len fits refl;
  again = λ n lt. from_be_bytes-to_be_bytes_8 n lt;
  below = λ bytes fits. omega (arith, fits 0, fits 1, fits 2, fits 3, fits 4, fits 5, fits 6, fits 7);
}

pub twos8 : IsTwos w8
twos8 = record {
  fits = λ n lt. sfits_to_z {w = w8} record { fits = lt };
  again = λ n lt. of_z-to_z w8 n lt;
  below = λ z fits. (Fits-of_z {w = w8} fits).fits;
  back = λ z fits. to_z-of_z fits;
}

pub twos16 : IsTwos w16
twos16 = record {
  fits = λ n lt. sfits_to_z {w = w16} record { fits = lt };
  again = λ n lt. of_z-to_z w16 n lt;
  below = λ z fits. (Fits-of_z {w = w16} fits).fits;
  back = λ z fits. to_z-of_z fits;
}

pub twos32 : IsTwos w32
twos32 = record {
  fits = λ n lt. sfits_to_z {w = w32} record { fits = lt };
  again = λ n lt. of_z-to_z w32 n lt;
  below = λ z fits. (Fits-of_z {w = w32} fits).fits;
  back = λ z fits. to_z-of_z fits;
}

pub twos64 : IsTwos w64
twos64 = record {
  fits = λ n lt. sfits_to_z {w = w64} record { fits = lt };
  again = λ n lt. of_z-to_z w64 n lt;
  below = λ z fits. (Fits-of_z {w = w64} fits).fits;
  back = λ z fits. to_z-of_z fits;
}
