-- The items of a pool are read as they are spelled.
use Rattle.std.proofs.Common.{◌≡◌, ℕ, ◌+◌, ◌*◌, ◌/◌, ◌%◌, ◌^◌, ◌<◌, Bool, true, cond, length, Result, Ok, Err, sym, ap, subst, arith}
use Rattle.std.specs.Int.{w8, w16, w32}
use Rattle.class_model.specs.declared.fault.ClassFault.{ClassFault}
use Rattle.class_model.specs.declared.fault.ClassFault.TheVariants as fault
use Rattle.codec_rules.specs.Input.{Input}
use Rattle.codec_rules.specs.Sequence.{◌>>=◌}
use Rattle.codec_rules.specs.Spelling.{Speller, Takes, IsCodecAt, input_at}
use Rattle.codec_rules.proofs.Sequence.{bind_ok, ok_is}
use Rattle.codec_rules.proofs.Codec.{chain, made, tested_by}
use Rattle.codec_rules.proofs.Numbers.{bytes_codec, number_codec, wide8, wide16, wide32}
use Rattle.mt_bytes.specs.Items.{ItemReader, u1_at, u2_at, u4_at, take_at}
use Rattle.mt_pool.specs.Spelling.{u1, u2, u4, u8}
use Rattle.mt_pool.specs.Reading.{u8_at}

pub u1_codec : IsCodecAt u1_at (λ at. u1) (λ n. n < 2 ^ 8)
u1_codec = number_codec fault.Truncated w8 wide8

pub u2_codec : IsCodecAt u2_at (λ at. u2) (λ n. n < 2 ^ 16)
u2_codec = number_codec fault.Truncated w16 wide16

pub u4_codec : IsCodecAt u4_at (λ at. u4) (λ n. n < 2 ^ 32)
u4_codec = number_codec fault.Truncated w32 wide32

pub take_codec : (count : ℕ) → IsCodecAt (take_at count) (λ at bytes. bytes) (λ bytes. length bytes ≡ count)
take_codec count = bytes_codec fault.Truncated count

high_is : (high low : ℕ) → low < 2 ^ 32 → (high * 2 ^ 32 + low) / 2 ^ 32 ≡ high
high_is high low lt = omega arith

low_is : (high low : ℕ) → low < 2 ^ 32 → (high * 2 ^ 32 + low) % 2 ^ 32 ≡ low
low_is high low lt = omega arith

low_below : (n : ℕ) → n % 2 ^ 32 < 2 ^ 32
low_below n = omega arith

high_below : (n : ℕ) → n < 2 ^ 64 → n / 2 ^ 32 < 2 ^ 32
high_below n lt = omega arith

halves : (n high : ℕ) → n / 2 ^ 32 ≡ high → high * 2 ^ 32 + n % 2 ^ 32 ≡ n
halves n high e = omega (arith, e)

joined_below : (high low : ℕ) → high < 2 ^ 32 → low < 2 ^ 32 → high * 2 ^ 32 + low < 2 ^ 64
joined_below high low hl ll = omega arith

pub u8_codec : IsCodecAt u8_at (λ at. u8) (λ n. n < 2 ^ 64)
unfolding u8_at
u8_codec =
    chain u4_at (λ at. u4) (λ n. n < 2 ^ 32) (λ i high j. u4_at j >>= λ low. Ok (high * 2 ^ 32 + low.0, low.1)) (λ n. n / 2 ^ 32) (λ at n. u4 (n % 2 ^ 32)) (λ n. n < 2 ^ 64)
    u4_codec
    (λ i high lt. made u4_at (λ at. u4) (λ n. n < 2 ^ 32) (λ low. high * 2 ^ 32 + low) (λ n. n % 2 ^ 32) (λ n. (n < 2 ^ 64) × (n / 2 ^ 32 ≡ high)) u4_codec
    (λ low ll. ((joined_below high low lt ll, high_is high low ll), low_is high low ll))
    (λ n q. (low_below n, halves n high q.1)))
    (λ n lt. high_below n lt)

-- A value that is made of what was read, where something can be made of it.
pub made_where : {A M B : Type 0} (read : ItemReader A) (spell : Speller A) (P : A → Type 0) (make : A → Result M ClassFault) (wrap : M → B) (part : B → A) (Q : B → Type 0)
    → IsCodecAt read spell P → ((a : A) (m : M) → P a → make a ≡ Ok m → Q (wrap m) × (part (wrap m) ≡ a)) → ((b : B) → Q b → P (part b) × ((m : M) × (make (part b) ≡ Ok m) × (wrap m ≡ b)))
    → IsCodecAt (λ input. read input >>= λ x. make x.0 >>= λ m. Ok (wrap m, x.1)) (λ at b. spell at (part b)) Q
made_where {A} {M} {B} r s P make wrap part Q codec there back = record {
  takes = λ input y rest bytes e.
      let a = bind_ok (r input) (λ x. make x.0 >>= λ m. Ok (wrap m, x.1)) (y, rest) e in
      let m = bind_ok (make a.0.0) (λ m. Ok (wrap m, a.0.1)) (y, rest) a.2 in
      let t = codec.takes input a.0.0 a.0.1 bytes a.1 in
      let known = there a.0.0 m.0 t.1 m.1 in
      let z : B × Input = (wrap m.0, a.0.1) in
      subst (λ (z : B × Input). Takes input (s input.at (part z.0)) z.1 × Q z.0) (ok_is {F = ClassFault} z (y, rest) m.2)
      (subst (λ (z : A). Takes input (s input.at z) a.0.1) (sym known.1) t.0, known.0);
  again = λ y at rest q.
      let known = back y q in
      rw (codec.again (part y) at rest known.0, known.1.1) (ap (λ (z : B). Ok (z, input_at (at + length (s at (part y))) rest)) known.1.2);
}

-- An item that has to pass a test at its place.
pub tested_here : {A : Type 0} (read : ItemReader A) (spell : Speller A) (P : A → Type 0) (test : A → Bool) (fault : ℕ → A → ClassFault) → IsCodecAt read spell P
    → IsCodecAt (λ input. read input >>= λ x. cond (test x.0) (Ok x) (Err (fault input.at x.0))) spell (λ x. P x × (test x ≡ true))
tested_here read spell P test fault codec = record {
  takes = λ input y rest bytes e. (tested_by read spell P test (fault input.at) codec).takes input y rest bytes e;
  again = λ y at rest q. (tested_by read spell P test (fault at) codec).again y at rest q;
}
