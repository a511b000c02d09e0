-- Heads are read as they are spelled.
use Rattle.std.proofs.Common.{◌≡◌, ℕ, ◌+◌, ◌<◌, ◌≤◌, ◌^◌, Bool, true, false, List, ◌++◌, length, Option, Some, None, Result, Ok, refl, sym, ap, subst, ◌∙◌, arith}
use Rattle.std.specs.Prelude.{◌==◌, nat_lt, if◌then◌else◌}
use Rattle.std.specs.Int.{w16, w32, to_be_bytes}
use Rattle.std.proofs.lemmas.Bool.{eqb-true, ltb-true, ltb-false, lt-ltb, le-ltb}
use Rattle.codec_rules.specs.Input.{Input}
use Rattle.codec_rules.specs.Sequence.{◌>>=◌, unless}
use Rattle.codec_rules.specs.Spelling.{Takes, IsCodecAt, input_at}
use Rattle.codec_rules.proofs.Sequence.{bind_ok, unless_ok}
use Rattle.codec_rules.proofs.Codec.{chain, renamed}
use Rattle.codec_rules.proofs.Numbers.{number_codec, wide16, wide32}
use Rattle.history_rules.proofs.Codecs.{tested_from}
use Rattle.shard_rules.specs.declared.head.Head.{Head}
use Rattle.shard_rules.specs.declared.head.HeadFault.{HeadFault}
use Rattle.shard_rules.specs.declared.head.HeadFault.TheVariants.{Bad}
use Rattle.shard_rules.specs.Heads.{FrontReader, u2_at, u4_at, where_at, magic, most_shards, number_fault, head_of, head_at, IsHead}
use Rattle.shard_rules.specs.Laws.{HeadsAreReadAsSpelled}

pub u2_codec : IsCodecAt u2_at (λ at. to_be_bytes w16) (λ n. n < 2 ^ 16)
u2_codec = number_codec Bad w16 wide16

pub u4_codec : IsCodecAt u4_at (λ at. to_be_bytes w32) (λ n. n < 2 ^ 32)
u4_codec = number_codec Bad w32 wide32

where_codec : {A : Type 0} (read : FrontReader A) (spell : ℕ → A → List ℕ) (P : A → Type 0) (test : A → Bool) → IsCodecAt read spell P → IsCodecAt (where_at read test) spell (λ x. P x × (test x ≡ true))
where_codec read spell P test codec = tested_from read spell P test (λ input. Bad input.at) codec

-- ---- the number of shards

abbrev from_of : ℕ → ℕ → FrontReader Head
from_of at index j = u2_at j >>= λ of. unless (number_fault at j.at index of.0) (head_of index of.0, of.1)

none_of : (a b : Bool) (x y : HeadFault) → (if a then Some x else if b then Some y else None) ≡ None → (a ≡ false) × (b ≡ false)
none_of true b x y e = absurd cc
none_of false true x y e = absurd cc
none_of false false x y e = (refl, refl)

fits_of : (at j index of : ℕ) → index ≤ of → of ≤ most_shards → number_fault at j index of ≡ None
fits_of at j index of le few =
    let a : nat_lt of index ≡ false = le-ltb of index le in
    let b : nat_lt most_shards of ≡ false = le-ltb most_shards of few in
    rw (a, b) refl

of_codec : (at index : ℕ) → 0 < index → IsCodecAt (from_of at index) (λ place h. to_be_bytes w16 h.of) (λ h. IsHead h × (h.index ≡ index))
of_codec at index some = record {
  takes = λ input y rest bytes e.
      let a = bind_ok (u2_at input) (λ of. unless (number_fault at input.at index of.0) (head_of index of.0, of.1)) (y, rest) e in
      let m : Head × Input = (head_of index a.0.0, a.0.1) in
      let c = unless_ok (number_fault at input.at index a.0.0) m (y, rest) a.2 in
      let d = none_of (nat_lt a.0.0 index) (nat_lt most_shards a.0.0) (Bad at) (Bad input.at) c.0 in
      let t = u2_codec.takes input a.0.0 a.0.1 bytes a.1 in
      subst (λ (z : Head × Input). Takes input (to_be_bytes w16 z.0.of) z.1 × (IsHead z.0 × (z.0.index ≡ index))) c.1
      (t.0, (record { first = some; last = ltb-false a.0.0 index d.0; few = ltb-false most_shards a.0.0 d.1 }, refl));
  again = λ y place rest q.
      let few = q.0.few in
      let small : y.of < 2 ^ 16 = omega (arith, few) in
      let fits : number_fault at place index y.of ≡ None = fits_of at place index y.of (subst (λ (k : ℕ). k ≤ y.of) q.1 q.0.last) few in
      let read = u2_codec.again y.of place rest small in
      ap (λ (z : Result (ℕ × Input) HeadFault). z >>= λ of. unless (number_fault at place index of.0) (head_of index of.0, of.1)) read
      ∙ ap (λ (o : Option HeadFault). unless o (head_of index y.of, input_at (place + length (to_be_bytes w16 y.of)) rest)) fits
      ∙ ap (λ (k : ℕ). Ok (head_of k y.of, input_at (place + length (to_be_bytes w16 y.of)) rest)) (sym q.1);
}

-- ---- all of it

abbrev from_index : FrontReader Head
from_index i = where_at u2_at (λ n. nat_lt 0 n) i >>= λ x. from_of i.at x.0 x.1

abbrev from_version : FrontReader Head
from_version i = where_at u2_at (λ n. n == 1) i >>= λ x. from_index x.1

abbrev bytes_from_index : Head → List ℕ
bytes_from_index h = to_be_bytes w16 h.index ++ to_be_bytes w16 h.of

abbrev bytes_from_version : Head → List ℕ
bytes_from_version h = to_be_bytes w16 1 ++ bytes_from_index h

index_codec : IsCodecAt from_index (λ at. bytes_from_index) IsHead
index_codec =
    chain (where_at u2_at (λ n. nat_lt 0 n)) (λ at. to_be_bytes w16) (λ n. (n < 2 ^ 16) × (nat_lt 0 n ≡ true)) (λ i n. from_of i.at n) (λ h. h.index) (λ at h. to_be_bytes w16 h.of) IsHead (where_codec u2_at (λ at. to_be_bytes w16) (λ n. n < 2 ^ 16) (λ n. nat_lt 0 n) u2_codec)
    (λ i n q. of_codec i.at n (ltb-true 0 n q.1))
    (λ h q. let a = q.last in let b = q.few in (omega (arith, a, b), lt-ltb 0 h.index q.first))

version_codec : IsCodecAt from_version (λ at. bytes_from_version) IsHead
version_codec =
    chain (where_at u2_at (λ n. n == 1)) (λ at. to_be_bytes w16) (λ n. (n < 2 ^ 16) × (n == 1 ≡ true)) (λ i n. from_index) (λ h. 1) (λ at. bytes_from_index) IsHead (where_codec u2_at (λ at. to_be_bytes w16) (λ n. n < 2 ^ 16) (λ n. n == 1) u2_codec)
    (λ i n q. renamed from_index (λ at. bytes_from_index) IsHead (λ h. IsHead h × (1 ≡ n)) index_codec (λ h p. (p, sym (eqb-true n 1 q.1))) (λ h p. p.0))
    (λ h q. (omega arith, refl))

pub head_codec : HeadsAreReadAsSpelled
unfolding head_at
head_codec =
    chain (where_at u4_at (λ n. n == magic)) (λ at. to_be_bytes w32) (λ n. (n < 2 ^ 32) × (n == magic ≡ true)) (λ i n. from_version) (λ h. magic) (λ at. bytes_from_version) IsHead (where_codec u4_at (λ at. to_be_bytes w32) (λ n. n < 2 ^ 32) (λ n. n == magic) u4_codec)
    (λ i n q. renamed from_version (λ at. bytes_from_version) IsHead (λ h. IsHead h × (magic ≡ n)) version_codec (λ h p. (p, sym (eqb-true n magic q.1))) (λ h p. p.0))
    (λ h q. (omega arith, refl))
