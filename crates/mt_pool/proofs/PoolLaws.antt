-- A pool is read as it is spelled.
use Rattle.std.proofs.Common.{◌≡◌, ℕ, ◌+◌, ◌-◌, ◌^◌, ◌<◌, ◌⊎◌, inl, inr, Bool, true, false, eqb, List, [], ◌∷◌, ◌++◌, length, Result, Ok, Err, refl, sym, ap, subst, ◌∙◌, append_assoc, arith}
use Rattle.std.specs.Prelude.{IfOk}
use Rattle.std.specs.List.{flat_map, AllByRecursion}
use Rattle.std.proofs.lemmas.Bool.{eqb-true, eqb-false}
use Rattle.std.proofs.lemmas.List.{length-append, nil_from_length}
use Rattle.class_model.specs.Pool.{IsPool, HasTextSize}
use Rattle.class_model.specs.declared.constant.Const.{Const}
use Rattle.class_model.specs.declared.constant.Const.TheVariants as const
use Rattle.class_model.specs.declared.fault.ClassFault.{ClassFault}
use Rattle.class_model.specs.declared.fault.ClassFault.TheVariants as fault
use Rattle.codec_rules.specs.Input.{Input, IsBytes}
use Rattle.codec_rules.specs.Sequence.{◌>>=◌}
use Rattle.codec_rules.specs.Spelling.{Speller, Takes, IsCodecAt, input_at}
use Rattle.codec_rules.proofs.Sequence.{bind_ok, ok_is}
use Rattle.codec_rules.proofs.Codec.{Takes-then}
use Rattle.codec_rules.proofs.Meets.{Reads-along}
use Rattle.mt_bytes.specs.Items.{ItemReader, ReadsItem, u2_at}
use Rattle.mt_pool.specs.Spelling.{u2, entry_bytes, pool_bytes}
use Rattle.mt_pool.specs.Reading.{places_at}
use Rattle.mt_pool.specs.Indices.{first_fault}
use Rattle.mt_pool.specs.Whole.{pool_at, IsPoolRead}
use Rattle.mt_pool.proofs.Items.{u2_codec}
use Rattle.mt_pool.proofs.PlaceLaws.{HoldsFit, ArePlaces, places_codec, all_hold_fit, seconds_of_places, places_of_seconds}
use Rattle.mt_pool.proofs.IndexLaws.{all_checked, entries_good}
use Rattle.mt_pool.proofs.IndexAgain.{entries_again, entries_fit}

-- ---- pools

text_sized : (c : Const) → HoldsFit c → HasTextSize c
text_sized (const.Utf8 units) h = h.1
text_sized other h = tt

texts_sized : (cs : List Const) → AllByRecursion HoldsFit cs → AllByRecursion HasTextSize cs
texts_sized [] h = tt
texts_sized (c ∷ cs) h = (text_sized c h.0, texts_sized cs h.1)

-- Places of whose indices nothing is told are a pool.
is_pool : (pool : List Const) (place : ℕ) → ArePlaces false pool → first_fault pool place pool ≡ Ok tt → length pool + 1 < 2 ^ 16 → IsPool pool
is_pool pool place places e few =
    let fit = all_hold_fit false pool places in
    record {
      form = record { entries = entries_good pool (all_checked pool place pool e) pool fit (all_checked pool place pool e); seconds = seconds_of_places pool places };
      few = few;
      texts = texts_sized pool fit;
    }

pool_places : (pool : List Const) → IsPool pool → ArePlaces false pool
pool_places pool q = places_of_seconds pool (entries_fit pool q.few pool q.form.entries q.texts) q.form.seconds

-- ---- the entries, and then their indices

abbrev linked_at : ℕ → ItemReader (List Const)
linked_at count input = places_at count false input >>= λ entries. first_fault entries.0 input.at entries.0 >>= λ good. Ok entries

-- what was read of so many places
record IsLinked (count : ℕ) (input : Input) (pool : List Const) (rest : Input) : Type 0 where
  taken : Takes input (flat_map entry_bytes pool) rest
  form : length pool + 1 < 2 ^ 16 → IsPool pool
  many : length pool ≡ count

linked_takes : (count : ℕ) (input : Input) (pool : List Const) (rest : Input) → IsBytes input.bytes → linked_at count input ≡ Ok (pool, rest) → IsLinked count input pool rest
linked_takes count input pool rest bytes e =
    let a = bind_ok (places_at count false input) (λ entries. first_fault entries.0 input.at entries.0 >>= λ good. Ok entries) (pool, rest) e in
    let b = bind_ok (first_fault a.0.0 input.at a.0.0) (λ good. Ok a.0) (pool, rest) a.2 in
    let t = (places_codec count false).takes input a.0.0 a.0.1 bytes a.1 in
    subst (λ (z : List Const × Input). IsLinked count input z.0 z.1) (ok_is {F = ClassFault} a.0 (pool, rest) b.2)
    (record { taken = t.0; form = λ few. is_pool a.0.0 input.at t.1.0 b.1 few; many = t.1.1 })

linked_again : (pool : List Const) (count at : ℕ) (rest : List ℕ) → IsPool pool → length pool ≡ count → linked_at count (input_at at (flat_map entry_bytes pool ++ rest)) ≡ Ok (pool, input_at (at + length (flat_map entry_bytes pool)) rest)
linked_again pool count at rest q n =
    rw ((places_codec count false).again pool at rest (pool_places pool q, n), entries_again pool at pool q.form.entries) refl

-- ---- with the count

-- what was read of a pool, with the count that was read
record IsCounted (input : Input) (pool : List Const) (rest : Input) : Type 0 where
  count : ℕ
  taken : Takes input (u2 count ++ flat_map entry_bytes pool) rest
  many : length pool ≡ count - 1
  form : IsPool pool

counted : (input : Input) (pool : List Const) (rest : Input) → IsBytes input.bytes → pool_at input ≡ Ok (pool, rest) → IsCounted input pool rest
unfolding pool_at
counted input pool rest bytes e =
    let a = bind_ok (u2_at input) (λ count. linked_at (count.0 - 1) count.1) (pool, rest) e in
    let t = u2_codec.takes input a.0.0 a.0.1 bytes a.1 in
    let u = linked_takes (a.0.0 - 1) a.0.1 pool rest t.0.rest_fits a.2 in
    record {
      count = a.0.0;
      taken = Takes-then input (u2 a.0.0) a.0.1 (flat_map entry_bytes pool) rest t.0 u.taken;
      many = u.many;
      form = u.form (omega (arith, u.many, t.1));
    }

-- A count of 0 is that of an empty pool too, so what is read is a pool's spelling where the pool
-- has entries.
pub pool_takes : (input : Input) (pool : List Const) (rest : Input) → IsBytes input.bytes → pool_at input ≡ Ok (pool, rest) → 0 < length pool → Takes input (pool_bytes pool) rest × IsPool pool
pool_takes input pool rest bytes e some =
    let c = counted input pool rest bytes e in
    let n : c.count ≡ length pool + 1 = omega (arith, c.many, some) in
    (subst (λ (k : ℕ). Takes input (u2 k ++ flat_map entry_bytes pool) rest) n c.taken, c.form)

pub pool_again : (pool : List Const) (at : ℕ) (rest : List ℕ) → IsPool pool → pool_at (input_at at (pool_bytes pool ++ rest)) ≡ Ok (pool, input_at (at + length (pool_bytes pool)) rest)
unfolding pool_at
pool_again pool at rest q =
    let front = u2 (length pool + 1) in
    let back = flat_map entry_bytes pool in
    let count : length pool ≡ (length pool + 1) - 1 = omega arith in
    let one = u2_codec.again (length pool + 1) at (back ++ rest) q.few in
    let two = linked_again pool ((length pool + 1) - 1) (at + length front) rest q count in
    let place : at + length front + length back ≡ at + length (front ++ back) = omega (arith, length-append front back) in
    ap (λ (t : List ℕ). pool_at (input_at at t)) (append_assoc front back rest)
    ∙ ap (λ (z : Result (ℕ × Input) ClassFault). z >>= λ count. linked_at (count.0 - 1) count.1) one
    ∙ two
    ∙ ap (λ (n : ℕ). Ok (pool, input_at n rest)) place

-- What is read is a pool, and how it was spelled.
pub pool_read : (input : Input) (pool : List Const) (rest : Input) → IsBytes input.bytes → pool_at input ≡ Ok (pool, rest) → IsPoolRead input pool rest
pool_read input pool rest bytes e =
    let c = counted input pool rest bytes e in
    record { form = c.form; taken = by c (eqb c.count 0) refl }
  where
    by : (c : IsCounted input pool rest) (test : Bool) → eqb c.count 0 ≡ test → Takes input (pool_bytes pool) rest ⊎ (pool ≡ []) × Takes input (u2 0) rest
    by c true is =
        let zero_count : c.count ≡ 0 = eqb-true c.count 0 is in
        let empty : pool ≡ [] = nil_from_length pool (omega (arith, c.many, zero_count)) in
        let bare : u2 c.count ++ flat_map entry_bytes pool ≡ u2 0 = ap (λ (n : ℕ). u2 n ++ flat_map entry_bytes pool) zero_count ∙ ap (λ (cs : List Const). u2 0 ++ flat_map entry_bytes cs) empty in
        inr (empty, subst (λ (x : List ℕ). Takes input x rest) bare c.taken)
    by c false is =
        let more : c.count ≡ length pool + 1 = omega (arith, c.many, positive c.count (eqb-false c.count 0 is)) in
        inl (subst (λ (k : ℕ). Takes input (u2 k ++ flat_map entry_bytes pool) rest) more c.taken)
      where
        positive : (n : ℕ) → (n ≡ 0 → ⊥) → 0 < n
        positive n not_zero = omega (arith, not_zero)

-- A pool, and behind it another value that is read only where the pool has an entry, as a class
-- whose own index names one.
pub pool_chain : {B : Type 0} (second : Input → List Const → ItemReader B) (front : B → List Const) (spell_second : Speller B) (Q : B → Type 0)
    → ((start : Input) (pool : List Const) (input : Input) (whole : B) (rest : Input) → second start pool input ≡ Ok (whole, rest) → 0 < length pool)
    → ((input : Input) (pool : List Const) → IsPool pool → IsCodecAt (second input pool) spell_second (λ whole. Q whole × (front whole ≡ pool))) → ((whole : B) → Q whole → IsPool (front whole))
    → IsCodecAt (λ input. pool_at input >>= λ x. second input x.0 x.1) (λ at whole. pool_bytes (front whole) ++ spell_second (at + length (pool_bytes (front whole))) whole) Q
pool_chain {B} second front spell Q known codec fits = record {
  takes = λ input y rest bytes e.
      let a = bind_ok (pool_at input) (λ x. second input x.0 x.1) (y, rest) e in
      let t = pool_takes input a.0.0 a.0.1 bytes a.1 (known input a.0.0 a.0.1 y rest a.2) in
      let u = (codec input a.0.0 t.1).takes a.0.1 y rest t.0.rest_fits a.2 in
      let both : Takes input (pool_bytes a.0.0 ++ spell (input.at + length (pool_bytes a.0.0)) y) rest = subst (λ (n : ℕ). Takes input (pool_bytes a.0.0 ++ spell n y) rest) t.0.place (Takes-then input (pool_bytes a.0.0) a.0.1 (spell a.0.1.at y) rest t.0 u.0) in
      (subst (λ (z : List Const). Takes input (pool_bytes z ++ spell (input.at + length (pool_bytes z)) y) rest) (sym u.1.1) both, u.1.0);
  again = λ y at rest q.
      let top = pool_bytes (front y) in
      let back = spell (at + length top) y in
      let start : Input = input_at at ((top ++ back) ++ rest) in
      let one = pool_again (front y) at (back ++ rest) (fits y q) in
      let two = (codec start (front y) (fits y q)).again y (at + length top) rest (q, refl) in
      let place : at + length top + length back ≡ at + length (top ++ back) = omega (arith, length-append top back) in
      ap (λ (t : List ℕ). pool_at (input_at at t) >>= λ x. second start x.0 x.1) (append_assoc top back rest) ∙ ap (λ (z : Result (List Const × Input) ClassFault). z >>= λ x. second start x.0 x.1) one ∙ two ∙ ap (λ (n : ℕ). Ok (y, input_at n rest)) place;
}

-- ---- what the answers of a call say

pub is_found : (old new : Input) (result : Result (List Const) ClassFault) → IsBytes old.bytes → ReadsItem pool_at old new result → IfOk result (λ pool. IsPoolRead old pool new)
is_found old new (Ok pool) bytes h = pool_read old pool new bytes h
is_found old new (Err e) bytes h = tt

pub is_only : (old new : Input) (result : Result (List Const) ClassFault) → ReadsItem pool_at old new result → (pool : List Const) (rest : List ℕ) → IsPool pool → old.bytes ≡ pool_bytes pool ++ rest
    → ReadsItem (λ input. Ok (pool, input_at (input.at + length (pool_bytes pool)) rest)) old new result
is_only old new result h pool rest q e =
    Reads-along fault.Memory (λ input. Ok (pool, input_at (input.at + length (pool_bytes pool)) rest)) pool_at old old new result
    (sym (pool_again pool old.at rest q) ∙ ap (λ (bytes : List ℕ). pool_at (input_at old.at bytes)) (sym e)) h
