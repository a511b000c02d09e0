-- Items, contents of a stated length and lists of an attribute are read as they are spelled.
use Rattle.std.proofs.Common.{◌≡◌, ℕ, zero, suc, ◌+◌, ◌^◌, ◌<◌, ◌≤◌, Bool, true, false, cond, eqb, ltb, leb, List, [], ◌∷◌, ◌++◌, length, take, drop, Option, Some, None, Result, Ok, Err, refl, sym, ap, subst, ◌∙◌, append_assoc, arith}
use Rattle.std.specs.Prelude.{◌&&◌, ok_or}
use Rattle.std.specs.Int.{w8, w16, w32}
use Rattle.std.specs.List.{flat_map, AllByRecursion}
use Rattle.std.proofs.lemmas.Bool.{eqb-true, leb-true, le-leb}
use Rattle.std.proofs.lemmas.List.{length-append, append-nil, take_at, drop_at, take-append-drop, length-take, nil_from_length}
use Rattle.class_model.specs.declared.fault.ClassFault.{ClassFault}
use Rattle.class_model.specs.declared.fault.ClassFault.TheVariants as class_fault
use Rattle.codec_rules.specs.Input.{Input, IsBytes, behind}
use Rattle.codec_rules.specs.Sequence.{◌>>=◌}
use Rattle.codec_rules.specs.Reading.{many_at}
use Rattle.codec_rules.specs.Spelling.{Speller, IsCodecAt, Takes, input_at}
use Rattle.codec_rules.proofs.Sequence.{bind_ok, guard_passed, ok_is, done}
use Rattle.codec_rules.proofs.Codec.{Takes-then, chain, renamed, tested_by}
use Rattle.codec_rules.proofs.Numbers.{number_codec, bytes_codec, wide8, wide16, wide32, IsBytes-take, IsBytes-drop}
use Rattle.codec_rules.proofs.Many.{many_flat}
use Rattle.mt_attrs.specs.Item.{PartReader, number, number_where, some_bytes, counted_at, many_by, spelled_by, AllBy, closed, front, content, carried_at, u1, u2, u4, sized, counted}
use Rattle.mt_attrs.specs.Named.{IsIndex}
use Rattle.mt_attrs.specs.declared.fault.ItemFault.{ItemFault}
use Rattle.mt_attrs.specs.declared.fault.ItemFault.TheVariants as item_fault

-- ---- items

pub one_codec : IsCodecAt (number w8) (λ at. u1) (λ n. n < 2 ^ 8)
one_codec = number_codec (λ at. item_fault.Short at 1) w8 wide8

pub two_codec : IsCodecAt (number w16) (λ at. u2) (λ n. n < 2 ^ 16)
two_codec = number_codec (λ at. item_fault.Short at 2) w16 wide16

pub four_codec : IsCodecAt (number w32) (λ at. u4) (λ n. n < 2 ^ 32)
four_codec = number_codec (λ at. item_fault.Short at 4) w32 wide32

-- A reader that is told its own place.
pub placed : {A : Type 0} (read : ℕ → PartReader A) (spell : Speller A) (P : A → Type 0) → ((at : ℕ) → IsCodecAt (read at) spell P) → IsCodecAt (λ input. read input.at input) spell P
placed read spell P codec = record {
  takes = λ input y rest bytes e. (codec input.at).takes input y rest bytes e;
  again = λ y at rest q. (codec at).again y at rest q;
}

-- A test whose fault is told the place and the value.
pub tested_at : {A : Type 0} (read : PartReader A) (spell : Speller A) (P : A → Type 0) (test : A → Bool) (fault : ℕ → A → ItemFault) → IsCodecAt read spell P
    → IsCodecAt (λ input. read input >>= λ x. cond (test x.0) (Ok x) (Err (fault input.at x.0))) spell (λ x. P x × (test x ≡ true))
tested_at read spell P test fault codec = placed (λ at input. read input >>= λ x. cond (test x.0) (Ok x) (Err (fault at x.0))) spell (λ x. P x × (test x ≡ true)) (λ at. tested_by read spell P test (fault at) codec)

pub index_codec : (test : ℕ → Bool) (refusal : ℕ → ℕ → ClassFault) → IsCodecAt (number_where w16 test refusal) (λ at. u2) (IsIndex test)
index_codec test refusal = tested_at (number w16) (λ at. u2) (λ n. n < 2 ^ 16) test (λ at n. item_fault.Bad (refusal at n)) two_codec

pub ok_or_some : {A : Type 0} (fault : ItemFault) (o : Option A) (x : A) → ok_or o fault ≡ Ok x → o ≡ Some x
ok_or_some fault None x e = absurd cc
ok_or_some fault (Some y) x e = cc

-- A value that is found by what was read, and that tells by what.
pub resolved : {A : Type 0} (read : PartReader ℕ) (spell : Speller ℕ) (P : ℕ → Type 0) (fault : ItemFault) (find : ℕ → Option A) (back : A → ℕ) (Q : A → Type 0) → IsCodecAt read spell P
    → ((p : ℕ) (a : A) → P p → find p ≡ Some a → Q a × (back a ≡ p)) → ((a : A) → Q a → P (back a) × (find (back a) ≡ Some a))
    → IsCodecAt (λ input. read input >>= λ p. ok_or (find p.0) fault >>= λ a. Ok (a, p.1)) (λ at a. spell at (back a)) Q
resolved {A} r s P fault find back Q codec there again = record {
  takes = λ input y rest bytes e.
      let a = bind_ok (r input) (λ p. ok_or (find p.0) fault >>= λ x. Ok (x, p.1)) (y, rest) e in
      let b = bind_ok (ok_or (find a.0.0) fault) (λ x. Ok (x, a.0.1)) (y, rest) a.2 in
      let t = codec.takes input a.0.0 a.0.1 bytes a.1 in
      let k = there a.0.0 b.0 t.1 (ok_or_some fault (find a.0.0) b.0 b.1) in
      let m : A × Input = (b.0, a.0.1) in
      subst (λ (z : A × Input). Takes input (s input.at (back z.0)) z.1 × Q z.0) (ok_is {F = ItemFault} m (y, rest) b.2) (subst (λ (p : ℕ). Takes input (s input.at p) a.0.1) (sym k.1) t.0, k.0);
  again = λ y at rest q. let k = again y q in rw (codec.again (back y) at rest k.0, k.1) refl;
}

abbrev made_at : {A B : Type 0} → PartReader A → (A → B) → PartReader B
made_at read make input = read input >>= λ x. Ok (make x.0, x.1)

-- A value that is made of what was read, and whose spelling is that of what it is made of.
pub made_by : {A B : Type 0} (read : PartReader A) (spell : A → List ℕ) (P : A → Type 0) (make : A → B) (spell_made : B → List ℕ) (Q : B → Type 0) → IsCodecAt read (λ at. spell) P
    → ((a : A) → P a → Q (make a) × (spell_made (make a) ≡ spell a)) → ((b : B) → Q b → (a : A) × P a × (make a ≡ b))
    → IsCodecAt (λ input. read input >>= λ x. Ok (make x.0, x.1)) (λ at. spell_made) Q
made_by {A} {B} r s P f sb Q codec there back = record {
  takes = λ input y rest bytes e.
      let a = bind_ok (r input) (λ x. Ok (f x.0, x.1)) (y, rest) e in
      let t = codec.takes input a.0.0 a.0.1 bytes a.1 in
      let k = there a.0.0 t.1 in
      let m : B × Input = (f a.0.0, a.0.1) in
      subst (λ (z : B × Input). Takes input (sb z.0) z.1 × Q z.0) (ok_is {F = ItemFault} m (y, rest) a.2) (subst (λ (z : List ℕ). Takes input z a.0.1) (sym k.1) t.0, k.0);
  again = λ y at rest q.
      let k = back y q in
      let read : made_at r f (input_at at (s k.0 ++ rest)) ≡ done (f k.0, input_at (at + length (s k.0)) rest) = ap (λ (z : Result (A × Input) ItemFault). z >>= λ x. done (f x.0, x.1)) (codec.again k.0 at rest k.1) in
      let made : made_at r f (input_at at (sb (f k.0) ++ rest)) ≡ done (f k.0, input_at (at + length (sb (f k.0))) rest) = subst (λ (z : List ℕ). made_at r f (input_at at (z ++ rest)) ≡ done (f k.0, input_at (at + length z) rest)) (sym (there k.0 k.1).1) read in
      subst (λ (z : B). made_at r f (input_at at (sb z ++ rest)) ≡ done (z, input_at (at + length (sb z)) rest)) k.2 made;
}

-- ---- contents

and_true : (a b : Bool) → a && b ≡ true → (a ≡ true) × (b ≡ true)
and_true true b e = (refl, e)
and_true false b e = absurd cc

-- it was read up to its end
record Closed {A : Type 0} (whole : Bool) (read : Result (A × Input) ItemFault) (value : A) : Type 0 where
  rest : Input
  is : read ≡ Ok (value, rest)
  there : whole ≡ true
  empty : length rest.bytes ≡ 0

no_value : {A : Type 0} (test : Bool) (one other : ItemFault) (v : A) → cond test (Err one) (Err other) ≡ Ok v → ⊥
no_value true one other v e = cc
no_value false one other v e = cc

closed_ok : {A : Type 0} (file_end first end : ℕ) (whole : Bool) (read : Result (A × Input) ItemFault) (v : A) → closed file_end first end whole read ≡ Ok v → Closed whole read v
closed_ok file_end first end whole (Ok x) v e =
    let g = guard_passed (whole && eqb (length x.1.bytes) 0) (item_fault.Bad (class_fault.BadLength first)) x.0 v e in
    let b = and_true whole (eqb (length x.1.bytes) 0) g.0 in
    subst (λ z. Closed whole (Ok x) z) g.1 (record { rest = x.1; is = refl; there = b.0; empty = eqb-true _ _ b.1 })
closed_ok file_end first end whole (Err (item_fault.Short at need)) v e = absurd (no_value (ltb end (at + need) && leb (at + need) file_end) (item_fault.Bad (class_fault.BadLength first)) (item_fault.Short at need) v e)
closed_ok file_end first end whole (Err (item_fault.Bad fault)) v e = absurd cc

pub content_codec : {A : Type 0} (file_end first : ℕ) (read : PartReader A) (spell : A → List ℕ) (P : A → Type 0) → IsCodecAt read (λ at. spell) P
    → IsCodecAt (content file_end first read) (λ at x. sized (spell x)) (λ x. P x × (length (spell x) < 2 ^ 32))
content_codec {A} file_end first r s P codec = record {
  takes = λ input x rest bytes e.
      let a = bind_ok (number w32 input) (λ len. closed file_end first (len.1.at + len.0) (leb len.0 (length len.1.bytes)) (r (front len.0 len.1)) >>= λ value. Ok (value, behind len.0 len.1)) (x, rest) e in
      let t = four_codec.takes input a.0.0 a.0.1 bytes a.1 in
      let n = a.0.0 in
      let mid = a.0.1 in
      let b = bind_ok (closed file_end first (mid.at + n) (leb n (length mid.bytes)) (r (front n mid))) (λ value. Ok (value, behind n mid)) (x, rest) a.2 in
      let c = closed_ok file_end first (mid.at + n) (leb n (length mid.bytes)) (r (front n mid)) b.0 b.1 in
      let le : n ≤ length mid.bytes = leb-true _ _ c.there in
      let u = codec.takes (front n mid) b.0 c.rest (IsBytes-take n mid.bytes t.0.rest_fits) c.is in
      let all : take n mid.bytes ≡ s b.0 = u.0.parts ∙ ap (λ (z : List ℕ). s b.0 ++ z) (nil_from_length c.rest.bytes c.empty) ∙ append-nil (s b.0) in
      let len : length (s b.0) ≡ n = ap (λ (z : List ℕ). length z) (sym all) ∙ omega (arith, length-take n mid.bytes, le) in
      let part : Takes mid (s b.0) (behind n mid) = record { parts = sym (take-append-drop n mid.bytes) ∙ ap (λ (z : List ℕ). z ++ drop n mid.bytes) all; place = omega (arith, len); rest_fits = IsBytes-drop n mid.bytes t.0.rest_fits } in
      let both : Takes input (sized (s b.0)) (behind n mid) = subst (λ (k : ℕ). Takes input (u4 k ++ s b.0) (behind n mid)) (sym len) (Takes-then input (u4 n) mid (s b.0) (behind n mid) t.0 part) in
      let m : A × Input = (b.0, behind n mid) in
      subst (λ (z : A × Input). Takes input (sized (s z.0)) z.1 × (P z.0 × (length (s z.0) < 2 ^ 32))) (ok_is {F = ItemFault} m (x, rest) b.2) (both, (u.1, subst (λ (k : ℕ). k < 2 ^ 32) (sym len) t.1));
  again = λ x at rest q.
      let n = length (s x) in
      let top = u4 n in
      let mid : Input = input_at (at + length top) (s x ++ rest) in
      let one = four_codec.again n at (s x ++ rest) q.1 in
      let whole : leb n (length (s x ++ rest)) ≡ true = le-leb _ _ (omega (arith, length-append (s x) rest)) in
      let part : take n (s x ++ rest) ≡ s x = take_at (s x) rest n refl in
      let tail : drop n (s x ++ rest) ≡ rest = drop_at (s x) rest n refl in
      let two : r (front n mid) ≡ Ok (x, input_at (at + length top + n) []) = ap (λ (z : List ℕ). r (input_at (at + length top) z)) (part ∙ sym (append-nil (s x))) ∙ codec.again x (at + length top) [] q.0 in
      let place : at + length top + n ≡ at + length (top ++ s x) = omega (arith, length-append top (s x)) in
      ap (λ (t : List ℕ). content file_end first r (input_at at t)) (append_assoc top (s x) rest)
      ∙ ap (λ (z : Result (ℕ × Input) ItemFault). z >>= λ len. closed file_end first (len.1.at + len.0) (leb len.0 (length len.1.bytes)) (r (front len.0 len.1)) >>= λ value. Ok (value, behind len.0 len.1)) one
      ∙ rw (whole, two) (λ i. done (x, input_at (place i) (tail i)));
}

pub carried_codec : IsCodecAt carried_at (λ at. sized) (λ bytes. length bytes < 2 ^ 32)
carried_codec =
    chain (number w32) (λ at. u4) (λ n. n < 2 ^ 32) (λ i n j. some_bytes n j) (λ bytes. length bytes) (λ at bytes. bytes) (λ bytes. length bytes < 2 ^ 32) four_codec
    (λ i n lt. renamed (some_bytes n) (λ at x. x) (λ x. length x ≡ n) (λ x. (length x < 2 ^ 32) × (length x ≡ n)) (bytes_codec (λ at. item_fault.Short at n) n) (λ x e. (subst (λ (k : ℕ). k < 2 ^ 32) (sym e) lt, e)) (λ x q. q.1))
    (λ x q. q)

-- ---- lists

pub counted_codec : {A : Type 0} (read : PartReader A) (spell : A → List ℕ) (P : A → Type 0) → IsCodecAt read (λ at. spell) P → IsCodecAt (counted_at read) (λ at. counted spell) (λ xs. (length xs < 2 ^ 16) × AllByRecursion P xs)
counted_codec {A} r s P codec =
    chain (number w16) (λ at. u2) (λ n. n < 2 ^ 16) (λ i n j. many_at r n j) (λ xs. length xs) (λ at. flat_map s) (λ xs. (length xs < 2 ^ 16) × AllByRecursion P xs) two_codec
    (λ i n lt. renamed (many_at r n) (λ at. flat_map s) (λ xs. AllByRecursion P xs × (length xs ≡ n)) (λ xs. ((length xs < 2 ^ 16) × AllByRecursion P xs) × (length xs ≡ n)) (many_flat r s P codec n)
    (λ xs q. ((subst (λ (k : ℕ). k < 2 ^ 16) (sym q.1) lt, q.0), q.1)) (λ xs q. (q.0.1, q.1)))
    (λ xs q. q.0)

by_takes : {S A : Type 0} (read : S → PartReader A) (spell : S → A → List ℕ) (next : S → A → S) (P : S → A → Type 0) → ((s : S) → IsCodecAt (read s) (λ at. spell s) (P s)) → (n : ℕ) (state : S) (input : Input) (xs : List A) (rest : Input) → IsBytes input.bytes
    → many_by read next state n input ≡ Ok (xs, rest) → Takes input (spelled_by spell next state xs) rest × (AllBy P next state xs × (length xs ≡ n))
unfolding many_by
by_takes {S} {A} r s next P codec zero state input xs rest bytes e =
    subst (λ (z : List A × Input). Takes input (spelled_by s next state z.0) z.1 × (AllBy P next state z.0 × (length z.0 ≡ 0))) (ok_is {F = ItemFault} ([], input) (xs, rest) e) (record { parts = refl; place = omega arith; rest_fits = bytes }, (tt, refl))
by_takes {S} {A} r s next P codec (suc n) state input xs rest bytes e =
    let a = bind_ok (r state input) (λ first. many_by r next (next state first.0) n first.1 >>= λ others. Ok (first.0 ∷ others.0, others.1)) (xs, rest) e in
    let b = bind_ok (many_by r next (next state a.0.0) n a.0.1) (λ others. Ok (a.0.0 ∷ others.0, others.1)) (xs, rest) a.2 in
    let t = (codec state).takes input a.0.0 a.0.1 bytes a.1 in
    let u = by_takes r s next P codec n (next state a.0.0) a.0.1 b.0.0 b.0.1 t.0.rest_fits b.1 in
    let both = Takes-then input (s state a.0.0) a.0.1 (spelled_by s next (next state a.0.0) b.0.0) b.0.1 t.0 u.0 in
    let m : List A × Input = (a.0.0 ∷ b.0.0, b.0.1) in
    subst (λ (z : List A × Input). Takes input (spelled_by s next state z.0) z.1 × (AllBy P next state z.0 × (length z.0 ≡ suc n))) (ok_is {F = ItemFault} m (xs, rest) b.2) (both, ((t.1, u.1.0), ap suc u.1.1))

by_again : {S A : Type 0} (read : S → PartReader A) (spell : S → A → List ℕ) (next : S → A → S) (P : S → A → Type 0) → ((s : S) → IsCodecAt (read s) (λ at. spell s) (P s)) → (state : S) (xs : List A) (at : ℕ) (rest : List ℕ) → AllBy P next state xs
    → many_by read next state (length xs) (input_at at (spelled_by spell next state xs ++ rest)) ≡ Ok (xs, input_at (at + length (spelled_by spell next state xs)) rest)
unfolding many_by
by_again {S} {A} r s next P codec state [] at rest q = let h : at ≡ at + 0 = omega arith in ap (λ (n : ℕ). done ([], input_at n rest)) h
by_again {S} {A} r s next P codec state (x ∷ xs) at rest q =
    let top = s state x in
    let back = spelled_by s next (next state x) xs in
    let place : at + length top + length back ≡ at + length (top ++ back) = omega (arith, length-append top back) in
    ap (λ (t : List ℕ). many_by r next state (suc (length xs)) (input_at at t)) (append_assoc top back rest)
    ∙ rw ((codec state).again x at (back ++ rest) q.0, by_again r s next P codec (next state x) xs (at + length top) rest q.1) (ap (λ (n : ℕ). done (x ∷ xs, input_at n rest)) place)

-- Values where each tells what has to be known to read the next one.
pub by_codec : {S A : Type 0} (read : S → PartReader A) (spell : S → A → List ℕ) (next : S → A → S) (P : S → A → Type 0) → ((s : S) → IsCodecAt (read s) (λ at. spell s) (P s)) → (state : S)
    → IsCodecAt (λ input. number w16 input >>= λ count. many_by read next state count.0 count.1) (λ at xs. u2 (length xs) ++ spelled_by spell next state xs) (λ xs. (length xs < 2 ^ 16) × AllBy P next state xs)
by_codec {S} {A} r s next P codec state =
    chain (number w16) (λ at. u2) (λ n. n < 2 ^ 16) (λ i n j. many_by r next state n j) (λ xs. length xs) (λ at. spelled_by s next state) (λ xs. (length xs < 2 ^ 16) × AllBy P next state xs) two_codec
    (λ i n lt. record {
      takes = λ input xs rest bytes e. let t = by_takes r s next P codec n state input xs rest bytes e in (t.0, ((subst (λ (k : ℕ). k < 2 ^ 16) (sym t.1.1) lt, t.1.0), t.1.1));
      again = λ xs at rest q. ap (λ (k : ℕ). many_by r next state k (input_at at (spelled_by s next state xs ++ rest))) (sym q.1) ∙ by_again r s next P codec state xs at rest q.0.1;
    })
    (λ xs q. q.0)

-- The same where the spelling doesn't need it.
pub spelled_alike : {S A : Type 0} (spell : A → List ℕ) (next : S → A → S) (state : S) (xs : List A) → spelled_by (λ s. spell) next state xs ≡ flat_map spell xs
spelled_alike spell next state [] = refl
spelled_alike spell next state (x ∷ xs) = ap (λ (z : List ℕ). spell x ++ z) (spelled_alike spell next (next state x) xs)
