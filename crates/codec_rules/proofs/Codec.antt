-- How readers and spellings that undo each other are put together.
use Rattle.std.proofs.Common.{◌≡◌, ℕ, ◌+◌, Bool, true, false, cond, List, ◌++◌, length, Result, Ok, Err, refl, sym, ap, subst, ◌∙◌, append_assoc, arith}
use Rattle.std.proofs.lemmas.List.{length-append, nil_from_length}
use Rattle.codec_rules.specs.Input.{Input}
use Rattle.codec_rules.specs.Sequence.{◌>>=◌}
use Rattle.codec_rules.specs.Reading.{Reader}
use Rattle.codec_rules.specs.Spelling.{Speller, Takes, IsCodecAt, input_at}
use Rattle.codec_rules.proofs.Sequence.{bind_ok, guard_passed, ok_is, done}

-- bytes that were taken, and behind them others
pub Takes-then : (input : Input) (front : List ℕ) (middle : Input) (back : List ℕ) (rest : Input) → Takes input front middle → Takes middle back rest → Takes input (front ++ back) rest
Takes-then input front middle back rest first second = record {
  parts = first.parts ∙ ap (λ (bytes : List ℕ). front ++ bytes) second.parts ∙ sym (append_assoc front back rest.bytes);
  place = omega (arith, first.place, second.place, length-append front back);
  rest_fits = second.rest_fits;
}

-- A value, and behind it another, where the first one and its place tell how the second is read.
-- `front` is what of the whole was spelled first.
pub chain : {F A B : Type 0} (first : Reader F A) (spell_first : Speller A) (P : A → Type 0) (second : Input → A → Reader F B) (front : B → A) (spell_second : Speller B) (Q : B → Type 0)
    → IsCodecAt first spell_first P → ((input : Input) (value : A) → P value → IsCodecAt (second input value) spell_second (λ whole. Q whole × (front whole ≡ value))) → ((whole : B) → Q whole → P (front whole))
    → IsCodecAt (λ input. first input >>= λ x. second input x.0 x.1) (λ at whole. spell_first at (front whole) ++ spell_second (at + length (spell_first at (front whole))) whole) Q
chain {F} {A} {B} r sa P f g sb Q first second fits = record {
  takes = λ input y rest bytes e.
      let a = bind_ok (r input) (λ x. f input x.0 x.1) (y, rest) e in
      let t = first.takes input a.0.0 a.0.1 bytes a.1 in
      let u = (second input a.0.0 t.1).takes a.0.1 y rest t.0.rest_fits a.2 in
      let both : Takes input (sa input.at a.0.0 ++ sb (input.at + length (sa input.at a.0.0)) y) rest = subst (λ (n : ℕ). Takes input (sa input.at a.0.0 ++ sb n y) rest) t.0.place (Takes-then input (sa input.at a.0.0) a.0.1 (sb a.0.1.at y) rest t.0 u.0) in
      (subst (λ (z : A). Takes input (sa input.at z ++ sb (input.at + length (sa input.at z)) y) rest) (sym u.1.1) both, u.1.0);
  again = λ y at rest q.
      let front = sa at (g y) in
      let back = sb (at + length front) y in
      let one = first.again (g y) at (back ++ rest) (fits y q) in
      let start : Input = input_at at ((front ++ back) ++ rest) in
      let two = (second start (g y) (fits y q)).again y (at + length front) rest (q, refl) in
      let place : at + length front + length back ≡ at + length (front ++ back) = omega (arith, length-append front back) in
      ap (λ (t : List ℕ). r (input_at at t) >>= λ x. f start x.0 x.1) (append_assoc front back rest) ∙ ap (λ (z : Result (A × Input) F). z >>= λ x. f start x.0 x.1) one ∙ two ∙ ap (λ (n : ℕ). Ok (y, input_at n rest)) place;
}

-- A value that is made of what was read, as a constructor makes one; `part` takes it apart again.
pub made : {F A B : Type 0} (read : Reader F A) (spell : Speller A) (P : A → Type 0) (make : A → B) (part : B → A) (Q : B → Type 0)
    → IsCodecAt read spell P → ((a : A) → P a → Q (make a) × (part (make a) ≡ a)) → ((b : B) → Q b → P (part b) × (make (part b) ≡ b))
    → IsCodecAt (λ input. read input >>= λ x. Ok (make x.0, x.1)) (λ at b. spell at (part b)) Q
made {F} {A} {B} r s P f g Q codec there back = record {
  takes = λ input y rest bytes e.
      let a = bind_ok (r input) (λ x. Ok (f x.0, x.1)) (y, rest) e in
      let t = codec.takes input a.0.0 a.0.1 bytes a.1 in
      let m : B × Input = (f a.0.0, a.0.1) in
      subst (λ (z : B × Input). Takes input (s input.at (g z.0)) z.1 × Q z.0) (ok_is {F = F} m (y, rest) a.2)
      (subst (λ (z : A). Takes input (s input.at z) a.0.1) (sym (there a.0.0 t.1).1) t.0, (there a.0.0 t.1).0);
  again = λ y at rest q.
      ap (λ (z : Result (A × Input) F). z >>= λ x. Ok (f x.0, x.1)) (codec.again (g y) at rest (back y q).0)
      ∙ ap (λ (z : B). Ok (z, input_at (at + length (s at (g y))) rest)) (back y q).1;
}

-- A test of what was read.
pub tested : {F A : Type 0} (read : Reader F A) (spell : Speller A) (P : A → Type 0) (test : A → Bool) (fault : F) → IsCodecAt read spell P
    → IsCodecAt (λ input. read input >>= λ x. cond (test x.0) (Ok x) (Err fault)) spell (λ x. P x × (test x ≡ true))
tested {F} {A} r s P test fault codec = record {
  takes = λ input y rest bytes h.
      let a = bind_ok (r input) (λ x. cond (test x.0) (Ok x) (Err fault)) (y, rest) h in
      let g = guard_passed (test a.0.0) fault a.0 (y, rest) a.2 in
      let t = codec.takes input a.0.0 a.0.1 bytes a.1 in
      subst (λ (z : A × Input). Takes input (s input.at z.0) z.1 × (P z.0 × (test z.0 ≡ true))) g.1 (t.0, (t.1, g.0));
  again = λ y at rest q. rw (codec.again y at rest q.0, q.1) refl;
}

-- The same where the fault tells what was read.
pub tested_by : {F A : Type 0} (read : Reader F A) (spell : Speller A) (P : A → Type 0) (test : A → Bool) (fault : A → F) → IsCodecAt read spell P
    → IsCodecAt (λ input. read input >>= λ x. cond (test x.0) (Ok x) (Err (fault x.0))) spell (λ x. P x × (test x ≡ true))
tested_by {F} {A} r s P test fault codec = record {
  takes = λ input y rest bytes h.
      let a = bind_ok (r input) (λ x. cond (test x.0) (Ok x) (Err (fault x.0))) (y, rest) h in
      let g = guard_passed (test a.0.0) (fault a.0.0) a.0 (y, rest) a.2 in
      let t = codec.takes input a.0.0 a.0.1 bytes a.1 in
      subst (λ (z : A × Input). Takes input (s input.at z.0) z.1 × (P z.0 × (test z.0 ≡ true))) g.1 (t.0, (t.1, g.0));
  again = λ y at rest q. rw (codec.again y at rest q.0, q.1) refl;
}

-- A value that is made of what was read, where that passes a test.
pub made_tested : {F A B : Type 0} (read : Reader F A) (spell : Speller A) (P : A → Type 0) (test : A → Bool) (fault : A → F) (make : A → B) (part : B → A) (Q : B → Type 0)
    → IsCodecAt read spell P → ((a : A) → P a → test a ≡ true → Q (make a) × (part (make a) ≡ a)) → ((b : B) → Q b → P (part b) × (test (part b) ≡ true) × (make (part b) ≡ b))
    → IsCodecAt (λ input. read input >>= λ x. cond (test x.0) (Ok (make x.0, x.1)) (Err (fault x.0))) (λ at b. spell at (part b)) Q
made_tested {F} {A} {B} r s P test fault f g Q codec there back = record {
  takes = λ input y rest bytes e.
      let a = bind_ok (r input) (λ x. cond (test x.0) (Ok (f x.0, x.1)) (Err (fault x.0))) (y, rest) e in
      let m : B × Input = (f a.0.0, a.0.1) in
      let passed = guard_passed (test a.0.0) (fault a.0.0) m (y, rest) a.2 in
      let t = codec.takes input a.0.0 a.0.1 bytes a.1 in
      let known = there a.0.0 t.1 passed.0 in
      subst (λ (z : B × Input). Takes input (s input.at (g z.0)) z.1 × Q z.0) passed.1
      (subst (λ (z : A). Takes input (s input.at z) a.0.1) (sym known.1) t.0, known.0);
  again = λ y at rest q.
      let known = back y q in
      rw (codec.again (g y) at rest known.0, known.1) (ap (λ (z : B). done {F = F} {A = B × Input} (z, input_at (at + length (s at (g y))) rest)) known.2);
}

-- The same reader, said in another way.
pub reread : {F A : Type 0} (read other : Reader F A) (spell : Speller A) (P : A → Type 0) → ((input : Input) → other input ≡ read input) → IsCodecAt read spell P → IsCodecAt other spell P
reread read other spell P same codec = record {
  takes = λ input y rest bytes e. codec.takes input y rest bytes (sym (same input) ∙ e);
  again = λ y at rest q. same (input_at at (spell at y ++ rest)) ∙ codec.again y at rest q;
}

-- One of two ways, by a test of what is known before.
pub either : {F A : Type 0} (test : Bool) (left right : Reader F A) (spell : Speller A) (P : A → Type 0) → (test ≡ true → IsCodecAt left spell P) → (test ≡ false → IsCodecAt right spell P) → IsCodecAt (λ input. cond test (left input) (right input)) spell P
either true left right spell P is_left is_right = is_left refl
either false left right spell P is_left is_right = is_right refl

-- A fault, where nothing is spelled so: the end of a choice.
pub nothing : {F A : Type 0} (fault : F) (spell : Speller A) (P : A → Type 0) → ((x : A) → P x → ⊥) → IsCodecAt (λ input. Err fault) spell P
nothing fault spell P none = record { takes = λ input y rest bytes h. absurd cc; again = λ y at rest q. absurd (none y q) }

-- A value that takes no bytes.
pub given : {F A : Type 0} (value : A) (spell : Speller A) (P : A → Type 0) → P value → ((x : A) → P x → value ≡ x) → ((at : ℕ) → length (spell at value) ≡ 0) → IsCodecAt {F = F} (λ input. Ok (value, input)) spell P
given {F} {A} value spell P holds only empty = record {
  takes = λ input y rest bytes e.
      let m : A × Input = (value, input) in
      let none = nil_from_length (spell input.at value) (empty input.at) in
      subst (λ (z : A × Input). Takes input (spell input.at z.0) z.1 × P z.0) (ok_is {F = F} m (y, rest) e) (record { parts = rw none refl; place = omega (arith, empty input.at); rest_fits = bytes }, holds);
  again = λ y at rest q.
      let same = only y q in
      let none = nil_from_length (spell at value) (empty at) in
      subst (λ (z : A). done {F = F} {A = A × Input} (value, input_at at (spell at z ++ rest)) ≡ Ok (z, input_at (at + length (spell at z)) rest)) same (rw none (let place : at ≡ at + 0 = omega arith in ap (λ (n : ℕ). done {F = F} {A = A × Input} (value, input_at n rest)) place));
}

-- The same values, told apart by another fact.
pub renamed : {F A : Type 0} (read : Reader F A) (spell : Speller A) (P Q : A → Type 0) → IsCodecAt read spell P → ((x : A) → P x → Q x) → ((x : A) → Q x → P x) → IsCodecAt read spell Q
renamed read spell P Q codec there back = record {
  takes = λ input y rest bytes h. let k = codec.takes input y rest bytes h in (k.0, there y k.1);
  again = λ y at rest q. codec.again y at rest (back y q);
}

-- The same bytes, said by another spelling.
pub respelled : {F A : Type 0} (read : Reader F A) (spell other : Speller A) (P : A → Type 0) → IsCodecAt read spell P → ((x : A) → P x → (at : ℕ) → spell at x ≡ other at x) → IsCodecAt read other P
respelled r s t P codec same = record {
  takes = λ input y rest bytes h.
      let k = codec.takes input y rest bytes h in
      (subst (λ (z : List ℕ). Takes input z rest) (same y k.1 input.at) k.0, k.1);
  again = λ y at rest q. subst (λ (z : List ℕ). r (input_at at (z ++ rest)) ≡ Ok (y, input_at (at + length z) rest)) (same y q at) (codec.again y at rest q);
}

-- Bytes begin with the spelling of at most one value.
pub one_is_spelled : {F A : Type 0} (read : Reader F A) (spell : Speller A) (P : A → Type 0) → IsCodecAt read spell P → (at : ℕ) (x y : A) (behind_x behind_y : List ℕ) → P x → P y → spell at x ++ behind_x ≡ spell at y ++ behind_y → x ≡ y
one_is_spelled {F} {A} r s P codec at x y bx by px py e =
    let one = codec.again x at bx px in
    let two = codec.again y at by py in
    let same : done {F = F} {A = A × Input} (x, input_at (at + length (s at x)) bx) ≡ Ok (y, input_at (at + length (s at y)) by) = sym one ∙ ap (λ (bytes : List ℕ). r (input_at at bytes)) e ∙ two in
    ap (λ (z : A × Input). z.0) (ok_is {F = F} (x, input_at (at + length (s at x)) bx) (y, input_at (at + length (s at y)) by) same)
