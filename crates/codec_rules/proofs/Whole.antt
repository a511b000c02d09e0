-- Values until no byte is left are read as they are spelled.
use Rattle.std.proofs.Common.{◌≡◌, ℕ, zero, suc, ◌+◌, ◌<◌, ◌≤◌, Bool, true, false, cond, eqb, List, [], ◌∷◌, ◌++◌, length, Result, Ok, Err, refl, ap, subst, ◌∙◌, arith}
use Rattle.std.specs.List.{AllByRecursion}
use Rattle.std.proofs.lemmas.Bool.{eqb-true, ne_eqb}
use Rattle.std.proofs.lemmas.List.{length-append, nil_from_length}
use Rattle.codec_rules.specs.Input.{Input, IsBytes}
use Rattle.codec_rules.specs.Sequence.{◌>>=◌}
use Rattle.codec_rules.specs.Reading.{Reader, Shortens, whole_at}
use Rattle.codec_rules.specs.Spelling.{Speller, IsCodecAt, IsFilled, IsWhole, input_at, spelled_from}
use Rattle.codec_rules.proofs.Sequence.{bind_ok, ok_is}

not_zero : (n : ℕ) → 0 < n → eqb n 0 ≡ false
not_zero n lt = ne_eqb n 0 (λ e. omega (arith, e))

stops : {F A : Type 0} (test : Bool) (r : Result (List A) F) (xs : List A) → cond test (Ok []) r ≡ Ok xs → (test ≡ true → [] ≡ xs) × (test ≡ false → r ≡ Ok xs)
stops {F} true r xs e = (λ h. ok_is {F = F} [] xs e, λ h. absurd cc)
stops false r xs e = (λ h. absurd cc, λ h. e)

-- a turn, where the turns after it are known
turn : {F A : Type 0} (read : Reader F A) (spell : Speller A) (P : A → Type 0) → IsCodecAt read spell P → IsFilled spell P → (n : ℕ)
    → ((i : Input) (ys : List A) → length i.bytes ≤ n → IsBytes i.bytes → whole_at read n i ≡ Ok ys → IsWhole spell P i ys)
    → (input : Input) (xs : List A) → length input.bytes ≤ suc n → IsBytes input.bytes → whole_at read (suc n) input ≡ Ok xs → (test : Bool) → eqb (length input.bytes) 0 ≡ test → IsWhole spell P input xs
unfolding whole_at
turn r s P codec filled n later input xs le bytes e true test =
    let empty : input.bytes ≡ [] = nil_from_length input.bytes (eqb-true _ _ test) in
    subst (IsWhole s P input) ((stops (eqb (length input.bytes) 0) _ xs e).0 test) (empty, tt)
turn {F} {A} r s P codec filled n later input xs le bytes e false test =
    let f = (stops (eqb (length input.bytes) 0) _ xs e).1 test in
    let a = bind_ok (r input) (λ first. whole_at r n first.1 >>= λ others. Ok (first.0 ∷ others)) xs f in
    let b = bind_ok (whole_at r n a.0.1) (λ others. Ok (a.0.0 ∷ others)) xs a.2 in
    let t = codec.takes input a.0.0 a.0.1 bytes a.1 in
    let len : length input.bytes ≡ length (s input.at a.0.0) + length a.0.1.bytes = ap (λ (x : List ℕ). length x) t.0.parts ∙ length-append (s input.at a.0.0) a.0.1.bytes in
    let u = later a.0.1 b.0 (omega (arith, len, filled input.at a.0.0 t.1)) t.0.rest_fits b.1 in
    let tail : a.0.1.bytes ≡ spelled_from s (input.at + length (s input.at a.0.0)) b.0 = subst (λ (k : ℕ). a.0.1.bytes ≡ spelled_from s k b.0) t.0.place u.0 in
    subst (IsWhole s P input) (ok_is {F = F} (a.0.0 ∷ b.0) xs b.2) (t.0.parts ∙ ap (λ (x : List ℕ). s input.at a.0.0 ++ x) tail, (t.1, u.1))

-- What is read until no byte is left is spelled by all of the bytes.
pub whole_takes : {F A : Type 0} (read : Reader F A) (spell : Speller A) (P : A → Type 0) → IsCodecAt read spell P → IsFilled spell P → (turns : ℕ) (input : Input) (xs : List A) → length input.bytes ≤ turns → IsBytes input.bytes → whole_at read turns input ≡ Ok xs
    → IsWhole spell P input xs
unfolding whole_at
whole_takes {F} r s P codec filled zero input xs le bytes e =
    let empty : input.bytes ≡ [] = nil_from_length input.bytes (omega arith) in
    subst (IsWhole s P input) (ok_is {F = F} [] xs e) (empty, tt)
whole_takes r s P codec filled (suc n) input xs le bytes e = turn r s P codec filled n (whole_takes r s P codec filled n) input xs le bytes e _ refl

-- What is spelled by all of the bytes is read until none is left.
pub whole_again : {F A : Type 0} (read : Reader F A) (spell : Speller A) (P : A → Type 0) → IsCodecAt read spell P → IsFilled spell P → (turns : ℕ) (xs : List A) (at : ℕ) → length (spelled_from spell at xs) ≤ turns → AllByRecursion P xs
    → whole_at read turns (input_at at (spelled_from spell at xs)) ≡ Ok xs
unfolding whole_at
whole_again r s P codec filled zero [] at le q = refl
whole_again r s P codec filled (suc n) [] at le q = refl
whole_again r s P codec filled zero (x ∷ xs) at le q = absurd (omega (arith, length-append (s at x) (spelled_from s (at + length (s at x)) xs), filled at x q.0))
whole_again r s P codec filled (suc n) (x ∷ xs) at le q =
    let front = s at x in
    let back = spelled_from s (at + length front) xs in
    let len : length (front ++ back) ≡ length front + length back = length-append front back in
    let more : eqb (length (front ++ back)) 0 ≡ false = not_zero (length (front ++ back)) (omega (arith, len, filled at x q.0)) in
    rw (more, codec.again x at back q.0, whole_again r s P codec filled n xs (at + length front) (omega (arith, len, filled at x q.0, le)) q.1) refl

-- ---- as a loop reads them: it stops where no byte is left, and each turn leaves fewer bytes

-- a value that was read leaves fewer bytes
pub shorter : {F A : Type 0} (read : Reader F A) (spell : Speller A) (P : A → Type 0) → IsCodecAt read spell P → IsFilled spell P → (input : Input) (value : A) (rest : Input) → IsBytes input.bytes → read input ≡ Ok (value, rest) → length rest.bytes < length input.bytes
shorter r s P codec filled input value rest bytes e =
    let t = codec.takes input value rest bytes e in
    let len : length input.bytes ≡ length (s input.at value) + length rest.bytes = ap (λ (x : List ℕ). length x) t.0.parts ∙ length-append (s input.at value) rest.bytes in
    omega (arith, len, filled input.at value t.1)

pub codec_shortens : {F A : Type 0} (read : Reader F A) (spell : Speller A) (P : A → Type 0) → IsCodecAt read spell P → IsFilled spell P → Shortens read
codec_shortens read spell P codec filled = λ input value rest bytes e. (shorter read spell P codec filled input value rest bytes e, (codec.takes input value rest bytes e).0.rest_fits)

abbrev Same : {F A : Type 0} → Reader F A → ℕ → ℕ → Input → Type 0
Same read turns more input = whole_at read turns input ≡ whole_at read more input

-- a turn, where the turns after it are known
same_turn : {F A : Type 0} (read : Reader F A) → Shortens read → (n m : ℕ)
    → ((i : Input) → length i.bytes ≤ n → length i.bytes ≤ m → IsBytes i.bytes → Same read n m i)
    → (input : Input) → length input.bytes ≤ suc n → length input.bytes ≤ suc m → IsBytes input.bytes → (first : Result (A × Input) F) → read input ≡ first → Same read (suc n) (suc m) input
unfolding whole_at
same_turn {F} {A} r shortens n m later input le lm bytes (Ok x) e =
    let less = shortens input x.0 x.1 bytes e in
    rw (e, later x.1 (omega (arith, less.0)) (omega (arith, less.0)) less.1) refl
same_turn r shortens n m later input le lm bytes (Err fault) e = rw e refl

-- more turns than there are bytes change nothing
pub enough_turns : {F A : Type 0} (read : Reader F A) → Shortens read → (n m : ℕ) (input : Input) → length input.bytes ≤ n → length input.bytes ≤ m → IsBytes input.bytes → whole_at read n input ≡ whole_at read m input
unfolding whole_at
enough_turns r shortens zero zero input le lm bytes = refl
enough_turns r shortens zero (suc m) input le lm bytes = let none : length input.bytes ≡ 0 = omega arith in rw none refl
enough_turns r shortens (suc n) zero input le lm bytes = let none : length input.bytes ≡ 0 = omega arith in rw none refl
enough_turns r shortens (suc n) (suc m) input le lm bytes = same_turn r shortens n m (enough_turns r shortens n m) input le lm bytes (r input) refl

-- ---- by induction

-- a turn, where the turns after it are known
all_turn : {F A : Type 0} (read : Reader F A) (P : Input → List A → Type 0) → Shortens read → ((i : Input) → length i.bytes ≡ 0 → P i []) → ((i : Input) (x : A) (rest : Input) (xs : List A) → IsBytes i.bytes → read i ≡ Ok (x, rest) → P rest xs → P i (x ∷ xs))
    → (n : ℕ) → ((i : Input) (xs : List A) → length i.bytes ≤ n → IsBytes i.bytes → whole_at read n i ≡ Ok xs → P i xs)
    → (input : Input) (xs : List A) → length input.bytes ≤ suc n → IsBytes input.bytes → whole_at read (suc n) input ≡ Ok xs → (test : Bool) → eqb (length input.bytes) 0 ≡ test → P input xs
unfolding whole_at
all_turn r P shortens none more n later input xs le bytes e true test = subst (P input) ((stops (eqb (length input.bytes) 0) _ xs e).0 test) (none input (eqb-true _ _ test))
all_turn {F} {A} r P shortens none more n later input xs le bytes e false test =
    let f = (stops (eqb (length input.bytes) 0) _ xs e).1 test in
    let a = bind_ok (r input) (λ first. whole_at r n first.1 >>= λ others. Ok (first.0 ∷ others)) xs f in
    let b = bind_ok (whole_at r n a.0.1) (λ others. Ok (a.0.0 ∷ others)) xs a.2 in
    let less = shortens input a.0.0 a.0.1 bytes a.1 in
    let u = later a.0.1 b.0 (omega (arith, less.0, le)) less.1 b.1 in
    subst (P input) (ok_is {F = F} (a.0.0 ∷ b.0) xs b.2) (more input a.0.0 a.0.1 b.0 bytes a.1 u)

-- What holds of no values where no byte is left, and of one value more where it holds of those
-- behind it, holds of all that are read until no byte is left.
pub whole_all : {F A : Type 0} (read : Reader F A) (P : Input → List A → Type 0) → Shortens read → ((i : Input) → length i.bytes ≡ 0 → P i []) → ((i : Input) (x : A) (rest : Input) (xs : List A) → IsBytes i.bytes → read i ≡ Ok (x, rest) → P rest xs → P i (x ∷ xs))
    → (turns : ℕ) (input : Input) (xs : List A) → length input.bytes ≤ turns → IsBytes input.bytes → whole_at read turns input ≡ Ok xs → P input xs
unfolding whole_at
whole_all {F} r P shortens none more zero input xs le bytes e = subst (P input) (ok_is {F = F} [] xs e) (none input (omega arith))
whole_all r P shortens none more (suc n) input xs le bytes e = all_turn r P shortens none more n (whole_all r P shortens none more n) input xs le bytes e _ refl
