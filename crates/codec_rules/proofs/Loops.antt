-- Reading values one after the other, as a loop does: what its answers cite. The loop keeps that
-- what it has read, in front of what it is still to read, is the whole.
use Rattle.std.proofs.Common.{◌≡◌, ℕ, suc, ◌-◌, ◌+◌, ◌≤◌, ◌<◌, false, eqb, List, [], ◌∷◌, ◌++◌, length, Result, Ok, Err, refl, sym, ap, ◌∙◌, append_assoc, arith}
use Rattle.std.proofs.lemmas.List.{append-nil}
use Rattle.codec_rules.specs.Input.{Input, IsBytes}
use Rattle.codec_rules.specs.Sequence.{◌>>=◌}
use Rattle.codec_rules.specs.Reading.{Reader, Shortens, many_at, whole_at, until_end, with_front, with_values}
use Rattle.codec_rules.specs.Meets.{Fails}
use Rattle.codec_rules.specs.Spelling.{Speller, IsCodecAt, IsFilled}
use Rattle.codec_rules.proofs.Sequence.{done}
use Rattle.codec_rules.proofs.Whole.{codec_shortens, enough_turns}
use Rattle.std.proofs.lemmas.Bool.{ne_eqb}

regroup : {F A : Type 0} (front : List A) (value : A) (read : Result (List A × Input) F) → with_front front (read >>= λ x. Ok (value ∷ x.0, x.1)) ≡ with_front (front ++ value ∷ []) read
regroup front value (Ok x) = ap (λ values. Ok (values, x.1)) (simp append_assoc)
regroup front value (Err fault) = refl

-- one more value was read
pub goes_on : {F A : Type 0} (read : Reader F A) (front : List A) (count i : ℕ) (input : Input) (value : A) (after : Input) (total : Result (List A × Input) F) → i < count → read input ≡ Ok (value, after)
    → with_front front (many_at read (count - i) input) ≡ total → with_front (front ++ value ∷ []) (many_at read (count - (i + 1)) after) ≡ total
unfolding many_at
goes_on read front count i input value after total lt h so_far =
    let k : count - i ≡ suc (count - (i + 1)) = omega arith in
    let one : with_front front (many_at read (count - i) input) ≡ with_front (front ++ value ∷ []) (many_at read (count - (i + 1)) after) = rw (k, h) (regroup front value (many_at read (count - (i + 1)) after)) in
    sym one ∙ so_far

-- the next value has a fault
pub ends : {F A : Type 0} (memory fault : F) (read : Reader F A) (front : List A) (count i : ℕ) (input : Input) (total : Result (List A × Input) F) → i < count → Fails memory fault (read input)
    → with_front front (many_at read (count - i) input) ≡ total → Fails memory fault total
unfolding many_at
ends memory fault read front count i input total lt h so_far = λ known.
    let k : count - i ≡ suc (count - (i + 1)) = omega arith in
    let one : with_front front (many_at read (count - i) input) ≡ Err fault = rw (k, h known) refl in
    sym so_far ∙ one

-- all values were read
pub is_done : {F A : Type 0} (read : Reader F A) (front : List A) (count i : ℕ) (input : Input) (total : Result (List A × Input) F) → count ≤ i → with_front front (many_at read (count - i) input) ≡ total → total ≡ Ok (front, input)
unfolding many_at
is_done read front count i input total le so_far =
    let k : count - i ≡ 0 = omega arith in
    let one : with_front front (many_at read (count - i) input) ≡ Ok (front, input) = rw k (ap (λ values. Ok (values, input)) (append-nil front)) in
    sym so_far ∙ one

-- ---- until no byte is left

regroup_values : {F A : Type 0} (front : List A) (value : A) (read : Result (List A) F) → with_values front (read >>= λ values. Ok (value ∷ values)) ≡ with_values (front ++ value ∷ []) read
regroup_values {F} front value (Ok values) = ap (λ all. done {F = F} all) (simp append_assoc)
regroup_values front value (Err fault) = refl

-- where bytes are left there is a turn
pub whole_turn : {F A : Type 0} (read : Reader F A) (n : ℕ) (input : Input) → length input.bytes ≡ suc n → until_end read input ≡ (read input >>= λ first. whole_at read n first.1 >>= λ others. Ok (first.0 ∷ others))
unfolding whole_at
whole_turn read n input some =
    let more : eqb (length input.bytes) 0 ≡ false = ne_eqb (length input.bytes) 0 (λ e. omega (arith, e, some)) in
    ap (λ (turns : ℕ). whole_at read turns input) some ∙ rw more refl

-- one more value was read
pub until_goes_on : {F A : Type 0} (read : Reader F A) → Shortens read → (front : List A) (input : Input) (value : A) (after : Input) (total : Result (List A) F) → 0 < length input.bytes → IsBytes input.bytes → read input ≡ Ok (value, after)
    → with_values front (until_end read input) ≡ total → with_values (front ++ value ∷ []) (until_end read after) ≡ total
unfolding whole_at
until_goes_on {F} {A} read shortens front input value after total some bytes h so_far =
    let n = length input.bytes - 1 in
    let k : length input.bytes ≡ suc n = omega arith in
    let less = shortens input value after bytes h in
    let same : whole_at read n after ≡ until_end read after = enough_turns read shortens n (length after.bytes) after (omega (arith, less.0)) (omega arith) less.1 in
    let turn : until_end read input ≡ (whole_at read n after >>= λ values. Ok (value ∷ values)) = whole_turn read n input k ∙ rw h refl in
    let one : with_values front (until_end read input) ≡ with_values (front ++ value ∷ []) (until_end read after) = rw (turn, same) (regroup_values front value (until_end read after)) in
    sym one ∙ so_far

-- the same of a codec
pub whole_goes_on : {F A : Type 0} (read : Reader F A) (spell : Speller A) (P : A → Type 0) → IsCodecAt read spell P → IsFilled spell P → (front : List A) (input : Input) (value : A) (after : Input) (total : Result (List A) F) → 0 < length input.bytes → IsBytes input.bytes → read input ≡ Ok (value, after)
    → with_values front (until_end read input) ≡ total → with_values (front ++ value ∷ []) (until_end read after) ≡ total
whole_goes_on read spell P codec filled = until_goes_on read (codec_shortens read spell P codec filled)

-- the next value has a fault
pub whole_ends : {F A : Type 0} (memory fault : F) (read : Reader F A) (front : List A) (input : Input) (total : Result (List A) F) → 0 < length input.bytes → Fails memory fault (read input) → with_values front (until_end read input) ≡ total → Fails memory fault total
unfolding whole_at
whole_ends memory fault read front input total some h so_far = λ known.
    let n = length input.bytes - 1 in
    let k : length input.bytes ≡ suc n = omega arith in
    let one : with_values front (until_end read input) ≡ Err fault = rw (whole_turn read n input k, h known) refl in
    sym so_far ∙ one

-- no byte is left
pub whole_is_done : {F A : Type 0} (read : Reader F A) (front : List A) (input : Input) (total : Result (List A) F) → length input.bytes ≡ 0 → with_values front (until_end read input) ≡ total → total ≡ Ok front
unfolding whole_at
whole_is_done {F} read front input total none so_far =
    let one : with_values front (until_end read input) ≡ Ok front = rw none (ap (λ values. done {F = F} values) (append-nil front)) in
    sym so_far ∙ one
