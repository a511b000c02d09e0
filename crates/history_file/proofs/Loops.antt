-- Reading values one after the other, where each tells what has to be known to read the next one,
-- as a loop does.
use Rattle.std.proofs.Common.{◌≡◌, ℕ, suc, ◌-◌, ◌+◌, ◌≤◌, ◌<◌, List, [], ◌∷◌, ◌++◌, Result, Ok, Err, refl, sym, ap, ◌∙◌, append_assoc, arith}
use Rattle.std.proofs.lemmas.List.{append-nil}
use Rattle.codec_rules.specs.Input.{Input}
use Rattle.codec_rules.specs.Sequence.{◌>>=◌}
use Rattle.codec_rules.specs.Reading.{Reader, with_front}
use Rattle.codec_rules.specs.Meets.{Fails}
use Rattle.history_rules.specs.Items.{many_by}

regroup : {F A : Type 0} (front : List A) (value : A) (read : Result (List A × Input) F) → with_front front (read >>= λ x. Ok (value ∷ x.0, x.1)) ≡ with_front (front ++ value ∷ []) read
regroup front value (Ok x) = ap (λ values. Ok (values, x.1)) (simp append_assoc)
regroup front value (Err fault) = refl

-- one more value was read
pub goes_by : {F S A : Type 0} (read : S → Reader F A) (next : S → A → S) (front : List A) (count i : ℕ) (state : S) (input : Input) (value : A) (after : Input) (total : Result (List A × Input) F) → i < count → read state input ≡ Ok (value, after)
    → with_front front (many_by read next state (count - i) input) ≡ total → with_front (front ++ value ∷ []) (many_by read next (next state value) (count - (i + 1)) after) ≡ total
unfolding many_by
goes_by read next front count i state input value after total lt h so_far =
    let k : count - i ≡ suc (count - (i + 1)) = omega arith in
    let one : with_front front (many_by read next state (count - i) input) ≡ with_front (front ++ value ∷ []) (many_by read next (next state value) (count - (i + 1)) after) = rw (k, h) (regroup front value (many_by read next (next state value) (count - (i + 1)) after)) in
    sym one ∙ so_far

-- the next value has a fault
pub ends_by : {F S A : Type 0} (memory fault : F) (read : S → Reader F A) (next : S → A → S) (front : List A) (count i : ℕ) (state : S) (input : Input) (total : Result (List A × Input) F) → i < count → Fails memory fault (read state input)
    → with_front front (many_by read next state (count - i) input) ≡ total → Fails memory fault total
unfolding many_by
ends_by memory fault read next front count i state input total lt h so_far = λ known.
    let k : count - i ≡ suc (count - (i + 1)) = omega arith in
    let one : with_front front (many_by read next state (count - i) input) ≡ Err fault = rw (k, h known) refl in
    sym so_far ∙ one

-- all values were read
pub is_done_by : {F S A : Type 0} (read : S → Reader F A) (next : S → A → S) (front : List A) (count i : ℕ) (state : S) (input : Input) (total : Result (List A × Input) F) → count ≤ i → with_front front (many_by read next state (count - i) input) ≡ total → total ≡ Ok (front, input)
unfolding many_by
is_done_by read next front count i state input total le so_far =
    let k : count - i ≡ 0 = omega arith in
    let one : with_front front (many_by read next state (count - i) input) ≡ Ok (front, input) = rw k (ap (λ values. Ok (values, input)) (append-nil front)) in
    sym so_far ∙ one
