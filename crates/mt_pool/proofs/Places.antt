-- Reading the places of a pool one after the other, as a loop does.
use Rattle.std.proofs.Common.{◌≡◌, ℕ, zero, suc, ◌-◌, ◌+◌, ◌≤◌, ◌<◌, Bool, eqb, List, [], ◌∷◌, ◌++◌, Result, Ok, Err, refl, sym, ap, ◌∙◌, append_assoc, arith}
use Rattle.std.proofs.lemmas.Bool.{ne_eqb}
use Rattle.std.proofs.lemmas.List.{append-nil}
use Rattle.class_model.specs.Pool.{is_wide}
use Rattle.class_model.specs.declared.constant.Const.{Const}
use Rattle.class_model.specs.declared.fault.ClassFault.{ClassFault}
use Rattle.codec_rules.specs.Input.{Input}
use Rattle.codec_rules.specs.Sequence.{◌>>=◌}
use Rattle.codec_rules.specs.Reading.{with_front}
use Rattle.codec_rules.specs.Meets.{Fails}
use Rattle.mt_pool.specs.Reading.{place_at, places_at}

abbrev Read : Type 0
Read = Result (List Const × Input) ClassFault

regroup : (front : List Const) (value : Const) (read : Read) → with_front front (read >>= λ x. Ok (value ∷ x.0, x.1)) ≡ with_front (front ++ value ∷ []) read
regroup front value (Ok x) = ap (λ (values : List Const). Ok (values, x.1)) (simp append_assoc)
regroup front value (Err fault) = refl

-- the last place is the one behind which none is left
last_one : (m : ℕ) → eqb (suc m) 1 ≡ eqb m 0
last_one zero = refl
last_one (suc m) = ne_eqb (suc (suc m)) 1 (λ e. omega (arith, e)) ∙ sym (ne_eqb (suc m) 0 (λ e. omega (arith, e)))

-- one more place was read
pub goes_on : (front : List Const) (count i : ℕ) (second : Bool) (input : Input) (value : Const) (after : Input) (total : Read) → i < count → place_at (eqb (count - i) 1) second input ≡ Ok (value, after)
    → with_front front (places_at (count - i) second input) ≡ total → with_front (front ++ value ∷ []) (places_at (count - (i + 1)) (is_wide value) after) ≡ total
unfolding places_at
goes_on front count i second input value after total lt h so_far =
    let m = count - (i + 1) in
    let k : count - i ≡ suc m = omega arith in
    let read : place_at (eqb m 0) second input ≡ Ok (value, after) = ap (λ (last : Bool). place_at last second input) (sym (ap (λ (n : ℕ). eqb n 1) k ∙ last_one m)) ∙ h in
    let one : with_front front (places_at (count - i) second input) ≡ with_front (front ++ value ∷ []) (places_at m (is_wide value) after) = rw (k, read) (regroup front value (places_at m (is_wide value) after)) in
    sym one ∙ so_far

-- the next place has a fault
pub ends : (want fault : ClassFault) (front : List Const) (count i : ℕ) (second : Bool) (input : Input) (total : Read) → i < count → Fails want fault (place_at (eqb (count - i) 1) second input)
    → with_front front (places_at (count - i) second input) ≡ total → Fails want fault total
unfolding places_at
ends want fault front count i second input total lt h so_far = λ known.
    let m = count - (i + 1) in
    let k : count - i ≡ suc m = omega arith in
    let read : place_at (eqb m 0) second input ≡ Err fault = ap (λ (last : Bool). place_at last second input) (sym (ap (λ (n : ℕ). eqb n 1) k ∙ last_one m)) ∙ h known in
    let one : with_front front (places_at (count - i) second input) ≡ Err fault = rw (k, read) refl in
    sym so_far ∙ one

-- all places were read
pub is_done : (front : List Const) (count i : ℕ) (second : Bool) (input : Input) (total : Read) → count ≤ i → with_front front (places_at (count - i) second input) ≡ total → total ≡ Ok (front, input)
unfolding places_at
is_done front count i second input total le so_far =
    let k : count - i ≡ 0 = omega arith in
    let one : with_front front (places_at (count - i) second input) ≡ Ok (front, input) = rw k (ap (λ (values : List Const). Ok (values, input)) (append-nil front)) in
    sym so_far ∙ one
