-- Reading the tokens that are due, as a loop does.
use Rattle.std.proofs.Common.{◌≡◌, ℕ, suc, ◌-◌, ◌+◌, ◌≤◌, ◌<◌, List, [], ◌∷◌, ◌++◌, Result, Ok, Err, refl, sym, ap, ◌∙◌, append_assoc, arith}
use Rattle.std.proofs.lemmas.List.{append-nil}
use Rattle.class_model.specs.declared.constant.Const.{Const}
use Rattle.class_model.specs.declared.annotation.Token.{Token}
use Rattle.class_model.specs.declared.fault.ClassFault.TheVariants as class_fault
use Rattle.codec_rules.specs.Input.{Input}
use Rattle.codec_rules.specs.Sequence.{◌>>=◌}
use Rattle.codec_rules.specs.Reading.{with_front}
use Rattle.codec_rules.specs.Meets.{Fails}
use Rattle.mt_attrs.specs.Item.{want_of_memory}
use Rattle.mt_attrs.specs.Notes.{next_due, token_at, tokens_at}
use Rattle.mt_attrs.specs.declared.due.Due.{Due}
use Rattle.mt_attrs.specs.declared.fault.ItemFault.{ItemFault}
use Rattle.mt_attrs.specs.declared.fault.ItemFault.TheVariants as item_fault

abbrev Total : Type 0
Total = Result (List Token × Input) ItemFault

regroup : (front : List Token) (value : Token) (read : Total) → with_front front (read >>= λ x. Ok (value ∷ x.0, x.1)) ≡ with_front (front ++ value ∷ []) read
regroup front value (Ok x) = ap (λ values. Ok (values, x.1)) (simp append_assoc)
regroup front value (Err fault) = refl

-- nothing more is due
pub none_due : (pool : List Const) (front : List Token) (turns i : ℕ) (dues : List Due) (input : Input) (total : Total) → i < turns → dues ≡ [] → with_front front (tokens_at pool (turns - i) dues input) ≡ total → total ≡ Ok (front, input)
unfolding tokens_at
none_due pool front turns i dues input total lt none so_far =
    let k : turns - i ≡ suc (turns - (i + 1)) = omega arith in
    let one : with_front front (tokens_at pool (turns - i) dues input) ≡ Ok (front, input) = rw (k, none) (ap (λ values. Ok (values, input)) (append-nil front)) in
    sym so_far ∙ one

-- one more token was read
pub token_read : (pool : List Const) (front : List Token) (turns i : ℕ) (due : Due) (dues others after : List Due) (input : Input) (t : Token) (behind : Input) (total : Total) → i < turns → dues ≡ due ∷ others → after ≡ next_due due others t → token_at pool due input ≡ Ok (t, behind)
    → with_front front (tokens_at pool (turns - i) dues input) ≡ total → with_front (front ++ t ∷ []) (tokens_at pool (turns - (i + 1)) after behind) ≡ total
unfolding tokens_at
token_read pool front turns i due dues others after input t behind total lt some next h so_far =
    let k : turns - i ≡ suc (turns - (i + 1)) = omega arith in
    let one : with_front front (tokens_at pool (turns - i) dues input) ≡ with_front (front ++ t ∷ []) (tokens_at pool (turns - (i + 1)) (next_due due others t) behind) = rw (k, some, h) (regroup front t (tokens_at pool (turns - (i + 1)) (next_due due others t) behind)) in
    ap (λ (ds : List Due). with_front (front ++ t ∷ []) (tokens_at pool (turns - (i + 1)) ds behind)) next ∙ sym one ∙ so_far

-- the next token has a fault
pub token_fails : (pool : List Const) (front : List Token) (turns i : ℕ) (due : Due) (dues others : List Due) (input : Input) (fault : ItemFault) (total : Total) → i < turns → dues ≡ due ∷ others → Fails want_of_memory fault (token_at pool due input)
    → with_front front (tokens_at pool (turns - i) dues input) ≡ total → Fails want_of_memory fault total
unfolding tokens_at
token_fails pool front turns i due dues others input fault total lt some h so_far = λ known.
    let k : turns - i ≡ suc (turns - (i + 1)) = omega arith in
    let one : with_front front (tokens_at pool (turns - i) dues input) ≡ Err fault = rw (k, some, h known) refl in
    sym so_far ∙ one

-- no turn is left
pub no_turn : (pool : List Const) (front : List Token) (turns i : ℕ) (dues : List Due) (input : Input) (total : Total) → turns ≤ i → with_front front (tokens_at pool (turns - i) dues input) ≡ total → total ≡ Err (item_fault.Bad (class_fault.BadLength input.at))
unfolding tokens_at
no_turn pool front turns i dues input total le so_far =
    let k : turns - i ≡ 0 = omega arith in
    let one : with_front front (tokens_at pool (turns - i) dues input) ≡ Err (item_fault.Bad (class_fault.BadLength input.at)) = rw k refl in
    sym so_far ∙ one
