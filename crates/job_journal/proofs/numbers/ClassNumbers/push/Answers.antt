use Rattle.std.proofs.Common.{◌≡◌, ◌∙◌, ◌+◌, ◌-◌, ◌<◌, ◌^◌, ◌++◌, ◌∷◌, [], ℕ, suc, List, length, is_some, sym, ap, subst, arith}
use Rattle.job_journal.specs.Numbers.{AreNumbers, kept_at}
use Rattle.job_journal.proofs.Numbered.{numbers_again, numbers_set}
use Rattle.job_journal.proofs.numbers.ClassNumbers.push.Goals as goal

pub invariant_of-self-then-contains_key : goal.invariant_of-self-then-contains_key
invariant_of-self-then-contains_key c =
    let xs = c.self.inside.classes.items in
    let m = c.self.inside.numbers in
    let t = c.if-len.false in
    let l = c.len.ensures in
    let lt : length xs < 2 ^ 32 - 1 = omega (arith, t, l) in
    let some = ap (λ (q : List ℕ). is_some (kept_at m q)) (sym c.as_slice.ensures) ∙ sym c.contains_key.ensures ∙ c.if-contains_key.true in
    let items = c.push_reserved.ensures.items ∙ ap (λ (ys : List (List ℕ)). ys ++ c.args.class ∷ []) c.in_ok-reserve.ensures.items in
    subst (λ (ys : List (List ℕ)). AreNumbers ys m) (sym items) (numbers_again xs m c.args.class c.self.invariant some lt)

pub invariant_of-self-2 : goal.invariant_of-self-2
invariant_of-self-2 c =
    let xs = c.self.inside.classes.items in
    let m = c.self.inside.numbers in
    let t = c.if-len.false in
    let l = c.len.ensures in
    let lt : length xs < 2 ^ 32 - 1 = omega (arith, t, l) in
    let none = ap (λ (q : List ℕ). is_some (kept_at m q)) (sym c.as_slice.ensures) ∙ sym c.contains_key.ensures ∙ c.if-contains_key.false in
    let items = c.push_reserved-2.ensures.items ∙ ap (λ (ys : List (List ℕ)). ys ++ c.args.class ∷ []) c.in_ok-reserve.ensures.items in
    let l2 = c.len-2.ensures in
    let r = ap length c.in_ok-reserve.ensures.items in
    let count : c.len-2.result + 1 ≡ suc (length xs) = omega (arith, l2, r) in
    let is = c.into_vec-key.ensures ∙ c.in_ok-copy.ensures ∙ c.as_slice-2.ensures in
    subst (λ (ys : List (List ℕ)). AreNumbers ys c.insert.new.self) (sym items) (numbers_set xs m c.insert.new.self c.args.class c.into_vec-key.result (c.len-2.result + 1) c.self.invariant none is count lt c.in_ok-insert.ensures.updates)
