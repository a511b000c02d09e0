-- Counts that stand on a stack.
use Rattle.std.proofs.Common.{◌≡◌, ◌∙◌, sym, ap, arith, ℕ, zero, suc, ◌+◌, ◌-◌, ◌<◌, List, [], ◌∷◌, ◌++◌, reverse, length, drop}
use Rattle.std.specs.Prelude.{ℤ}
use Rattle.std.proofs.lemmas.List.{reverse-append}
use Rattle.program_rules.specs.declared.value.Value.{Value}
use Rattle.machine_rules.specs.Effects.{Effect, NoRow}
use Rattle.machine_rules.specs.Arrays.{on_counts}
use Rattle.jvm_state.specs.Tops.{TakesInt, NoInt}

pub counts_none : (k : ℕ) (zs : List ℤ) (stack : List Value) → 0 < k → NoInt stack → (go : List ℤ → List Value → Effect) → on_counts k zs stack go ≡ NoRow
counts_none zero zs stack some h go = absurd (omega (arith, some))
counts_none (suc n) zs stack some h go = h (λ z rest. on_counts n (z ∷ zs) rest go)

counts_next : (k : ℕ) (zs : List ℤ) (stack rest : List Value) (z : ℤ) → 0 < k → TakesInt stack z rest → (go : List ℤ → List Value → Effect) → on_counts k zs stack go ≡ on_counts (k - 1) (z ∷ zs) rest go
counts_next zero zs stack rest z some h go = absurd (omega (arith, some))
counts_next (suc n) zs stack rest z some h go =
    let at : suc n - 1 ≡ n = omega arith in
    h (λ z rest. on_counts n (z ∷ zs) rest go) ∙ ap (λ k. on_counts k (z ∷ zs) rest go) (sym at)

-- One count more was read, behind those above it.
pub counts_more : (count len : ℕ) (zs new : List ℤ) (stack : List Value) (z : ℤ) → len < count → new ≡ zs ++ z ∷ [] → length new ≡ len + 1 → TakesInt (drop len stack) z (drop (len + 1) stack) → (go : List ℤ → List Value → Effect) → on_counts (count - len) (reverse zs) (drop len stack) go ≡ on_counts (count - length new) (reverse new) (drop (length new) stack) go
counts_more count len zs new stack z lt e all h go =
    let some : 0 < count - len = omega (arith, lt) in
    let fewer : (count - len) - 1 ≡ count - (len + 1) = omega arith in
    let back : z ∷ reverse zs ≡ reverse new = sym (ap reverse e ∙ reverse-append zs (z ∷ [])) in
    counts_next (count - len) (reverse zs) (drop len stack) (drop (len + 1) stack) z some h go
    ∙ ap (λ k. on_counts k (z ∷ reverse zs) (drop (len + 1) stack) go) fewer
    ∙ ap (λ t. on_counts (count - (len + 1)) t (drop (len + 1) stack) go) back
    ∙ ap (λ k. on_counts (count - k) (reverse new) (drop k stack) go) (sym all)
