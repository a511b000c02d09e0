use Rattle.std.proofs.Common.{◌≡◌, List, ℕ, map, take}
use Rattle.history_index.specs.Numbers.{number_at, number_in}
use Rattle.history_index.proofs.numbers.Numbers.of.Given as goal

abbrev pub invariant-loop-slice : goal.invariant-loop-slice
invariant-loop-slice l = record {
  before : l.before ≡ l.slice-index;
  numbers : (q : List ℕ) → number_at l.numbers q ≡ number_in (map (λ s. s.now) (take l.slice-index l.slices)) q;
}
