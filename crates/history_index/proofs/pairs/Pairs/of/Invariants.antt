use Rattle.std.proofs.Common.{◌≤◌, length, take}
use Rattle.std.specs.Prelude.{All}
use Rattle.history_index.specs.Numbers.{ArePairs, HasPair, pairs_in}
use Rattle.history_index.proofs.pairs.Pairs.of.Given as goal

abbrev pub invariant-loop-row : goal.invariant-loop-row
invariant-loop-row l = record {
  known : ArePairs l.pairs;
  few : length (pairs_in l.pairs) ≤ l.row-index;
  has : All (HasPair (pairs_in l.pairs)) (take l.row-index l.rows);
}
