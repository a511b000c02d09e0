use Rattle.std.proofs.Common.{◌≡◌, length}
use Rattle.new_history.specs.Keys.{picked}
use Rattle.new_history.proofs.firsts.pick.Given as goal

abbrev pub invariant-loop-row : goal.invariant-loop-row
invariant-loop-row l = record {
  at : l.at ≡ length l.yielded;
  some : l.some ≡ picked l.firsts l.yielded;
}
