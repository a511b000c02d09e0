use Rattle.std.proofs.Common.{◌≡◌, ◌≤◌, length, take}
use Rattle.std.specs.Prelude.{filter}
use Rattle.new_history.specs.Keys.{picked}
use Rattle.new_history.specs.Needed.{is_old}
use Rattle.new_history.proofs.firsts.count_old.Given as goal

abbrev pub invariant-loop-at : goal.invariant-loop-at
invariant-loop-at l = record {
  count : l.count ≡ length (filter is_old (picked l.firsts (take l.at l.needed)));
  few : l.count ≤ l.at;
}
