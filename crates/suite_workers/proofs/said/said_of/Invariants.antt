use Rattle.std.proofs.Common.{◌≡◌, ◌++◌, drop}
use Rattle.suite_workers.specs.Saying.{kept_all, told_all}
use Rattle.suite_workers.proofs.said.said_of.Given as goal

abbrev pub invariant-loop-tests : goal.invariant-loop-tests
invariant-loop-tests l = record {
  kept : l.records.items ++ kept_all l.all (drop l.tests-index l.covering) l.ends.items ≡ kept_all l.all l.covering l.initial.ends.items;
  told : l.detections.items ++ told_all l.all (drop l.tests-index l.covering) l.ends.items ≡ told_all l.all l.covering l.initial.ends.items;
}
