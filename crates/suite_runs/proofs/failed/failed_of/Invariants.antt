use Rattle.std.proofs.Common.{◌≡◌, map, take}
use Rattle.suite_workers.specs.Said.{known_record}
use Rattle.suite_runs.specs.Failing.{failed_among}
use Rattle.suite_runs.proofs.failed.failed_of.Given as goal

abbrev pub invariant-loop-number : goal.invariant-loop-number
invariant-loop-number l = l.failed.items ≡ failed_among (map known_record (take l.number l.runs))
