use Rattle.suite_workers.proofs.Walked.{SoFar}
use Rattle.suite_workers.proofs.said.said_of_one.Given as goal

abbrev pub invariant-loop-test : goal.invariant-loop-test
invariant-loop-test l = SoFar l.all l.tests l.initial.ends.items l.initial.records.items l.test-index l.unsettled l.ends.items l.said.items l.records.items
