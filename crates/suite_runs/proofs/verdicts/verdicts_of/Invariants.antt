use Rattle.std.proofs.Common.{◌≡◌, length}
use Rattle.suite_runs.specs.Judging.{verdicts_from}
use Rattle.suite_runs.proofs.verdicts.verdicts_of.Given as goal

abbrev pub invariant-loop-one : goal.invariant-loop-one
invariant-loop-one l = record {
  at : l.at ≡ length l.yielded;
  verdicts : l.verdicts ≡ verdicts_from l.viable l.covering 0 l.yielded;
}
