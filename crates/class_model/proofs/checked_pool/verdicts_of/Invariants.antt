use Rattle.std.proofs.Common.{◌≡◌, take}
use Rattle.class_model.specs.TextVerdicts.{verdicts_of}
use Rattle.class_model.proofs.checked_pool.verdicts_of.Given as goal

abbrev pub invariant-loop-entry : goal.invariant-loop-entry
invariant-loop-entry l = l.verdicts.items ≡ verdicts_of (take l.entry-index l.pool)
