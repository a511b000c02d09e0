use Rattle.std.proofs.Common.{◌≡◌, length}
use Rattle.program_rules.specs.Names.{same}
use Rattle.test_discovery.proofs.annotations.is_text.Given as goal

abbrev pub invariant-loop-units : goal.invariant-loop-units
invariant-loop-units l = same l.units l.bytes ≡ same l.fn.name l.fn.text

abbrev pub decreases-loop-units : goal.decreases-loop-units
decreases-loop-units l = length l.units
