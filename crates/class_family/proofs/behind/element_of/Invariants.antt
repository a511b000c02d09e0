use Rattle.std.proofs.Common.{◌≡◌, length}
use Rattle.program_rules.specs.Names.{element_of}
use Rattle.class_family.proofs.behind.element_of.Given as goal

abbrev pub invariant-loop-rest : goal.invariant-loop-rest
invariant-loop-rest l = element_of l.rest ≡ element_of l.fn.name

abbrev pub decreases-loop-rest : goal.decreases-loop-rest
decreases-loop-rest l = length l.rest
