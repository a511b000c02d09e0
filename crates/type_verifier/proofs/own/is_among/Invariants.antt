use Rattle.std.proofs.Common.{◌≡◌, length}
use Rattle.std.specs.List.{list_any}
use Rattle.program_rules.specs.Names.{same}
use Rattle.type_verifier.proofs.own.is_among.Given as goal

abbrev pub invariant-loop-left : goal.invariant-loop-left
invariant-loop-left l = list_any (λ n. same n l.name) l.left ≡ list_any (λ n. same n l.name) l.fn.names

abbrev pub decreases-loop-left : goal.decreases-loop-left
decreases-loop-left l = length l.left
