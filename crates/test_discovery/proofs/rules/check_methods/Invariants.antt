use Rattle.std.proofs.Common.{◌≡◌, drop}
use Rattle.test_discovery.specs.Rules.{first_fault, method_fault}
use Rattle.test_discovery.proofs.rules.check_methods.Given as goal

abbrev pub invariant-loop-method : goal.invariant-loop-method
invariant-loop-method l =
    first_fault (method_fault l.class l.makes) (drop l.method-index l.listed) ≡ first_fault (method_fault l.class l.makes) l.listed
