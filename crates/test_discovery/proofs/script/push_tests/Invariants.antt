use Rattle.std.proofs.Common.{◌≡◌, ◌++◌, take}
use Rattle.test_discovery.specs.Scripts.{tests_listed}
use Rattle.test_discovery.proofs.script.push_tests.Given as goal

abbrev pub invariant-loop-method : goal.invariant-loop-method
invariant-loop-method l = l.tests ≡ l.initial.tests ++ tests_listed l.class l.fixture (take l.method-index l.listed)
