-- What a jump asks of a fact.
use Rattle.std.specs.Prelude.{Bool, true, false}
use Rattle.machine_rules.specs.Steps.{negation}

-- The test that a jump makes which wants a fact to hold, or not to.
abbrev pub test_of : Bool → Bool → Bool
test_of true = λ b. b
test_of false = negation
