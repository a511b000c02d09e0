use Rattle.std.proofs.Common.{◌≡◌, map, take}
use Rattle.new_history.specs.Naming.{names_of}
use Rattle.new_history.proofs.decoded.names_of.Given as goal

abbrev pub invariant-loop-text : goal.invariant-loop-text
invariant-loop-text l = l.names ≡ names_of (map (λ s. s.now) (take l.text-index l.texts))
