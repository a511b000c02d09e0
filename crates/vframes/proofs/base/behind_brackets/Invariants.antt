use Rattle.std.proofs.Common.{◌≡◌, ℕ, ◌+◌, length}
use Rattle.type_rules.specs.References.{dimensions, base_stated}
use Rattle.vframes.proofs.base.behind_brackets.Given as goal

abbrev pub invariant-loop-rest : goal.invariant-loop-rest
invariant-loop-rest l =
    (l.dimensions + dimensions l.rest ≡ dimensions l.fn.text)
    × (base_stated l.rest ≡ base_stated l.fn.text)
    × (l.dimensions + length l.rest ≡ length l.fn.text)

abbrev pub decreases-loop-rest : goal.decreases-loop-rest
decreases-loop-rest l = length l.rest
