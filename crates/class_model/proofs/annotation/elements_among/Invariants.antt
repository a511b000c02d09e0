use Rattle.std.proofs.Common.{◌≡◌, ◌++◌, ◌*◌, ◌≤◌, drop, None}
use Rattle.class_model.specs.OwnElements.{own_elements}
use Rattle.class_model.proofs.annotation.elements_among.Given as goal

abbrev pub invariant-loop-token : goal.invariant-loop-token
invariant-loop-token l = (l.own ++ own_elements l.name l.due (drop l.token-index l.tokens) ≡ own_elements None 0 l.tokens) × (l.due ≤ 131070 * l.token-index)
