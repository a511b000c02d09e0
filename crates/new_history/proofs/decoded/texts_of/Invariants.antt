use Rattle.std.proofs.Common.{◌≡◌, map, take}
use Rattle.class_model.specs.Text.{text}
use Rattle.new_history.proofs.decoded.texts_of.Given as goal

abbrev pub invariant-loop-name : goal.invariant-loop-name
invariant-loop-name l = l.texts ≡ map text (map (λ s. s.now) (take l.name-index l.names))
