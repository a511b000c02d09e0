use Rattle.std.proofs.Common.{◌≡◌, map, take}
use Rattle.class_model.specs.Pool.{text_in}
use Rattle.class_link.proofs.texts.texts_in.Given as goal

abbrev pub invariant-loop-constant : goal.invariant-loop-constant
invariant-loop-constant l = l.texts.items ≡ map text_in (take l.constant-index l.pool)
