use Rattle.std.proofs.Common.{◌≡◌, ◌<◌, drop}
use Rattle.std.specs.Prelude.{IfSome}
use Rattle.asm_words.specs.Words.{last_from, last_place}
use Rattle.asm_words.proofs.word.last_place.Given as goal

abbrev pub invariant-loop-place : goal.invariant-loop-place
invariant-loop-place l = (last_from l.unit l.place l.last (drop l.place l.units) ≡ last_place l.unit l.units) × IfSome l.last (λ last. last < l.place)
