use Rattle.std.proofs.Common.{◌≡◌, take}
use Rattle.vframes.specs.View.{words_of}
use Rattle.vframes.proofs.stack.words_of.Given as goal

abbrev pub invariant-loop-t : goal.invariant-loop-t
invariant-loop-t l = l.words ≡ words_of (take l.t-index l.types)
