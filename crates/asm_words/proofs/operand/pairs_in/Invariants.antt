use Rattle.std.proofs.Common.{◌≡◌, ◌++◌, drop}
use Rattle.std.specs.Option.{option_map}
use Rattle.asm_words.specs.Operands.{pairs_in}
use Rattle.asm_words.proofs.operand.pairs_in.Given as goal

abbrev pub invariant-loop-word : goal.invariant-loop-word
invariant-loop-word l = option_map (λ later. l.pairs ++ later) (pairs_in l.labels (drop l.word-index l.words)) ≡ pairs_in l.labels l.words
