use Rattle.std.proofs.Common.{◌≡◌, ◌++◌, drop}
use Rattle.std.specs.Option.{option_map}
use Rattle.asm_words.specs.Operands.{starts_in}
use Rattle.asm_words.proofs.operand.starts_in.Given as goal

abbrev pub invariant-loop-word : goal.invariant-loop-word
invariant-loop-word l = option_map (λ later. l.starts ++ later) (starts_in l.labels (drop l.word-index l.words)) ≡ starts_in l.labels l.words
