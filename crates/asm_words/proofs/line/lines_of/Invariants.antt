use Rattle.std.proofs.Common.{◌≡◌, ◌+◌, ◌++◌, drop}
use Rattle.asm_words.specs.Lines.{lines_from}
use Rattle.asm_words.proofs.line.lines_of.Given as goal

abbrev pub invariant-loop-index : goal.invariant-loop-index
invariant-loop-index l = l.lines ++ lines_from (l.index + 1) (drop l.index l.pieces) ≡ lines_from 1 l.pieces
