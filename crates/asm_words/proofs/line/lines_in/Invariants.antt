use Rattle.std.proofs.Common.{◌≡◌, ◌++◌, drop}
use Rattle.asm_words.specs.Lines.{pieces}
use Rattle.asm_words.proofs.LineLaws.{joined}
use Rattle.asm_words.proofs.line.lines_in.Given as goal

abbrev pub invariant-loop-byte : goal.invariant-loop-byte
invariant-loop-byte l = l.lines ++ joined l.line (pieces 10 (drop l.byte-index l.text)) ≡ pieces 10 l.text
