use Rattle.std.proofs.Common.{◌≡◌, ◌++◌, drop}
use Rattle.std.specs.Prelude.{filter}
use Rattle.asm_words.specs.Lines.{pieces, words_of, is_some_word}
use Rattle.asm_words.proofs.LineLaws.{joined}
use Rattle.asm_words.proofs.line.words_of.Given as goal

abbrev pub invariant-loop-unit : goal.invariant-loop-unit
invariant-loop-unit l = l.words ++ filter is_some_word (joined l.word (pieces 32 (drop l.unit-index l.units))) ≡ words_of l.units
