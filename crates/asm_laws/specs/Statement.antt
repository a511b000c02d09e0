-- The line of an instruction is read as that instruction (this project's own).
use Rattle.std.specs.Prelude.{◌≡◌, ℕ, ◌<◌, ◌^◌, Some}
use Rattle.asm_words.specs.Labels.{start_in}
use Rattle.asm_words.specs.Lines.{words_of}
use Rattle.asm_words.specs.declared.labels.Labels.{Labels}
use Rattle.asm_words.specs.Insns.{insn_by}
use Rattle.asm_words.specs.declared.stated.StatedInsn.{StatedInsn}
use Rattle.asm_laws.specs.HasText.{HasText}
use Rattle.asm_laws.specs.Insns.{insn_words}
use Rattle.asm_laws.specs.Words.{label, joined}

-- Each of so many instructions has its label.
abbrev pub AreLabelled : ℕ → Labels → Type 0
AreLabelled total labels = (n : ℕ) → n < total → start_in labels (label n) ≡ Some n

-- Of each instruction that has a text, the line that is printed has its words, and states it.
abbrev pub InsnsAreReadBack : Type 0
InsnsAreReadBack =
    (total : ℕ) (labels : Labels) (insn : StatedInsn) → total < 2 ^ 32 → AreLabelled total labels →
    HasText total insn
    → (words_of (joined (insn_words insn)) ≡ insn_words insn)
    × (insn_by labels (joined (insn_words insn)) (words_of (joined (insn_words insn))) ≡
    Some insn)
