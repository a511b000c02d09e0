-- The lines of a code (this project's own): before each instruction its label, its line numbers and
-- its frames; behind the last one the label of the code's end, and the handlers.
use Rattle.std.specs.Prelude.{◌≡◌, ℕ, ◌+◌, ◌<◌, ◌≤◌, ◌^◌, ◌==◌, List, [], ◌∷◌, ◌++◌, length, map, filter}
use Rattle.std.specs.List.{AllByRecursion}
use Rattle.asm_words.specs.Labels.{labels_of}
use Rattle.asm_words.specs.declared.line.Line.{Line}
use Rattle.asm_words.specs.declared.stated.StatedCode.{StatedCode}
use Rattle.asm_words.specs.declared.stated.StatedInsn.{StatedInsn}
use Rattle.asm_laws.specs.HasText.{HasText}
use Rattle.asm_laws.specs.Insns.{insn_words}
use Rattle.asm_laws.specs.Lines.{number_line, handler_line, frame_line}
use Rattle.asm_laws.specs.LineStatement.{AreEndsLabelled}
use Rattle.asm_laws.specs.Statement.{AreLabelled}
use Rattle.asm_laws.specs.Words.{joined, label_word}

-- the lines from a number on
abbrev pub numbered : ℕ → List (List (List ℕ)) → List Line
numbered number [] = []
numbered number (words ∷ others) =
    record { number = number; text = joined words; words = words } ∷ numbered (number + 1) others

abbrev pub label_line : ℕ → List (List ℕ)
label_line n = label_word n ∷ []

-- what stands before an instruction beside its label
abbrev pub marks_at : StatedCode → ℕ → List (List (List ℕ))
marks_at code n =
    map (λ line. number_line line.1) (filter (λ line. line.0 == n) code.lines) ++
    map (λ frame. frame_line frame.shape) (filter (λ frame. frame.at == n) code.frames)

-- the lines of the instructions from a number on, and the handlers
abbrev pub lines_from : StatedCode → ℕ → List StatedInsn → List (List (List ℕ))
lines_from code n [] = label_line n ∷ map handler_line code.rows
lines_from code n (insn ∷ insns) =
    label_line n ∷ (marks_at code n ++ insn_words insn ∷ lines_from code (n + 1) insns)

abbrev pub code_text : StatedCode → List (List (List ℕ))
code_text code = lines_from code 0 code.insns

-- In the lines of a code whose instructions have texts each instruction has its label, and so has
-- the code's end.
abbrev pub CodesAreLabelled : Type 0
CodesAreLabelled =
    (code : StatedCode) (number : ℕ) → length code.insns < 2 ^ 32 →
    AllByRecursion (HasText (length code.insns)) code.insns
    → AreLabelled (length code.insns) (labels_of (numbered number (code_text code)))
    × AreEndsLabelled (length code.insns) (labels_of (numbered number (code_text code)))
