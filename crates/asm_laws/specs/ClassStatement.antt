-- The text of a class states that class (this project's own).
use Rattle.std.specs.Prelude.{◌≡◌, ℕ, List, length, None, Ok}
use Rattle.asm_words.specs.Lines.{pieces, lines_from}
use Rattle.class_asm.specs.Classes.{stated_by}
use Rattle.class_asm.specs.declared.class.End.{End}
use Rattle.asm_words.specs.declared.stated.StatedClass.{StatedClass}
use Rattle.class_asm.specs.Assembled.{AssembledClass, within_limits, no_entries}
use Rattle.class_asm.specs.ClassFile.{class_of}
use Rattle.asm_laws.specs.CodeText.{numbered}
use Rattle.asm_laws.specs.ClassText.{class_text}
use Rattle.asm_laws.specs.ClassHasText.{ClassHasText}

-- the line that ends a class's text, behind which nothing stands
abbrev pub end_of : StatedClass → End
end_of class = record { line = length (class_text class); behind = None }

-- The lines of a class's text state that class, and nothing else.
abbrev pub ClassesAreReadBack : Type 0
ClassesAreReadBack =
    (class : StatedClass) (last : ℕ) → ClassHasText class →
    stated_by last (numbered 1 (class_text class)) ≡ Ok (class, end_of class)

-- A text of these lines is assembled to that class, or passes a limit of class files.
abbrev pub TextsAreReadBack : Type 0
TextsAreReadBack =
    (class : StatedClass) (text : List ℕ) → ClassHasText class →
    lines_from 1 (pieces 10 text) ≡ numbered 1 (class_text class)
    → AssembledClass text ≡ within_limits (class_of class no_entries) (end_of class)
