-- What an assembled file is: the class file of a class in the standard's form (this project's own).
use Rattle.std.specs.Prelude.{◌≡◌, ℕ, List, Ok}
use Rattle.class_model.specs.declared.class.Class.{Class}
use Rattle.class_reader.specs.Spells.{Spells}
use Rattle.class_asm.specs.Assembled.{AssembledClass, IsAssembled}

-- A text states a class in the standard's form, and the bytes spell it.
pub record IsSpelled (text bytes : List ℕ) : Type 0 where
  pub class : Class
  pub stated : AssembledClass text ≡ Ok class
  pub spelled : Spells bytes class

-- Whatever is assembled spells the class that the text states.
abbrev pub AssembledIsSpelled : Type 0
AssembledIsSpelled = (text bytes : List ℕ) → IsAssembled text bytes → IsSpelled text bytes
