-- Which texts state a class (this project's own).
use Rattle.std.specs.Prelude.{◌≡◌, ◌<◌, ℕ, List, Ok}
use Rattle.class_model.specs.declared.class.Class.{Class}
use Rattle.class_asm.specs.Assembled.{AssembledClass}
use Rattle.suite_generator.specs.Texts.{class_text, test_text}

-- The text states a class that has a layout.
pub record StatesClass (text : List ℕ) : Type 0 where
  pub class : Class
  pub stated : AssembledClass text ≡ Ok class

-- So does each of a suite's texts.
abbrev pub TextsStateClasses : Type 0
TextsStateClasses =
    (number : ℕ) → number < 200 → StatesClass (class_text number) × StatesClass (test_text number)
