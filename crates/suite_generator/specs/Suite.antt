-- The suite that is made: class files that are assembled from their texts (this project's own).
use Rattle.std.specs.Prelude.{◌≡◌, ℕ, suc, List, [], ◌∷◌, length}
use Rattle.class_asm.specs.Assembled.{IsAssembled}
use Rattle.suite_generator.specs.Texts.{class_text, test_text}
use Rattle.suite_generator.specs.declared.suite.Suite.{Suite}

-- The files are those of the texts from a number on.
abbrev pub AreAssembled : (ℕ → List ℕ) → ℕ → List (List ℕ) → Type 0
AreAssembled text number [] = Unit {0}
AreAssembled text number (file ∷ files) =
    IsAssembled (text number) file × AreAssembled text (suc number) files

-- so many files, the first of the text of number 0
abbrev pub AreFilesOf : (ℕ → List ℕ) → ℕ → List (List ℕ) → Type 0
AreFilesOf text count files = (length files ≡ count) × AreAssembled text 0 files

-- so many classes, each with its test
abbrev pub IsSuite : ℕ → Suite → Type 0
IsSuite count suite =
    AreFilesOf class_text count suite.classes.items × AreFilesOf test_text count suite.tests.items
