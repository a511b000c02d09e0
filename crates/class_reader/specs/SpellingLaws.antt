-- Reading against spelling (this project's own).
use Rattle.std.specs.Prelude.{◌≡◌, ◌↔◌, ℕ, List, Ok}
use Rattle.class_model.specs.declared.class.Class.{Class}
use Rattle.codec_rules.specs.Input.{IsBytes}
use Rattle.class_reader.specs.Reading.{class_of_file}
use Rattle.class_reader.specs.Spells.{Spells}

-- A file is read as a class exactly where it spells that class.
abbrev pub ReadIsSpelled : Type 0
ReadIsSpelled =
    (bytes : List ℕ) (class : Class) → IsBytes bytes → (class_of_file bytes ≡ Ok class) ↔
    Spells bytes class

-- A file spells at most one class.
abbrev pub OneClass : Type 0
OneClass =
    (bytes : List ℕ) (one other : Class) → Spells bytes one → Spells bytes other → one ≡ other

-- A class has at most one spelling.
abbrev pub OneSpelling : Type 0
OneSpelling =
    (one other : List ℕ) (class : Class) → Spells one class → Spells other class → one ≡ other
