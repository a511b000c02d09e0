-- The texts of a constant pool by their indices (this project's own). No public clause cites these.
use Rattle.std.specs.Prelude.{◌≡◌, List, map, Option}
use Rattle.class_model.specs.declared.constant.Const.{Const}
use Rattle.class_model.specs.declared.kind.Kind as plain
use Rattle.class_model.specs.Pool.{text_in}
use Rattle.program_rules.specs.Names.{Name}
use Rattle.class_link.specs.Symbols.{kind_stated, type_stated}

-- At each place of a pool stands its text, if its entry is one.
abbrev pub AreTexts : List (Option Name) → List Const → Type 0
AreTexts texts pool = texts ≡ map text_in pool

-- What a text states as the descriptor of a field, and as that of a method.
abbrev pub States : Name → plain.Kind → List plain.Kind → Option plain.Kind → Type 0
States name kind args result =
    (kind ≡ kind_stated name) × (args ≡ (type_stated name).args) × (result ≡ (type_stated name).ret)
