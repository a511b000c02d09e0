-- What the tool prints of names and mutants (this project's own).
use Rattle.std.specs.Prelude.{ℕ, List, ◌++◌, codes, decimal, encode_utf8_all}
use Rattle.std.specs.Char.Utf16.{utf16_lossy_chars}
use Rattle.std.specs.List.{flat_map}
use Rattle.class_model.specs.MutatorName.{mutator_name}
use Rattle.mutator_ops.specs.declared.mutant.Mutant.{Mutant}

-- a name in UTF-8; names have no lone surrogates
abbrev pub printed : List ℕ → List ℕ
printed name = encode_utf8_all (utf16_lossy_chars name)

-- CLASS.METHODDESC@AT:MUTATOR
abbrev pub id_text : Mutant → List ℕ
id_text m =
    printed m.class ++ codes "." ++ printed m.method ++ printed m.desc ++ codes "@" ++
    decimal m.at ++ codes ":" ++ mutator_name m.mutator

-- one identifier per line
abbrev pub id_lines : List Mutant → List ℕ
id_lines mutants = flat_map (λ m. id_text m ++ codes "\n") mutants
