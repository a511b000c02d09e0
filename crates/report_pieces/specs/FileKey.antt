-- The key of a class file in the report: the path of its source, as far as the class file states it
-- (this project's own).
use Rattle.std.specs.Prelude.{ℕ, List, [], ◌∷◌, ◌++◌, map, take, Option, None, Some, option_and_then, if◌then◌else◌, slice_get}
use Rattle.std.specs.Char.Utf16.{has_unpaired_surrogate}
use Rattle.std.specs.Option.{option_map_or}
use Rattle.class_model.specs.Pool.{text_of}
use Rattle.class_model.specs.declared.class.Class.{Class}
use Rattle.class_model.specs.declared.constant.Const.{Const}
use Rattle.class_model.specs.declared.attribute.Attr.{Attr, out-Attr}
use Rattle.class_model.specs.declared.attribute.Code.{Code}
use Rattle.class_model.specs.declared.attribute.Body.{Body, out-Body}
use Rattle.class_model.specs.declared.attribute.Body.TheOpen.{Body-F}
use Rattle.class_link.specs.Info.{Info, file_in}
use Rattle.class_table.specs.Table.{number_of}
use Rattle.class_table.specs.declared.scripted.Test.{Test}
use Rattle.mutator_ops.specs.Printing.{printed}
use Rattle.mutator_ops.specs.declared.mutant.Mutant.{Mutant}
use Rattle.report_schema.specs.FileKey.{package_len, file_key}

-- ---- the file that a class file states

-- the name that an attribute states, where it is SourceFile (JVMS 4.7.10)
abbrev pub stated_by : List Const → Body-F Body Attr Code → Option (List ℕ)
stated_by pool (Body-F.Source index) = text_of pool index
stated_by pool other = None

abbrev pub stated_at : List Const → Attr → Option (List ℕ)
stated_at pool attr = stated_by pool (out-Body (out-Attr attr).body)

abbrev pub or_else : Option (List ℕ) → Option (List ℕ) → Option (List ℕ)
or_else None rest = rest
or_else (Some name) rest = Some name

-- the first name that attributes state
abbrev pub stated_among : List Const → List Attr → Option (List ℕ)
stated_among pool [] = None
stated_among pool (attr ∷ attrs) = or_else (stated_at pool attr) (stated_among pool attrs)

abbrev pub stated_file : Class → Option (List ℕ)
stated_file c = stated_among c.pool c.attrs

-- it as a text; a name with a lone surrogate is none
abbrev pub stated_text : Option (List ℕ) → Option (List ℕ)
stated_text None = None
stated_text (Some name) = if has_unpaired_surrogate name then None else Some (printed name)

-- ---- the key

abbrev pub key_by : List ℕ → Option (List ℕ) → List ℕ
key_by name None = printed (file_key name)
key_by name (Some file) = printed (take (package_len name) name) ++ file

-- The package with `/` in UTF-8, and the stated file; without one the simple name of the outermost
-- class, and `.java`.
abbrev pub key_with : List ℕ → Option (List ℕ) → List ℕ
key_with name stated = key_by name (stated_text stated)

-- The key of the class of a name, among class files; empty where it has none.
abbrev pub key_of : (List ℕ → Option Class) → List ℕ → List ℕ
key_of files name = option_map_or (λ c. key_with name (stated_file c)) (files name) []

abbrev pub mutant_keys : (List ℕ → Option Class) → List Mutant → List (List ℕ)
mutant_keys files mutants = map (λ m. key_of files m.class) mutants

abbrev pub test_keys : (List ℕ → Option Class) → List Test → List (List ℕ)
test_keys files tests = map (λ t. key_of files t.class) tests

-- ---- of a program by its classes' numbers

-- the class files of a program
abbrev pub files_in : List Info → List ℕ → Option Class
files_in p name =
    option_and_then (λ id. option_and_then file_in (slice_get p id)) (number_of p name)

abbrev pub key_in : Info → List ℕ
key_in i = option_map_or (λ c. key_with i.name (stated_file c)) (file_in i) []

abbrev pub keys_in : List Info → List (List ℕ)
keys_in p = map key_in p

-- the key of the class of a number, empty where there is none
abbrev pub key_in_place : Option Info → List ℕ
key_in_place place = option_map_or key_in place []
