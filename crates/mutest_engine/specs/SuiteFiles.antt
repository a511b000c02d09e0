-- What the command `run` reads: the class files of two folders, in the order in which refusals come
-- (this project's own).
use Rattle.std.specs.Prelude.{ℕ, ◌+◌, List, [], ◌∷◌, Bool, nat_lt, ◌==◌, if◌then◌else◌, length, filter, sum_by, codes, map, string_bytes, All, Option, IfSome, Result, Ok, Err}
use Rattle.std.specs.Global.{Vec, Global}
use Rattle.std.specs.declared.string.String.{String}
use Rattle.class_model.specs.declared.class.Class.{Class}
use Rattle.class_reader.specs.Spells.{IsClass, Spells}
use Rattle.class_writer.specs.Writing.{HasClassForm}
use Rattle.class_link.specs.declared.loaded.Loaded.{Loaded}
use Rattle.mt_edge.specs.Files.{Files, listed}
use Rattle.mutest_words.specs.Words.{ends_in}
use Rattle.mutest_engine.specs.Answers.{file_of, spelled_class}
use Rattle.mutest_engine.specs.Steps.{and_then, Reads, ReadsBy}
use Rattle.mutest_engine.specs.declared.stop.Halt.{Halt}
use Rattle.mutest_engine.specs.declared.suite.ClassFile.{ClassFile}
use Rattle.mutest_engine.specs.declared.suite.LoadedSuite.{LoadedSuite}
use Rattle.mutest_engine.specs.declared.refusal.Refusal.{Refusal}
use Rattle.mutest_engine.specs.declared.refusal.Refusal.TheVariants.{NotFound, TooMany}
use Rattle.mutest_engine.specs.declared.refusal.Limit.TheVariants as limit

-- ---- paths

-- paths below a folder, of which there have to be some
abbrev pub some_of : List ℕ → List (List ℕ) → Result (List (List ℕ)) Refusal
some_of folder paths = if length paths == 0 then Err (NotFound folder) else Ok paths

abbrev pub some_listed : List ℕ → Files → Result (List (List ℕ)) Refusal
some_listed folder files = some_of folder (listed folder files)

abbrev pub is_class_path : List ℕ → Bool
is_class_path path = ends_in path (codes ".class")

abbrev pub class_paths : List (List ℕ) → List (List ℕ)
class_paths paths = filter is_class_path paths

-- More than 20,000 class files are refused.
abbrev pub refuse_many_classes : ℕ → Result (Unit {0}) Refusal
refuse_many_classes count = if nat_lt 20000 count then Err (TooMany limit.Classes 20001) else Ok tt

-- the class files among the paths of both folders
abbrev pub both_of : List (List ℕ) → List (List ℕ) → Result (List (List ℕ) × List (List ℕ)) Refusal
both_of classes tests =
    and_then
    (refuse_many_classes (length (class_paths classes) + length (class_paths tests)))
    (λ few. Ok (class_paths classes, class_paths tests))

-- the class files of both folders, each folder's in the order of their paths
abbrev pub both_listed : List ℕ → List ℕ → Files → Result (List (List ℕ) × List (List ℕ)) Refusal
both_listed classes_folder tests_folder files =
    and_then (some_listed classes_folder files) (λ classes.
    and_then (some_listed tests_folder files) (both_of classes))

-- the paths that the code has
abbrev pub texts : Vec (String Global) → List (List ℕ)
texts paths = map string_bytes paths.items

abbrev pub Lists : List ℕ → Result (Vec (String Global)) Halt → Files → Type 0
Lists folder result files = ReadsBy texts (some_listed folder files) result

abbrev pub Found : Type 0
Found = Vec (String Global) × Vec (String Global)

abbrev pub both_texts : Found → List (List ℕ) × List (List ℕ)
both_texts paths = (texts paths.0, texts paths.1)

abbrev pub ListsBoth : Option Files → List ℕ → List ℕ → Result Found Halt → Type 0
ListsBoth held classes tests result =
    IfSome held (λ files.
    ReadsBy both_texts (both_listed classes tests files) result)

-- ---- files

-- All class files together have at most 67,108,864 bytes.
abbrev pub within_sum : ℕ → Result ℕ Refusal
within_sum sum = if nat_lt 67108864 sum then Err (TooMany limit.Bytes sum) else Ok sum

abbrev pub file_at : List ℕ → List ℕ → ClassFile
file_at path bytes = record { path = path; bytes = bytes }

-- One more file, where so many bytes were read before. The file's own length is tested first.
abbrev pub read_one : ℕ → List ℕ → Files → Result ClassFile Refusal
read_one sum path files =
    and_then (file_of path files) (λ bytes.
    and_then (within_sum (sum + length bytes)) (λ total. Ok (file_at path bytes)))

-- Files one after the other, where so many bytes were read before.
abbrev pub read_from : ℕ → List (List ℕ) → Files → Result (List ClassFile) Refusal
read_from sum [] files = Ok []
read_from sum (path ∷ paths) files =
    and_then (read_one sum path files) (λ file.
    and_then (read_from (sum + length file.bytes) paths files) (λ others. Ok (file ∷ others)))

-- The code reads the files that a tree tells.
abbrev pub FilesHeld : Option Files → ℕ → List (List ℕ) → Result (List ClassFile) Halt → Type 0
FilesHeld held sum paths result = IfSome held (λ files. Reads (read_from sum paths files) result)

abbrev pub bytes_in : List ClassFile → ℕ
bytes_in files = sum_by (λ file. length file.bytes) files

-- ---- classes

abbrev pub loaded : ClassFile → Result Loaded Refusal
loaded file =
    and_then (spelled_class file.path file.bytes) (λ class.
    Ok (record { bytes = file.bytes; class = class }))

abbrev pub all_loaded : List ClassFile → Result (List Loaded) Refusal
all_loaded [] = Ok []
all_loaded (file ∷ files) =
    and_then (loaded file) (λ first. and_then (all_loaded files) (λ others. Ok (first ∷ others)))

-- The classes of both folders. All files are read before the first is looked into.
abbrev pub both_loaded : List ClassFile → List ClassFile → Result LoadedSuite Refusal
both_loaded classes tests =
    and_then (all_loaded classes) (λ one.
    and_then (all_loaded tests) (λ other. Ok (record { classes = one; tests = other })))

abbrev pub both_read : List (List ℕ) → List (List ℕ) → Files → Result LoadedSuite Refusal
both_read classes tests files =
    and_then (read_from 0 classes files) (λ one.
    and_then (read_from (bytes_in one) tests files) (λ other. both_loaded one other))

abbrev pub suite_of : List ℕ → List ℕ → Files → Result LoadedSuite Refusal
suite_of classes_folder tests_folder files =
    and_then (both_listed classes_folder tests_folder files) (λ paths.
    both_read paths.0 paths.1 files)

-- The code reads the suite at these paths.
abbrev pub ReadsBoth :
    Option Files → List (String Global) → List (String Global) → Result LoadedSuite Halt → Type 0
ReadsBoth held classes tests result =
    IfSome held (λ files.
    Reads (both_read (map string_bytes classes) (map string_bytes tests) files) result)

-- The code loads the suite of the files that a tree tells.
abbrev pub LoadsHeld : Option Files → List ℕ → List ℕ → Result LoadedSuite Halt → Type 0
LoadsHeld held classes tests result =
    IfSome held (λ files. Reads (suite_of classes tests files) result)

-- What every class that is read is: one that has a spelling, and the form of what is written.
pub record IsSpelled (class : Class) : Type 0 where
  pub spelled : IsClass class
  pub form : HasClassForm class

-- Its bytes spell it.
pub record IsRead (l : Loaded) : Type 0 where
  pub text : Spells l.bytes l.class
  pub class_is : IsSpelled l.class

abbrev pub AreFormed : List Loaded → Type 0
AreFormed classes = All IsRead classes

abbrev pub IsFormed : LoadedSuite → Type 0
IsFormed s = AreFormed s.classes × AreFormed s.tests
