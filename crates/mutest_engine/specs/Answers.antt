-- What a command's answer is made of (this project's own).
use Rattle.std.specs.Prelude.{ℕ, List, [], ◌∷◌, nat_lt, if◌then◌else◌, length, map, Option, None, Some, Result, Ok, Err}
use Rattle.std.specs.FinMap.{get}
use Rattle.class_model.specs.declared.class.Class.{Class}
use Rattle.class_model.specs.declared.fault.ClassFault.{ClassFault}
use Rattle.class_reader.specs.Reading.{class_of_file}
use Rattle.mt_edge.specs.Files.{Files}
use Rattle.mutest_engine.specs.Steps.{and_then}
use Rattle.mutest_engine.specs.declared.answer.Answer.{Answer}
use Rattle.mutest_engine.specs.declared.answer.Product.{Product}
use Rattle.mutest_engine.specs.declared.answer.Write.{Write as Written}
use Rattle.mutest_engine.specs.declared.refusal.Limit.TheVariants as limit
use Rattle.mutest_engine.specs.declared.refusal.Refusal.{Refusal}
use Rattle.mutest_engine.specs.declared.refusal.Refusal.TheVariants.{NotFound, BadClass, TooMany}

-- ---- answers

-- a file that a command replaces
pub record Write : Type 0 where
  pub product : Product
  pub path : List ℕ
  pub bytes : List ℕ

-- What a command does where nothing fails: the files that it replaces, in order, and then the text
-- that it puts.
pub record Answered : Type 0 where
  pub writes : List Write
  pub text : List ℕ

-- the answer that the code has
abbrev pub write_of : Written → Write
write_of w = record { product = w.product; path = w.path.now; bytes = w.bytes }

abbrev pub one_write : Product → List ℕ → List ℕ → List Write
one_write product path bytes = record { product = product; path = path; bytes = bytes } ∷ []

abbrev pub writes_of : List Written → List Write
writes_of writes = map write_of writes

abbrev pub one : Written → List Write
one write = write_of write ∷ []

abbrev pub answered : Answer → Answered
answered a = record { writes = map write_of a.writes.items; text = a.text }

abbrev pub made : Answer → List Write
made a = (answered a).writes

-- ---- files

-- a file of more than 4,194,304 bytes is refused
abbrev pub refuse_long_file : ℕ → Result (Unit {0}) Refusal
refuse_long_file count = if nat_lt 4194304 count then Err (TooMany limit.Class count) else Ok tt

abbrev pub within_limit : List ℕ → Result (List ℕ) Refusal
within_limit bytes = and_then (refuse_long_file (length bytes)) (λ few. Ok bytes)

abbrev pub held_at : List ℕ → Option (List ℕ) → Result (List ℕ) Refusal
held_at path None = Err (NotFound path)
held_at path (Some bytes) = within_limit bytes

abbrev pub file_of : List ℕ → Files → Result (List ℕ) Refusal
file_of path files = held_at path (get files path)

-- the class of a file, which is refused by its path
abbrev pub or_bad_class : {X : Type 0} → List ℕ → Result X ClassFault → Result X Refusal
or_bad_class path (Ok x) = Ok x
or_bad_class path (Err fault) = Err (BadClass path fault)

abbrev pub spelled_class : List ℕ → List ℕ → Result Class Refusal
spelled_class path bytes = or_bad_class path (class_of_file bytes)
