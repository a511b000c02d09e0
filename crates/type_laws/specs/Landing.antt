-- Accepted code has room for what its exception rows catch (JVMS 4.7.3, 4.10.1.6).
use Rattle.std.specs.Prelude.{◌≡◌, ◌⊎◌, ◌<◌, ◌≤◌, ℕ, true, All, [], length, Some, slice_get}
use Rattle.program_rules.specs.Names.{Name}
use Rattle.program_rules.specs.Linked.{Linked, LinkedMethod, LinkedCode, LinkedRow, HasCode, is_covered}
use Rattle.program_rules.specs.Programs.{Look}
use Rattle.type_rules.specs.Rules.{ClassAccepted}

-- The method at this place of the class of this name has this code.
pub record HasCodeAt (p : Look) (n : Name) (k : ℕ) (code : LinkedCode) : Type 0 where
  pub class : Linked
  pub method : LinkedMethod
  pub has_class : p n ≡ Some class
  pub has_method : slice_get class.methods k ≡ Some method
  pub has_code : method.body ≡ HasCode code

-- ---- by instructions

-- Where a row covers an instruction there is room for what is caught.
abbrev pub CoveredHaveRoom : Type 0
CoveredHaveRoom =
    (p : Look) (n : Name) (k : ℕ) (code : LinkedCode) (at : ℕ) → ClassAccepted p n →
    HasCodeAt p n k code → at < length code.instructions → is_covered at code.rows ≡ true →
    1 ≤ code.max_stack

-- ---- by rows

-- A row covers the instruction that it begins with, which is one of the code. Linking gives this of
-- class files, in which each row ends behind its start (JVMS 4.7.3); the rules ask nothing of a row
-- that covers no instruction.
pub record CoversFirst (code : LinkedCode) (r : LinkedRow) : Type 0 where
  pub within : r.start < length code.instructions
  pub behind : r.start < r.end

-- A code has no rows, or room for what is caught.
abbrev pub HasRoomForCaught : LinkedCode → Type 0
HasRoomForCaught code = (code.rows ≡ []) ⊎ (1 ≤ code.max_stack)

-- So it is of accepted code each of whose rows covers an instruction.
abbrev pub RowsHaveRoom : Type 0
RowsHaveRoom =
    (p : Look) (n : Name) (k : ℕ) (code : LinkedCode) → ClassAccepted p n → HasCodeAt p n k code →
    All (CoversFirst code) code.rows → HasRoomForCaught code
