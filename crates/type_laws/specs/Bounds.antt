-- Code within the bounds of a class file (JVMS 4.7.3). Who links class files, and the table of
-- library classes, give this.
use Rattle.std.specs.Prelude.{◌≡◌, ◌<◌, ◌≤◌, ◌^◌, ℕ, All, length, Some, slice_get}
use Rattle.program_rules.specs.Names.{Name}
use Rattle.program_rules.specs.Linked.{Linked, LinkedMethod, LinkedCode, LinkedRow, HasCode}
use Rattle.program_rules.specs.Programs.{Look}
use Rattle.type_rules.specs.Rules.{ClassAccepted}
use Rattle.type_laws.specs.Landing.{HasCodeAt, CoversFirst, HasRoomForCaught}

-- An exception row begins at an instruction, and ends behind it: at another one, or where the code
-- ends. Its handler is an instruction.
pub record IsBoundedRow (code : LinkedCode) (r : LinkedRow) : Type 0 where
  pub first : CoversFirst code r
  pub end : r.end ≤ length code.instructions
  pub handler : r.handler < length code.instructions

-- A code has an instruction and fewer than 2^16 of them, since each takes a byte of at most 65,535;
-- its stack and its locals have fewer words.
pub record IsBounded (code : LinkedCode) : Type 0 where
  pub some : 0 < length code.instructions
  pub few : length code.instructions < 2 ^ 16
  pub stack : code.max_stack < 2 ^ 16
  pub locals : code.max_locals < 2 ^ 16
  pub rows : All (IsBoundedRow code) code.rows

-- Each code of a class is.
abbrev pub HasBoundedCodes : Linked → Type 0
HasBoundedCodes c =
    (k : ℕ) (m : LinkedMethod) (code : LinkedCode) → slice_get c.methods k ≡ Some m →
    m.body ≡ HasCode code → IsBounded code

-- Accepted code within these bounds has room for what it catches.
abbrev pub BoundedHaveRoom : Type 0
BoundedHaveRoom =
    (p : Look) (n : Name) (k : ℕ) (code : LinkedCode) → ClassAccepted p n → HasCodeAt p n k code →
    IsBounded code → HasRoomForCaught code
