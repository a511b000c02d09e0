-- What a step of the pass over a method's code says of the type rules (this project's own rules,
-- after JVMS 4.10.1.6).
use Rattle.std.specs.Prelude.{◌≡◌, ◌<◌, ◌≤◌, ℕ, suc, true, false, List, length, drop, Some, None, slice_get}
use Rattle.program_rules.specs.Instructions.{Instruction}
use Rattle.type_rules.specs.Assignability.{FrameTypes, frame_assignable}
use Rattle.type_rules.specs.Frames.{stated_at}
use Rattle.type_rules.specs.Rows.{Setting, row}
use Rattle.type_rules.specs.Rules.{frame_given, stated_or, frame_before, falls_into, falls_out, is_refused, handlers_fit, with_handlers, rule_at, fault_or, fault_from}

-- An instruction begins with the frame that is stated, else with the one that falls in.
abbrev pub FramesBegin : Type 0
FramesBegin =
    (s : Setting) (at : ℕ)
    → frame_before s at ≡ stated_or (stated_at at s.frames) (falls_into s at)

-- What falls into the next instruction is what the row leaves.
abbrev pub FramesGoOn : Type 0
FramesGoOn =
    (s : Setting) (at : ℕ) (f : FrameTypes) (i : Instruction) → frame_before s at ≡ Some f
    → slice_get s.code.instructions at ≡ Some i
    → falls_into s (suc at) ≡ frame_given (row s at i f)

-- Rule 4: at the last instruction, where the next one would begin behind it; and where there is no
-- frame.
abbrev pub FallsOut : Type 0
FallsOut =
    (s : Setting) (at : ℕ) → falls_out s at (slice_get s.code.instructions at) ≡ true
    → rule_at s at ≡ Some 4

abbrev pub Unreached : Type 0
Unreached =
    (s : Setting) (at : ℕ) → falls_into s at ≡ None → stated_at at s.frames ≡ None
    → rule_at s at ≡ Some 4

-- Rule 5: what falls in isn't assignable to the frame that is stated.
abbrev pub IsNotTaken : Type 0
IsNotTaken =
    (s : Setting) (at : ℕ) (f g : FrameTypes) → falls_into s at ≡ Some f
    → stated_at at s.frames ≡ Some g → frame_assignable s.program f g ≡ false
    → falls_out s at (slice_get s.code.instructions at) ≡ false → rule_at s at ≡ Some 5

-- The others: what the row says and what the handlers say, which are asked of the frame before.
abbrev pub RowsAreAsked : Type 0
RowsAreAsked =
    (s : Setting) (at : ℕ) (f : FrameTypes) (i : Instruction)
    → (frame_before s at ≡ Some f)
    × (is_refused s.program (falls_into s at) (stated_at at s.frames) ≡ false)
    → slice_get s.code.instructions at ≡ Some i
    → falls_out s at (slice_get s.code.instructions at) ≡ false
    → rule_at s at ≡ with_handlers (handlers_fit s at f s.code.rows) (row s at i f)

-- The first fault from an instruction on is there, or it is the first from the next on; behind the
-- last there is none.
abbrev pub FaultsFollow : Type 0
FaultsFollow =
    (s : Setting) (is : List Instruction) (at from : ℕ) → from < length is
    → fault_from s at (drop from is)
    ≡ fault_or at (rule_at s at) (fault_from s (suc at) (drop (suc from) is))

abbrev pub FaultsEnd : Type 0
FaultsEnd =
    (s : Setting) (is : List Instruction) (at from : ℕ) → length is ≤ from
    → fault_from s at (drop from is) ≡ None
