-- What a row answers, with the frame that it leaves, seen as the rules have it.
use Rattle.std.specs.Prelude.{◌≡◌, ℕ, List}
use Rattle.program_rules.specs.Instructions.{Instruction}
use Rattle.type_rules.specs.Rows.{Setting, Checked, Falls, Stops, Fails, row, gives}
use Rattle.vframes.specs.declared.frame.Frame.{Frame}
use Rattle.vframes.specs.declared.named.Named.{Named}
use Rattle.vframes.specs.declared.slot_type.SlotType.{SlotType}
use Rattle.vframes.specs.View.{types_in}
use Rattle.vframes.specs.FrameView.{types_of}
use Rattle.type_rows.specs.declared.answer.Answer.{Answer}
use Rattle.type_rows.specs.declared.answer.Answer.TheVariants as answer

-- What a row answers.
abbrev pub checked_of : List Named → Answer → Frame → Checked
checked_of ns answer.Falls f = Falls (types_of ns f)
checked_of ns answer.Stops f = Stops
checked_of ns (answer.Fails v) f = Fails v

-- The next instruction begins with this stack, if there is room for it.
abbrev pub Gives : ℕ → Frame → List SlotType → Answer → Frame → Type 0
Gives room old ts a new =
    (ns : List Named) (s : Setting) → s.code.max_stack ≡ room
    → gives s (types_of ns old) (types_in ns ts) ≡ checked_of ns a new

-- This row, in a method of so many words of stack.
abbrev pub RowIs : Instruction → ℕ → Frame → Answer → Frame → Type 0
RowIs i room old a new =
    (ns : List Named) (s : Setting) (at : ℕ) → s.code.max_stack ≡ room
    → row s at i (types_of ns old) ≡ checked_of ns a new

-- The same row, whatever this operand of it is.
abbrev pub RowsAre : {A : Type 0} → (A → Instruction) → ℕ → Frame → Answer → Frame → Type 0
RowsAre {A} i room old a new = (x : A) → RowIs (i x) room old a new
