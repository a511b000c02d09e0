-- The rows that touch the frame alone, by their instructions.
use Rattle.std.specs.Prelude.{◌≡◌, ℕ, ℤ, pos, Bool, true, false, if◌then◌else◌, List, ◌∷◌, drop, Option, None, Some}
use Rattle.program_rules.specs.declared.value.Value.{Value}
use Rattle.program_rules.specs.declared.value.Value.TheVariants.{Int, Long, Ref, Null}
use Rattle.program_rules.specs.declared.operation.Operation.{Operation}
use Rattle.program_rules.specs.declared.operation.Comparison.{Comparison}
use Rattle.program_rules.specs.Instructions as def
use Rattle.program_rules.specs.Kinds.{Kind}
use Rattle.machine_rules.specs.declared.machine.Limits.{Limits}
use Rattle.machine_rules.specs.Arithmetic.{divides_by_zero, compares}
use Rattle.machine_rules.specs.Effects.{NoRow, jumps}
use Rattle.class_link.specs.Info.{Info}
use Rattle.class_table.specs.Table.{look}
use Rattle.jvm_state.specs.declared.op.Op.{Op}
use Rattle.jvm_state.specs.Ops.{Naming, instruction_of, row_of, left_by}
use Rattle.jvm_state.specs.Rows.{Row}
use Rattle.jvm_state.specs.Zero.{throws_by_int_zero, throws_by_long_zero}
use Rattle.jvm_frames.specs.Frames.{NumberedFrames}
use Rattle.jvm_world.specs.declared.world.World.{World}
use Rattle.jvm_rows.specs.declared.effect.Effect as code
use Rattle.jvm_rows.specs.Effects.{RowOf, Runs}
use Rattle.jvm_rows.specs.declared.alone.Operands.{Operands}
use Rattle.jvm_rows.specs.declared.alone.Operands.TheVariants as operands

-- The row of an instruction in a method with this kind of result, which is an initializer or isn't.
abbrev pub means_row : List Info → Option Kind → Bool → def.Instruction → RowOf
means_row p kind starts i = λ q room. row_of (look p) q kind room starts i

-- What a row of an instruction comes to, in each method.
abbrev pub RunsAs :
    List Info → def.Instruction → code.Effect → NumberedFrames → NumberedFrames → World → World →
    Type 0
RunsAs p i e old new w u =
    (kind : Option Kind) (starts : Bool) → Runs p (means_row p kind starts i) e old new w u

-- The same of an instruction in eight bytes, whatever its number names.
abbrev pub RunsOp :
    List Info → List ℤ → Op → code.Effect → NumberedFrames → NumberedFrames → World → World →
    Type 0
RunsOp p longs op e old new w u =
    (named : Naming → ℕ → def.Instruction) →
    RunsAs p (instruction_of longs named op) e old new w u

-- ---- division by 0

-- What is left of an operation that gives no result.
abbrev pub zero_row : Operands → Limits → Row
zero_row operands.Other q = λ w f fs. NoRow
zero_row (operands.Ints op) q = throws_by_int_zero op q
zero_row (operands.Longs op) q = throws_by_long_zero op q

-- It is what is left of this instruction.
abbrev pub IsLeftOf : Op → Operands → Type 0
IsLeftOf op o = (q : Limits) (row : Row) → left_by op q row ≡ zero_row o q

-- Whether an int and what stands below it are a division by 0.
abbrev pub int_over : Operation → ℤ → Option Value → Bool
int_over op y None = false
int_over op y (Some (Int x)) = divides_by_zero op y
int_over op y (Some (Long x)) = false
int_over op y (Some (Ref x)) = false
int_over op y (Some Null) = false

abbrev pub ints_by_zero : Operation → Option Value → Option Value → Bool
ints_by_zero op None lower = false
ints_by_zero op (Some (Int y)) lower = int_over op y lower
ints_by_zero op (Some (Long y)) lower = false
ints_by_zero op (Some (Ref x)) lower = false
ints_by_zero op (Some Null) lower = false

-- The same of longs.
abbrev pub long_over : Operation → ℤ → Option Value → Bool
long_over op y None = false
long_over op y (Some (Int x)) = false
long_over op y (Some (Long x)) = divides_by_zero op y
long_over op y (Some (Ref x)) = false
long_over op y (Some Null) = false

abbrev pub longs_by_zero : Operation → Option Value → Option Value → Bool
longs_by_zero op None lower = false
longs_by_zero op (Some (Int y)) lower = false
longs_by_zero op (Some (Long y)) lower = long_over op y lower
longs_by_zero op (Some (Ref x)) lower = false
longs_by_zero op (Some Null) lower = false

-- Whether an operation divides by 0, by the two values on the top.
abbrev pub by_zero : Operands → Option Value → Option Value → Bool
by_zero operands.Other upper lower = false
by_zero (operands.Ints op) upper lower = ints_by_zero op upper lower
by_zero (operands.Longs op) upper lower = longs_by_zero op upper lower

-- ---- jumps

-- The top value is taken off, and the frame goes on at an instruction.
abbrev pub jump_row : ℕ → RowOf
jump_row to = λ q room w f fs. jumps w f fs to (drop 1 f.stack)

-- A jump on an int that this int takes.
pub record IsJump (z : ℤ) (to : ℕ) (op : Op) : Type 0 where
  pub test : Comparison
  pub means : (longs : List ℤ) (named : Naming → ℕ → def.Instruction) →
      instruction_of longs named op ≡ def.IfInt test to
  pub taken : compares test z (pos 0) ≡ true
  pub left : (q : Limits) (row : Row) → left_by op q row ≡ (λ w f fs. NoRow)
