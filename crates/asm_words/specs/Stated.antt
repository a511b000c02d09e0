-- What a stated class keeps, so that its file's form may be written (this project's own).
use Rattle.std.specs.Prelude.{ℕ, ◌+◌, ◌<◌, ◌≤◌, ◌^◌, Bool, List, length, All, Option, Some, None}
use Rattle.class_model.specs.declared.instruction.Arg.{Arg}
use Rattle.class_model.specs.declared.instruction.Arg.TheVariants as arg
use Rattle.class_model.specs.declared.instruction.Insn.{Insn}
use Rattle.class_model.specs.declared.frame.VItem.{VItem}
use Rattle.class_model.specs.declared.frame.VItem.TheVariants as vitem
use Rattle.mt_insn.specs.Code.{HasForm, HasTargets}
use Rattle.mt_attrs.specs.Item.{AllBy}
use Rattle.asm_words.specs.declared.stated.StatedInsn.{StatedInsn}
use Rattle.asm_words.specs.declared.stated.Operand.{Operand}
use Rattle.asm_words.specs.declared.stated.Operand.TheVariants as operand
use Rattle.asm_words.specs.declared.stated.StatedItem.{StatedItem}
use Rattle.asm_words.specs.declared.stated.StatedItem.TheVariants as item
use Rattle.asm_words.specs.declared.stated.StatedShape.{StatedShape}
use Rattle.asm_words.specs.declared.stated.StatedShape.TheVariants as shape
use Rattle.asm_words.specs.declared.stated.StatedFrame.{StatedFrame}
use Rattle.asm_words.specs.declared.stated.StatedRow.{StatedRow}
use Rattle.asm_words.specs.declared.stated.StatedCode.{StatedCode}
use Rattle.asm_words.specs.declared.stated.StatedMember.{StatedMember}
use Rattle.asm_words.specs.declared.stated.StatedClass.{StatedClass}

abbrev pub insn_with : ℕ → Bool → Arg → Insn
insn_with op wide a = record { op = op; wide = wide; arg = a }

-- Whatever index an instruction's entry has, it has the form of its opcode, and it leads to one of
-- so many instructions.
abbrev pub IsOperand : ℕ → ℕ → Bool → Operand → Type 0
IsOperand total op wide (operand.Done a) =
    HasForm (insn_with op wide a) × HasTargets total (insn_with op wide a)
IsOperand total op wide (operand.Named e) =
    (index : ℕ) → index < 2 ^ 16 → HasForm (insn_with op wide (arg.Pool index))
IsOperand total op wide (operand.Near e) =
    (index : ℕ) → index < 2 ^ 8 → HasForm (insn_with op wide (arg.Pool index))
IsOperand total op wide (operand.Counted e count) =
    (index : ℕ) → index < 2 ^ 16 → HasForm (insn_with op wide (arg.Multi index count))

abbrev pub IsStatedInsn : ℕ → StatedInsn → Type 0
IsStatedInsn total insn = IsOperand total insn.op insn.wide insn.operand

abbrev pub IsKnownItem : ℕ → VItem → Type 0
IsKnownItem total (vitem.Uninitialized n) = n < total
IsKnownItem total other = Unit {0}

abbrev pub IsStatedItem : ℕ → StatedItem → Type 0
IsStatedItem total (item.Done i) = IsKnownItem total i
IsStatedItem total (item.Object name) = Unit {0}

abbrev pub IsStatedShape : ℕ → StatedShape → Type 0
IsStatedShape total shape.Same = Unit {0}
IsStatedShape total (shape.One i) = IsStatedItem total i
IsStatedShape total (shape.Chop count) = (0 < count) × (count ≤ 3)
IsStatedShape total (shape.Append items) =
    (0 < length items) × (length items ≤ 3) × All (IsStatedItem total) items
IsStatedShape total (shape.Full locals stack) =
    All (IsStatedItem total) locals × All (IsStatedItem total) stack

-- A frame stands for an instruction from this one on.
abbrev pub IsStatedFrame : ℕ → ℕ → StatedFrame → Type 0
IsStatedFrame total least frame =
    (least ≤ frame.at) × (frame.at < total) × (frame.at < 2 ^ 32) × IsStatedShape total frame.shape

abbrev pub least_behind : ℕ → StatedFrame → ℕ
least_behind least frame = frame.at + 1

abbrev pub AreFrames : ℕ → ℕ → List StatedFrame → Type 0
AreFrames total least frames = AllBy (IsStatedFrame total) least_behind least frames

pub record IsStatedRow (total : ℕ) (row : StatedRow) : Type 0 where
  pub start : row.start < total
  pub last : row.end ≤ total
  pub handler : row.handler < total

-- what a code with so many instructions keeps
pub record Keeps (total : ℕ) (code : StatedCode) : Type 0 where
  pub insns : All (IsStatedInsn total) code.insns
  pub rows : All (IsStatedRow total) code.rows
  pub lines : All (λ line. line.0 < total) code.lines
  pub frames : AreFrames total 0 code.frames

abbrev pub IsStatedCode : StatedCode → Type 0
IsStatedCode code = Keeps (length code.insns) code

abbrev pub IsCodeIn : Option StatedCode → Type 0
IsCodeIn None = Unit {0}
IsCodeIn (Some code) = IsStatedCode code

abbrev pub IsStatedMember : StatedMember → Type 0
IsStatedMember member = IsCodeIn member.code

pub record IsStatedClass (class : StatedClass) : Type 0 where
  pub fields : All IsStatedMember class.fields
  pub methods : All IsStatedMember class.methods
