-- Forms of one instruction (JVMS 6.5): those with the local or the number in the opcode, those with
-- `wide`, and those with a wider index or offset.
use Rattle.std.specs.Prelude.{◌≡◌, ℕ, ◌+◌, ◌<◌, ℤ, pos, ◌-ℤ◌, true, false, List}
use Rattle.class_model.specs.declared.constant.Const.{Const}
use Rattle.class_model.specs.declared.instruction.Insn.{Insn}
use Rattle.class_model.specs.declared.instruction.Arg.{Arg}
use Rattle.class_model.specs.declared.instruction.Arg.TheVariants as arg
use Rattle.class_link.specs.Opcodes.{instruction_in}

abbrev pub plain : ℕ → Insn
plain op = record { op = op; wide = false; arg = arg.None }

abbrev pub of_local : ℕ → ℕ → Insn
of_local op n = record { op = op; wide = false; arg = arg.Local n }

abbrev pub of_number : ℕ → ℤ → Insn
of_number op z = record { op = op; wide = false; arg = arg.Number z }

-- The first is another form of the second.
pub data IsFormOf : Insn → Insn → Type 0 where
  iconst : (n : ℕ) → n < 7 → IsFormOf (plain (0x02 + n)) (of_number 0x11 (pos n -ℤ pos 1))
  bipush : (z : ℤ) → IsFormOf (of_number 0x10 z) (of_number 0x11 z)
  iload : (n : ℕ) → n < 4 → IsFormOf (plain (0x1a + n)) (of_local 0x15 n)
  lload : (n : ℕ) → n < 4 → IsFormOf (plain (0x1e + n)) (of_local 0x16 n)
  aload : (n : ℕ) → n < 4 → IsFormOf (plain (0x2a + n)) (of_local 0x19 n)
  istore : (n : ℕ) → n < 4 → IsFormOf (plain (0x3b + n)) (of_local 0x36 n)
  lstore : (n : ℕ) → n < 4 → IsFormOf (plain (0x3f + n)) (of_local 0x37 n)
  astore : (n : ℕ) → n < 4 → IsFormOf (plain (0x4b + n)) (of_local 0x3a n)
  wide : (op : ℕ) (a : Arg) → IsFormOf (record { op = op; wide = true; arg = a }) (record { op = op; wide = false; arg = a })
  ldc_w : (index : ℕ) → IsFormOf (record { op = 0x13; wide = false; arg = arg.Pool index }) (record { op = 0x12; wide = false; arg = arg.Pool index })
  goto_w : (to : ℕ) → IsFormOf (record { op = 0xc8; wide = false; arg = arg.To to }) (record { op = 0xa7; wide = false; arg = arg.To to })

-- Forms of one instruction mean the same.
abbrev pub FormsMeanTheSame : Type 0
FormsMeanTheSame = (pool : List Const) (i j : Insn) → IsFormOf i j → instruction_in pool i ≡ instruction_in pool j
