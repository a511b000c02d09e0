-- Entries that are appended to a constant pool change nothing that was there (JVMS 4.4).
use Rattle.std.specs.Prelude.{◌≡◌, ℕ, ◌≤◌, ⊤, List, ◌++◌, length}
use Rattle.class_model.specs.declared.constant.Const.{Const}
use Rattle.class_model.specs.declared.instruction.Insn.{Insn}
use Rattle.class_model.specs.declared.instruction.Arg.{Arg}
use Rattle.class_model.specs.declared.instruction.Arg.TheVariants as arg
use Rattle.class_model.specs.Pool.{IsPoolForm}
use Rattle.class_link.specs.Opcodes.{instruction_in}

-- An operand names no entry past so many.
abbrev pub NamesWithin : ℕ → Arg → Type 0
NamesWithin n (arg.Pool index) = index ≤ n
NamesWithin n (arg.Multi index count) = index ≤ n
NamesWithin n other = ⊤

-- An instruction that names an entry of a well-formed pool means the same where entries are
-- appended.
abbrev pub AppendedMeanTheSame : Type 0
AppendedMeanTheSame = (pool more : List Const) (i : Insn) → IsPoolForm pool → NamesWithin (length pool) i.arg → instruction_in (pool ++ more) i ≡ instruction_in pool i
