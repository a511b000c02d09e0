-- Each mutant of an instruction that is a jump on ints puts such a jump there.
use Rattle.std.proofs.Common.{◌≡◌, ◌∙◌, refl, sym, ap, ℕ, ◌+◌, ◌<◌, ◌≤◌, Bool, true, List, Option, None, Some, arith}
use Rattle.std.proofs.lemmas.Bool.Decides.{nat_tests}
use Rattle.class_model.specs.declared.constant.Const.{Const}
use Rattle.class_model.specs.declared.instruction.Insn.{Insn}
use Rattle.class_model.specs.declared.mutator.Mutator.{Mutator}
use Rattle.class_model.specs.declared.mutator.Mutator.TheVariants as mutator
use Rattle.mutator_ops.specs.Changes.{new_insns}
use Rattle.mutator_ops.specs.Mutants.{asked_of}
use Rattle.mutator_ops.specs.Table.{Asked, row}
use Rattle.mutator_ops.specs.declared.change.Change.{Change}
use Rattle.suite_laws.specs.Edited.{is_int_jump, puts_int_jump, IntJumpsAreExchanged}
use Rattle.suite_laws.proofs.Jumps.{with_op}
use Rattle.suite_laws.proofs.Ranges.{each, each_in}

-- ---- the opcodes of jumps on ints

int_low : (op : ℕ) → is_int_jump op ≡ true → 0x99 ≤ op
int_low op is = grind (arith, nat_tests)

int_high : (op : ℕ) → is_int_jump op ≡ true → op < 0x99 + 12
int_high op is = grind (arith, nat_tests)

-- ---- the rows at these opcodes

puts : List Const → Insn → Option Change → Bool
puts pool insn None = true
puts pool insn (Some made) = puts_int_jump (new_insns pool made insn)

row_puts : Mutator → Asked → Insn → ℕ → Bool
row_puts by asked insn op = puts asked.pool (with_op insn op) (row by asked (with_op insn op))

all_put : (by : Mutator) (asked : Asked) (insn : Insn) → each (row_puts by asked insn) 12 0x99 ≡ true
unfolding each row_puts puts
all_put mutator.ConditionalsBoundary asked insn = refl
all_put mutator.Increments asked insn = refl
all_put mutator.InvertNegs asked insn = refl
all_put mutator.Math asked insn = refl
all_put mutator.NegateConditionals asked insn = refl
all_put mutator.VoidMethodCalls asked insn = refl
all_put mutator.EmptyReturns asked insn = refl
all_put mutator.FalseReturns asked insn = refl
all_put mutator.TrueReturns asked insn = refl
all_put mutator.NullReturns asked insn = refl
all_put mutator.PrimitiveReturns asked insn = refl
all_put mutator.NonVoidMethodCalls asked insn = refl
all_put mutator.ConstructorCalls asked insn = refl
all_put mutator.RemoveConditionals asked insn = refl

made_puts : (by : Mutator) (asked : Asked) (insn : Insn) (made : Change) → row by asked insn ≡ Some made → is_int_jump insn.op ≡ true → puts_int_jump (new_insns asked.pool made insn) ≡ true
unfolding row_puts puts
made_puts by asked insn made applies is =
    sym (ap (puts asked.pool insn) applies) ∙ each_in (row_puts by asked insn) 12 0x99 insn.op (all_put by asked insn) (int_low insn.op is) (int_high insn.op is)

pub int_jumps_are_exchanged : IntJumpsAreExchanged
int_jumps_are_exchanged class m x is =
    ap (λ k. puts_int_jump k.edit.with) x.is ∙ made_puts m.mutator (asked_of class.pool x.member) x.insn x.change x.applies is
