-- What assembling a text may give, and that it is one answer where memory lasts (this project's
-- own).
use Rattle.std.specs.Prelude.{◌≡◌, ◌≢◌, ℕ, List, MatchResult, Result, Err}
use Rattle.class_asm.specs.declared.fault.AsmFault.{AsmFault}
use Rattle.class_asm.specs.declared.fault.AsmFault.TheVariants as asm_fault
use Rattle.class_asm.specs.Assembled.{AssembledClass, IsAssembled}

-- what `assemble` says of its result
abbrev pub Assembles : List ℕ → Result (List ℕ) AsmFault → Type 0
Assembles text result = MatchResult result (IsAssembled text) (λ fault. fault ≢ asm_fault.Memory → AssembledClass text ≡ Err fault)

-- A text has one class file or one first wrong line: two answers are equal, unless memory ran out
-- in one.
abbrev pub TextsHaveOneAnswer : Type 0
TextsHaveOneAnswer =
    (text : List ℕ) (first second : Result (List ℕ) AsmFault) → Assembles text first → Assembles text second → first ≢ Err asm_fault.Memory → second ≢ Err asm_fault.Memory → first ≡ second
