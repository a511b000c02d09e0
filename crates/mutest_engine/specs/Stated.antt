-- The class that a text of the assembler's language states, or its first line at fault (this
-- project's own).
use Rattle.std.specs.Prelude.{ℕ, List, Result, Ok, Err}
use Rattle.class_model.specs.declared.class.Class.{Class}
use Rattle.class_asm.specs.Assembled.{AssembledClass}
use Rattle.class_asm.specs.declared.fault.AsmFault.{AsmFault}
use Rattle.class_asm.specs.declared.fault.AsmFault.TheVariants as asm_fault
use Rattle.mutest_engine.specs.declared.refusal.Refusal.{Refusal}
use Rattle.mutest_engine.specs.declared.refusal.Refusal.TheVariants.{AsmRefused}

-- Want of memory is no fault of a text.
abbrev pub or_refused : Result Class AsmFault → Result Class Refusal
or_refused (Ok class) = Ok class
or_refused (Err (asm_fault.Line line)) = Err (AsmRefused line)
or_refused (Err asm_fault.Memory) = Err (AsmRefused 0)

abbrev pub stated_class : List ℕ → Result Class Refusal
stated_class text = or_refused (AssembledClass text)
