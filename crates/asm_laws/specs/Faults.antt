-- The only fault of a text is a line (this project's own).
use Rattle.std.specs.Prelude.{◌≡◌, ◌≢◌, ℕ, List, Err}
use Rattle.class_asm.specs.declared.fault.AsmFault.{AsmFault}
use Rattle.class_asm.specs.declared.fault.AsmFault.TheVariants as asm_fault
use Rattle.class_asm.specs.Assembled.{AssembledClass}

-- What a text states is a class, or a first wrong line, and never want of memory.
abbrev pub FaultsAreLines : Type 0
FaultsAreLines = (text : List ℕ) → AssembledClass text ≢ Err asm_fault.Memory
