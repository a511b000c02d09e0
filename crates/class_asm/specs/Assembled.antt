-- The class that a text states, or the number of the first line that is wrong (this project's own).
use Rattle.std.specs.Prelude.{◌≡◌, ◌≢◌, MatchResult, ℕ, ◌+◌, false, Bool, List, [], length, Option, Some, None, Result, Ok, Err, if◌then◌else◌}
use Rattle.codec_rules.specs.Sequence.{◌>>=◌}
use Rattle.class_model.specs.declared.class.Class.{Class}
use Rattle.class_model.specs.declared.fault.LayoutFault.{LayoutFault}
use Rattle.class_writer.specs.Writing.{layout}
use Rattle.asm_words.specs.Lines.{pieces, lines_from}
use Rattle.class_asm.specs.Classes.{stated_by}
use Rattle.class_asm.specs.ClassFile.{class_of}
use Rattle.asm_words.specs.declared.stated.StatedClass.{StatedClass}
use Rattle.class_asm.specs.declared.class.End.{End}
use Rattle.class_asm.specs.declared.numbering.Entries.{Entries}
use Rattle.class_asm.specs.declared.fault.AsmFault.{AsmFault}
use Rattle.class_asm.specs.declared.fault.AsmFault.TheVariants as asm_fault

-- the class that a text states, and where it ends
abbrev pub stated_in : List ℕ → Result (StatedClass × End) AsmFault
stated_in text = let bytes = pieces 10 text in stated_by (length bytes + 1) (lines_from 1 bytes)

abbrev pub no_entries : Entries
no_entries = record { pool = []; passed = false }

-- Nothing stands behind the line that ends a class.
abbrev pub with_end : Class → Option ℕ → Result Class AsmFault
with_end class None = Ok class
with_end class (Some line) = Err (asm_fault.Line line)

abbrev pub with_room : Class → End → Result (List ℕ) LayoutFault → Result Class AsmFault
with_room class end (Ok bytes) = with_end class end.behind
with_room class end (Err e) = Err (asm_fault.Line end.line)

-- A class that passes a limit is refused at the line that ends it.
abbrev pub within_limits : Class × Bool → End → Result Class AsmFault
within_limits x end = if x.1 then Err (asm_fault.Line end.line) else with_room x.0 end (layout x.0)

-- A call writes a class that is within its limits, or tells the line that is wrong.
abbrev pub IsWithin : Class → Bool → End → Result (List ℕ) AsmFault → Type 0
IsWithin class passed end result =
    MatchResult result
    (λ bytes. (within_limits (class, passed) end ≡ Ok class) × (layout class ≡ Ok bytes))
    (λ fault. fault ≢ asm_fault.Memory → within_limits (class, passed) end ≡ Err fault)

-- The class that a text states, or the first line that is wrong.
unfoldable pub AssembledClass : List ℕ → Result Class AsmFault
AssembledClass text = stated_in text >>= λ x. within_limits (class_of x.0 no_entries) x.1

-- The bytes are the class file of the class that the text states.
pub record IsAssembled (text bytes : List ℕ) : Type 0 where
  pub class : Class
  pub stated : AssembledClass text ≡ Ok class
  pub written : layout class ≡ Ok bytes
