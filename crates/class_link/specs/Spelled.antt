-- What an instruction of the code means wherever it stands (this project's own). No public clause
-- cites these.
use Rattle.std.specs.Prelude.{◌≡◌, ℕ, ◌==◌, if◌then◌else◌, List, slice_get}
use Rattle.program_rules.specs.Instructions as def
use Rattle.class_link.specs.declared.instruction.Instruction.{Instruction}
use Rattle.class_link.specs.declared.linked.Entry.{Entry}
use Rattle.class_link.specs.declared.linked.Switch.{Switch}
use Rattle.class_link.specs.View.{instruction_of, table_of, lookup_of}

-- In a class with these entries, whatever switches its code has.
abbrev pub MeansIn : List Entry → Instruction → def.Instruction → Type 0
MeansIn es i meant = (ss : List Switch) → instruction_of es ss i ≡ meant

-- In every class.
abbrev pub Means : Instruction → def.Instruction → Type 0
Means i meant = (es : List Entry) → MeansIn es i meant

-- In every class, by its entries.
abbrev pub MeansByEntries : Instruction → (List Entry → def.Instruction) → Type 0
MeansByEntries i meant = (es : List Entry) → MeansIn es i (meant es)

-- In every class, by the switches of its code.
abbrev pub MeansBySwitches : Instruction → (List Switch → def.Instruction) → Type 0
MeansBySwitches i meant = (es : List Entry) (ss : List Switch) → instruction_of es ss i ≡ meant ss

-- The `tableswitch` and the `lookupswitch` of this number.
abbrev pub table_at : ℕ → ℕ → List Switch → def.Instruction
table_at op n ss = if op == 0xaa then table_of (slice_get ss n) else def.Unlinked

abbrev pub lookup_at : ℕ → ℕ → List Switch → def.Instruction
lookup_at op n ss = if op == 0xab then lookup_of (slice_get ss n) else def.Unlinked
