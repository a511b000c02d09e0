-- The switches of a code, and a run-time constant pool that has what each index means.
use Rattle.std.specs.Prelude.{◌≡◌, ℕ, ◌==◌, if◌then◌else◌, List, [], ◌∷◌, ◌++◌, map, drop}
use Rattle.std.specs.List.{flat_map}
use Rattle.class_model.specs.declared.constant.Const.{Const}
use Rattle.class_model.specs.declared.instruction.Insn.{Insn}
use Rattle.class_model.specs.declared.instruction.Arg.{Arg}
use Rattle.class_model.specs.declared.instruction.Arg.TheVariants as arg
use Rattle.class_link.specs.declared.instruction.Instruction.{Instruction}
use Rattle.class_link.specs.declared.linked.Entry.{Entry}
use Rattle.class_link.specs.declared.linked.Switch.{Switch}
use Rattle.class_link.specs.declared.linked.Switch.TheVariants as switch
use Rattle.class_link.specs.Symbols.{IsOther, symbol_in}
use Rattle.class_link.specs.Opcodes.{instruction_by}
use Rattle.class_link.specs.View.{symbol_of, meaning_at, instruction_of}

-- The switch that an instruction is, if it is one.
abbrev pub switch_by : ℕ → Arg → List Switch
switch_by op (arg.Table default (low, targets)) = if op == 0xaa then switch.Table default low targets ∷ [] else []
switch_by op (arg.Lookup default keys) = if op == 0xab then switch.Lookup default keys ∷ [] else []
switch_by op other = []

abbrev pub switch_in : Insn → List Switch
switch_in i = switch_by i.op i.arg

-- The switches of a code in order.
abbrev pub switches_in : List Insn → List Switch
switches_in is = flat_map switch_in is

-- Each index means in these entries what it means in the pool; 0 is no index.
abbrev pub AreEntries : List Entry → List Const → Type 0
AreEntries es pool = map symbol_of es ≡ IsOther ∷ map (symbol_in pool) pool

-- A linked instruction means what one of a class file does, where the switches from this number on
-- are its own and those behind it. No public clause cites this, nor the next.
abbrev pub IsLinkedAt : List Entry → ℕ → Insn → Instruction → Type 0
IsLinkedAt es next i linked =
    (ss more : List Switch) → drop next ss ≡ switch_in i ++ more → instruction_of es ss linked ≡ instruction_by (meaning_at es) i

-- Linked instructions mean what those of a class file do.
abbrev pub AreLinkedBy : List Entry → List Switch → List Insn → List Instruction → Type 0
AreLinkedBy es ss is linked =
    map (instruction_of es ss) linked ≡ map (instruction_by (meaning_at es)) is
