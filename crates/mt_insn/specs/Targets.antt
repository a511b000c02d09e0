-- Targets: in the bytes a jump's target is an offset from the instruction's place, and in an
-- instruction the number of the instruction that begins there (JVMS 6.5; the numbers are this
-- project's own).
use Rattle.std.specs.Prelude.{ℕ, ◌+◌, ◌^◌, nat_lt, ◌==◌, ℤ, pos, negsuc, ◌+ℤ◌, List, [], ◌∷◌, map, position, Option, Some, None, option_and_then, Result, Ok, ok_or, if◌then◌else◌}
use Rattle.std.specs.Option.{option_map}
use Rattle.class_model.specs.declared.constant.Const.{Const}
use Rattle.class_model.specs.declared.instruction.Arg.{Arg}
use Rattle.class_model.specs.declared.instruction.Arg.TheVariants as arg
use Rattle.class_model.specs.declared.instruction.Insn.{Insn}
use Rattle.class_model.specs.declared.fault.ClassFault.{ClassFault}
use Rattle.class_model.specs.declared.fault.ClassFault.TheVariants as fault
use Rattle.codec_rules.specs.Sequence.{◌>>=◌}
use Rattle.codec_rules.specs.Reading.{until_end}
use Rattle.codec_rules.specs.Spelling.{input_at}
use Rattle.mt_insn.specs.Item.{CodeReader}
use Rattle.mt_insn.specs.Reading.{insn_at}
use Rattle.mt_insn.specs.declared.raw.Operand.{Operand}
use Rattle.mt_insn.specs.declared.raw.Operand.TheVariants as operand
use Rattle.mt_insn.specs.declared.raw.RawInsn.{RawInsn}
use Rattle.mt_insn.specs.declared.raw.Placed.{Placed}

-- An instruction and where it begins.
abbrev pub placed_at : ℕ → List Const → CodeReader Placed
placed_at base pool input =
    insn_at base pool input >>= λ insn. Ok (record { place = input.at; insn = insn.0 }, insn.1)

abbrev pub starts_of : List Placed → List ℕ
starts_of insns = map (λ p. p.place) insns

-- A place in the code, if the number is one.
abbrev pub place_of : ℤ → Option ℕ
place_of (pos n) = Some n
place_of (negsuc n) = None

-- An instruction's number is 32 bits wide.
abbrev pub narrowed : ℕ → Option ℕ
narrowed n = if nat_lt n (2 ^ 32) then Some n else None

-- The number of the instruction that begins at a place.
abbrev pub number_of : List ℕ → ℕ → Option ℕ
number_of starts place = option_and_then narrowed (position (λ start. start == place) starts)

-- The number of the instruction to which an offset leads from a place.
abbrev pub target : List ℕ → ℕ → ℤ → Option ℕ
target starts place offset = option_and_then (number_of starts) (place_of (pos place +ℤ offset))

abbrev pub targets : List ℕ → ℕ → List ℤ → Option (List ℕ)
targets starts place [] = Some []
targets starts place (offset ∷ offsets) =
    option_and_then (λ n. option_map (λ ns. n ∷ ns) (targets starts place offsets))
    (target starts place offset)

abbrev pub pair_targets : List ℕ → ℕ → List (ℤ × ℤ) → Option (List (ℤ × ℕ))
pair_targets starts place [] = Some []
pair_targets starts place (pair ∷ pairs) =
    option_and_then (λ n. option_map (λ ns. (pair.0, n) ∷ ns) (pair_targets starts place pairs))
    (target starts place pair.1)

-- An operand with numbers for its offsets, where each of them leads to the start of an instruction.
abbrev pub arg_of : List ℕ → ℕ → Operand → Option Arg
arg_of starts place (operand.Done a) = Some a
arg_of starts place (operand.To offset) = option_map arg.To (target starts place offset)
arg_of starts place (operand.Table default low offsets) =
    option_and_then (λ n. option_map (λ ns. arg.Table n (low, ns)) (targets starts place offsets))
    (target starts place default)
arg_of starts place (operand.Lookup default pairs) =
    option_and_then (λ n. option_map (λ ns. arg.Lookup n ns) (pair_targets starts place pairs))
    (target starts place default)

abbrev pub insn_of : RawInsn → Arg → Insn
insn_of raw a = record { op = raw.op; wide = raw.wide; arg = a }

-- The instructions with numbers for their offsets. The first that leads elsewhere is told at its
-- own place in the file.
abbrev pub resolved : ℕ → List ℕ → List Placed → Result (List Insn) ClassFault
resolved base starts [] = Ok []
resolved base starts (p ∷ ps) = do
  a ← ok_or (arg_of starts p.place p.insn.operand) (fault.BadTarget (base + p.place))
  others ← resolved base starts ps
  Ok (insn_of p.insn a ∷ others)

-- The instructions that are the whole of the bytes, whose first is at the place `base` in the file.
-- Targets are tested once all instructions are known.
abbrev pub code_at : ℕ → List Const → List ℕ → Result (List Insn) ClassFault
code_at base pool bytes =
    until_end (placed_at base pool) (input_at 0 bytes) >>= λ insns.
    resolved base (starts_of insns) insns
