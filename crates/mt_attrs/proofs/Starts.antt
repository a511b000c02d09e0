-- The starts of the instructions of a code ascend.
use Rattle.std.proofs.Common.{◌≡◌, ℕ, zero, suc, ◌+◌, ◌≤◌, ◌<◌, Bool, true, false, cond, ltb, List, [], ◌∷◌, length, take, get_or, Ok, Err, refl, sym, ap, subst, ◌∙◌, arith}
use Rattle.std.proofs.lemmas.Bool.{ltb-false}
use Rattle.std.proofs.lemmas.List.{length-take}
use Rattle.class_model.specs.declared.instruction.Insn.{Insn}
use Rattle.codec_rules.specs.Input.{Input, behind}
use Rattle.codec_rules.specs.Sequence.{or_fault}
use Rattle.codec_rules.proofs.Sequence.{ok_is}
use Rattle.mt_insn.specs.Order.{Ascends}
use Rattle.mt_insn.specs.Opcode.{form_of}
use Rattle.mt_insn.specs.Code.{formed_size, size_at, places_from, places, end_from, code}
use Rattle.mt_insn.proofs.Sizes.{end_is_behind}
use Rattle.mt_insn.proofs.LayoutLaws.{read_length}
use Rattle.mt_attrs.specs.Item.{some_bytes}
use Rattle.mt_attrs.specs.declared.fault.ItemFault.{ItemFault}
use Rattle.mt_attrs.specs.declared.fault.ItemFault.TheVariants as item_fault

-- an instruction takes a byte
sized : (wide : Bool) (n m : ℕ) → 0 < cond wide (2 + n) (1 + m)
sized true n m = omega arith
sized false n m = omega arith

pub takes : (place : ℕ) (insn : Insn) → place < place + size_at place insn
takes place insn = omega (arith, sized insn.wide (formed_size (form_of insn.op) true (place + 2) insn.arg) (formed_size (form_of insn.op) false (place + 1) insn.arg))

from_there : (place : ℕ) (insns : List Insn) (i : ℕ) → i < length (places_from place insns) → place ≤ get_or (places_from place insns) i 0
from_there place [] i lt = absurd (omega (arith, lt))
from_there place (insn ∷ insns) zero lt = omega arith
from_there place (insn ∷ insns) (suc i) lt = omega (arith, takes place insn, from_there (place + size_at place insn) insns i (omega (arith, lt)))

ascend_from : (place : ℕ) (insns : List Insn) (i j : ℕ) → i < j → j < length (places_from place insns) → get_or (places_from place insns) i 0 < get_or (places_from place insns) j 0
ascend_from place [] i j less lt = absurd (omega (arith, lt))
ascend_from place (insn ∷ insns) i zero less lt = absurd (omega (arith, less))
ascend_from place (insn ∷ insns) zero (suc j) less lt = omega (arith, takes place insn, from_there (place + size_at place insn) insns j (omega (arith, lt)))
ascend_from place (insn ∷ insns) (suc i) (suc j) less lt = ascend_from (place + size_at place insn) insns i j (omega (arith, less)) (omega (arith, lt))

pub starts_ascend : (insns : List Insn) (starts : List ℕ) → starts ≡ places insns → Ascends starts
starts_ascend insns starts same = subst Ascends (sym same) (ascend_from 0 insns)

abbrev part : ℕ → Input → List ℕ × Input
part count input = (take count input.bytes, behind count input)

taken_by : (short : Bool) (count : ℕ) (input : Input) (x : List ℕ × Input) → ltb (length input.bytes) count ≡ short → or_fault (λ at. item_fault.Short at count) (cond short (Err input.at) (Ok (part count input))) ≡ Ok x → length x.0 ≡ count
taken_by true count input x test e = absurd cc
taken_by false count input x test e =
    let le : count ≤ length input.bytes = ltb-false _ _ test in
    let same : part count input ≡ x = ok_is {F = ItemFault} (part count input) x e in
    ap (λ (x : List ℕ × Input). length x.0) (sym same) ∙ omega (arith, length-take count input.bytes, le)

-- so many bytes were read
pub taken : (count : ℕ) (input : Input) (bytes : List ℕ) (rest : Input) → some_bytes count input ≡ Ok (bytes, rest) → length bytes ≡ count
taken count input bytes rest e = taken_by _ count input (bytes, rest) refl e

ends_from : (place : ℕ) (insns : List Insn) (i : ℕ) → i < length (places_from place insns) → get_or (places_from place insns) i 0 < end_from place insns
ends_from place [] i lt = absurd (omega (arith, lt))
ends_from place (insn ∷ insns) zero lt = omega (arith, takes place insn, end_is_behind (place + size_at place insn) insns)
ends_from place (insn ∷ insns) (suc i) lt = ends_from (place + size_at place insn) insns i (omega (arith, lt))

-- each instruction begins before the code's end
pub starts_before : (insns : List Insn) (i : ℕ) → i < length (places insns) → get_or (places insns) i 0 < length (code insns)
starts_before insns i lt = omega (arith, ends_from 0 insns i lt, read_length insns (code insns) refl)
