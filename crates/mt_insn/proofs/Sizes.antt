-- Sizes of instructions.
use Rattle.std.proofs.Common.{◌≡◌, ℕ, zero, suc, ◌+◌, ◌*◌, ◌^◌, ◌≤◌, ◌<◌, List, [], ◌∷◌, ◌++◌, length, drop, get_or, Bool, true, false, Option, Some, None, refl, sym, ap, subst, ◌∙◌, arith, append_assoc, drop-cons}
use Rattle.std.specs.Prelude.{ℤ, map, All}
use Rattle.mt_insn.specs.Order.{AreNear}
use Rattle.std.specs.List.{flat_map}
use Rattle.std.proofs.lemmas.List.{length-append, length-replicate}
use Rattle.std.proofs.lemmas.List.Concat.{flat_map-cons}
use Rattle.class_model.specs.declared.instruction.Arg.{Arg}
use Rattle.class_model.specs.declared.instruction.Arg.TheVariants as arg
use Rattle.class_model.specs.declared.instruction.Insn.{Insn}
use Rattle.mt_insn.specs.Opcode.{form_of}
use Rattle.mt_insn.specs.Operands.{padding}
use Rattle.mt_insn.specs.Spelling.{s4, pair_bytes, padding_bytes, items_in, table_bytes, lookup_bytes, formed_bytes, raw_bytes}
use Rattle.mt_insn.specs.Code.{table_keys, lookup_keys, formed_size, size_at, end_from, places_from, places, code_length, HasTargets, offset, operand_of, raw_of}
use Rattle.mt_insn.specs.declared.opcode.Form.{Form}
use Rattle.mt_insn.specs.declared.opcode.Form.TheVariants as form

pub end_is_behind : (place : ℕ) (insns : List Insn) → place ≤ end_from place insns
end_is_behind place [] = omega arith
end_is_behind place (insn ∷ insns) = omega (arith, end_is_behind (place + size_at place insn) insns)

-- the instruction at a loop's place, and those behind it
pub cut_at : (insns : List Insn) (i : ℕ) (insn : Insn) → i < length insns → insn ≡ get_or insns i insn → drop i insns ≡ insn ∷ drop (i + 1) insns
cut_at insns i insn lt is =
    let next : suc i ≡ i + 1 = omega arith in
    drop-cons insns i insn lt ∙ ap (λ (x : Insn). x ∷ drop (suc i) insns) (sym is) ∙ ap (λ (n : ℕ). insn ∷ drop n insns) next

-- one more instruction was passed
pub end_moves : (insns : List Insn) (i place total : ℕ) (insn : Insn) → drop i insns ≡ insn ∷ drop (i + 1) insns → end_from place (drop i insns) ≡ total → (end_from (place + size_at place insn) (drop (i + 1) insns) ≡ total) × (place + size_at place insn ≤ total)
end_moves insns i place total insn cut so_far =
    let e : end_from (place + size_at place insn) (drop (i + 1) insns) ≡ total = sym (ap (end_from place) cut) ∙ so_far in
    (e, omega (arith, end_is_behind (place + size_at place insn) (drop (i + 1) insns), e))

pub places_move : (insns : List Insn) (i place : ℕ) (insn : Insn) (front total : List ℕ) → drop i insns ≡ insn ∷ drop (i + 1) insns → front ++ places_from place (drop i insns) ≡ total → (front ++ place ∷ []) ++ places_from (place + size_at place insn) (drop (i + 1) insns) ≡ total
places_move insns i place insn front total cut so_far = append_assoc front (place ∷ []) (places_from (place + size_at place insn) (drop (i + 1) insns)) ∙ sym (ap (λ (rest : List Insn). front ++ places_from place rest) cut) ∙ so_far

-- ---- an instruction takes as many bytes as it is spelled by

offsets_size : (starts : List ℕ) (place : ℕ) (ns : List ℕ) → length (flat_map s4 (map (offset starts place) ns)) ≡ 4 * length ns
offsets_size starts place [] = refl
offsets_size starts place (n ∷ ns) = ap (λ (x : List ℕ). length x) (flat_map-cons s4 (offset starts place n) (map (offset starts place) ns)) ∙ omega (arith, offsets_size starts place ns)

pairs_size : (starts : List ℕ) (place : ℕ) (pairs : List (ℤ × ℕ)) → length (flat_map pair_bytes (map (λ pair. (pair.0, offset starts place pair.1)) pairs)) ≡ 8 * length pairs
pairs_size starts place [] = refl
pairs_size starts place (pair ∷ pairs) = ap (λ (x : List ℕ). length x) (flat_map-cons pair_bytes (pair.0, offset starts place pair.1) (map (λ (pair : ℤ × ℕ). (pair.0, offset starts place pair.1)) pairs)) ∙ omega (arith, pairs_size starts place pairs)

padded_size : (at : ℕ) (bytes : List ℕ) (n : ℕ) → length bytes ≡ n → length (padding_bytes at ++ bytes) ≡ padding at + n
padded_size at bytes n e = length-append (padding_bytes at) bytes ∙ omega (arith, length-replicate {A = ℕ} (padding at) 0, e)

table_size : (starts : List ℕ) (place : ℕ) (a : Arg) → length (table_bytes (items_in (operand_of starts place a))) ≡ 12 + 4 * table_keys a
table_size starts place (arg.Table default (low, ns)) = omega (arith, offsets_size starts place ns)
table_size starts place (arg.Lookup default pairs) = refl
table_size starts place (arg.To n) = refl
table_size starts place a = refl

lookup_size : (starts : List ℕ) (place : ℕ) (a : Arg) → length (lookup_bytes (operand_of starts place a)) ≡ 8 + 8 * lookup_keys a
lookup_size starts place (arg.Lookup default pairs) = omega (arith, pairs_size starts place pairs)
lookup_size starts place a = refl

formed_sized : (o : Option Form) (wide : Bool) (starts : List ℕ) (place at : ℕ) (a : Arg) → length (formed_bytes o wide at (operand_of starts place a)) ≡ formed_size o wide at a
formed_sized None wide starts place at a = refl
formed_sized (Some form.Increment) true starts place at a = refl
formed_sized (Some form) true starts place at a = refl
formed_sized (Some form.Table) false starts place at a = padded_size at (table_bytes (items_in (operand_of starts place a))) (12 + 4 * table_keys a) (table_size starts place a)
formed_sized (Some form.Lookup) false starts place at a = padded_size at (lookup_bytes (operand_of starts place a)) (8 + 8 * lookup_keys a) (lookup_size starts place a)
formed_sized (Some form) false starts place at a = refl

raw_sized_by : (starts : List ℕ) (place : ℕ) (insn : Insn) (wide : Bool) → insn.wide ≡ wide → length (raw_bytes place (raw_of starts place insn)) ≡ size_at place insn
raw_sized_by starts place insn true w = rw w (omega (arith, formed_sized (form_of insn.op) true starts place (place + 2) insn.arg))
raw_sized_by starts place insn false w = rw w (omega (arith, formed_sized (form_of insn.op) false starts place (place + 1) insn.arg))

pub raw_sized : (starts : List ℕ) (place : ℕ) (insn : Insn) → length (raw_bytes place (raw_of starts place insn)) ≡ size_at place insn
raw_sized starts place insn = raw_sized_by starts place insn insn.wide refl

-- ---- places

pub length-places_from : (place : ℕ) (insns : List Insn) → length (places_from place insns) ≡ length insns
length-places_from place [] = refl
length-places_from place (insn ∷ insns) = ap suc (length-places_from (place + size_at place insn) insns)

pub places_near : (place : ℕ) (insns : List Insn) (i : ℕ) → get_or (places_from place insns) i 0 ≤ end_from place insns
places_near place [] i = omega arith
places_near place (insn ∷ insns) zero = omega (arith, end_is_behind (place + size_at place insn) insns)
places_near place (insn ∷ insns) (suc i) = places_near (place + size_at place insn) insns i

pub starts_near : (insns : List Insn) (starts : List ℕ) → starts ≡ places insns → code_length insns < 2 ^ 16 → AreNear starts
starts_near insns starts same room = λ i. subst (λ (s : List ℕ). get_or s i 0 < 2 ^ 16) (sym same) (omega (arith, places_near 0 insns i, room))

pub starts_known : (insns : List Insn) (starts : List ℕ) → starts ≡ places insns → All (HasTargets (length insns)) insns → All (HasTargets (length starts)) insns
starts_known insns starts same known = let count : length insns ≡ length starts = sym (ap (λ (s : List ℕ). length s) same ∙ length-places_from 0 insns) in subst (λ (n : ℕ). All (HasTargets n) insns) count known
