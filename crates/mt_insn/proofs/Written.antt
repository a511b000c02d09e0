-- Bytes written one after the other.
use Rattle.std.proofs.Common.{◌≡◌, ℕ, zero, suc, ◌+◌, ◌<◌, ◌^◌, Bool, true, false, List, [], ◌∷◌, ◌++◌, length, map, Result, Ok, Err, drop, refl, sym, ap, ◌∙◌, append_assoc, slice_index_or, arith}
use Rattle.std.specs.Prelude.{ℤ, OnOk, ◌&&◌}
use Rattle.std.specs.List.{AllByRecursion}
use Rattle.class_model.specs.declared.instruction.Insn.{Insn}
use Rattle.codec_rules.specs.Spelling.{spelled_from}
use Rattle.mt_insn.specs.Opcode.{form_of}
use Rattle.mt_insn.specs.Spelling.{raw_bytes}
use Rattle.mt_insn.specs.Code.{size_at, end_from, offset, target_in, jump_fits, jumps_fit, raw_of, raws_from}
use Rattle.mt_insn.proofs.Sizes.{end_is_behind, raw_sized}

pub OnOk-map : {T E : Type 0} (r : Result T E) (P Q : Type 0) → (P → Q) → OnOk r P → OnOk r Q
OnOk-map (Ok x) P Q f p = f p
OnOk-map (Err e) P Q f p = tt

pub regroup_table : (out padding default low high offsets : List ℕ) → ((((out ++ padding) ++ default) ++ (low ++ high)) ++ offsets) ≡ out ++ (padding ++ (default ++ (low ++ (high ++ offsets))))
regroup_table out padding default low high offsets = simp append_assoc refl

-- the instructions to which the keys of a look-up lead are those of the code
pub pairs_below : (count : ℕ) (pairs : List (ℤ × ℕ)) → AllByRecursion (λ n. (n < count) × (n < 2 ^ 32)) (map (λ pair. pair.1) pairs) → (k : ℕ) (d : ℤ × ℕ) → k < length pairs → (slice_index_or pairs k d).1 < count
pairs_below count [] q k d lt = absurd (omega arith)
pairs_below count (pair ∷ pairs) q zero d lt = q.0.0
pairs_below count (pair ∷ pairs) q (suc k) d lt = pairs_below count pairs q.1 k d (omega arith)

pub regroup_wide : (out wide op operand : List ℕ) → ((out ++ wide) ++ op) ++ operand ≡ out ++ (wide ++ (op ++ operand))
regroup_wide out wide op operand = simp append_assoc refl

-- ---- a turn of a loop over instructions, from a place on

pub place_near : (insns : List Insn) (i place total : ℕ) → end_from place (drop i insns) ≡ total → total < 2 ^ 16 → place < 2 ^ 16
place_near insns i place total so_far room = omega (arith, end_is_behind place (drop i insns), so_far)

both_true : (a b : Bool) → a && b ≡ true → (a ≡ true) × (b ≡ true)
both_true true b e = (refl, e)
both_true false b e = absurd cc

pub jumps_move : (starts : List ℕ) (insns : List Insn) (i place : ℕ) (insn : Insn) → drop i insns ≡ insn ∷ drop (i + 1) insns → jumps_fit starts place (drop i insns) ≡ true
    → (jump_fits (form_of insn.op) insn.wide (offset starts place (target_in insn.arg)) ≡ true) × (jumps_fit starts (place + size_at place insn) (drop (i + 1) insns) ≡ true)
jumps_move starts insns i place insn cut so_far = both_true _ _ (sym (ap (jumps_fit starts place) cut) ∙ so_far)

pub out_moves : (starts : List ℕ) (insns : List Insn) (i place : ℕ) (insn : Insn) (out whole : List ℕ) → drop i insns ≡ insn ∷ drop (i + 1) insns
    → out ++ spelled_from raw_bytes place (raws_from starts place (drop i insns)) ≡ whole
    → (out ++ raw_bytes place (raw_of starts place insn)) ++ spelled_from raw_bytes (place + size_at place insn) (raws_from starts (place + size_at place insn) (drop (i + 1) insns)) ≡ whole
out_moves starts insns i place insn out whole cut so_far =
    let r = raw_of starts place insn in
    let rest = raws_from starts (place + size_at place insn) (drop (i + 1) insns) in
    append_assoc out (raw_bytes place r) (spelled_from raw_bytes (place + size_at place insn) rest)
    ∙ ap (λ (n : ℕ). out ++ (raw_bytes place r ++ spelled_from raw_bytes (place + n) rest)) (sym (raw_sized starts place insn))
    ∙ sym (ap (λ (insns : List Insn). out ++ spelled_from raw_bytes place (raws_from starts place insns)) cut)
    ∙ so_far
