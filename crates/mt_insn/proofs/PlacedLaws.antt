-- Instructions and their places, up to the last byte.
use Rattle.std.proofs.Common.{◌≡◌, ℕ, zero, suc, ◌+◌, ◌^◌, ◌<◌, ◌≤◌, List, [], ◌∷◌, length, get_or, Ok, refl, ap, subst, ◌∙◌, arith}
use Rattle.std.specs.List.{AllByRecursion}
use Rattle.std.proofs.lemmas.List.{length-append}
use Rattle.class_model.specs.declared.constant.Const.{Const}
use Rattle.class_model.specs.declared.fault.ClassFault.{ClassFault}
use Rattle.codec_rules.specs.Input.{Input, IsBytes}
use Rattle.codec_rules.specs.Meets.{Fails}
use Rattle.codec_rules.specs.Reading.{Shortens, until_end}
use Rattle.codec_rules.specs.Spelling.{input_at}
use Rattle.codec_rules.proofs.Sequence.{bind_ok, ok_is}
use Rattle.codec_rules.proofs.Whole.{codec_shortens, whole_all}
use Rattle.mt_insn.specs.Reading.{insn_at}
use Rattle.mt_insn.specs.Spelling.{raw_bytes, IsRaw}
use Rattle.mt_insn.specs.Order.{Ascends}
use Rattle.mt_insn.specs.Targets.{placed_at, starts_of}
use Rattle.mt_insn.specs.declared.raw.Placed.{Placed}
use Rattle.mt_insn.specs.declared.raw.RawInsn.{RawInsn}
use Rattle.mt_insn.proofs.Insns.{insn_codec, insn_filled}

abbrev pub placed : ℕ → RawInsn → Placed
placed place insn = record { place = place; insn = insn }

-- what was read with its place was read
pub placed_parts : (base : ℕ) (pool : List Const) (input : Input) (p : Placed) (rest : Input) → placed_at base pool input ≡ Ok (p, rest) → (insn_at base pool input ≡ Ok (p.insn, rest)) × (p.place ≡ input.at)
placed_parts base pool input p rest e =
    let a = bind_ok (insn_at base pool input) (λ insn. Ok (placed input.at insn.0, insn.1)) (p, rest) e in
    let m : Placed × Input = (placed input.at a.0.0, a.0.1) in
    let same = ok_is {F = ClassFault} m (p, rest) a.2 in
    (subst (λ (z : Placed × Input). insn_at base pool input ≡ Ok (z.0.insn, z.1)) same a.1, subst (λ (z : Placed × Input). z.0.place ≡ input.at) same refl)

pub placed_there : (base : ℕ) (pool : List Const) (input : Input) (insn : RawInsn) (rest : Input) → insn_at base pool input ≡ Ok (insn, rest) → placed_at base pool input ≡ Ok (placed input.at insn, rest)
placed_there base pool input insn rest e = rw e refl

pub insn_shortens : (base : ℕ) (pool : List Const) → Shortens (insn_at base pool)
insn_shortens base pool = codec_shortens (insn_at base pool) raw_bytes (IsRaw pool) (insn_codec base pool) (insn_filled pool)

pub placed_shortens : (base : ℕ) (pool : List Const) → Shortens (placed_at base pool)
placed_shortens base pool = λ input p rest bytes e. insn_shortens base pool input p.insn rest bytes (placed_parts base pool input p rest e).0

-- as many bytes are behind as were passed
pub insn_moves : (base : ℕ) (pool : List Const) (input : Input) (insn : RawInsn) (rest : Input) → IsBytes input.bytes → insn_at base pool input ≡ Ok (insn, rest) → rest.at + length rest.bytes ≡ input.at + length input.bytes
insn_moves base pool input insn rest bytes e =
    let t = (insn_codec base pool).takes input insn rest bytes e in
    let len : length input.bytes ≡ length (raw_bytes input.at insn) + length rest.bytes = ap (λ (x : List ℕ). length x) t.0.parts ∙ length-append (raw_bytes input.at insn) rest.bytes in
    omega (arith, t.0.place, len)

pub placed_fails : (base : ℕ) (pool : List Const) (input : Input) (lack fault : ClassFault) → Fails lack fault (insn_at base pool input) → Fails lack fault (placed_at base pool input)
placed_fails base pool input lack fault given = λ known. rw (given known) refl

-- ---- places

-- the places lie from one place up to another, each past the one before
abbrev Within : ℕ → ℕ → List Placed → Type 0
Within low high [] = Unit {0}
Within low high (p ∷ ps) = (low ≤ p.place) × (p.place < high) × Within (p.place + 1) high ps

within_lower : (lower low high : ℕ) (ps : List Placed) → lower ≤ low → Within low high ps → Within lower high ps
within_lower lower low high [] le q = tt
within_lower lower low high (p ∷ ps) le q = (omega (arith, q.0), q.1, q.2)

within_moves : (base : ℕ) (pool : List Const) (i : Input) (p : Placed) (rest : Input) (ps : List Placed) → IsBytes i.bytes → placed_at base pool i ≡ Ok (p, rest) → Within rest.at (rest.at + length rest.bytes) ps → Within i.at (i.at + length i.bytes) (p ∷ ps)
within_moves base pool i p rest ps bytes e q =
    let parts = placed_parts base pool i p rest e in
    let moves = insn_moves base pool i p.insn rest bytes parts.0 in
    let less = (insn_shortens base pool i p.insn rest bytes parts.0).0 in
    let there : Within rest.at (i.at + length i.bytes) ps = subst (λ (n : ℕ). Within rest.at n ps) moves q in
    (omega (arith, parts.1), omega (arith, parts.1, less), within_lower (p.place + 1) rest.at (i.at + length i.bytes) ps (omega (arith, parts.1, moves, less)) there)

pub are_within : (base : ℕ) (pool : List Const) (bytes : List ℕ) (ps : List Placed) → IsBytes bytes → until_end (placed_at base pool) (input_at 0 bytes) ≡ Ok ps → Within 0 (0 + length bytes) ps
are_within base pool bytes ps fits e =
    whole_all (placed_at base pool) (λ i ps. Within i.at (i.at + length i.bytes) ps) (placed_shortens base pool) (λ i none. tt) (within_moves base pool) (length bytes) (input_at 0 bytes) ps (omega arith) fits e

start_within : (low high : ℕ) (ps : List Placed) → Within low high ps → (j : ℕ) → j < length ps → low ≤ get_or (starts_of ps) j 0
start_within low high [] q j lt = absurd (omega arith)
start_within low high (p ∷ ps) q zero lt = q.0
start_within low high (p ∷ ps) q (suc j) lt = omega (arith, q.0, start_within (p.place + 1) high ps q.2 j (omega arith))

ascends_within : (low high : ℕ) (ps : List Placed) → Within low high ps → (i j : ℕ) → i < j → j < length ps → get_or (starts_of ps) i 0 < get_or (starts_of ps) j 0
ascends_within low high [] q i j less lt = absurd (omega arith)
ascends_within low high (p ∷ ps) q i zero less lt = absurd (omega arith)
ascends_within low high (p ∷ ps) q zero (suc j) less lt = omega (arith, start_within (p.place + 1) high ps q.2 j (omega arith))
ascends_within low high (p ∷ ps) q (suc i) (suc j) less lt = ascends_within (p.place + 1) high ps q.2 i j (omega arith) (omega arith)

length-starts_of : (ps : List Placed) → length (starts_of ps) ≡ length ps
length-starts_of [] = refl
length-starts_of (p ∷ ps) = ap suc (length-starts_of ps)

pub starts_ascend : (low high : ℕ) (ps : List Placed) → Within low high ps → Ascends (starts_of ps)
starts_ascend low high ps q = λ i j less lt. ascends_within low high ps q i j less (omega (arith, length-starts_of ps))

pub places_fit : (base low high : ℕ) (ps : List Placed) → base + high < 2 ^ 64 → Within low high ps → AllByRecursion (λ p. base + p.place < 2 ^ 64) ps
places_fit base low high [] room q = tt
places_fit base low high (p ∷ ps) room q = (omega (arith, q.1), places_fit base (p.place + 1) high ps room q.2)
