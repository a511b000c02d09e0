use Rattle.std.proofs.Common.{◌≡◌, ℕ, ◌+◌, List, Ok, refl, sym, subst, false, eqb}
use Rattle.std.proofs.lemmas.Bool.{ne_eqb}
use Rattle.class_model.specs.declared.constant.Const.{Const}
use Rattle.class_model.specs.declared.fault.ClassFault.TheVariants as fault
use Rattle.codec_rules.specs.Input.{Input}
use Rattle.codec_rules.proofs.Meets.{Reads-along}
use Rattle.mt_insn.specs.Item.{u1_in}
use Rattle.mt_insn.specs.Opcode.{form_of}
use Rattle.mt_insn.specs.Reading.{formed_at, insn_at}
use Rattle.mt_insn.proofs.read.read_insn.Goals as goal

abbrev GoesByForm : ℕ → List Const → Input → ℕ → Input → ℕ → Type 0
GoesByForm base pool old op middle at = u1_in (base + at) old ≡ Ok (op, middle) → (op ≡ 0xc4 → ⊥) → insn_at base pool old ≡ formed_at base pool (base + at) op (form_of op) middle

-- an opcode other than wide tells what stands behind it
goes_by_form : (base : ℕ) (pool : List Const) (old : Input) (op : ℕ) (middle : Input) → GoesByForm base pool old op middle old.at
unfolding insn_at
goes_by_form base pool old op middle = λ read plain.
    let other : eqb op 0xc4 ≡ false = ne_eqb op 0xc4 plain in
    rw (read, other) refl

pub returns-else-op : goal.returns-else-op
returns-else-op c =
    let at = c.args.base + c.place.result in
    let inner = formed_at c.args.base c.args.pool.now at c.in_ok-op.op (form_of c.in_ok-op.op) in
    let same = subst (GoesByForm c.args.base c.args.pool.now c.args.code.now c.in_ok-op.op c.u1.new.self) (sym c.place.ensures.place) (goes_by_form c.args.base c.args.pool.now c.args.code.now c.in_ok-op.op c.u1.new.self) c.in_ok-op.ensures c.if-op.false in
    Reads-along fault.Memory (insn_at c.args.base c.args.pool.now) inner c.args.code.now c.u1.new.self c.read_formed.new.code c.read_formed.result same c.read_formed.ensures
