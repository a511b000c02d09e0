use Rattle.std.proofs.Common.{◌++◌, ap, sym, List, ℕ, ◌∙◌}
use Rattle.mt_insn.specs.Spelling.{u1, wide_bytes}
use Rattle.mt_insn.specs.declared.raw.Operand.TheVariants as operand
use Rattle.mt_insn.proofs.Forms.{wide_raw}
use Rattle.mt_insn.proofs.Written.{OnOk-map, regroup_wide}
use Rattle.mt_insn.proofs.write.write_insn.Goals as goal

pub returns-in_ok-put_u1-in-Some-2 : goal.returns-in_ok-put_u1-in-Some-2
returns-in_ok-put_u1-in-Some-2 c =
    let out = c.args.out.now in
    let insn = c.args.insn.now in
    let form = c.in-Some.form in
    let bytes = wide_bytes form (operand.Done insn.arg) in
    let spelled = wide_raw c.args.starts.now c.args.place insn form (sym c.form_of.ensures ∙ c.in-Some.is) c.if-insn.true c.requires.form in
    let before = c.in_ok-put_u1-in-Some-2.ensures ∙ ap (λ (x : List ℕ). x ++ u1 insn.op) c.in_ok-put_u1-in-Some.ensures in
    OnOk-map c.write_wide.result _ _ (λ e. e ∙ ap (λ (x : List ℕ). x ++ bytes) before ∙ regroup_wide out (u1 0xc4) (u1 insn.op) bytes ∙ sym (ap (λ (x : List ℕ). out ++ x) spelled)) c.write_wide.ensures
