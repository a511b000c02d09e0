use Rattle.std.proofs.Common.{◌∙◌, ap, subst}
use Rattle.class_link.specs.declared.linked.LinkedCode.{LinkedCode}
use Rattle.jvm_code.specs.Decoded.{AreDecoded}
use Rattle.jvm_act.proofs.Coded.{code_is}
use Rattle.jvm_act.proofs.codes.method_code.Goals as goal

pub returns : goal.returns
returns c =
    let p = c.args.p.now in
    let code = c.in_ok-decoded.decoded in
    let value = c.deref.ensures ∙ c.in_ok-linked.ensures in
    let ops = subst (λ is. AreDecoded is code.ops.items code.longs.items) (c.as_slice.ensures ∙ ap (λ (l : LinkedCode). l.instructions) value) c.in_ok-decoded.ensures in
    code_is p c.args.class.0 c.args.place c.args.method.now c.args.code.now
    (record { linked = c.in_ok-linked.linked; code = code; handlers = c.in_ok-handlers.handlers; result = c.in_ok-result.result })
    c.requires.there c.requires.body c.in_ok-linked.ensures c.in_ok-result.ensures ops c.in_ok-handlers.ensures
