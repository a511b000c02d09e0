use Rattle.std.proofs.Common.{◌∙◌, sym}
use Rattle.type_verifier.proofs.Stands.{new_there, none_there}
use Rattle.type_verifier.proofs.method.is_new_at.Goals as goal

pub returns-in-Some : goal.returns-in-Some
returns-in-Some c =
    let es = c.args.method.now.linked.now.entries in
    let ss = c.args.method.now.code.now.switches in
    c.is_new.ensures ss ∙ sym (new_there es ss c.args.method.now.code.now.instructions c.args.at c.in-Some.instruction.now c.in-Some.ensures)

pub returns-in-None : goal.returns-in-None
returns-in-None c =
    none_there c.args.method.now.linked.now.entries c.args.method.now.code.now.switches c.args.method.now.code.now.instructions c.args.at c.in-None.ensures
