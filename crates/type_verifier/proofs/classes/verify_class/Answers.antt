use Rattle.std.proofs.Common.{◌≡◌, subst}
use Rattle.type_verifier.specs.Programs.{ClassFaultIs, IsRefused}
use Rattle.type_verifier.proofs.classes.verify_class.Goals as goal

pub returns-in-None-clause-yes : goal.returns-in-None-clause-yes
returns-in-None-clause-yes c = subst (ClassFaultIs c.args.program.now c.args.id.0) c.in-None.is c.in_ok-fault.ensures

pub returns-in-Some-clause-no : goal.returns-in-Some-clause-no
returns-in-Some-clause-no c f e =
    let same : c.in-Some.fault ≡ f = cc in
    subst (IsRefused c.args.program.now c.args.id.0) same (subst (ClassFaultIs c.args.program.now c.args.id.0) c.in-Some.is c.in_ok-fault.ensures)
