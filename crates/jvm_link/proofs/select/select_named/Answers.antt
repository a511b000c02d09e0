use Rattle.std.proofs.Common.{subst}
use Rattle.class_link.specs.View.{method_ref_of}
use Rattle.jvm_link.specs.Answers.{FirstVirtual}
use Rattle.jvm_link.proofs.Selecting.{named_here, named_above}
use Rattle.jvm_link.proofs.select.select_named.Goals as goal

pub returns-in-Some : goal.returns-in-Some
returns-in-Some c =
    let p = c.args.program.now in
    let r = method_ref_of c.args.reference.now in
    let some = subst (FirstVirtual p c.lowest-start.result.0 r) c.in-Some.is c.first_virtual.ensures in
    named_here p r c.args.id.0 c.args.array c.lowest-start.result.0 c.lowest-start.ensures.rising _ some

pub returns : goal.returns
returns c =
    let p = c.args.program.now in
    let r = method_ref_of c.args.reference.now in
    let none = subst (FirstVirtual p c.lowest-start.result.0 r) c.in_default.is c.first_virtual.ensures in
    named_above p r c.args.id.0 c.args.array c.lowest-start.result.0 c.lowest-start.ensures.rising _ none c.in_ok-answer.ensures
