use Rattle.std.proofs.Common.{◌≡◌, Some, None, subst}
use Rattle.std.specs.Prelude.{IfSome, IfNone}
use Rattle.program_rules.specs.Linked.{method_place}
use Rattle.class_link.specs.declared.linked.LinkedClass.{LinkedClass}
use Rattle.class_link.specs.Info.{class_of}
use Rattle.class_link.specs.View.{linked_of}
use Rattle.jvm_link.proofs.Members.{some_method, no_method}
use Rattle.jvm_link.proofs.methods.declared_method.Goals as goal

pub returns-clause-some : goal.returns-clause-some
returns-clause-some c =
    let found = subst (λ (l : LinkedClass). IfSome c.method_place.result (λ place. method_place c.args.name.now c.args.desc.now (linked_of l).methods ≡ Some place)) c.linked.ensures.value c.method_place.ensures.found in
    some_method c.args.program.now c.args.id.0 c.args.name.now c.args.desc.now (class_of c.info.result.now) c.method_place.result c.info.ensures.class found

pub returns-clause-none : goal.returns-clause-none
returns-clause-none c =
    let absent = subst (λ (l : LinkedClass). IfNone c.method_place.result (method_place c.args.name.now c.args.desc.now (linked_of l).methods ≡ None)) c.linked.ensures.value c.method_place.ensures.absent in
    no_method c.args.program.now c.args.id.0 c.args.name.now c.args.desc.now (class_of c.info.result.now) c.method_place.result c.info.ensures.class absent
