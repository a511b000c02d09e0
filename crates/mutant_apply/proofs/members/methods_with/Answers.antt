use Rattle.std.proofs.Common.{◌≡◌, ◌∙◌, ap, subst, rules, IfOk, List, Some, slice_get, slice_set}
use Rattle.class_model.specs.declared.class.Member.{Member}
use Rattle.mutant_apply.specs.Edited.{member_with}
use Rattle.mutant_apply.proofs.Lists.{changed_set}
use Rattle.mutant_apply.proofs.members.methods_with.Goals as goal

pub returns-in_ok-member_with-in-Some : goal.returns-in_ok-member_with-in-Some
returns-in_ok-member_with-in-Some c =
    let methods = c.args.class.now.methods in
    let at = c.args.edit.now.method in
    let found : slice_get methods at ≡ Some c.in-Some.member.now = search rules in
    let is = ap (slice_set methods at) c.in_ok-member_with-in-Some.ensures ∙ changed_set (member_with c.args.new.now) methods at c.in-Some.member.now found in
    subst (λ (l : List Member). IfOk c.with_item.result (λ edited. edited ≡ l)) is c.with_item.ensures
