use Rattle.std.proofs.Common.{◌∙◌, sym, subst}
use Rattle.class_link.specs.View.{method_ref_of}
use Rattle.jvm_link.specs.Candidates.{AreSearched}
use Rattle.jvm_link.specs.Overriding.{FirstOver}
use Rattle.jvm_link.proofs.Virtual.{private_itself, virtual_here, virtual_above}
use Rattle.jvm_link.proofs.select.select_of.Goals as goal

pub returns-then-is_private : goal.returns-then-is_private
returns-then-is_private c =
    private_itself c.args.program.now c.args.id.0 c.args.array (method_ref_of c.args.reference.now) c.args.site c.flags_at-flags.result c.flags_at-flags.ensures (sym c.is_private.ensures ∙ c.if-is_private.true)

pub first_overriding-requires-clause-classes : goal.first_overriding-requires-clause-classes
first_overriding-requires-clause-classes c =
    (subst (AreSearched c.args.program.now c.args.id.0 c.args.array) (sym c.classes-classes.ensures) c.in_ok-search.ensures).within

pub returns-in-Some : goal.returns-in-Some
returns-in-Some c =
    let p = c.args.program.now in
    let r = method_ref_of c.args.reference.now in
    let ids = c.classes-classes.result.now in
    let start = c.lowest-start.result.0 in
    let searched = subst (AreSearched p c.args.id.0 c.args.array) (sym c.classes-classes.ensures) c.in_ok-search.ensures in
    virtual_here p c.args.id.0 c.args.array r c.len-len.ensures.form c.args.site c.flags_at-flags.result start ids c.flags_at-flags.ensures
    (sym c.is_private.ensures ∙ c.if-is_private.false) searched c.lowest-start.ensures.rising c.is_open-wide.result c.is_open-wide.ensures _
    (subst (FirstOver p r c.args.site.class.0 c.is_open-wide.result ids start) c.in-Some.is c.first_overriding.ensures)

pub returns : goal.returns
returns c =
    let p = c.args.program.now in
    let r = method_ref_of c.args.reference.now in
    let ids = c.classes-classes.result.now in
    let start = c.lowest-start.result.0 in
    let searched = subst (AreSearched p c.args.id.0 c.args.array) (sym c.classes-classes.ensures) c.in_ok-search.ensures in
    virtual_above p c.args.id.0 c.args.array r c.len-len.ensures.form c.args.site c.flags_at-flags.result start ids c.flags_at-flags.ensures
    (sym c.is_private.ensures ∙ c.if-is_private.false) searched c.lowest-start.ensures.rising c.is_open-wide.result c.is_open-wide.ensures _
    (subst (FirstOver p r c.args.site.class.0 c.is_open-wide.result ids start) c.in_default.is c.first_overriding.ensures) c.in_ok-answer.ensures
