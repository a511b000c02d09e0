use Rattle.std.proofs.Common.{◌∙◌, refl, ap, subst}
use Rattle.program_rules.specs.Selection.{first_through, if_virtual}
use Rattle.class_link.specs.View.{method_ref_of}
use Rattle.jvm_link.specs.Sites.{rising_from}
use Rattle.jvm_link.specs.Answers.{VirtualOf}
use Rattle.jvm_link.proofs.Found.{class_within, fewer_left, upwards}
use Rattle.jvm_link.proofs.Selecting.{through_passed, through_here}
use Rattle.jvm_link.proofs.select.first_virtual.Goals as goal

pub virtual_site-requires : goal.virtual_site-requires
virtual_site-requires c = class_within c.args.program.now _ _ c.loop-next.invariant.within c.in-Some.is

pub superclass-next-requires : goal.superclass-next-requires
superclass-next-requires c = class_within c.args.program.now _ _ c.loop-next.invariant.within c.in-Some.is

pub loop-next-smaller : goal.loop-next-smaller
loop-next-smaller c = fewer_left c.args.program.now _ _ _ c.in-Some.is c.superclass-next.ensures.goes_on c.superclass-next.ensures.ends

pub loop-next-preserved : goal.loop-next-preserved
loop-next-preserved c =
    let p = c.args.program.now in
    let r = method_ref_of c.args.reference.now in
    let none = subst (VirtualOf p c.in-Some.class.0 r) c.in_default-virtual_site.is c.virtual_site.ensures in
    record {
      within = c.superclass-next.ensures.within;
      rest =
          c.loop-next.invariant.rest ∙ ap (λ o. first_through if_virtual r (rising_from p o)) c.in-Some.is
          ∙ through_passed p r if_virtual c.in-Some.class.0 c.superclass-next.result (upwards p c.in-Some.class.0 c.superclass-next.result c.superclass-next.ensures.goes_on c.superclass-next.ensures.ends) none;
    }

pub returns-in-Some-virtual_site : goal.returns-in-Some-virtual_site
returns-in-Some-virtual_site c =
    let p = c.args.program.now in
    let r = method_ref_of c.args.reference.now in
    let some = subst (VirtualOf p c.in-Some.class.0 r) c.in-Some-virtual_site.is c.virtual_site.ensures in
    through_here p r if_virtual _ c.in-Some.class.0 _ c.len-len.ensures.form (c.loop-next.invariant.rest ∙ ap (λ o. first_through if_virtual r (rising_from p o)) c.in-Some.is) some

pub returns : goal.returns
returns c = c.loop-next.invariant.rest ∙ ap (λ o. first_through if_virtual (method_ref_of c.args.reference.now) (rising_from c.args.program.now o)) c.in_default.is

pub loop-next-init : goal.loop-next-init
loop-next-init c = record { within = c.requires; rest = refl }
