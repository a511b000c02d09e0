use Rattle.std.proofs.Common.{◌≡◌, ◌∙◌, false, true, refl, sym, subst}
use Rattle.class_link.specs.View.{method_ref_of}
use Rattle.jvm_link.specs.Overriding.{Takes}
use Rattle.jvm_link.proofs.Found.{class_within, fewer_left, upwards}
use Rattle.jvm_link.proofs.Virtual.{StillFirst, ShutFrom, over_passed, over_here, shut_up}
use Rattle.jvm_link.proofs.select.first_overriding.Goals as goal

pub overriding_site-requires-clause-class : goal.overriding_site-requires-clause-class
overriding_site-requires-clause-class c = class_within c.args.program.now _ _ c.loop-next.invariant.within c.in-Some.is

pub overriding_site-requires-clause-shut : goal.overriding_site-requires-clause-shut
overriding_site-requires-clause-shut c = subst (ShutFrom c.args.program.now (method_ref_of c.args.reference.now) c.args.over.0 c.args.wide c.args.classes.now c.loop-next.shut) c.in-Some.is c.loop-next.invariant.shut

pub superclass-next-requires : goal.superclass-next-requires
superclass-next-requires c = class_within c.args.program.now _ _ c.loop-next.invariant.within c.in-Some.is

pub loop-next-init : goal.loop-next-init
loop-next-init c = record { within = c.requires.start; rest = λ m is. refl; shut = λ e. absurd cc }

pub loop-next-smaller : goal.loop-next-smaller
loop-next-smaller c = fewer_left c.args.program.now _ _ _ c.in-Some.is c.superclass-next.ensures.goes_on c.superclass-next.ensures.ends

pub loop-next-preserved : goal.loop-next-preserved
loop-next-preserved c =
    let p = c.args.program.now in
    let r = method_ref_of c.args.reference.now in
    let over = c.args.over.0 in
    let ids = c.args.classes.now in
    let a = c.in-Some.class.0 in
    let up = c.superclass-next.result in
    let none = subst (Takes p r over c.args.wide ids a) c.in_default-overriding_site.is c.overriding_site.ensures.site in
    record {
      within = c.superclass-next.ensures.within;
      rest =
          over_passed p r over c.args.wide ids c.args.start.0 a up
          (upwards p a up c.superclass-next.ensures.goes_on c.superclass-next.ensures.ends) none
          (subst (StillFirst p r over c.args.wide ids c.args.start.0) c.in-Some.is c.loop-next.invariant.rest);
      shut = shut_up p r over c.args.wide ids a up _ c.len-len.ensures.form c.superclass-next.ensures.goes_on c.overriding_site.ensures.shut;
    }

pub returns-in-Some-overriding_site : goal.returns-in-Some-overriding_site
returns-in-Some-overriding_site c =
    let p = c.args.program.now in
    let r = method_ref_of c.args.reference.now in
    let over = c.args.over.0 in
    let ids = c.args.classes.now in
    let a = c.in-Some.class.0 in
    let some = subst (Takes p r over c.args.wide ids a) c.in-Some-overriding_site.is c.overriding_site.ensures.site in
    over_here p r over c.args.wide ids c.args.start.0 a _ c.len-len.ensures.form some
    (subst (StillFirst p r over c.args.wide ids c.args.start.0) c.in-Some.is c.loop-next.invariant.rest)

pub returns : goal.returns
returns c = subst (StillFirst c.args.program.now (method_ref_of c.args.reference.now) c.args.over.0 c.args.wide c.args.classes.now c.args.start.0) c.in_default.is c.loop-next.invariant.rest
