use Rattle.std.proofs.Common.{refl, subst}
use Rattle.class_link.specs.View.{method_ref_of}
use Rattle.jvm_link.specs.Sites.{DeclaresMethod}
use Rattle.jvm_link.proofs.Reaching.{site_not_below, site_no_reach, site_overrides}
use Rattle.jvm_link.proofs.overriding.overriding_site.Goals as goal

pub returns-then-not-stands_below-clause-site : goal.returns-then-not-stands_below-clause-site
returns-then-not-stands_below-clause-site c = site_not_below c.args.program.now (method_ref_of c.args.reference.now) c.args.over.0 c.args.classes.now c.args.class.0 c.args.wide c.len-len.ensures.form c.requires.class c.requires.over c.if-class-over.false c.stands_below.result c.stands_below.ensures c.if-not-stands_below.true

pub returns-then-not-reaches-clause-site : goal.returns-then-not-reaches-clause-site
returns-then-not-reaches-clause-site c = site_no_reach c.args.program.now (method_ref_of c.args.reference.now) c.args.over.0 c.args.classes.now c.args.class.0 c.args.wide c.len-len.ensures.form c.requires.class c.requires.over c.if-class-over.false c.reaches.result c.reaches.ensures.reach c.if-not-reaches.true

pub returns-clause-site : goal.returns-clause-site
returns-clause-site c =
    let p = c.args.program.now in
    let r = method_ref_of c.args.reference.now in
    let named = subst (λ n. DeclaresMethod p c.args.class.0 n c.deref-2.result.now c.in-Some.place) c.deref.ensures c.in-Some.ensures.some in
    let both = subst (λ d. DeclaresMethod p c.args.class.0 r.name d c.in-Some.place) c.deref-2.ensures named in
    site_overrides p r c.args.over.0 c.args.classes.now c.args.class.0 c.args.wide _ refl c.len-len.ensures.form c.requires.class c.requires.over c.if-class-over.false both c.stands_below.result c.stands_below.ensures c.if-not-stands_below.false c.reaches.result c.reaches.ensures.reach c.if-not-reaches.false
