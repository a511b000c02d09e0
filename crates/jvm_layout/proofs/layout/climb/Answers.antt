use Rattle.std.proofs.Common.{◌∙◌, ◌<◌, sym, length, ap, subst, arith}
use Rattle.std.specs.Prelude.{IfSome}
use Rattle.class_model.specs.declared.class.ClassId.{ClassId}
use Rattle.jvm_layout.specs.Layouts.{Climbs, rising_from}
use Rattle.jvm_layout.proofs.Climbing.{rises, climbs_on, climbs_first}
use Rattle.jvm_layout.proofs.layout.climb.Goals as goal

pub push_own-requires : goal.push_own-requires
push_own-requires c = subst (λ o. IfSome o (λ (a : ClassId). a.0 < length c.args.p.now)) c.in-Some.is c.loop-next.invariant.within

pub own_words-words-requires : goal.own_words-words-requires
own_words-words-requires c = subst (λ o. IfSome o (λ (a : ClassId). a.0 < length c.args.p.now)) c.in-Some.is c.loop-next.invariant.within

pub superclass-next-requires : goal.superclass-next-requires
superclass-next-requires c = subst (λ o. IfSome o (λ (a : ClassId). a.0 < length c.args.p.now)) c.in-Some.is c.loop-next.invariant.within

pub loop-next-smaller : goal.loop-next-smaller
loop-next-smaller c =
    let p = c.args.p.now in
    let e = ap length (rises p c.in-Some.here.0 c.superclass-next.result c.superclass-next.ensures.goes_on c.superclass-next.ensures.ends) in
    let q = ap (λ o. length (rising_from p o)) c.in-Some.is in
    omega (arith, e, q)

pub loop-next-preserved : goal.loop-next-preserved
loop-next-preserved c =
    let p = c.args.p.now in
    let up = ap (rising_from p) c.in-Some.is ∙ rises p c.in-Some.here.0 c.superclass-next.result c.superclass-next.ensures.goes_on c.superclass-next.ensures.ends in
    record {
      within = c.superclass-next.ensures.within;
      climbs = climbs_on p c.args.class.0 c.loop-next.next c.superclass-next.result c.in-Some.here.0 c.loop-next.values.items c.push_own.new.values.items c.loop-next.extra c.own_words-words.result c.in-Some-add.sum up c.in_ok-push_own.ensures c.own_words-words.ensures c.in-Some-add.ensures c.loop-next.invariant.climbs;
    }

pub returns : goal.returns
returns c = subst (λ o. Climbs c.args.p.now c.args.class.0 o c.loop-next.values.items c.loop-next.extra) c.in_default.is c.loop-next.invariant.climbs

pub loop-next-init : goal.loop-next-init
loop-next-init c = record { within = c.requires.class; climbs = climbs_first c.args.p.now c.args.class c.args.values.now.items c.requires.empty }
