use Rattle.std.proofs.Common.{◌∙◌, ◌+◌, ◌<◌, sym, length, refl, ap, subst, arith}
use Rattle.std.specs.Prelude.{IfSome}
use Rattle.program_rules.specs.Layout.{values_of}
use Rattle.class_model.specs.declared.class.ClassId.{ClassId}
use Rattle.jvm_layout.specs.Layouts.{rising_from}
use Rattle.jvm_layout.proofs.Climbing.{rises}
use Rattle.jvm_layout.proofs.SlotCounts.{count_full, count_on}
use Rattle.jvm_layout.proofs.slots.count_up.Goals as goal

pub count_declared-more-requires : goal.count_declared-more-requires
count_declared-more-requires c = subst (λ o. IfSome o (λ (a : ClassId). a.0 < length c.args.p.now)) c.in-Some.is c.loop-next.invariant.within

pub superclass-over-requires : goal.superclass-over-requires
superclass-over-requires c = subst (λ o. IfSome o (λ (a : ClassId). a.0 < length c.args.p.now)) c.in-Some.is c.loop-next.invariant.within

pub loop-next-smaller : goal.loop-next-smaller
loop-next-smaller c =
    let p = c.args.p.now in
    let e = ap length (rises p c.in-Some.here.0 c.superclass-over.result c.superclass-over.ensures.goes_on c.superclass-over.ensures.ends) in
    let q = ap (λ o. length (rising_from p o)) c.in-Some.is in
    omega (arith, e, q)

pub loop-next-preserved : goal.loop-next-preserved
loop-next-preserved c =
    let p = c.args.p.now in
    let up = ap (rising_from p) c.in-Some.is ∙ rises p c.in-Some.here.0 c.superclass-over.result c.superclass-over.ensures.goes_on c.superclass-over.ensures.ends in
    record {
      within = c.superclass-over.ensures.within;
      count = sym (count_on p c.in-Some.here.0 c.loop-next.next c.superclass-over.result c.loop-next.count c.count_declared-more.result c.in-Some-add.sum up c.count_declared-more.ensures c.in-Some-add.ensures.some) ∙ c.loop-next.invariant.count;
    }

pub loop-next-init : goal.loop-next-init
loop-next-init c = record { within = c.requires; count = refl }

pub returns-in_default-add-clause-none : goal.returns-in_default-add-clause-none
returns-in_default-add-clause-none c =
    let p = c.args.p.now in
    let total = c.args.own + length (values_of (rising_from p c.args.from)) in
    count_full p c.in-Some.here c.loop-next.next c.superclass-over.result c.loop-next.count c.count_declared-more.result total c.in-Some.is
    c.superclass-over.ensures.goes_on c.superclass-over.ensures.ends c.count_declared-more.ensures c.in_default-add.ensures.none c.loop-next.invariant.count
