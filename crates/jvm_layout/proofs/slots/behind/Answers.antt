use Rattle.std.proofs.Common.{◌<◌, length, refl, ap, subst, arith}
use Rattle.std.specs.Prelude.{IfSome}
use Rattle.program_rules.specs.Resolution.{superclasses_behind}
use Rattle.class_model.specs.declared.class.ClassId.{ClassId}
use Rattle.class_table.specs.Table.{name_at}
use Rattle.class_family.specs.Families.{rising_at}
use Rattle.jvm_layout.specs.Layouts.{rising_from}
use Rattle.jvm_layout.proofs.Climbing.{rises}
use Rattle.jvm_layout.proofs.SlotCounts.{behind_found, behind_passed}
use Rattle.jvm_layout.proofs.slots.behind.Goals as goal

pub superclass-over-requires : goal.superclass-over-requires
superclass-over-requires c = subst (λ o. IfSome o (λ (a : ClassId). a.0 < length c.args.p.now)) c.in-Some.is c.loop-next.invariant.within

pub loop-next-smaller : goal.loop-next-smaller
loop-next-smaller c =
    let p = c.args.p.now in
    let e = ap length (rises p c.in-Some.here.0 c.superclass-over.result c.superclass-over.ensures.goes_on c.superclass-over.ensures.ends) in
    let q = ap (λ o. length (rising_from p o)) c.in-Some.is in
    omega (arith, e, q)

pub loop-next-init : goal.loop-next-init
loop-next-init c = record { within = c.requires.root; behind = refl }

pub loop-next-preserved : goal.loop-next-preserved
loop-next-preserved c =
    let p = c.args.p.now in
    let whole = superclasses_behind (name_at p c.args.class.0) (rising_at p c.args.root.0) in
    record {
      within = c.superclass-over.ensures.within;
      behind = behind_passed p whole c.args.class c.in-Some.here c.loop-next.next c.superclass-over.result c.is_same.result c.len-len.ensures.form c.requires.class
          c.loop-next.invariant.within c.in-Some.is c.superclass-over.ensures.goes_on c.superclass-over.ensures.ends c.is_same.ensures c.if-is_same.false c.loop-next.invariant.behind;
    }

pub returns-then-is_same-clause-behind : goal.returns-then-is_same-clause-behind
returns-then-is_same-clause-behind c =
    let p = c.args.p.now in
    let whole = superclasses_behind (name_at p c.args.class.0) (rising_at p c.args.root.0) in
    behind_found p whole c.args.class c.in-Some.here c.loop-next.next c.superclass-over.result c.is_same.result c.len-len.ensures.form c.requires.class
    c.loop-next.invariant.within c.in-Some.is c.superclass-over.ensures.goes_on c.superclass-over.ensures.ends c.is_same.ensures c.if-is_same.true c.loop-next.invariant.behind
