use Rattle.std.proofs.Common.{◌∙◌, refl, ap, subst, length, arith}
use Rattle.std.specs.Prelude.{IfSome, IfNone}
use Rattle.class_model.specs.declared.class.ClassId.{ClassId}
use Rattle.jvm_initialization.specs.Needs.{GoesUp, NeedsAcross}
use Rattle.jvm_initialization.proofs.need.highest.Goals as goal

pub loop-next-init : goal.loop-next-init
loop-next-init c = record {
  fresh = c.requires.class;
  same = λ v m. refl;
  up = c.next_up-next.ensures.some;
  stop = c.next_up-next.ensures.none;
}

pub loop-next-smaller : goal.loop-next-smaller
loop-next-smaller c =
    let g = subst (λ o. IfSome o (λ (up : ClassId). GoesUp c.args.p.now c.args.world.now c.loop-next.here.0 up.0)) c.in-Some.is c.loop-next.invariant.up in
    let e = ap length g.next in
    omega (arith, e)

pub next_up-next-requires-in-Some-clause-class : goal.next_up-next-requires-in-Some-clause-class
next_up-next-requires-in-Some-clause-class c =
    (subst (λ o. IfSome o (λ (up : ClassId). GoesUp c.args.p.now c.args.world.now c.loop-next.here.0 up.0)) c.in-Some.is c.loop-next.invariant.up).fresh

pub loop-next-preserved : goal.loop-next-preserved
loop-next-preserved c =
    let g = subst (λ o. IfSome o (λ (up : ClassId). GoesUp c.args.p.now c.args.world.now c.loop-next.here.0 up.0)) c.in-Some.is c.loop-next.invariant.up in
    record {
      fresh = g.fresh;
      same = λ v m. c.loop-next.invariant.same v m ∙ g.same v m;
      up = c.next_up-next-in-Some.ensures.some;
      stop = c.next_up-next-in-Some.ensures.none;
    }

pub returns-clause-across : goal.returns-clause-across
returns-clause-across c = subst (λ o. IfNone o (NeedsAcross c.args.p.now c.args.world.now c.loop-next.here.0)) c.in_default.is c.loop-next.invariant.stop
