use Rattle.std.proofs.Common.{◌≡◌, ◌<◌, ◌≤◌, ◌+◌, ◌-◌, ℕ, zero, suc, List, length, arith, subst, ap, sym, ◌∙◌}
use Rattle.vframes.specs.declared.slot_type.SlotType.{SlotType}
use Rattle.vframes.specs.Stated.{AreLocals, AreChopped}
use Rattle.vframes.proofs.StatedLaws.{chop_none, chop_one_at, chop_short}
use Rattle.vframes.proofs.stated.chop_locals.Goals as goal

pub loop-more-init : goal.loop-more-init
loop-more-init c = (omega arith, λ ts h down e. chop_none c.args.store.now c.args.locals ts down c.args.count h e)

pub returns-in-None-clause-none : goal.returns-in-None-clause-none
returns-in-None-clause-none c = λ ts h.
    let total = c.args.count in
    let more = c.loop-more.more in
    let most = c.loop-more.invariant.0 in
    let at : (total - more) + more ≡ total = omega (arith, most) in
    let l = chop_short c.args.store.now c.loop-more.left ts (total - more) (c.loop-more.invariant.1 ts h (total - more) at) c.in-None.ensures.none in
    omega (arith, l, most, c.loop-more-test.true)

pub loop-more-preserved : goal.loop-more-preserved
loop-more-preserved c = (
  omega (arith, c.loop-more.invariant.0),
  λ ts h down e. chop_one_at c.args.store.now c.loop-more.left c.in-Some.local c.args.locals ts down c.loop-more.more c.args.count h c.loop-more-test.true e c.loop-more.invariant.1 c.in-Some.ensures.some c.loop-more.invariant.0,
)

pub returns-clause-some : goal.returns-clause-some
returns-clause-some c = λ ts h. c.loop-more.invariant.1 ts h c.args.count (omega (arith, c.loop-more-test.false))
