use Rattle.std.proofs.Common.{◌≡◌, ◌<◌, ◌≤◌, ◌+◌, ◌-◌, ◌∷◌, ◌++◌, [], ℕ, suc, List, take, arith, ap, sym, ◌∙◌}
use Rattle.vframes.specs.declared.slot_type.SlotType.{SlotType}
use Rattle.vframes.specs.Stated.{AreLocals, AreChopped}
use Rattle.vframes.proofs.StatedLaws.{count_is, chop_none, chop_one, chop_short, down_next, down_end}
use Rattle.vframes.proofs.full.types_down.Goals as goal

pub loop-more-init : goal.loop-more-init
loop-more-init c = (
  omega arith,
  λ ts h down e.
      let at : down ≡ 0 = omega (arith, e) in
      (chop_none c.args.store.now c.args.locals ts down c.args.locals.count h e, c.in_ok-out.ensures.items ∙ ap (λ d. take d ts) (sym at)),
)

pub returns-in-None : goal.returns-in-None
returns-in-None c = λ ts h.
    let total = c.args.locals.count in
    let more = c.loop-more.more in
    let most = c.loop-more.invariant.0 in
    let at : (total - more) + more ≡ total = omega (arith, most) in
    let x = c.loop-more.invariant.1 ts h (total - more) at in
    down_end ts c.loop-more.out.items (total - more) x.1 (chop_short c.args.store.now c.loop-more.left ts (total - more) x.0 c.in-None.ensures.none)

pub loop-more-preserved : goal.loop-more-preserved
loop-more-preserved c = (
  omega (arith, c.loop-more.invariant.0),
  λ ts h down e.
      let more = c.loop-more.more in
      let some : 0 < more = c.loop-more-test.true in
      let before : (down - 1) + more ≡ c.args.locals.count = omega (arith, e, some, c.loop-more.invariant.0) in
      let one : down ≡ suc (down - 1) = omega (arith, e, some, c.loop-more.invariant.0) in
      let x = c.loop-more.invariant.1 ts h (down - 1) before in (
        chop_one c.args.store.now c.loop-more.left c.in-Some.local ts (down - 1) down x.0 c.in-Some.ensures.some one,
        down_next c.args.store.now c.loop-more.left c.in-Some.local ts c.loop-more.out.items c.push.new.self.items (down - 1) x.0 c.in-Some.ensures.some x.1 c.in_ok-push-in-Some.ensures.items
            ∙ ap (λ d. take d ts) (sym one),
      ),
)

pub returns : goal.returns
returns c = λ ts h.
    let total = c.args.locals.count in
    let x = c.loop-more.invariant.1 ts h total (omega (arith, c.loop-more-test.false)) in
    let long = count_is c.args.store.now c.args.locals ts h in
    down_end ts c.loop-more.out.items total x.1 (omega (arith, long))
