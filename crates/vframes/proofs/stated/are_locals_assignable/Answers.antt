use Rattle.std.proofs.Common.{◌≡◌, ◌<◌, ◌≤◌, ◌+◌, ◌-◌, ◌&&◌, ℕ, zero, suc, List, length, drop, true, false, arith, subst, ap, sym, refl, ◌∙◌}
use Rattle.type_rules.specs.References.{classes_of}
use Rattle.class_table.specs.Table.{look}
use Rattle.vframes.specs.declared.slot_type.SlotType.{SlotType}
use Rattle.vframes.specs.Stated.{AreLocals, AreChopped, AreWithin}
use Rattle.vframes.proofs.StatedLaws.{count_is, chop_none, chop_one, chop_short, taken, taken_by, taken_false, taken_true, taken_end}
use Rattle.vframes.proofs.stated.are_locals_assignable.Goals as goal

pub loop-more-init : goal.loop-more-init
loop-more-init c = (
  omega arith,
  λ ts h within down e.
      let at : down ≡ 0 = omega (arith, e) in
      (chop_none c.args.store.now c.args.to ts down c.args.to.count h e, ap (λ d. taken (classes_of (look c.args.program.now)) c.args.names.now c.args.from.now (drop d ts)) (sym at)),
)

pub returns-in-None : goal.returns-in-None
returns-in-None c = λ ts h within.
    let p = classes_of (look c.args.program.now) in
    let ns = c.args.names.now in
    let total = c.args.to.count in
    let more = c.loop-more.more in
    let most = c.loop-more.invariant.0 in
    let at : (total - more) + more ≡ total = omega (arith, most) in
    let x = c.loop-more.invariant.1 ts h within (total - more) at in
    let l = chop_short c.args.store.now c.loop-more.left ts (total - more) x.0 c.in-None.ensures.none in
    sym (x.1 ∙ taken_end p ns c.args.from.now ts (total - more) l)

pub returns-then-not-is_local_assignable : goal.returns-then-not-is_local_assignable
returns-then-not-is_local_assignable c = λ ts h within.
    let p = classes_of (look c.args.program.now) in
    let ns = c.args.names.now in
    let total = c.args.to.count in
    let more = c.loop-more.more in
    let most = c.loop-more.invariant.0 in
    let at : (total - more) + more ≡ total = omega (arith, most) in
    let x = c.loop-more.invariant.1 ts h within (total - more) at in
    sym (x.1 ∙ taken_by p ns c.args.from.now c.args.store.now c.loop-more.left c.in-Some.local ts (total - more) x.0 c.in-Some.ensures.some within c.is_local_assignable.result c.is_local_assignable.ensures
    ∙ taken_false p ns c.args.from.now (drop (suc (total - more)) ts) c.is_local_assignable.result c.if-not-is_local_assignable.true)

pub loop-more-preserved : goal.loop-more-preserved
loop-more-preserved c = (
  omega (arith, c.loop-more.invariant.0),
  λ ts h within down e.
      let p = classes_of (look c.args.program.now) in
      let ns = c.args.names.now in
      let more = c.loop-more.more in
      let some : 0 < more = c.loop-more-test.true in
      let before : (down - 1) + more ≡ c.args.to.count = omega (arith, e, some, c.loop-more.invariant.0) in
      let one : down ≡ suc (down - 1) = omega (arith, e, some, c.loop-more.invariant.0) in
      let x = c.loop-more.invariant.1 ts h within (down - 1) before in (
        chop_one c.args.store.now c.loop-more.left c.in-Some.local ts (down - 1) down x.0 c.in-Some.ensures.some one,
        x.1 ∙ taken_by p ns c.args.from.now c.args.store.now c.loop-more.left c.in-Some.local ts (down - 1) x.0 c.in-Some.ensures.some within c.is_local_assignable.result c.is_local_assignable.ensures
            ∙ taken_true p ns c.args.from.now (drop (suc (down - 1)) ts) c.is_local_assignable.result c.if-not-is_local_assignable.false
            ∙ ap (λ d. taken p ns c.args.from.now (drop d ts)) (sym one),
      ),
)

pub returns : goal.returns
returns c = λ ts h within.
    let p = classes_of (look c.args.program.now) in
    let ns = c.args.names.now in
    let total = c.args.to.count in
    let x = c.loop-more.invariant.1 ts h within total (omega (arith, c.loop-more-test.false)) in
    let long = count_is c.args.store.now c.args.to ts h in
    sym (x.1 ∙ taken_end p ns c.args.from.now ts total (omega (arith, long)))
