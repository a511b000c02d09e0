use Rattle.std.proofs.Common.{◌≡◌, ◌∙◌, sym, subst, true, false}
use Rattle.jvm_frames.specs.Frames.{ActsOn}
use Rattle.jvm_rows.specs.declared.effect.Effect.TheVariants as effect
use Rattle.jvm_rows.specs.Plain.{by_zero}
use Rattle.jvm_rows.proofs.Acting.{acted, left, stays, by_top}
use Rattle.jvm_rows.proofs.alone.act_alone.Goals as goal

pub returns-then-act-clause-row : goal.returns-then-act-clause-row
returns-then-act-clause-row c =
    let old = c.args.frames.now in
    let new = c.act.new.self in
    acted c.args.p.now c.args.longs.now c.args.op old new c.args.world.now
    (subst (λ b. ActsOn c.args.longs.now c.args.op b old new) c.if-act.true c.act.ensures.acts)

pub returns-then-not-by_zero-clause-row : goal.returns-then-not-by_zero-clause-row
returns-then-not-by_zero-clause-row c =
    let old = c.args.frames.now in
    let new = c.act.new.self in
    let is = c.operands_of-operands.result in
    let eu = c.value-upper.ensures in
    let el = c.value-lower.ensures in
    let top : by_zero is c.value-upper.result c.value-lower.result ≡ by_top is new = (λ i. by_zero is (eu i) (el i)) in
    left c.args.p.now c.args.longs.now c.args.op is false effect.NoRow old new c.args.world.now c.args.world.now c.operands_of-operands.ensures
    (sym c.if-not-by_zero.true ∙ c.by_zero.ensures ∙ top)
    (subst (λ b. ActsOn c.args.longs.now c.args.op b old new) c.if-act.false c.act.ensures.acts)
    (stays c.args.p.now c.args.world.now)

pub returns-clause-row : goal.returns-clause-row
returns-clause-row c =
    let old = c.args.frames.now in
    let new = c.act.new.self in
    let is = c.operands_of-operands.result in
    let eu = c.value-upper.ensures in
    let el = c.value-lower.ensures in
    let top : by_zero is c.value-upper.result c.value-lower.result ≡ by_top is new = (λ i. by_zero is (eu i) (el i)) in
    left c.args.p.now c.args.longs.now c.args.op is true c.in_ok-thrown.thrown old new c.args.world.now c.throw.new.world c.operands_of-operands.ensures
    (sym c.if-not-by_zero.false ∙ c.by_zero.ensures ∙ top)
    (subst (λ b. ActsOn c.args.longs.now c.args.op b old new) c.if-act.false c.act.ensures.acts)
    c.in_ok-thrown.ensures.throws
