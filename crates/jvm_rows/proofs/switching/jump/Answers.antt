use Rattle.std.proofs.Common.{rules, subst, []}
use Rattle.std.specs.Int.{w32}
use Rattle.std.proofs.lemmas.Int.{to_z-of_z}
use mir.Val.{SFits}
use Rattle.jvm_frames.specs.Frames.{ActsOn}
use Rattle.jvm_rows.specs.Plain.{IsJump}
use Rattle.jvm_rows.proofs.Acting.{jumped, not_jumped}
use Rattle.jvm_rows.proofs.switching.jump.Goals as goal

pub returns-then-act : goal.returns-then-act
returns-then-act c = λ p w.
    let f : SFits w32 c.args.z = search rules in
    let old = c.args.frames.now in
    let new = c.act.new.self in
    let op = c.jump_on-op.result in
    let j : IsJump c.args.z c.args.to op = simp to_z-of_z at c.jump_on-op.ensures in
    jumped p op c.args.z c.args.to old new w j c.requires.top
    (subst (λ b. ActsOn [] op b old new) c.if-act.true c.act.ensures.acts)

pub returns-else-act : goal.returns-else-act
returns-else-act c = λ p w.
    let f : SFits w32 c.args.z = search rules in
    let old = c.args.frames.now in
    let new = c.act.new.self in
    let op = c.jump_on-op.result in
    let j : IsJump c.args.z c.args.to op = simp to_z-of_z at c.jump_on-op.ensures in
    not_jumped p op c.args.z c.args.to old new w j c.requires.top
    (subst (λ b. ActsOn [] op b old new) c.if-act.false c.act.ensures.acts)
