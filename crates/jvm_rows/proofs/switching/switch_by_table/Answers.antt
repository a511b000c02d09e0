use Rattle.std.proofs.Common.{rules}
use Rattle.std.specs.Int.{w32}
use Rattle.std.proofs.lemmas.Int.{to_z-of_z}
use mir.Val.{SFits}
use Rattle.jvm_rows.proofs.Switched.{by_table, no_int_for_table}
use Rattle.jvm_rows.proofs.switching.switch_by_table.Goals as goal

pub returns-in_default : goal.returns-in_default
returns-in_default c = λ p w. no_int_for_table p c.args.default c.args.low c.args.targets.now c.args.frames.now w c.in_default.ensures.none

pub returns : goal.returns
returns c = λ p w.
    let f : SFits w32 c.in-Some.z = search rules in
    let g : SFits w32 c.args.low = search rules in
    by_table p c.args.default c.args.low c.args.targets.now c.in-Some.z c.target_of-to.result c.jump.result c.args.frames.now c.jump.new.frames w (simp to_z-of_z at c.target_of-to.ensures) c.in-Some.ensures.some (c.jump.ensures p w)
