use Rattle.std.proofs.Common.{subst, sym}
use Rattle.jvm_rows.specs.declared.effect.Effect.TheVariants as effect
use Rattle.jvm_rows.specs.Effects.{Runs}
use Rattle.jvm_type_rows.specs.Instances.{cast_end_row}
use Rattle.jvm_type_rows.proofs.Casts.{cast_passes}
use Rattle.jvm_type_rows.proofs.casting.end_cast.Goals as goal

pub returns-then-passes-clause-row : goal.returns-then-passes-clause-row
returns-then-passes-clause-row c =
    let p = c.args.p.now in
    let w = c.args.world.now in
    let old = c.args.frames.now in
    subst (λ b. Runs p (cast_end_row b) effect.Goes old c.advance.new.self w w) (sym c.if-passes.true)
    (cast_passes p old c.advance.new.self w c.advance.ensures)

pub returns-clause-row : goal.returns-clause-row
returns-clause-row c =
    let p = c.args.p.now in
    let w = c.args.world.now in
    let old = c.args.frames.now in
    subst (λ b. Runs p (cast_end_row b) c.in_ok-thrown.thrown old old w c.throw.new.world) (sym c.if-passes.false)
    (c.in_ok-thrown.ensures.throws old)
