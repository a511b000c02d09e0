use Rattle.std.proofs.Common.{subst, sym, drop}
use Rattle.program_rules.specs.declared.fault.Fault.TheVariants.{NullPointerException}
use Rattle.jvm_state.specs.Tops.{TakesReference}
use Rattle.jvm_frames.specs.Frames.{stack_of}
use Rattle.jvm_rows.specs.declared.effect.Effect.TheVariants as effect
use Rattle.jvm_rows.specs.Effects.{Runs}
use Rattle.jvm_rows.specs.Rows.{getting_from, throwing}
use Rattle.jvm_rows.proofs.Ends.{along, no_row}
use Rattle.jvm_rows.proofs.Fielding.{getting_by, get_none, get_null, get_some}
use Rattle.jvm_rows.proofs.fields.get_field.Goals as goal

pub returns-in_default-clause-row : goal.returns-in_default-clause-row
returns-in_default-clause-row c = λ x e.
    let p = c.args.p.now in
    let w = c.args.world.now in
    let old = c.args.frames.now in
    subst (λ s. Runs p (getting_by s) effect.NoRow old old w w) (sym e)
    (no_row p (getting_by c.args.slot) old w (get_none p old w c.args.slot c.in_default.ensures.none))

pub returns-in-Some-reference-clause-row : goal.returns-in-Some-reference-clause-row
returns-in-Some-reference-clause-row c = λ x e.
    let p = c.args.p.now in
    let w = c.args.world.now in
    let old = c.args.frames.now in
    let y = c.in-Some-reference.object in
    let there = subst (λ o. TakesReference (stack_of old.frame) o (drop 1 (stack_of old.frame))) c.in-Some-reference.is c.in-Some.ensures.some in
    subst (λ s. Runs p (getting_by s) c.get_from.result old c.get_from.new.frames w w) (sym e)
    (along p (getting_by c.args.slot) (getting_from c.args.slot y) c.get_from.result old c.get_from.new.frames w w
    (get_some p old w c.args.slot y there) c.get_from.ensures)

pub returns-in_ok-thrown-in-None-clause-row : goal.returns-in_ok-thrown-in-None-clause-row
returns-in_ok-thrown-in-None-clause-row c = λ x e.
    let p = c.args.p.now in
    let w = c.args.world.now in
    let old = c.args.frames.now in
    let there = subst (λ o. TakesReference (stack_of old.frame) o (drop 1 (stack_of old.frame))) c.in-None.is c.in-Some.ensures.some in
    subst (λ s. Runs p (getting_by s) c.in_ok-thrown-in-None.thrown old old w c.throw.new.world) (sym e)
    (along p (getting_by c.args.slot) (throwing NullPointerException) c.in_ok-thrown-in-None.thrown old old w c.throw.new.world
    (get_null p old w c.args.slot there) (c.in_ok-thrown-in-None.ensures.throws old))
