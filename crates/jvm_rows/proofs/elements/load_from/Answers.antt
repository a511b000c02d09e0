use Rattle.std.proofs.Common.{rules}
use Rattle.std.specs.Int.{w32}
use Rattle.std.proofs.lemmas.Int.{to_z-of_z}
use mir.Val.{SFits}
use Rattle.jvm_rows.specs.declared.effect.Effect.TheVariants as effect
use Rattle.program_rules.specs.declared.fault.Fault.TheVariants.{ArrayIndexOutOfBoundsException}
use Rattle.jvm_rows.specs.Rows.{loading, putting, throwing}
use Rattle.jvm_rows.proofs.Ends.{along, no_row, nothing, put_runs, fits_not, fits_there}
use Rattle.jvm_rows.proofs.Loading.{found_nothing, found_outside, found_element, no_room, same_after}
use Rattle.jvm_rows.proofs.elements.load_from.Goals as goal

pub returns-in-NoRow-clause-row : goal.returns-in-NoRow-clause-row
returns-in-NoRow-clause-row c =
    let f : SFits w32 c.args.index = search rules in
    no_row c.args.p.now (loading c.args.element c.args.index c.args.object) c.args.frames.now c.args.world.now
    (found_nothing c.args.p.now c.args.frames.now c.args.world.now c.args.element c.args.index c.args.object (simp to_z-of_z at c.in-NoRow.ensures))

pub returns-in_ok-thrown-in-Outside-clause-row : goal.returns-in_ok-thrown-in-Outside-clause-row
returns-in_ok-thrown-in-Outside-clause-row c =
    let f : SFits w32 c.args.index = search rules in
    let p = c.args.p.now in
    let w = c.args.world.now in
    let old = c.args.frames.now in
    along p (loading c.args.element c.args.index c.args.object) (throwing ArrayIndexOutOfBoundsException) c.in_ok-thrown-in-Outside.thrown old old w c.throw.new.world
    (found_outside p old w c.args.element c.args.index c.args.object (simp to_z-of_z at c.in-Outside.ensures))
    (c.in_ok-thrown-in-Outside.ensures.throws old)

pub put-requires-clause-room : goal.put-requires-clause-room
put-requires-clause-room c = fits_there c.args.frames.now.frame 2 c.in-Element.value c.fits.result c.if-fits.true c.fits.ensures

pub returns-else-fits-clause-row : goal.returns-else-fits-clause-row
returns-else-fits-clause-row c =
    let f : SFits w32 c.args.index = search rules in
    let p = c.args.p.now in
    let w = c.args.world.now in
    let old = c.args.frames.now in
    let row = loading c.args.element c.args.index c.args.object in
    let v = c.in-Element.value in
    no_row p row old w
    (same_after p row (putting 2 v) nothing old w
    (found_element p old w c.args.element c.args.index c.args.object v (simp to_z-of_z at c.in-Element.ensures))
    (no_room p old w 2 v (fits_not old.frame 2 v c.fits.result c.if-fits.false c.fits.ensures)))

pub returns-then-fits-clause-row : goal.returns-then-fits-clause-row
returns-then-fits-clause-row c =
    let f : SFits w32 c.args.index = search rules in
    let p = c.args.p.now in
    let w = c.args.world.now in
    let old = c.args.frames.now in
    let v = c.in-Element.value in
    along p (loading c.args.element c.args.index c.args.object) (putting 2 v) effect.Goes old c.put.new.self w w
    (found_element p old w c.args.element c.args.index c.args.object v (simp to_z-of_z at c.in-Element.ensures))
    (put_runs p 2 v old c.put.new.self w c.put.ensures)
