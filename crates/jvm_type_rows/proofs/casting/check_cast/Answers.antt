use Rattle.std.proofs.Common.{subst}
use Rattle.class_table.specs.Table.{look}
use Rattle.jvm_rows.proofs.Ends.{along, no_row}
use Rattle.jvm_type_rows.specs.Instances.{TellsInstance, cast_end_row, cast_found_row}
use Rattle.jvm_type_rows.proofs.Casts.{cast_is, cast_nothing}
use Rattle.jvm_type_rows.proofs.casting.check_cast.Goals as goal

pub returns-in_ok-done-in-Some-clause-row : goal.returns-in_ok-done-in-Some-clause-row
returns-in_ok-done-in-Some-clause-row c =
    let p = c.args.p.now in
    let w = c.args.world.now in
    let old = c.args.frames.now in
    let n = c.args.name.now in
    let x = c.args.object in
    let b = c.in-Some.passes in
    along p (cast_found_row (look p) n x) (cast_end_row b) c.in_ok-done-in-Some.done old c.end_cast.new.frames w c.end_cast.new.world
    (cast_is p old w n x b (subst (TellsInstance p w x n) c.in-Some.is c.in_ok-answer.ensures))
    c.in_ok-done-in-Some.ensures.row

pub returns-in-None-clause-row : goal.returns-in-None-clause-row
returns-in-None-clause-row c =
    let p = c.args.p.now in
    let w = c.args.world.now in
    let n = c.args.name.now in
    let x = c.args.object in
    no_row p (cast_found_row (look p) n x) c.args.frames.now w
    (cast_nothing p c.args.frames.now w n x (subst (TellsInstance p w x n) c.in-None.is c.in_ok-answer.ensures))
