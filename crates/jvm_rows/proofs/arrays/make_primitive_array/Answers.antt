use Rattle.std.proofs.Common.{◌∙◌, sym}
use Rattle.class_link.specs.Symbols.{kind_of}
use Rattle.jvm_rows.proofs.Ends.{along, no_row}
use Rattle.jvm_rows.specs.Making.{array_row, primitive_array_row}
use Rattle.jvm_rows.proofs.Making.{no_primitive, a_primitive}
use Rattle.jvm_rows.proofs.arrays.make_primitive_array.Goals as goal

pub returns-then-not-is_primitive-clause-row : goal.returns-then-not-is_primitive-clause-row
returns-then-not-is_primitive-clause-row c =
    let k = kind_of c.args.kind in
    no_row c.args.p.now (primitive_array_row k) c.args.frames.now c.args.world.now
    (no_primitive c.args.p.now c.args.frames.now c.args.world.now k (sym c.is_primitive.ensures ∙ c.if-not-is_primitive.true))

pub returns-clause-row : goal.returns-clause-row
returns-clause-row c =
    let p = c.args.p.now in
    let w = c.args.world.now in
    let old = c.args.frames.now in
    let k = kind_of c.args.kind in
    along p (primitive_array_row k) (array_row k) c.in_ok-done.done old c.make_array.new.frames w c.make_array.new.world
    (a_primitive p old w k (sym c.is_primitive.ensures ∙ c.if-not-is_primitive.false)) c.in_ok-done.ensures.row
