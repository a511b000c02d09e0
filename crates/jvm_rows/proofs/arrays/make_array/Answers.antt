use Rattle.std.proofs.Common.{rules, sym}
use Rattle.std.specs.Int.{w32}
use Rattle.std.proofs.lemmas.Int.{to_z-of_z}
use mir.Val.{SFits}
use Rattle.program_rules.specs.declared.fault.Fault.TheVariants.{NegativeArraySizeException}
use Rattle.class_link.specs.Symbols.{kind_of}
use Rattle.jvm_rows.specs.Rows.{throwing}
use Rattle.jvm_rows.proofs.Ends.{along, no_row}
use Rattle.jvm_rows.proofs.Loading.{same_after}
use Rattle.jvm_rows.specs.Making.{array_row}
use Rattle.jvm_rows.proofs.Operands.{no_int, an_int, left_row}
use Rattle.jvm_rows.proofs.Making.{sizing, below_zero}
use Rattle.jvm_rows.proofs.arrays.make_array.Goals as goal

pub returns-in_default-clause-row : goal.returns-in_default-clause-row
returns-in_default-clause-row c =
    let k = kind_of c.args.kind in
    no_row c.args.p.now (array_row k) c.args.frames.now c.args.world.now
    (no_int c.args.p.now c.args.frames.now c.args.world.now (sizing k) c.in_default.ensures.none)

pub returns-in_ok-thrown-in-None-clause-row : goal.returns-in_ok-thrown-in-None-clause-row
returns-in_ok-thrown-in-None-clause-row c =
    let f : SFits w32 c.in-Some.count = search rules in
    let p = c.args.p.now in
    let w = c.args.world.now in
    let old = c.args.frames.now in
    let k = kind_of c.args.kind in
    let z = c.in-Some.count in
    along p (array_row k) (throwing NegativeArraySizeException) c.in_ok-thrown-in-None.thrown old old w c.throw.new.world
    (same_after p (array_row k) (left_row (sizing k) z) (throwing NegativeArraySizeException) old w
    (an_int p old w (sizing k) z c.in-Some.ensures.some)
    (below_zero p old w k z (sym (simp to_z-of_z at c.in-None.ensures))))
    (c.in_ok-thrown-in-None.ensures.throws old)
