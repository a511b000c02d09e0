use Rattle.std.proofs.Common.{◌∙◌, sym}
use Rattle.program_rules.specs.declared.fault.Fault.TheVariants.{NegativeArraySizeException}
use Rattle.jvm_rows.specs.Rows.{throwing}
use Rattle.jvm_rows.proofs.Ends.{along}
use Rattle.jvm_array_rows.specs.Rows.{counted_row}
use Rattle.jvm_array_rows.proofs.Ways.{below_zero}
use Rattle.jvm_array_rows.proofs.arrays.make_counted.Goals as goal

pub returns-then-has_negative-clause-row : goal.returns-then-has_negative-clause-row
returns-then-has_negative-clause-row c =
    let p = c.args.p.now in
    let w = c.args.world.now in
    let old = c.args.frames.now in
    let n = c.args.name.now in
    let zs = c.args.counts.now in
    along p (counted_row n c.args.count zs) (throwing NegativeArraySizeException) c.in_ok-thrown.thrown old old w c.throw.new.world
    (below_zero p old w n c.args.count zs (sym c.has_negative.ensures ∙ c.if-has_negative.true)) (c.in_ok-thrown.ensures.throws old)
