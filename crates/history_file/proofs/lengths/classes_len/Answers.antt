use Rattle.std.proofs.Common.{slice_index_or, arith}
use Rattle.history_rules.specs.Classes.{class_bytes}
use Rattle.history_file.proofs.Spelled.{no_slice, longer_at, class_long, all_long}
use Rattle.history_file.proofs.lengths.classes_len.Goals as goal

pub loop-class-preserved : goal.loop-class-preserved
loop-class-preserved c =
    let one = longer_at class_bytes (λ s. s.now) c.args.classes.now c.loop-class.class-index no_slice c.loop-class-test.true in
    let long = class_long (slice_index_or c.args.classes.now c.loop-class.class-index no_slice).now in
    let before = c.loop-class.invariant in
    omega (arith, one, long, before)

pub returns : goal.returns
returns c =
    let all = all_long class_bytes (λ s. s.now) c.args.classes.now c.loop-class.class-index c.loop-class-test.false in
    let before = c.loop-class.invariant in
    omega (arith, all, before)
