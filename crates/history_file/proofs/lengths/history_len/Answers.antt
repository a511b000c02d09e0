use Rattle.std.proofs.Common.{map, arith}
use Rattle.history_file.specs.Writing.{records_in}
use Rattle.history_file.proofs.Spelled.{history_long}
use Rattle.history_file.proofs.lengths.history_len.Goals as goal

pub returns : goal.returns
returns c = λ profile known.
    let classes = map (λ s. s.now) c.args.classes.now in
    let long = history_long profile classes (records_in (map (λ s. s.now) c.args.texts.now) known c.args.rows.now) in
    let a = c.classes_len-classes.ensures in
    let b = c.rows_len-rows.ensures known classes in
    omega (arith, long, a, b)
