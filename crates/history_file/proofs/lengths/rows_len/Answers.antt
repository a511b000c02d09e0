use Rattle.std.proofs.Common.{map, arith}
use Rattle.history_rules.specs.Spelling.{record_bytes}
use Rattle.history_file.specs.Rows.{record_of}
use Rattle.history_file.proofs.Spelled.{one_longer, all_long}
use Rattle.history_file.proofs.lengths.rows_len.Goals as goal

pub loop-row-preserved : goal.loop-row-preserved
loop-row-preserved c = λ classes pool.
    let ts = map (λ s. s.now) c.args.texts.now in
    let one = one_longer (record_bytes 2 pool) (record_of ts classes) c.args.rows.now c.loop-row.row-index c.row-item.result c.loop-row-test.true c.row-item.is in
    let long = c.row_len.ensures classes pool in
    let before = c.loop-row.invariant classes pool in
    omega (arith, one, long, before)

pub returns : goal.returns
returns c = λ classes pool.
    let all = all_long (record_bytes 2 pool) (record_of (map (λ s. s.now) c.args.texts.now) classes) c.args.rows.now c.loop-row.row-index c.loop-row-test.false in
    let before = c.loop-row.invariant classes pool in
    omega (arith, all, before)
