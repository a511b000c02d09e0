use Rattle.std.proofs.Common.{map}
use Rattle.history_rules.specs.Spelling.{record_bytes}
use Rattle.history_file.specs.Rows.{record_of}
use Rattle.history_file.specs.Writing.{classes_of, used_by}
use Rattle.history_file.proofs.Spelled.{one_written, all_written}
use Rattle.history_file.proofs.write.put_each_row.Goals as goal

pub loop-row-preserved : goal.loop-row-preserved
loop-row-preserved c =
    one_written (record_bytes 2 (used_by c.args.order.now)) (record_of (map (λ s. s.now) c.args.texts.now) (classes_of c.args.order.now)) c.args.rows.now c.loop-row.row-index c.row-item.result c.args.out.now c.loop-row.out c.put_row.new.out c.loop-row-test.true c.row-item.is c.loop-row.invariant c.in_ok-put_row.ensures

pub returns : goal.returns
returns c =
    all_written (record_bytes 2 (used_by c.args.order.now)) (record_of (map (λ s. s.now) c.args.texts.now) (classes_of c.args.order.now)) c.args.rows.now c.loop-row.row-index c.args.out.now c.loop-row.out c.loop-row-test.false c.loop-row.invariant
