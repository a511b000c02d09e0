use Rattle.std.proofs.Common.{map}
use Rattle.history_rules.specs.Entries.{entry_bytes}
use Rattle.history_file.specs.Rows.{entry_of}
use Rattle.history_file.specs.Writing.{classes_of, used_by}
use Rattle.history_file.proofs.Spelled.{no_entry, written_at, all_written}
use Rattle.history_file.proofs.write.put_each_entry.Goals as goal

pub loop-entry-preserved : goal.loop-entry-preserved
loop-entry-preserved c =
    written_at (entry_bytes (used_by c.args.order.now)) (entry_of (map (λ s. s.now) c.args.texts.now) (classes_of c.args.order.now)) c.args.entries.now c.loop-entry.entry-index no_entry c.args.out.now c.loop-entry.out c.put_entry.new.out c.loop-entry-test.true c.loop-entry.invariant c.in_ok-put_entry.ensures

pub returns : goal.returns
returns c =
    all_written (entry_bytes (used_by c.args.order.now)) (entry_of (map (λ s. s.now) c.args.texts.now) (classes_of c.args.order.now)) c.args.entries.now c.loop-entry.entry-index c.args.out.now c.loop-entry.out c.loop-entry-test.false c.loop-entry.invariant
