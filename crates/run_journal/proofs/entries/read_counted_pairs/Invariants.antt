use Rattle.std.proofs.Common.{◌≡◌, ◌-◌, None}
use Rattle.codec_rules.specs.Reading.{with_front}
use Rattle.history_rules.specs.Items.{many_by}
use Rattle.history_rules.specs.Entries.{pair_at, with_pair}
use Rattle.run_journal.proofs.entries.read_counted_pairs.Given as goal

abbrev pub invariant-loop : goal.invariant-loop
invariant-loop l = with_front l.pairs (many_by (pair_at l.entries) with_pair l.last (l.count - l.counter) l.cur) ≡ many_by (pair_at l.entries) with_pair None l.count l.fn.cur
