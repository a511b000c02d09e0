use Rattle.std.proofs.Common.{◌≡◌, ◌-◌, List, None}
use Rattle.codec_rules.specs.Reading.{with_front}
use Rattle.history_rules.specs.Items.{many_by}
use Rattle.history_rules.specs.Entries as history
use Rattle.history_rules.specs.Entries.{pair_at, with_pair}
use Rattle.history_file.specs.Reading.{ArePresent}
use Rattle.history_file.proofs.entries.read_counted_pairs.Given as goal

abbrev pub invariant-loop : goal.invariant-loop
invariant-loop l = (entries : List history.Entry) → ArePresent entries l.consulted → with_front l.pairs (many_by (pair_at entries) with_pair l.last (l.count - l.counter) l.cur) ≡ many_by (pair_at entries) with_pair None l.count l.fn.cur
