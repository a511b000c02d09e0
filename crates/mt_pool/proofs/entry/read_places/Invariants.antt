use Rattle.std.proofs.Common.{◌≡◌, ◌-◌, false}
use Rattle.codec_rules.specs.Reading.{with_front}
use Rattle.mt_pool.specs.Reading.{places_at}
use Rattle.mt_pool.proofs.entry.read_places.Given as goal

abbrev pub invariant-loop-place : goal.invariant-loop-place
invariant-loop-place l = with_front l.entries (places_at (l.count - l.place) l.second l.cur) ≡ places_at l.count false l.fn.cur
