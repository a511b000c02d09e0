use Rattle.std.proofs.Common.{◌≡◌, ◌++◌}
use Rattle.std.specs.Vec.Iter.{into_iter_items}
use Rattle.record_rules.specs.Records.{with_bytes}
use Rattle.run_records.specs.Asking.{held_by}
use Rattle.run_records.specs.Places.{HasPlaces}
use Rattle.run_records.proofs.consulted.Consulted.new.Given as goal

abbrev pub invariant-loop-name : goal.invariant-loop-name
invariant-loop-name l = record {
  told : l.kept.entries.items ++ with_bytes (held_by l.p) (into_iter_items l.name-iterator) ≡ with_bytes (held_by l.p) l.fn.names;
  places : HasPlaces l.p l.kept;
}
