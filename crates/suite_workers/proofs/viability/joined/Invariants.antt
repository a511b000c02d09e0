use Rattle.std.proofs.Common.{◌≡◌}
use Rattle.std.specs.Vec.Iter.{into_iter_items}
use Rattle.suite_workers.specs.Viability.{told_by, with_rest}
use Rattle.suite_workers.proofs.viability.joined.Given as goal

abbrev pub invariant-loop-part : goal.invariant-loop-part
invariant-loop-part l = with_rest l.all.items (told_by (into_iter_items l.part-iterator)) ≡ told_by l.fn.parts.items
