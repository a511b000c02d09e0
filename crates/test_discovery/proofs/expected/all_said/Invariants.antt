use Rattle.std.proofs.Common.{◌≡◌, take}
use Rattle.std.specs.List.{flat_map}
use Rattle.test_discovery.specs.Expected.{said_at}
use Rattle.test_discovery.specs.Annotations.{test_type}
use Rattle.test_discovery.proofs.expected.all_said.Given as goal

abbrev pub invariant-loop-attr : goal.invariant-loop-attr
invariant-loop-attr l = l.said ≡ flat_map (said_at l.pool test_type) (take l.attr-index l.attrs)
