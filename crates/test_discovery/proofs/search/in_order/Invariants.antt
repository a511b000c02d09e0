use Rattle.std.proofs.Common.{◌≡◌, map, take}
use Rattle.test_discovery.specs.Discovery.{in_order, name_of}
use Rattle.test_discovery.proofs.search.in_order.Given as goal

abbrev pub invariant-loop-id : goal.invariant-loop-id
invariant-loop-id l = l.names.entries ≡ in_order (map (name_of l.program) (take l.id-index l.from))
