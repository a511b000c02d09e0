use Rattle.std.proofs.Common.{◌≡◌, take}
use Rattle.std.specs.List.{flat_map}
use Rattle.test_discovery.specs.Scripts.{calls_as}
use Rattle.test_discovery.proofs.script.calls_by_class.Given as goal

abbrev pub invariant-loop-listed : goal.invariant-loop-listed
invariant-loop-listed l = l.calls ≡ flat_map (calls_as l.part) (take l.listed-index l.by_class)
