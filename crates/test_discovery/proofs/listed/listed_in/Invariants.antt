use Rattle.std.proofs.Common.{◌≡◌, take}
use Rattle.std.specs.List.{flat_map}
use Rattle.test_discovery.specs.Listed.{listed_at}
use Rattle.test_discovery.specs.Heads.{has_head}
use Rattle.test_discovery.proofs.listed.listed_in.Given as goal

abbrev pub invariant-loop-member : goal.invariant-loop-member
invariant-loop-member l =
    l.listed ≡ flat_map (listed_at (has_head l.hidden) l.class) (take l.member-index l.class.methods)
