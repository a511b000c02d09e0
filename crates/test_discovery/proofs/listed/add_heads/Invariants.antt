use Rattle.std.proofs.Common.{take}
use Rattle.test_discovery.specs.Heads.{AddsHeads}
use Rattle.test_discovery.proofs.listed.add_heads.Given as goal

abbrev pub invariant-loop-member : goal.invariant-loop-member
invariant-loop-member l = AddsHeads l.initial.heads l.pool (take l.member-index l.members) l.heads
