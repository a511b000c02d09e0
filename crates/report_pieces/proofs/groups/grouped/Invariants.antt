use Rattle.std.proofs.Common.{◌≡◌}
use Rattle.report_pieces.specs.Groups.{as_groups}
use Rattle.report_pieces.proofs.groups.grouped.Given as goal

abbrev pub invariant-loop-key : goal.invariant-loop-key
invariant-loop-key l = l.groups ≡ as_groups l.yielded
