use Rattle.std.proofs.Common.{◌≡◌, ◌++◌, ◌-◌}
use Rattle.report_pieces.specs.Groups.{count_from}
use Rattle.report_pieces.proofs.groups.count_up.Given as goal

abbrev pub invariant-loop-place : goal.invariant-loop-place
invariant-loop-place l = l.places.items ++ count_from l.place (l.end - l.place) ≡ count_from l.fn.from (l.end - l.fn.from)
