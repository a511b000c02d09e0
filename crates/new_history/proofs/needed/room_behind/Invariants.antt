use Rattle.std.proofs.Common.{◌≡◌, ◌+◌, take}
use Rattle.std.specs.Prelude.{sum_by}
use Rattle.new_history.specs.Needed.{names_in}
use Rattle.new_history.proofs.needed.room_behind.Given as goal

abbrev pub invariant-loop-one : goal.invariant-loop-one
invariant-loop-one l = l.left + sum_by names_in (take l.one-index l.needed) ≡ l.room
