use Rattle.std.proofs.Common.{◌≡◌, drop}
use Rattle.mutant_apply.specs.Moved.{moved_place}
use Rattle.mutant_apply.specs.Edited.{new_insns}
use Rattle.mutant_apply.proofs.InsnLaws.{with_first}
use Rattle.mutant_apply.proofs.new_insns.new_insns.Given as goal

abbrev pub invariant-loop-new : goal.invariant-loop-new
invariant-loop-new l = with_first l.insns (new_insns l.pool (moved_place l.by.at l.by.more) (drop l.new-index l.new-items) l.added) ≡ new_insns l.pool (moved_place l.by.at l.by.more) l.new-items l.fn.added
