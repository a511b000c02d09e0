use Rattle.std.proofs.Common.{◌≡◌, ◌++◌, drop}
use Rattle.mutant_apply.specs.Moved.{moved_place, moved_frames}
use Rattle.mutant_apply.proofs.tables.moved_frames.Given as goal

abbrev pub invariant-loop-frame : goal.invariant-loop-frame
invariant-loop-frame l = l.moved ++ moved_frames (moved_place l.by.at l.by.more) l.starts l.next (drop l.frame-index l.frame-items) ≡ moved_frames (moved_place l.by.at l.by.more) l.starts 0 l.frame-items
