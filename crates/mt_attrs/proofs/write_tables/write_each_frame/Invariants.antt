use Rattle.std.proofs.Common.{◌≡◌, ◌++◌, drop}
use Rattle.mt_attrs.specs.Item.{AllBy, spelled_by}
use Rattle.mt_attrs.specs.Frames.{frame_bytes, next_behind}
use Rattle.mt_attrs.specs.Layout.{first_of, frame_bound, HasFrameForm}
use Rattle.mt_attrs.proofs.write_tables.write_each_frame.Given as goal

abbrev pub invariant-loop-frame : goal.invariant-loop-frame
invariant-loop-frame l = (AllBy (HasFrameForm l.starts) (next_behind l.starts) l.next (drop l.frame-index l.frames)) × (l.out ++ spelled_by (frame_bytes l.starts) (next_behind l.starts) l.next (drop l.frame-index l.frames) ≡ l.fn.out ++ spelled_by (frame_bytes l.starts) (next_behind l.starts) 0 l.frames) × (first_of frame_bound (drop l.frame-index l.frames) ≡ first_of frame_bound l.frames)
