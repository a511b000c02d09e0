use Rattle.std.proofs.Common.{◌≡◌, ◌++◌, map, take}
use Rattle.class_link.specs.Linking as linking
use Rattle.class_link.specs.View.{frame_of}
use Rattle.class_link.proofs.frames.add_all.Given as goal

abbrev pub invariant-loop-frame : goal.invariant-loop-frame
invariant-loop-frame l =
    map frame_of l.out.items ≡ map frame_of l.initial.out.items ++ map (linking.frame_in l.classes) (take l.frame-index l.frames)
