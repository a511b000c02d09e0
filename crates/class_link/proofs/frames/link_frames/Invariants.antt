use Rattle.std.proofs.Common.{◌≡◌, map, take}
use Rattle.std.specs.List.{flat_map}
use Rattle.class_link.specs.Linking as linking
use Rattle.class_link.specs.View.{frame_of}
use Rattle.class_link.proofs.frames.link_frames.Given as goal

abbrev pub invariant-loop-attr : goal.invariant-loop-attr
invariant-loop-attr l =
    map frame_of l.out.items ≡ flat_map (λ a. linking.frames_of l.classes (linking.content_of a)) (take l.attr-index l.attrs)
