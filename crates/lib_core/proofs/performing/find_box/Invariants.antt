use Rattle.std.proofs.Common.{◌≡◌, drop, map}
use Rattle.machine_rules.specs.Performing.{box_among}
use Rattle.lib_core.specs.View.{box_of}
use Rattle.lib_core.proofs.performing.find_box.Given as goal

abbrev pub invariant-loop-kept : goal.invariant-loop-kept
invariant-loop-kept l =
    box_among l.class l.number (map box_of l.boxes)
    ≡ box_among l.class l.number (map box_of (drop l.kept-index l.boxes))
