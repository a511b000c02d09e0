use Rattle.std.proofs.Common.{◌≡◌, ◌++◌, drop, map}
use Rattle.mutant_apply.specs.Moved.{moved_place, moved_item}
use Rattle.mutant_apply.proofs.tables.moved_items.Given as goal

abbrev pub invariant-loop-item : goal.invariant-loop-item
invariant-loop-item l = l.moved ++ map (moved_item (moved_place l.by.at l.by.more)) (drop l.item-index l.item-items) ≡ map (moved_item (moved_place l.by.at l.by.more)) l.item-items
