use Rattle.std.proofs.Common.{◌≡◌, ◌-◌, ◌++◌, ◌∷◌, [], map, drop, length}
use Rattle.machine_rules.specs.State as def
use Rattle.class_table.specs.Table.{look, name_at}
use Rattle.jvm_world.specs.View.{Means}
use Rattle.jvm_initialization.specs.Needs.{need_among}
use Rattle.jvm_initialization.proofs.need.first_need.Given as goal

abbrev pub invariant-loop-at : goal.invariant-loop-at
invariant-loop-at l =
    (v : def.World) → Means l.p l.world v →
    need_among (look l.p) (map (name_at l.p) l.ids ++ name_at l.p l.last.0 ∷ []) v
    ≡ need_among (look l.p) (map (name_at l.p) (drop l.at l.ids) ++ name_at l.p l.last.0 ∷ []) v

abbrev pub decreases-loop-at : goal.decreases-loop-at
decreases-loop-at l = length l.ids - l.at
