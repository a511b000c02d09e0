use Rattle.std.proofs.Common.{◌-◌, map, drop, length}
use Rattle.machine_rules.specs.State as def
use Rattle.class_table.specs.Table.{name_at}
use Rattle.class_link.specs.View.{field_of}
use Rattle.jvm_world.specs.View.{Means, IsKept}
use Rattle.jvm_initialization.specs.Constants.{constants_in, SetUpTo}
use Rattle.jvm_initialization.proofs.constants.set_fields.Given as goal

abbrev pub invariant-loop-at : goal.invariant-loop-at
invariant-loop-at l = record {
  kept : IsKept l.p l.fn.world l.world;
  sets : (v : def.World) → Means l.p l.fn.world v →
      SetUpTo l.p l.fn.world.limits (name_at l.p l.class.0) (constants_in l.all_static 0 (map field_of l.fields))
      (constants_in l.all_static l.at (map field_of (drop l.at l.fields))) l.world v;
}

abbrev pub decreases-loop-at : goal.decreases-loop-at
decreases-loop-at l = length l.fields - l.at
