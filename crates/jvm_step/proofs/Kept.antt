-- A world is kept where nothing was done.
use Rattle.std.proofs.Common.{List, refl}
use Rattle.class_link.specs.Info.{Info}
use Rattle.jvm_world.specs.declared.world.World.{World}
use Rattle.jvm_world.specs.View.{IsKept, IsWorldOf}

pub kept_same : (p : List Info) (w : World) → IsWorldOf p w → IsKept p w w
kept_same p w h = record { world = h; limits = refl }
