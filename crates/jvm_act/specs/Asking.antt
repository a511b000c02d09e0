-- What an instruction inside a frame asks of the counts of monitors.
use Rattle.std.specs.Prelude.{ℕ, ◌+◌, ◌<◌, ◌^◌}
use Rattle.jvm_world.specs.declared.world.World.{World}
use Rattle.jvm_world.specs.Holding.{opened}
use Rattle.jvm_act.specs.declared.groups.FrameOp.{FrameOp}
use Rattle.jvm_act.specs.declared.groups.FrameOp.TheVariants as frame
use Rattle.jvm_act.specs.declared.groups.ObjectOp.{ObjectOp}
use Rattle.jvm_act.specs.declared.groups.ObjectOp.TheVariants as object

-- Each object may have one monitorenter more.
abbrev pub MayEnter : World → Type 0
MayEnter w = (x : ℕ) → opened x w.monitors + 1 < 2 ^ 64

-- `monitorenter` alone asks that.
abbrev pub AsksOfObject : ObjectOp → World → Type 0
AsksOfObject object.Length w = Unit {0}
AsksOfObject object.Throw w = Unit {0}
AsksOfObject object.Enter w = MayEnter w
AsksOfObject object.Exit w = Unit {0}

abbrev pub AsksOf : FrameOp → World → Type 0
AsksOf frame.Alone w = Unit {0}
AsksOf (frame.Switch s) w = Unit {0}
AsksOf (frame.Element e) w = Unit {0}
AsksOf (frame.Object o) w = AsksOfObject o w
AsksOf (frame.Class c) w = Unit {0}
AsksOf frame.Unlinked w = Unit {0}
