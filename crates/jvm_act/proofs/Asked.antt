-- Who asks nothing, and what serves all.
use Rattle.jvm_world.specs.declared.world.World.{World}
use Rattle.jvm_act.specs.declared.groups.FrameOp.{FrameOp}
use Rattle.jvm_act.specs.declared.groups.FrameOp.TheVariants as frame
use Rattle.jvm_act.specs.declared.groups.ObjectOp.{ObjectOp}
use Rattle.jvm_act.specs.declared.groups.ObjectOp.TheVariants as object
use Rattle.jvm_act.specs.Asking.{AsksOf, AsksOfObject, MayEnter}

object_asks : (o : ObjectOp) (w : World) → MayEnter w → AsksOfObject o w
object_asks object.Length w h = tt
object_asks object.Throw w h = tt
object_asks object.Enter w h = h
object_asks object.Exit w h = tt

pub asks_few : (f : FrameOp) (w : World) → MayEnter w → AsksOf f w
asks_few frame.Alone w h = tt
asks_few (frame.Switch s) w h = tt
asks_few (frame.Element e) w h = tt
asks_few (frame.Object o) w h = object_asks o w h
asks_few (frame.Class c) w h = tt
asks_few frame.Unlinked w h = tt
