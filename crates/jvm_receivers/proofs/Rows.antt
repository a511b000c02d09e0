-- The rows of the instructions that call on an object, by their kind.
use Rattle.std.proofs.Common.{List}
use Rattle.program_rules.specs.declared.fault.Fault.TheVariants.{IncompatibleClassChangeError}
use Rattle.program_rules.specs.Instructions.{MethodRef}
use Rattle.program_rules.specs.Resolution.{MethodAt}
use Rattle.class_link.specs.Info.{Info}
use Rattle.jvm_frames.specs.Frames.{NumberedFrames}
use Rattle.jvm_rows.specs.Rows.{throwing}
use Rattle.jvm_world.specs.declared.world.World.{World}
use Rattle.jvm_invokes.specs.declared.invoked.Invoked.{Invoked}
use Rattle.jvm_invokes.specs.Invoked.{Invokes}
use Rattle.jvm_invokes.specs.Rows.{naming}
use Rattle.jvm_receivers.specs.declared.invoking.Invocation.{Invocation}
use Rattle.jvm_receivers.specs.declared.invoking.Invocation.TheVariants as how
use Rattle.jvm_receivers.specs.Kinds.{invoked_row, found_row, on_row, is_barred}
use Rattle.jvm_receivers.specs.Receivers.{choosing}
use Rattle.jvm_receivers.specs.Targets.{receiving}

-- the whole row names a method, and goes on with it
pub names_method : (p : List Info) (k : Invocation) (r : MethodRef) (t : Invoked) (old new : NumberedFrames) (w u : World) → Invokes p r (naming p r (found_row p k r)) t old new w u → Invokes p r (invoked_row p k r) t old new w u
names_method p how.Special r t old new w u h = h
names_method p how.Virtual r t old new w u h = h
names_method p how.Interface r t old new w u h = h

-- what is left of it throws, or calls on the object
pub bars_or_calls : (p : List Info) (k : Invocation) (r : MethodRef) (m : MethodAt) (t : Invoked) (old new : NumberedFrames) (w u : World) → Invokes p r (choosing (is_barred k m.flags) (throwing IncompatibleClassChangeError) (receiving r (on_row p k r m))) t old new w u → Invokes p r (found_row p k r m) t old new w u
bars_or_calls p how.Special r m t old new w u h = h
bars_or_calls p how.Virtual r m t old new w u h = h
bars_or_calls p how.Interface r m t old new w u h = h
