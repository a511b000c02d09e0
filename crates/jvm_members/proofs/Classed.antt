-- What is done with a class, once it was resolved.
use Rattle.std.proofs.Common.{◌≡◌, List, Ok, Err}
use Rattle.program_rules.specs.declared.fault.Fault.{Fault}
use Rattle.program_rules.specs.Names.{Name, class_behind}
use Rattle.machine_rules.specs.Lookups.{consult}
use Rattle.class_model.specs.declared.class.ClassId.{ClassId}
use Rattle.class_link.specs.Info.{Info}
use Rattle.class_table.specs.Table.{look}
use Rattle.jvm_frames.specs.Frames.{NumberedFrames}
use Rattle.jvm_world.specs.declared.world.World.{World}
use Rattle.jvm_world.specs.View.{Moves}
use Rattle.jvm_rows.specs.declared.effect.Effect as code
use Rattle.jvm_rows.specs.Effects.{Runs}
use Rattle.jvm_rows.specs.Rows.{throwing}
use Rattle.jvm_link.specs.Named.{ResolvesClass}
use Rattle.jvm_members.specs.Whole.{RunsWhole}
use Rattle.jvm_members.specs.declared.classes.Purpose.{Purpose}
use Rattle.jvm_members.specs.declared.classes.Purpose.TheVariants as how
use Rattle.jvm_members.specs.ClassRows.{class_row_of, resolved_row}
use Rattle.jvm_members.proofs.Resolved.{resolving, found_class, lost_class}

by_use : (p : List Info) (n : Name) (k : Purpose) (e : code.Effect) (old new : NumberedFrames) (w u : World) → RunsWhole p (resolving p n (λ c. resolved_row p n k)) e old new w u → RunsWhole p (class_row_of p n k) e old new w u
by_use p n how.Load e old new w u h = h
by_use p n how.MakeArray e old new w u h = h
by_use p n (how.Cast x) e old new w u h = h
by_use p n (how.Test x) e old new w u h = h

pub class_used : (p : List Info) (n : Name) (k : Purpose) (id : ClassId) (e : code.Effect) (old new : NumberedFrames) (w m u : World) → ResolvesClass p n (Ok id) → Moves p w m (consult (look p) (class_behind n)) → m.limits ≡ w.limits → Runs p (resolved_row p n k) e old new m u → RunsWhole p (class_row_of p n k) e old new w u
class_used p n k id e old new w m u is moves limits h =
    by_use p n k e old new w u (found_class p n id (λ c. resolved_row p n k) e old new w m u is moves limits h)

pub class_lost : (p : List Info) (n : Name) (k : Purpose) (fault : Fault) (e : code.Effect) (old new : NumberedFrames) (w m u : World) → ResolvesClass p n (Err fault) → Moves p w m (consult (look p) (class_behind n)) → m.limits ≡ w.limits → Runs p (throwing fault) e old new m u → RunsWhole p (class_row_of p n k) e old new w u
class_lost p n k fault e old new w m u is moves limits h =
    by_use p n k e old new w u (lost_class p n fault (λ c. resolved_row p n k) e old new w m u is moves limits h)
