-- What rows that call a method come to.
use Rattle.std.proofs.Common.{◌≡◌, ◌∙◌, sym, subst, IfSome, List}
use Rattle.program_rules.specs.Instructions.{MethodRef}
use Rattle.machine_rules.specs.declared.machine.Limits.{Limits}
use Rattle.machine_rules.specs.State as def
use Rattle.machine_rules.specs.Effects.{Effect}
use Rattle.class_link.specs.Info.{Info}
use Rattle.jvm_state.specs.Rows.{Row}
use Rattle.jvm_frames.specs.Frames.{NumberedFrame, NumberedFrames}
use Rattle.jvm_world.specs.declared.world.World.{World}
use Rattle.jvm_world.specs.View.{Means}
use Rattle.jvm_rows.specs.Effects.{RowOf}
use Rattle.jvm_rows.proofs.Ends.{if_both}
use Rattle.jvm_unwind.specs.declared.turn.Turn.{Turn}
use Rattle.jvm_unwind.specs.declared.turn.Turn.TheVariants as turn
use Rattle.jvm_unwind.specs.Turns.{row_at, TurnsTo, Turns}
use Rattle.jvm_invokes.specs.declared.invoked.Invoked.{Invoked}
use Rattle.jvm_invokes.specs.declared.invoked.Invoked.TheVariants as invoked
use Rattle.jvm_invokes.specs.Invoked.{Leaves, InvokedTo, Invokes}

-- ---- a row that is done

turned_to : (p : List Info) (q : Limits) (r : MethodRef) (t : Turn) (f : NumberedFrame) (old new : NumberedFrames) (w u : World) (go : def.World → Effect) (v : def.World) (d : Effect) → Means p w v → d ≡ go v → TurnsTo p go t old new w u → InvokedTo p q r (invoked.Turned t) f old new u d
turned_to p q r turn.NoRow f old new w u go v d m same h = (same ∙ h.0 v m, h.1)
turned_to p q r turn.Goes f old new w u go v d m same h =
    let c = h v m in record { world = c.world; means = c.means; goes = same ∙ c.goes }
turned_to p q r (turn.Throws x) f old new w u go v d m same h =
    let c = h v m in record { world = c.world; means = c.means; goes = same ∙ c.goes }

-- Two rows do the same at the running frame.
abbrev pub SameRow : List Info → RowOf → Row → NumberedFrames → World → Type 0
SameRow p row other old w = IfSome old.frame (λ f. (v : def.World) → row_at p (row w.limits f.room) f old v ≡ row_at p other f old v)

pub turned : (p : List Info) (r : MethodRef) (row : RowOf) (other : Row) (t : Turn) (old new : NumberedFrames) (w u : World) → SameRow p row other old w → Turns p other t old new w u → Invokes p r row (invoked.Turned t) old new w u
turned p r row other t old new w u same h =
    if_both old.frame
    (λ f. (v : def.World) → row_at p (row w.limits f.room) f old v ≡ row_at p other f old v)
    (λ f. TurnsTo p (row_at p other f old) t old new w u)
    (λ f. (v : def.World) → Means p w v → InvokedTo p w.limits r (invoked.Turned t) f old new u (row_at p (row w.limits f.room) f old v))
    (λ f a b v m. turned_to p w.limits r t f old new w u (row_at p other f old) v (row_at p (row w.limits f.room) f old v) m (a v) b)
    same h

-- ---- what is left of a row, once the world has moved

-- A row is left of another one at the running frame.
abbrev pub LeftTo : List Info → RowOf → RowOf → NumberedFrames → World → World → Type 0
LeftTo p row other old w mid =
    IfSome old.frame (λ f. (v : def.World) → Means p w v →
    Leaves p (other w.limits f.room) f old mid (row_at p (row w.limits f.room) f old v))

pub after : (p : List Info) (r : MethodRef) (row other : RowOf) (t : Invoked) (old new : NumberedFrames) (w mid u : World) → mid.limits ≡ w.limits → LeftTo p row other old w mid → Invokes p r other t old new mid u → Invokes p r row t old new w u
after p r row other t old new w mid u same left h =
    if_both old.frame
    (λ f. (v : def.World) → Means p w v → Leaves p (other w.limits f.room) f old mid (row_at p (row w.limits f.room) f old v))
    (λ f. (v : def.World) → Means p mid v → InvokedTo p mid.limits r t f old new u (row_at p (other mid.limits f.room) f old v))
    (λ f. (v : def.World) → Means p w v → InvokedTo p w.limits r t f old new u (row_at p (row w.limits f.room) f old v))
    (λ f a b v m.
    let l = a v m in
    let k : InvokedTo p w.limits r t f old new u (row_at p (other w.limits f.room) f old l.world) =
    subst (λ q. InvokedTo p q r t f old new u (row_at p (other q f.room) f old l.world)) same (b l.world l.means) in
    subst (λ d. InvokedTo p w.limits r t f old new u d) (sym l.left) k)
    left h

-- Two rows that are the same leave each other.
pub left_same : (p : List Info) (row other : RowOf) (old : NumberedFrames) (w : World) → IfSome old.frame (λ f. (v : def.World) → Means p w v → row_at p (row w.limits f.room) f old v ≡ row_at p (other w.limits f.room) f old v) → LeftTo p row other old w w
left_same p row other old w same =
    if_both old.frame
    (λ f. (v : def.World) → Means p w v → row_at p (row w.limits f.room) f old v ≡ row_at p (other w.limits f.room) f old v)
    (λ f. (v : def.World) → Means p w v → row_at p (row w.limits f.room) f old v ≡ row_at p (other w.limits f.room) f old v)
    (λ f. (v : def.World) → Means p w v → Leaves p (other w.limits f.room) f old w (row_at p (row w.limits f.room) f old v))
    (λ f a b v m. record { world = v; means = m; left = a v m })
    same same
