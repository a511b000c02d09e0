-- The instruction of the running frame: what `act` leaves is done.
use Rattle.std.proofs.Common.{◌≡◌, ◌∙◌, sym, subst, ℕ, List, Option, Some, IfSome, IsSomeAnd}
use Rattle.std.specs.Option.{option_map}
use Rattle.program_rules.specs.Instructions as def
use Rattle.machine_rules.specs.State as rules
use Rattle.machine_rules.specs.Effects.{Effect}
use Rattle.class_link.specs.Info.{Info}
use Rattle.class_link.specs.Symbols.{kind_of}
use Rattle.jvm_frames.specs.Frames.{NumberedFrames}
use Rattle.jvm_world.specs.declared.world.World.{World}
use Rattle.jvm_world.specs.View.{IsKept}
use Rattle.jvm_lines.specs.Below.{StandsIn}
use Rattle.jvm_lines.specs.Below.{means_row}
use Rattle.jvm_lines.specs.Below.{Turn}
use Rattle.jvm_lines.specs.Below.jvm_unwind_declared_turn_Turn_TheVariants as turn
use Rattle.jvm_lines.specs.Below.{row_at}
use Rattle.jvm_lines.proofs.Below.{with_some}
use Rattle.jvm_lines.specs.Below.{MethodCode}
use Rattle.jvm_lines.specs.Below.{IsLeft, Leaves, TurnsAs, acting}
use Rattle.jvm_lines.specs.Below.{TurnedTo, Turned}

-- Two rows that do the same at the running frame come to the same.
turned_along : (p : List Info) (go other : rules.World → Effect) (t : Turn) (new : NumberedFrames) (w u : World) → ((v : rules.World) → go v ≡ other v) → TurnedTo p other t new w u → TurnedTo p go t new w u
turned_along p go other turn.NoRow new w u same h = λ v m. same v ∙ h v m
turned_along p go other turn.Goes new w u same h = λ v m. let k = h v m in record { world = k.world; means = k.means; goes = same v ∙ k.goes }
turned_along p go other (turn.Throws x) new w u same h = λ v m. let k = h v m in record { world = k.world; means = k.means; goes = same v ∙ k.goes }

of_some : {A : Type 0} (o : Option A) (x : A) (P : A → Type 0) → o ≡ Some x → IfSome o P → P x
of_some o x P is h = subst (λ k. IfSome k P) is h

-- What was left is done.
pub left_done : (p : List Info) (m : MethodCode) (class : ℕ) (i : def.Instruction) (t : Turn) (old between new : NumberedFrames) (w mid u : World) → Leaves p m class i old between w mid → TurnsAs p i t between new mid u → Turned p (acting p) t old new w u
left_done p m class i t old between new w mid u h done =
    let f = with_some old.frame (IsLeft p m class i w.limits old) h.left in
    let kind = option_map kind_of m.result in
    let row = means_row p kind m.handlers.initializes i in
    let here : Turned p row t old new w u =
    subst (λ k. Turned p row t k new w u) h.frames
    (subst (λ k. Turned p row t between new k u) h.world (done kind m.handlers.initializes)) in
    subst (λ o. IfSome o (λ g. TurnedTo p (row_at p (acting p w.limits g.room) g old) t new w u)) (sym f.1)
    (turned_along p (row_at p (acting p w.limits f.0.room) f.0 old) (row_at p (row w.limits f.0.room) f.0 old) t new w u
    f.2.row (of_some old.frame f.0 (λ g. TurnedTo p (row_at p (row w.limits g.room) g old) t new w u) f.1 here))

-- The frame that runs is of the class that names the method, and has a next instruction.
pub stands_in : (p : List Info) (m : MethodCode) (class : ℕ) (i : def.Instruction) (old between : NumberedFrames) (w mid : World) → Leaves p m class i old between w mid → IsSomeAnd between.frame (StandsIn class)
stands_in p m class i old between w mid h =
    let f = with_some old.frame (IsLeft p m class i w.limits old) h.left in
    subst (λ k. IsSomeAnd k.frame (StandsIn class)) (sym h.frames)
    (subst (λ o. IsSomeAnd o (StandsIn class)) (sym f.1) (record { class = f.2.class; next = f.2.next }))

pub kept_on : (p : List Info) (w between u : World) → IsKept p w between → IsKept p between u → IsKept p w u
kept_on p w between u first second = record { world = second.world; limits = second.limits ∙ first.limits }
