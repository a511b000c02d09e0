-- Returns.
use Rattle.std.proofs.Common.{◌≡◌, sym, refl, subst, ℕ, ◌<◌, Bool, List, [], ◌∷◌, Option, None, Some, IfSome}
use Rattle.std.specs.Prelude.{All, length, slice_get}
use Rattle.std.proofs.lemmas.List.Elements.{All-head}
use Rattle.program_rules.specs.Instructions as def
use Rattle.program_rules.specs.Kinds.{Kind}
use Rattle.machine_rules.specs.Steps.{act}
use Rattle.class_link.specs.Info.{Info}
use Rattle.jvm_frames.specs.Frames.{NumberedFrame, NumberedFrames}
use Rattle.jvm_world.specs.declared.world.World.{World}
use Rattle.jvm_rows.proofs.Ends.{if_some}
use Rattle.jvm_rows.specs.Plain.{means_row}
use Rattle.jvm_unwind.specs.declared.turn.Turn.{Turn}
use Rattle.jvm_unwind.specs.Turns.{row_at, TurnsTo, Turns}
use Rattle.jvm_calls.specs.Returns.{IsCaller, HasCaller, returning_int, returning_long, returning_reference, returning_plain}
use Rattle.jvm_invokes.specs.Invoked.{IsOfMethod}
use Rattle.jvm_act.specs.Turned.{TurnedTo, Turned, always}
use Rattle.jvm_act.specs.Standing.{Waits, AreFramesOf}
use Rattle.jvm_act.proofs.Turns.{turns_at, turns_are_turned}

-- ---- the frame below, and the running one

caller_in : (p : List Info) (cs : List NumberedFrame) → All (Waits p) cs → IfSome (slice_get cs 0) (IsCaller p)
caller_in p [] h = tt
caller_in p (c ∷ cs) h = let k = All-head (Waits p) c cs h in record { next = k.next; room = k.method.room }

pub has_caller : (p : List Info) (s : NumberedFrames) → AreFramesOf p s → HasCaller p s
has_caller p s h = caller_in p s.callers h.below

pub within : (p : List Info) (s : NumberedFrames) → AreFramesOf p s → IfSome s.frame (λ f. f.class < length p)
within p s h = if_some s.frame (IsOfMethod p) (λ f. f.class < length p) (λ f k. k.class) h.running

-- ---- rows

pub int_turned : (p : List Info) (kind : Option Kind) (starts : Bool) (t : Turn) (old new : NumberedFrames) (w u : World) → Turns p (returning_int p kind) t old new w u → Turned p (means_row p kind starts def.IntReturn) t old new w u
unfolding act
int_turned p kind starts t old new w u h = turns_are_turned p (returning_int p kind) t old new w u h

pub long_turned : (p : List Info) (kind : Option Kind) (starts : Bool) (t : Turn) (old new : NumberedFrames) (w u : World) → Turns p (returning_long p kind) t old new w u → Turned p (means_row p kind starts def.LongReturn) t old new w u
unfolding act
long_turned p kind starts t old new w u h = turns_are_turned p (returning_long p kind) t old new w u h

pub reference_turned : (p : List Info) (kind : Option Kind) (starts : Bool) (t : Turn) (old new : NumberedFrames) (w u : World) → Turns p (returning_reference p kind) t old new w u → Turned p (means_row p kind starts def.ReferenceReturn) t old new w u
unfolding act
reference_turned p kind starts t old new w u h = turns_are_turned p (returning_reference p kind) t old new w u h

-- What holds for each room holds for that of the frame.
with_room : (o : Option NumberedFrame) (P : ℕ → NumberedFrame → Type 0) → ((room : ℕ) → IfSome o (P room)) → IfSome o (λ f. P f.room f)
with_room None P h = tt
with_room (Some f) P h = h f.room

pub plain_turned : (p : List Info) (kind : Option Kind) (starts : Bool) (t : Turn) (old new : NumberedFrames) (w u : World) → ((room : ℕ) → Turns p (returning_plain p kind room starts) t old new w u) → Turned p (means_row p kind starts def.PlainReturn) t old new w u
unfolding act
plain_turned p kind starts t old new w u h =
    if_some old.frame
    (λ f. TurnsTo p (row_at p (returning_plain p kind f.room starts) f old) t old new w u)
    (λ f. TurnedTo p (row_at p (returning_plain p kind f.room starts) f old) t new w u)
    (λ f k. turns_at p (row_at p (returning_plain p kind f.room starts) f old) t old new w u k)
    (with_room old.frame (λ room f. TurnsTo p (row_at p (returning_plain p kind room starts) f old) t old new w u) h)
