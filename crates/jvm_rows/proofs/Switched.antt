-- The switches.
use Rattle.std.proofs.Common.{◌≡◌, ◌∙◌, sym, ap, refl, ℕ, ℤ, Bool, List, drop, Option, None, Some, IfSome}
use Rattle.std.specs.Prelude.{◌-ℤ◌}
use Rattle.program_rules.specs.Instructions as def
use Rattle.program_rules.specs.Kinds.{Kind}
use Rattle.machine_rules.specs.Effects.{jumps}
use Rattle.machine_rules.specs.Steps.{act, table_target, key_target}
use Rattle.class_link.specs.Info.{Info}
use Rattle.jvm_state.specs.Tops.{TakesInt, NoInt}
use Rattle.jvm_frames.specs.Frames.{NumberedFrame, NumberedFrames, framed, stack_of}
use Rattle.jvm_world.specs.declared.world.World.{World}
use Rattle.jvm_rows.specs.declared.effect.Effect as code
use Rattle.jvm_rows.specs.declared.effect.Effect.TheVariants as effect
use Rattle.jvm_rows.specs.Effects.{Runs}
use Rattle.jvm_rows.proofs.Ends.{SameAt, AreSame, nothing, each, along, no_row}
use Rattle.jvm_rows.specs.Plain.{means_row, RunsAs, jump_row}

-- ---- by a table

table_on : (p : List Info) (kind : Option Kind) (starts : Bool) (default : ℕ) (low : ℤ) (targets : List ℕ) (z : ℤ) (to : ℕ) (o : Option NumberedFrame) (w : World) → to ≡ table_target default targets (z -ℤ low) → TakesInt (drop 0 (stack_of o)) z (drop 1 (stack_of o)) → IfSome o (λ f. AreSame p (means_row p kind starts (def.TableSwitch default low targets) w.limits f.room) (jump_row to w.limits f.room) f w)
unfolding act
table_on p kind starts default low targets z to None w e t = tt
table_on p kind starts default low targets z to (Some f) w e t = λ class v fs m.
    t (λ x rest. jumps v (framed class f) fs (table_target default targets (x -ℤ low)) rest)
    ∙ ap (λ n. jumps v (framed class f) fs n (drop 1 f.stack)) (sym e)

pub by_table : (p : List Info) (default : ℕ) (low : ℤ) (targets : List ℕ) (z : ℤ) (to : ℕ) (e : code.Effect) (old new : NumberedFrames) (w : World) → to ≡ table_target default targets (z -ℤ low) → TakesInt (drop 0 (stack_of old.frame)) z (drop 1 (stack_of old.frame)) → Runs p (jump_row to) e old new w w → RunsAs p (def.TableSwitch default low targets) e old new w w
by_table p default low targets z to e old new w same t r = λ kind starts.
    along p (means_row p kind starts (def.TableSwitch default low targets)) (jump_row to) e old new w w (table_on p kind starts default low targets z to old.frame w same t) r

no_table_on : (p : List Info) (kind : Option Kind) (starts : Bool) (default : ℕ) (low : ℤ) (targets : List ℕ) (o : Option NumberedFrame) (w : World) → NoInt (drop 0 (stack_of o)) → IfSome o (λ f. AreSame p (means_row p kind starts (def.TableSwitch default low targets) w.limits f.room) (nothing w.limits f.room) f w)
unfolding act
no_table_on p kind starts default low targets None w t = tt
no_table_on p kind starts default low targets (Some f) w t = λ class v fs m.
    t (λ x rest. jumps v (framed class f) fs (table_target default targets (x -ℤ low)) rest)

pub no_int_for_table : (p : List Info) (default : ℕ) (low : ℤ) (targets : List ℕ) (old : NumberedFrames) (w : World) → NoInt (drop 0 (stack_of old.frame)) → RunsAs p (def.TableSwitch default low targets) effect.NoRow old old w w
no_int_for_table p default low targets old w t = λ kind starts.
    no_row p (means_row p kind starts (def.TableSwitch default low targets)) old w (no_table_on p kind starts default low targets old.frame w t)

-- ---- by keys

keys_on : (p : List Info) (kind : Option Kind) (starts : Bool) (default : ℕ) (keys : List (ℤ × ℕ)) (z : ℤ) (to : ℕ) (o : Option NumberedFrame) (w : World) → to ≡ key_target default keys z → TakesInt (drop 0 (stack_of o)) z (drop 1 (stack_of o)) → IfSome o (λ f. AreSame p (means_row p kind starts (def.LookupSwitch default keys) w.limits f.room) (jump_row to w.limits f.room) f w)
unfolding act
keys_on p kind starts default keys z to None w e t = tt
keys_on p kind starts default keys z to (Some f) w e t = λ class v fs m.
    t (λ x rest. jumps v (framed class f) fs (key_target default keys x) rest)
    ∙ ap (λ n. jumps v (framed class f) fs n (drop 1 f.stack)) (sym e)

pub by_keys : (p : List Info) (default : ℕ) (keys : List (ℤ × ℕ)) (z : ℤ) (to : ℕ) (e : code.Effect) (old new : NumberedFrames) (w : World) → to ≡ key_target default keys z → TakesInt (drop 0 (stack_of old.frame)) z (drop 1 (stack_of old.frame)) → Runs p (jump_row to) e old new w w → RunsAs p (def.LookupSwitch default keys) e old new w w
by_keys p default keys z to e old new w same t r = λ kind starts.
    along p (means_row p kind starts (def.LookupSwitch default keys)) (jump_row to) e old new w w (keys_on p kind starts default keys z to old.frame w same t) r

no_keys_on : (p : List Info) (kind : Option Kind) (starts : Bool) (default : ℕ) (keys : List (ℤ × ℕ)) (o : Option NumberedFrame) (w : World) → NoInt (drop 0 (stack_of o)) → IfSome o (λ f. AreSame p (means_row p kind starts (def.LookupSwitch default keys) w.limits f.room) (nothing w.limits f.room) f w)
unfolding act
no_keys_on p kind starts default keys None w t = tt
no_keys_on p kind starts default keys (Some f) w t = λ class v fs m.
    t (λ x rest. jumps v (framed class f) fs (key_target default keys x) rest)

pub no_int_for_keys : (p : List Info) (default : ℕ) (keys : List (ℤ × ℕ)) (old : NumberedFrames) (w : World) → NoInt (drop 0 (stack_of old.frame)) → RunsAs p (def.LookupSwitch default keys) effect.NoRow old old w w
no_int_for_keys p default keys old w t = λ kind starts.
    no_row p (means_row p kind starts (def.LookupSwitch default keys)) old w (no_keys_on p kind starts default keys old.frame w t)
