-- Rows that take operands off the stack, by what they do with them.
use Rattle.std.proofs.Common.{ℕ, ℤ, List, drop, Option, None, Some, IfSome}
use Rattle.program_rules.specs.declared.value.Value.{Value}
use Rattle.program_rules.specs.Kinds.{Kind}
use Rattle.machine_rules.specs.declared.machine.Limits.{Limits}
use Rattle.machine_rules.specs.State as def
use Rattle.machine_rules.specs.Effects.{Effect, on_int, on_reference, on_kind}
use Rattle.class_link.specs.Info.{Info}
use Rattle.jvm_state.specs.Tops.{TakesInt, NoInt, TakesReference, NoReference}
use Rattle.jvm_frames.specs.Frames.{NumberedFrame, NumberedFrames, framed, stack_of}
use Rattle.jvm_world.specs.declared.world.World.{World}
use Rattle.jvm_rows.specs.Effects.{RowOf}
use Rattle.jvm_rows.specs.Rows.{TakesKind, NoKind}
use Rattle.jvm_rows.proofs.Ends.{SameAt, AreSame, nothing}

-- What a row does with an operand and with the stack below it.
abbrev pub With : Type 0 → Type 0
With A = Limits → ℕ → def.World → def.Frame → List def.Frame → A → List Value → Effect

-- The row that takes an int, a reference or a value of a kind, and what is left of it.
abbrev pub int_row : With ℤ → RowOf
int_row go = λ q room w f fs. on_int f.stack (λ z rest. go q room w f fs z rest)

abbrev pub reference_row : With (Option ℕ) → RowOf
reference_row go = λ q room w f fs. on_reference f.stack (λ o rest. go q room w f fs o rest)

abbrev pub kind_row : Kind → With Value → RowOf
kind_row k go = λ q room w f fs. on_kind k f.stack (λ a rest. go q room w f fs a rest)

abbrev pub left_row : {A : Type 0} → With A → A → RowOf
left_row go a = λ q room w f fs. go q room w f fs a (drop 1 f.stack)

-- ---- an int

no_int_on : (p : List Info) (o : Option NumberedFrame) (w : World) (go : With ℤ) → NoInt (drop 0 (stack_of o)) → IfSome o (λ f. AreSame p (int_row go w.limits f.room) (nothing w.limits f.room) f w)
no_int_on p None w go h = tt
no_int_on p (Some f) w go h = λ class v fs m. h (λ z rest. go w.limits f.room v (framed class f) fs z rest)

pub no_int : (p : List Info) (old : NumberedFrames) (w : World) (go : With ℤ) → NoInt (drop 0 (stack_of old.frame)) → SameAt p (int_row go) nothing old w
no_int p old w go h = no_int_on p old.frame w go h

an_int_on : (p : List Info) (o : Option NumberedFrame) (w : World) (go : With ℤ) (z : ℤ) → TakesInt (drop 0 (stack_of o)) z (drop 1 (stack_of o)) → IfSome o (λ f. AreSame p (int_row go w.limits f.room) (left_row go z w.limits f.room) f w)
an_int_on p None w go z h = tt
an_int_on p (Some f) w go z h = λ class v fs m. h (λ y rest. go w.limits f.room v (framed class f) fs y rest)

pub an_int : (p : List Info) (old : NumberedFrames) (w : World) (go : With ℤ) (z : ℤ) → TakesInt (drop 0 (stack_of old.frame)) z (drop 1 (stack_of old.frame)) → SameAt p (int_row go) (left_row go z) old w
an_int p old w go z h = an_int_on p old.frame w go z h

-- ---- a reference

no_reference_on : (p : List Info) (o : Option NumberedFrame) (w : World) (go : With (Option ℕ)) → NoReference (drop 0 (stack_of o)) → IfSome o (λ f. AreSame p (reference_row go w.limits f.room) (nothing w.limits f.room) f w)
no_reference_on p None w go h = tt
no_reference_on p (Some f) w go h = λ class v fs m. h (λ x rest. go w.limits f.room v (framed class f) fs x rest)

pub no_reference : (p : List Info) (old : NumberedFrames) (w : World) (go : With (Option ℕ)) → NoReference (drop 0 (stack_of old.frame)) → SameAt p (reference_row go) nothing old w
no_reference p old w go h = no_reference_on p old.frame w go h

a_reference_on : (p : List Info) (o : Option NumberedFrame) (w : World) (go : With (Option ℕ)) (x : Option ℕ) → TakesReference (drop 0 (stack_of o)) x (drop 1 (stack_of o)) → IfSome o (λ f. AreSame p (reference_row go w.limits f.room) (left_row go x w.limits f.room) f w)
a_reference_on p None w go x h = tt
a_reference_on p (Some f) w go x h = λ class v fs m. h (λ y rest. go w.limits f.room v (framed class f) fs y rest)

pub a_reference : (p : List Info) (old : NumberedFrames) (w : World) (go : With (Option ℕ)) (x : Option ℕ) → TakesReference (drop 0 (stack_of old.frame)) x (drop 1 (stack_of old.frame)) → SameAt p (reference_row go) (left_row go x) old w
a_reference p old w go x h = a_reference_on p old.frame w go x h

-- ---- a value of a kind

no_kind_on : (p : List Info) (o : Option NumberedFrame) (w : World) (k : Kind) (go : With Value) → NoKind k (drop 0 (stack_of o)) → IfSome o (λ f. AreSame p (kind_row k go w.limits f.room) (nothing w.limits f.room) f w)
no_kind_on p None w k go h = tt
no_kind_on p (Some f) w k go h = λ class v fs m. h (λ a rest. go w.limits f.room v (framed class f) fs a rest)

pub no_kind : (p : List Info) (old : NumberedFrames) (w : World) (k : Kind) (go : With Value) → NoKind k (drop 0 (stack_of old.frame)) → SameAt p (kind_row k go) nothing old w
no_kind p old w k go h = no_kind_on p old.frame w k go h

a_kind_on : (p : List Info) (o : Option NumberedFrame) (w : World) (k : Kind) (go : With Value) (a : Value) → TakesKind k (drop 0 (stack_of o)) a (drop 1 (stack_of o)) → IfSome o (λ f. AreSame p (kind_row k go w.limits f.room) (left_row go a w.limits f.room) f w)
a_kind_on p None w k go a h = tt
a_kind_on p (Some f) w k go a h = λ class v fs m. h (λ b rest. go w.limits f.room v (framed class f) fs b rest)

pub a_kind : (p : List Info) (old : NumberedFrames) (w : World) (k : Kind) (go : With Value) (a : Value) → TakesKind k (drop 0 (stack_of old.frame)) a (drop 1 (stack_of old.frame)) → SameAt p (kind_row k go) (left_row go a) old w
a_kind p old w k go a h = a_kind_on p old.frame w k go a h
