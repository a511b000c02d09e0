-- The rows of instructions, by what they mean in a method.
use Rattle.std.specs.Prelude.{◌≡◌, ℕ, Bool, List, Option, Some, IsSomeAnd, slice_get}
use Rattle.std.specs.Option.{option_map}
use Rattle.program_rules.specs.Instructions as def
use Rattle.program_rules.specs.Names.{Name}
use Rattle.program_rules.specs.Kinds.{Kind}
use Rattle.machine_rules.specs.declared.machine.Limits.{Limits}
use Rattle.machine_rules.specs.State as rules
use Rattle.machine_rules.specs.Arrays.{makes_arrays}
use Rattle.machine_rules.specs.Effects.{on_some}
use Rattle.machine_rules.specs.Steps.{act, fetch}
use Rattle.class_link.specs.Info.{Info}
use Rattle.class_link.specs.Opcodes.{on_text, on_class, on_field, on_method}
use Rattle.class_link.specs.Symbols.{Symbol, kind_of}
use Rattle.class_table.specs.Table.{look, entries_at}
use Rattle.class_link.specs.View.{meaning_at}
use Rattle.jvm_state.specs.declared.op.Op.{Op}
use Rattle.jvm_frames.specs.Frames.{NumberedFrame, NumberedFrames}
use Rattle.jvm_world.specs.declared.world.World.{World}
use Rattle.jvm_rows.specs.declared.effect.Effect.{Effect}
use Rattle.jvm_rows.specs.Effects.{RowOf}
use Rattle.jvm_rows.specs.Plain.{means_row}
use Rattle.jvm_members.specs.Whole.{RunsWhole}
use Rattle.jvm_unwind.specs.declared.turn.Turn.{Turn}
use Rattle.jvm_unwind.specs.Turns.{row_at}
use Rattle.jvm_unwind.specs.Unwinding.{unwinding}
use Rattle.jvm_invokes.specs.Rows.{static_row}
use Rattle.jvm_receivers.specs.declared.invoking.Invocation.TheVariants as invocation
use Rattle.jvm_receivers.specs.Kinds.{invoked_row}
use Rattle.jvm_act.specs.declared.methods.MethodCode.{MethodCode}
use Rattle.jvm_act.specs.declared.acting.Acted.{Acted}
use Rattle.jvm_act.specs.declared.acting.Acted.TheVariants as acted
use Rattle.jvm_act.specs.declared.groups.FieldUse.{FieldUse}
use Rattle.jvm_members.specs.declared.access.Access.TheVariants as access
use Rattle.jvm_act.specs.declared.groups.FieldUse.TheVariants as field
use Rattle.jvm_act.specs.declared.groups.MemberOp.{MemberOp}
use Rattle.jvm_act.specs.declared.groups.MemberOp.TheVariants as member
use Rattle.jvm_act.specs.declared.groups.CallUse.{CallUse}
use Rattle.jvm_act.specs.declared.groups.CallUse.TheVariants as call
use Rattle.jvm_act.specs.Methods.{IsCodeOf}
use Rattle.jvm_act.specs.Standing.{HasNext}
use Rattle.jvm_act.specs.Turned.{Turned}
use Rattle.jvm_act.specs.declared.groups.ClassUse.{ClassUse}
use Rattle.jvm_act.specs.declared.groups.ClassUse.TheVariants as using

-- What the index of a class's constant pool means.
abbrev pub symbol_at : List Info → ℕ → ℕ → Symbol
symbol_at p class index = meaning_at (entries_at p class) index

-- No text stands there, whatever would be done with it; no class; no field; no method.
abbrev pub NamesNoText : List Info → ℕ → ℕ → Type 0
NamesNoText p class index =
    (make : Name → def.Instruction) → on_text make (symbol_at p class index) ≡ def.Unlinked

abbrev pub NamesNoClass : List Info → ℕ → ℕ → Type 0
NamesNoClass p class index =
    (make : Name → def.Instruction) → on_class make (symbol_at p class index) ≡ def.Unlinked

abbrev pub NamesNoField : List Info → ℕ → ℕ → Type 0
NamesNoField p class index =
    (make : def.FieldRef → def.Instruction) →
    on_field make (symbol_at p class index) ≡ def.Unlinked

abbrev pub NamesNoMethod : List Info → ℕ → ℕ → Type 0
NamesNoMethod p class index =
    (make : def.MethodRef → def.Instruction) →
    on_method make (symbol_at p class index) ≡ def.Unlinked

-- A class that is named is used.
abbrev pub use_named : ClassUse → Name → def.Instruction
use_named using.Load n = def.ClassConstant n
use_named using.MakeArray n = def.NewReferenceArray n
use_named (using.MakeArrays k) n = def.NewMultiArray n k
use_named using.Cast n = def.CheckCast n
use_named using.Test n = def.InstanceOf n

-- A field that is named is used.
abbrev pub field_named : FieldUse → def.FieldRef → def.Instruction
field_named (field.Static access.Get) r = def.GetStatic r
field_named (field.Static access.Put) r = def.PutStatic r
field_named (field.Object access.Get) r = def.GetField r
field_named (field.Object access.Put) r = def.PutField r

-- A method that is named is called, as an instruction and as a row.
abbrev pub call_named : CallUse → def.MethodRef → def.Instruction
call_named call.Static r = def.InvokeStatic r
call_named (call.On invocation.Virtual) r = def.InvokeVirtual r
call_named (call.On invocation.Interface) r = def.InvokeInterface r
call_named (call.On invocation.Special) r = def.InvokeSpecial r

abbrev pub call_row : List Info → CallUse → def.MethodRef → RowOf
call_row p call.Static r = static_row p r
call_row p (call.On how) r = invoked_row p how r

-- What the whole row of an instruction comes to, in each method.
abbrev pub RunsWholeAs :
    List Info → def.Instruction → Effect → NumberedFrames → NumberedFrames → World → World →
    Type 0
RunsWholeAs p i e old new w u =
    (kind : Option Kind) (starts : Bool) → RunsWhole p (means_row p kind starts i) e old new w u

-- What a row comes to that may change which frames there are, in each method.
abbrev pub TurnsAs :
    List Info → def.Instruction → Turn → NumberedFrames → NumberedFrames → World → World → Type 0
TurnsAs p i t old new w u =
    (kind : Option Kind) (starts : Bool) → Turned p (means_row p kind starts i) t old new w u

-- The same in one method.
abbrev pub TurnsIn :
    List Info → MethodCode → def.Instruction → Turn → NumberedFrames → NumberedFrames → World →
    World → Type 0
TurnsIn p m i t old new w u =
    Turned p (means_row p (option_map kind_of m.result) m.handlers.initializes i) t old new w u

-- `multianewarray`.
abbrev pub arrays_whole : List Info → Name → ℕ → RowOf
arrays_whole p n count = λ q room w f fs. makes_arrays (look p) q w f fs room n count

-- The instruction at which the running frame stands is executed, if there is one (JVMS 2.11).
abbrev pub acting : List Info → RowOf
acting p = λ q room w f fs.
    on_some (fetch (look p) f) (λ i. act (look p) q i.here i.instruction w f fs)

-- An object is thrown in the running frame (JVMS 2.10).
abbrev pub throwing_row : List Info → ℕ → RowOf
throwing_row p x = λ q room. unwinding p q x

-- ---- what an instruction comes to

-- The frame that runs is of a method with this code.
abbrev pub RunsCode : List Info → MethodCode → NumberedFrames → Type 0
RunsCode p m s = IsSomeAnd s.frame (λ f. IsCodeOf p f.class f.method m)

-- A frame of this class stands at this instruction of its method's code.
pub record StandsAtOp (p : List Info) (number : ℕ) (m : MethodCode) (op : Op) (f : NumberedFrame)
    : Type 0 where
  pub class : f.class ≡ number
  pub code : IsCodeOf p f.class f.method m
  pub at : slice_get m.code.ops.items f.at ≡ Some op
  pub next : HasNext f

-- What is executed at the running frame is this instruction of its class and its method.
pub record IsLeft
    (p : List Info) (m : MethodCode) (number : ℕ) (i : def.Instruction) (q : Limits)
    (s : NumberedFrames) (f : NumberedFrame) : Type 0 where
  pub class : f.class ≡ number
  pub next : HasNext f
  pub row : (v : rules.World) → row_at p (acting p q f.room) f s v
      ≡ row_at p (means_row p (option_map kind_of m.result) m.handlers.initializes i q f.room) f s v

-- It is left to be executed, and nothing has changed.
pub record Leaves
    (p : List Info) (m : MethodCode) (class : ℕ) (i : def.Instruction) (old new : NumberedFrames)
    (w u : World) : Type 0 where
  pub left : IsSomeAnd old.frame (IsLeft p m class i w.limits old)
  pub frames : new ≡ old
  pub world : u ≡ w

-- What a class names at an index, as an instruction that may begin a class.
abbrev pub member_at : List Info → ℕ → MemberOp → def.Instruction
member_at p class (member.Field how n) = on_field (field_named how) (symbol_at p class n)
member_at p class (member.New n) = on_class def.New (symbol_at p class n)

-- By what the code answers.
abbrev pub ActsTo :
    List Info → MethodCode → Acted → NumberedFrames → NumberedFrames → World → World → Type 0
ActsTo p m (acted.Turned t) old new w u = Turned p (acting p) t old new w u
ActsTo p m (acted.Call c how n) old new w u =
    Leaves p m c.0 (on_method (call_named how) (symbol_at p c.0 n)) old new w u
