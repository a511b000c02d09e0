-- What instructions mean, by whose rows they have.
use Rattle.std.specs.Prelude.{◌≡◌, ℕ, ℤ, true, List}
use Rattle.program_rules.specs.Instructions as def
use Rattle.jvm_state.specs.declared.op.Op.{Op}
use Rattle.jvm_state.specs.Ops.{Naming, instruction_of, is_alone}
use Rattle.jvm_state.specs.Ops as naming
use Rattle.jvm_receivers.specs.declared.invoking.Invocation.TheVariants as invocation
use Rattle.jvm_act.specs.declared.groups.SwitchOp.{SwitchOp}
use Rattle.jvm_act.specs.declared.groups.SwitchOp.TheVariants as switch
use Rattle.jvm_act.specs.declared.groups.ElementOp.{ElementOp}
use Rattle.jvm_act.specs.declared.groups.ElementOp.TheVariants as element
use Rattle.jvm_act.specs.declared.groups.ObjectOp.{ObjectOp}
use Rattle.jvm_act.specs.declared.groups.ObjectOp.TheVariants as object
use Rattle.jvm_act.specs.declared.groups.ClassUse.{ClassUse}
use Rattle.jvm_act.specs.declared.groups.ClassUse.TheVariants as using
use Rattle.jvm_act.specs.declared.groups.ClassOp.{ClassOp}
use Rattle.jvm_act.specs.declared.groups.ClassOp.TheVariants as class
use Rattle.jvm_act.specs.declared.groups.FrameOp.{FrameOp}
use Rattle.jvm_act.specs.declared.groups.FrameOp.TheVariants as frame
use Rattle.jvm_act.specs.declared.groups.FieldUse.{FieldUse}
use Rattle.jvm_members.specs.declared.access.Access.TheVariants as access
use Rattle.jvm_act.specs.declared.groups.FieldUse.TheVariants as field
use Rattle.jvm_act.specs.declared.groups.MemberOp.{MemberOp}
use Rattle.jvm_act.specs.declared.groups.MemberOp.TheVariants as member
use Rattle.jvm_act.specs.declared.groups.CallUse.{CallUse}
use Rattle.jvm_act.specs.declared.groups.CallUse.TheVariants as call
use Rattle.jvm_act.specs.declared.groups.ReturnOp.{ReturnOp}
use Rattle.jvm_act.specs.declared.groups.ReturnOp.TheVariants as return
use Rattle.jvm_act.specs.declared.groups.Group.{Group}
use Rattle.jvm_act.specs.declared.groups.Group.TheVariants as group

-- What a number of an instruction names.
abbrev pub Names : Type 0
Names = Naming → ℕ → def.Instruction

-- ---- by what is named

abbrev pub switch_in : Names → SwitchOp → def.Instruction
switch_in named (switch.Table n) = named naming.TableSwitch n
switch_in named (switch.Lookup n) = named naming.LookupSwitch n

abbrev pub element_in : ElementOp → def.Instruction
element_in (element.Load e) = def.ArrayLoad e
element_in (element.Store e) = def.ArrayStore e

abbrev pub object_in : ObjectOp → def.Instruction
object_in object.Length = def.ArrayLength
object_in object.Throw = def.Throw
object_in object.Enter = def.MonitorEnter
object_in object.Exit = def.MonitorExit

abbrev pub use_of : ClassUse → Naming
use_of using.Load = naming.ClassConstant
use_of using.MakeArray = naming.NewReferenceArray
use_of (using.MakeArrays k) = naming.NewMultiArray k
use_of using.Cast = naming.CheckCast
use_of using.Test = naming.InstanceOf

abbrev pub class_in : Names → ClassOp → def.Instruction
class_in named (class.Text n) = named naming.TextConstant n
class_in named (class.Primitives n) = named naming.NewArray n
class_in named (class.Use how n) = named (use_of how) n

abbrev pub field_of : FieldUse → Naming
field_of (field.Static access.Get) = naming.GetStatic
field_of (field.Static access.Put) = naming.PutStatic
field_of (field.Object access.Get) = naming.GetField
field_of (field.Object access.Put) = naming.PutField

abbrev pub member_in : Names → MemberOp → def.Instruction
member_in named (member.Field how n) = named (field_of how) n
member_in named (member.New n) = named naming.New n

abbrev pub call_of : CallUse → Naming
call_of call.Static = naming.InvokeStatic
call_of (call.On invocation.Virtual) = naming.InvokeVirtual
call_of (call.On invocation.Interface) = naming.InvokeInterface
call_of (call.On invocation.Special) = naming.InvokeSpecial

abbrev pub return_in : ReturnOp → def.Instruction
return_in return.Int = def.IntReturn
return_in return.Long = def.LongReturn
return_in return.Reference = def.ReferenceReturn
return_in return.Plain = def.PlainReturn

-- ---- of an instruction in eight bytes

-- It means this, whatever its number names.
abbrev pub MeansIn : Op → (Names → def.Instruction) → Type 0
MeansIn op means =
    (longs : List ℤ) (named : Names) → instruction_of longs named op ≡ means named

abbrev pub IsFrameOf : Op → FrameOp → Type 0
IsFrameOf op frame.Alone = is_alone op ≡ true
IsFrameOf op (frame.Switch s) = MeansIn op (λ named. switch_in named s)
IsFrameOf op (frame.Element e) = MeansIn op (λ named. element_in e)
IsFrameOf op (frame.Object o) = MeansIn op (λ named. object_in o)
IsFrameOf op (frame.Class c) = MeansIn op (λ named. class_in named c)
IsFrameOf op frame.Unlinked = MeansIn op (λ named. def.Unlinked)

abbrev pub IsGroupOf : Op → Group → Type 0
IsGroupOf op (group.Frame f) = IsFrameOf op f
IsGroupOf op (group.Member m) = MeansIn op (λ named. member_in named m)
IsGroupOf op (group.Call how n) = MeansIn op (λ named. named (call_of how) n)
IsGroupOf op (group.Return r) = MeansIn op (λ named. return_in r)
