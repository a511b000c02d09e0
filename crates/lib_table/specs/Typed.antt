-- A test of written methods, which is computed: what stands on the stack before each instruction is
-- what it needs (JVMS 4.10.1), and within the limits of the code. Stacks hold ints and references,
-- and are empty where a jump goes. What a local holds isn't asked.
use Rattle.std.specs.Prelude.{ℕ, suc, Bool, true, false, ◌&&◌, nat_eq, nat_le, nat_lt, if◌then◌else◌, List, [], ◌∷◌, ◌++◌, map, length, Option, Some, None, option_and_then}
use Rattle.std.specs.List.{list_any, list_all, flat_map}
use Rattle.program_rules.specs.Kinds.{Kind, is_int_kind}
use Rattle.program_rules.specs.Instructions.{Instruction, MethodRef, NullConstant, IntConstant, TextConstant, IntLoad, ReferenceLoad, IntStore, ReferenceStore, Pop, Increment, IfInt, IfInts, IfSame, IfNotSame, IfNull, IfNotNull, Goto, IntReturn, ReferenceReturn, PlainReturn, InvokeVirtual, InvokeStatic, CheckCast, InstanceOf}
use Rattle.class_model.specs.declared.instruction.Arg.TheVariants as arg
use Rattle.class_link.specs.Symbols.{IsOther, IsClass, IsMethod, method_ref}
use Rattle.class_link.specs.Opcodes.{instruction_by}
use Rattle.lib_table.specs.Steps.{Method, Step, Op, Jump, Text, Class, Call}
use Rattle.lib_table.specs.Steps as step

pub data Slot : Type 0 where
  IsInt : Slot
  IsReference : Slot

abbrev pub slot_of : Kind → Slot
slot_of k = if is_int_kind k then IsInt else IsReference

abbrev pub takes : Slot → List Slot → Option (List Slot)
takes s [] = None
takes IsInt (IsInt ∷ ss) = Some ss
takes IsInt (IsReference ∷ ss) = None
takes IsReference (IsInt ∷ ss) = None
takes IsReference (IsReference ∷ ss) = Some ss

abbrev pub takes_all : List Slot → List Slot → Option (List Slot)
takes_all [] ss = Some ss
takes_all (t ∷ ts) ss = option_and_then (takes t) (takes_all ts ss)

abbrev pub gives : Option Kind → List Slot → List Slot
gives None ss = ss
gives (Some k) ss = slot_of k ∷ ss

abbrev pub calls : List Slot → MethodRef → List Slot → Option (List Slot)
calls receiver r ss = option_and_then (λ rest. Some (gives r.result rest)) (takes_all (receiver ++ map slot_of r.args) ss)

-- What stands on the stack behind an instruction; nothing goes on behind a return and a goto.
pub data Behind : Type 0 where
  On : List Slot → Behind
  Off : Behind
  Wrong : Behind

abbrev pub on : Option (List Slot) → Behind
on None = Wrong
on (Some ss) = On ss

abbrev pub off : Option (List Slot) → Behind
off None = Wrong
off (Some ss) = Off

abbrev pub behind : Instruction → List Slot → Behind
behind NullConstant ss = On (IsReference ∷ ss)
behind (IntConstant z) ss = On (IsInt ∷ ss)
behind (TextConstant t) ss = On (IsReference ∷ ss)
behind (IntLoad n) ss = On (IsInt ∷ ss)
behind (ReferenceLoad n) ss = On (IsReference ∷ ss)
behind (IntStore n) ss = on (takes IsInt ss)
behind (ReferenceStore n) ss = on (takes IsReference ss)
behind Pop [] = Wrong
behind Pop (s ∷ ss) = On ss
behind (Increment n z) ss = On ss
behind (IfInt c to) ss = on (takes IsInt ss)
behind (IfInts c to) ss = on (takes_all (IsInt ∷ IsInt ∷ []) ss)
behind (IfSame to) ss = on (takes_all (IsReference ∷ IsReference ∷ []) ss)
behind (IfNotSame to) ss = on (takes_all (IsReference ∷ IsReference ∷ []) ss)
behind (IfNull to) ss = on (takes IsReference ss)
behind (IfNotNull to) ss = on (takes IsReference ss)
behind (Goto to) ss = Off
behind IntReturn ss = off (takes IsInt ss)
behind ReferenceReturn ss = off (takes IsReference ss)
behind PlainReturn ss = Off
behind (InvokeVirtual r) ss = on (calls (IsReference ∷ []) r ss)
behind (InvokeStatic r) ss = on (calls [] r ss)
behind (CheckCast n) ss = on (option_and_then (λ rest. Some (IsReference ∷ rest)) (takes IsReference ss))
behind (InstanceOf n) ss = on (option_and_then (λ rest. Some (IsInt ∷ rest)) (takes IsReference ss))
behind i ss = Wrong

abbrev pub targets : Instruction → List ℕ
targets (IfInt c to) = to ∷ []
targets (IfInts c to) = to ∷ []
targets (IfSame to) = to ∷ []
targets (IfNotSame to) = to ∷ []
targets (IfNull to) = to ∷ []
targets (IfNotNull to) = to ∷ []
targets (Goto to) = to ∷ []
targets i = []

abbrev pub is_empty : Behind → Bool
is_empty (On []) = true
is_empty (On (s ∷ ss)) = false
is_empty Off = true
is_empty Wrong = false

abbrev pub entered : Bool → Behind → Behind
entered true b = if is_empty b then On [] else Wrong
entered false b = b

abbrev pub locals : Instruction → List ℕ
locals (IntLoad n) = n ∷ []
locals (ReferenceLoad n) = n ∷ []
locals (IntStore n) = n ∷ []
locals (ReferenceStore n) = n ∷ []
locals (Increment n z) = n ∷ []
locals i = []

-- At most five values stand on the stack, and there are four locals, as `code_of` says.
abbrev pub is_within : Instruction → List Slot → Bool
is_within i ss = nat_le (length ss) 5 && list_all (λ n. nat_lt n 4) (locals i)

abbrev pub next_behind : Instruction → Behind → Behind
next_behind i (On ss) = if is_within i ss then behind i ss else Wrong
next_behind i Off = Wrong
next_behind i Wrong = Wrong

abbrev pub is_typed_from : List ℕ → ℕ → Behind → List Instruction → Bool
is_typed_from ts k Off [] = true
is_typed_from ts k (On ss) [] = false
is_typed_from ts k Wrong [] = false
is_typed_from ts k b (i ∷ is) = is_typed_from ts (suc k) (next_behind i (entered (list_any (nat_eq k) ts) b)) is

-- What an instruction of a written method means to the machine.
abbrev pub meant : Step → Instruction
meant (Op op) = instruction_by (λ k. IsOther) (record { op = op; wide = false; arg = arg.None })
meant (Jump op to) = instruction_by (λ k. IsOther) (record { op = op; wide = false; arg = arg.To to })
meant (step.Increment k z) = Increment k z
meant (Text t) = TextConstant t
meant (Class op c) = instruction_by (λ k. IsClass c) (record { op = op; wide = false; arg = arg.Pool 1 })
meant (Call op c m d) = instruction_by (λ k. IsMethod (method_ref false c m d)) (record { op = op; wide = false; arg = arg.Pool 1 })

abbrev pub is_typed : List Instruction → Bool
is_typed is = is_typed_from (flat_map targets is) 0 (On []) is

abbrev pub are_typed : List Method → Bool
are_typed ms = list_all (λ m. is_typed (map meant m.steps)) ms
