-- The frames of a machine, apart from where they are stored.
use Rattle.std.specs.Prelude.{◌≡◌, ℕ, ℤ, ◌+◌, ◌-◌, ◌≤◌, nat_le, Bool, true, false, List, [], ◌∷◌, ◌++◌, map, reverse, take, drop, length, replicate, Option, Some, None, IfSome, IsSomeAnd}
use Rattle.std.specs.Option.{option_map}
use Rattle.program_rules.specs.Names.{Name}
use Rattle.program_rules.specs.Kinds.{Kind, height_of}
use Rattle.program_rules.specs.Programs.{Look}
use Rattle.program_rules.specs.declared.value.Value.{Value}
use Rattle.program_rules.specs.declared.value.Value.TheVariants.{Ref}
use Rattle.program_rules.specs.Instructions as def
use Rattle.machine_rules.specs.declared.machine.Limits.{Limits}
use Rattle.machine_rules.specs.State as rules
use Rattle.machine_rules.specs.Effects.{Effect, NoRow, goes_with, on_args, locals_of, pushes, jumps}
use Rattle.jvm_state.specs.declared.op.Op.{Op}
use Rattle.jvm_state.specs.declared.slot.Slot.{Slot}
use Rattle.jvm_state.specs.declared.frame.Frame.{Frame}
use Rattle.jvm_state.specs.Slots.{locals_in, stack_in}
use Rattle.jvm_state.specs.Rows.{Row}
use Rattle.jvm_state.specs.Stores.{locals_at, operands_at, AreBelow}
use Rattle.jvm_state.specs.Ops.{Naming, instruction_of, row_of, left_by}

-- A frame by the number of its class: its method, its instruction, its locals, its stack, and the
-- words that its stack may have.
pub record NumberedFrame : Type 0 where
  pub class : ℕ
  pub method : ℕ
  pub at : ℕ
  pub locals : List (Option Value)
  pub stack : List Value
  pub room : ℕ

-- The frame that runs, if one does, and the frames below it, the top first.
pub record NumberedFrames : Type 0 where
  pub frame : Option NumberedFrame
  pub callers : List NumberedFrame

-- ---- in the store

-- What a frame's slots are.
abbrev pub numbered : List Slot → Frame → NumberedFrame
numbered slots f = record {
  class = f.class.0;
  method = f.method;
  at = f.at;
  locals = locals_in (locals_at slots f);
  stack = stack_in (operands_at slots f) f.sp;
  room = f.top;
}

-- The frames in a store, of which the callers are listed from the lowest.
abbrev pub frames_in : List Slot → Option Frame → List Frame → NumberedFrames
frames_in slots frame callers = record {
  frame = option_map (numbered slots) frame;
  callers = map (numbered slots) (reverse callers);
}

-- Each frame stands in the store, above what those below it use.
abbrev pub AreFrames : List Slot → Option Frame → List Frame → Type 0
AreFrames slots None callers = AreBelow slots (length slots) (reverse callers)
AreFrames slots (Some f) callers = AreBelow slots (length slots) (f ∷ reverse callers)

-- A frame stands at this class, method and instruction.
pub record IsAt (number place instruction : ℕ) (f : NumberedFrame) : Type 0 where
  pub class : f.class ≡ number
  pub method : f.method ≡ place
  pub at : f.at ≡ instruction

-- ---- what becomes of them

-- A frame by the name of its class.
abbrev pub framed : Name → NumberedFrame → rules.Frame
framed class f =
    record { class = class; method = f.method; at = f.at; locals = f.locals; stack = f.stack }

-- A row goes on from one frame to another one of the same method, in each world and over any
-- callers.
pub record Does (row : Row) (f g : NumberedFrame) : Type 0 where
  pub goes : (class : Name) (w : rules.World) (fs : List rules.Frame) →
      row w (framed class f) fs ≡ goes_with w (framed class g ∷ fs)
  pub class : g.class ≡ f.class
  pub method : g.method ≡ f.method
  pub room : g.room ≡ f.room

-- A row does to a frame what another one does.
abbrev pub IsLeft : Row → Row → NumberedFrame → Type 0
IsLeft row other f =
    (class : Name) (w : rules.World) (fs : List rules.Frame) →
    row w (framed class f) fs ≡ other w (framed class f) fs

-- The running frame goes on by a row, and those below it are as they were.
pub record GoOn (row : Row) (f : NumberedFrame) (old new : NumberedFrames) : Type 0 where
  pub frame : IsSomeAnd new.frame (Does row f)
  pub callers : new.callers ≡ old.callers

-- What an instruction in eight bytes comes to at the running frame, by whether it was done: else
-- all frames are as they were, and another row is left.
abbrev pub ActsBy :
    Row → Row → Bool → NumberedFrame → NumberedFrames → NumberedFrames → Type 0
ActsBy row other true f old new = GoOn row f old new
ActsBy row other false f old new = IsLeft row other f × (new ≡ old)

-- The same in each program and method.
abbrev pub ActsOn : List ℤ → Op → Bool → NumberedFrames → NumberedFrames → Type 0
ActsOn longs i done old new =
    IfSome old.frame (λ f. (named : Naming → ℕ → def.Instruction) (p : Look) (q : Limits)
    (kind : Option Kind) (starts : Bool) →
    ActsBy (row_of p q kind f.room starts (instruction_of longs named i))
    (left_by i q (row_of p q kind f.room starts (instruction_of longs named i))) done f old new)

-- ---- the running frame's stack

-- The stack of the frame that runs.
abbrev pub stack_of : Option NumberedFrame → List Value
stack_of None = []
stack_of (Some f) = f.stack

-- A value is pushed.
abbrev pub pushing : Value → ℕ → Row
pushing v room = λ w f fs. pushes w f fs room v f.stack

-- A value is pushed in the place of so many.
abbrev pub replacing : ℕ → Value → ℕ → Row
replacing count v room = λ w f fs. pushes w f fs room v (drop count f.stack)

-- Whether a frame's stack has room for a value in the place of so many.
abbrev pub has_room_for : ℕ → Value → NumberedFrame → Bool
has_room_for count v f = nat_le (height_of (v ∷ drop count f.stack)) f.room

-- It is pushed in the running frame, and those below it are as they were.
abbrev pub IsPut : ℕ → Value → NumberedFrames → NumberedFrames → Type 0
IsPut count v old new = IfSome old.frame (λ f. GoOn (replacing count v f.room) f old new)

-- A frame at its next instruction, without the uppermost values of its stack.
abbrev pub advanced : ℕ → NumberedFrame → NumberedFrame
advanced count f = record f { at = f.at + 1; stack = drop count f.stack }

-- The same of a frame in the store.
abbrev pub gone_on : Frame → ℕ → Frame
gone_on f words = record f { at = f.at + 1; sp = f.sp - words }

-- The running frame goes on so, and those below it are as they were.
abbrev pub IsAdvanced : ℕ → NumberedFrames → NumberedFrames → Type 0
IsAdvanced count old new =
    IfSome old.frame (λ f. new ≡ record old { frame = Some (advanced count f) })

-- ---- handlers

-- A frame goes on at an instruction, with this object as the only item of its stack (JVMS 2.10).
abbrev pub landing : ℕ → ℕ → Row
landing x to = λ w f fs. jumps w f fs to (Ref x ∷ [])

-- The running frame goes on so, and those below it are as they were.
abbrev pub IsLanded : ℕ → ℕ → NumberedFrames → NumberedFrames → Type 0
IsLanded x to old new = IfSome old.frame (λ f. GoOn (landing x to) f old new)

-- ---- calls

-- The uppermost values of a stack, so many, as arguments: the top is the last one.
abbrev pub args_on : ℕ → List Value → List Value
args_on count stack = reverse (take count stack)

-- So many locals, of which these are the first (JVMS 2.6.1).
abbrev pub filled : ℕ → List (Option Value) → List (Option Value)
filled max locals = locals ++ replicate (max - length locals) None

-- The frame of a method that begins with these locals.
abbrev pub begun : ℕ → ℕ → ℕ → List (Option Value) → ℕ → NumberedFrame
begun class method max_locals locals max_stack = record {
  class = class;
  method = method;
  at = 0;
  locals = filled max_locals locals;
  stack = [];
  room = max_stack;
}

-- So many values on a stack are so many words of locals.
pub record AreArgs (number size : ℕ) (stack : List Value) : Type 0 where
  pub count : number ≤ length stack
  pub words : size ≡ length (locals_of (args_on number stack))

-- Arguments of these kinds stand on a stack.
pub record TakesArgs (kinds : List Kind) (stack : List Value) : Type 0 where
  pub count : length kinds ≤ length stack
  pub takes : (go : List Value → List Value → Effect) →
      on_args kinds stack go
      ≡ go (args_on (length kinds) stack) (drop (length kinds) stack)

-- Arguments of these kinds stand on the running frame's stack, and so many values and words they
-- are.
pub record HasArgs (kinds : List Kind) (number size : ℕ) (fs : NumberedFrames) : Type 0 where
  pub takes : IsSomeAnd fs.frame (λ f. TakesArgs kinds f.stack)
  pub args : IsSomeAnd fs.frame (λ f. AreArgs number size f.stack)
  pub count : number ≡ length kinds

-- The uppermost values of a stack, so many, take the words above these.
abbrev pub AreWordsAbove : ℕ → ℕ → List Slot → ℕ → Type 0
AreWordsAbove count below operands sp =
    below + height_of (take count (stack_in operands sp)) ≡ sp

-- No arguments of these kinds stand on a stack.
abbrev pub NoArgs : List Kind → List Value → Type 0
NoArgs kinds stack = (go : List Value → List Value → Effect) → on_args kinds stack go ≡ NoRow

-- So many values on the running frame's stack are so many words.
abbrev pub HasWords : ℕ → ℕ → NumberedFrames → Type 0
HasWords count words fs = IsSomeAnd fs.frame (λ f. AreArgs count words f.stack)

-- A value stands below so many on a stack, and with it they are one more, and so many words.
pub record HasBelow (count : ℕ) (v : Value) (size : ℕ) (stack : List Value) : Type 0 where
  pub rest : drop count stack ≡ v ∷ drop (count + 1) stack
  pub args : args_on (count + 1) stack ≡ v ∷ args_on count stack
  pub are : AreArgs (count + 1) size stack

-- A frame without the uppermost values of its stack.
abbrev pub cut : ℕ → NumberedFrame → NumberedFrame
cut count f = record f { stack = drop count f.stack }

-- The frames once a method is called with the uppermost values of the running frame.
abbrev pub called : ℕ → ℕ → ℕ → ℕ → ℕ → NumberedFrame → List NumberedFrame → NumberedFrames
called count class method max_locals max_stack f fs = record {
  frame = Some (begun class method max_locals (locals_of (args_on count f.stack)) max_stack);
  callers = cut count f ∷ fs;
}

-- The running frame loses the uppermost values of its stack.
abbrev pub IsCut : ℕ → NumberedFrames → NumberedFrames → Type 0
IsCut count old new = IsSomeAnd old.frame (λ f. new ≡ record old { frame = Some (cut count f) })

-- A method is called with the uppermost values of the running frame.
abbrev pub IsCalled : ℕ → ℕ → ℕ → ℕ → ℕ → NumberedFrames → NumberedFrames → Type 0
IsCalled count class method max_locals max_stack old new =
    IsSomeAnd old.frame (λ f. new ≡ called count class method max_locals max_stack f old.callers)

-- The instance of a test as an argument.
abbrev pub instance_args : Option ℕ → List Value
instance_args None = []
instance_args (Some x) = Ref x ∷ []

-- The words that it takes of the locals.
abbrev pub instance_words : Option ℕ → ℕ
instance_words x = length (locals_of (instance_args x))

-- The first frame, of a method that is called with this instance, if there is one.
abbrev pub first_frame : Option ℕ → ℕ → ℕ → ℕ → ℕ → NumberedFrames
first_frame x class method max_locals max_stack = record {
  frame = Some (begun class method max_locals (locals_of (instance_args x)) max_stack);
  callers = [];
}

-- The frame below runs, if there is one.
abbrev pub left_behind : List NumberedFrame → NumberedFrames
left_behind [] = record { frame = None; callers = [] }
left_behind (f ∷ fs) = record { frame = Some f; callers = fs }

-- How many frames there are.
abbrev pub depth_of : Option NumberedFrame → List NumberedFrame → ℕ
depth_of None fs = 0
depth_of (Some f) fs = 1 + length fs
