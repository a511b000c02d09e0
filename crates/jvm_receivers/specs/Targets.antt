-- The object on which a method is called, which stands below the arguments (JVMS 6.5).
use Rattle.std.specs.Prelude.{◌≡◌, ℕ, List, ◌∷◌, drop, Option, None, Some, IfSome, IsSomeAnd}
use Rattle.program_rules.specs.Instructions.{MethodRef}
use Rattle.program_rules.specs.Kinds.{Kind}
use Rattle.program_rules.specs.declared.value.Value.{Value}
use Rattle.program_rules.specs.declared.value.Value.TheVariants.{Ref}
use Rattle.machine_rules.specs.Calls.{on_receiver}
use Rattle.machine_rules.specs.Effects.{Effect, NoRow, on_args, on_reference}
use Rattle.class_link.specs.Info.{Info}
use Rattle.jvm_frames.specs.Frames.{NumberedFrames, AreArgs, HasWords, args_on}
use Rattle.jvm_rows.specs.Effects.{RowOf}
use Rattle.jvm_world.specs.declared.world.World.{World}
use Rattle.jvm_invokes.specs.declared.invoked.Invoked.{Invoked}
use Rattle.jvm_receivers.specs.declared.targets.Target.{Target}
use Rattle.jvm_receivers.specs.declared.targets.Target.TheVariants as target
use Rattle.jvm_receivers.specs.declared.targets.Taken.{Taken}
use Rattle.jvm_receivers.specs.declared.targets.Taken.TheVariants as taken
use Rattle.jvm_invokes.specs.Invoked.{Invokes}

-- ---- on a stack

-- What goes on with arguments of these kinds, the reference below them, and what is left.
abbrev pub Goes : Type 0
Goes = List Value → Option ℕ → List Value → Effect

abbrev pub on_operands : List Kind → List Value → Goes → Effect
on_operands kinds stack go = on_args kinds stack (λ args below. on_reference below (go args))

-- No reference stands below such arguments.
abbrev pub NoTarget : List Kind → List Value → Type 0
NoTarget kinds stack = (go : Goes) → on_operands kinds stack go ≡ NoRow

-- Null does.
pub record IsNull (kinds : List Kind) (stack : List Value) : Type 0 where
  pub args : List Value
  pub rest : List Value
  pub takes : (go : Goes) → on_operands kinds stack go ≡ go args None rest

-- An object does, and with it the arguments are so many values and words.
pub record IsTarget (kinds : List Kind) (x number size : ℕ) (stack : List Value) : Type 0 where
  pub args : List Value
  pub first : args_on number stack ≡ Ref x ∷ args
  pub are : AreArgs number size stack
  pub takes : (go : Goes) → on_operands kinds stack go ≡ go args (Some x) (drop number stack)

-- What stands below arguments of these kinds on the stack of the frame that runs.
abbrev pub FindsTarget : List Kind → NumberedFrames → Target → Type 0
FindsTarget kinds s target.Missing = IfSome s.frame (λ f. NoTarget kinds f.stack)
FindsTarget kinds s target.Null = IfSome s.frame (λ f. IsNull kinds f.stack)
FindsTarget kinds s (target.Object x args) =
    IsSomeAnd s.frame (λ f. IsTarget kinds x args.count args.words f.stack)

-- ---- rows

-- A row, once the object was found, with the arguments, of which it is the first one, and what is
-- left of the stack.
abbrev pub Receives : Type 0
Receives = ℕ → List Value → List Value → RowOf

-- A row that calls on an object.
abbrev pub receiving : MethodRef → Receives → RowOf
receiving r go = λ q room w f fs.
    on_receiver q w f fs r (λ x args rest. go x args rest q room w f fs)

-- What is left of it, once it is this object, with so many arguments.
abbrev pub received : ℕ → ℕ → Receives → RowOf
received x count go = λ q room w f fs.
    go x (args_on count f.stack) (drop count f.stack) q room w f fs

-- A row comes to whatever another one comes to in a world that has moved.
abbrev pub IsLeftBy :
    List Info → MethodRef → RowOf → RowOf → NumberedFrames → World → World → Type 0
IsLeftBy p r row other old w mid =
    (t : Invoked) (new : NumberedFrames) (u : World) → Invokes p r other t old new mid u →
    Invokes p r row t old new w u

-- What becomes of each row that calls on an object, once the object was looked for.
abbrev pub TakesTarget :
    List Info → MethodRef → Receives → Taken → NumberedFrames → World → World → Type 0
TakesTarget p r go (taken.Done t) s w u = Invokes p r (receiving r go) t s s w u
TakesTarget p r go (taken.On x args) s w u =
    IsLeftBy p r (receiving r go) (received x args.count go) s w u

-- So many arguments stand there, if there is an object.
abbrev pub HasTaken : Taken → NumberedFrames → Type 0
HasTaken (taken.Done t) s = Unit {0}
HasTaken (taken.On x args) s = HasWords args.count args.words s
