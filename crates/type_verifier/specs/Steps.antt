-- The frame that a difference makes of the one before it, by the types of its locals, the last one
-- first.
use Rattle.std.specs.Prelude.{◌≡◌, ℕ, Bool, true, false, ◌&&◌, nat_le, nat_lt, if◌then◌else◌, List, [], ◌∷◌, ◌++◌, length, drop, reverse, Option, Some, None}
use Rattle.vframes.specs.declared.slot_type.SlotType.{SlotType}
use Rattle.vframes.specs.declared.stated.Local.{Local}
use Rattle.vframes.specs.declared.stated.Locals.{Locals}
use Rattle.vframes.specs.declared.stated.StatedFrame.{StatedFrame}
use Rattle.vframes.specs.Stated.{AreLocals}
use Rattle.vframes.specs.StatedFrames.{types_down}
use Rattle.type_verifier.specs.declared.shapes.Shape.{Shape}
use Rattle.type_verifier.specs.declared.shapes.Shape.TheVariants as shape
use Rattle.type_verifier.specs.declared.shapes.Difference.{Difference}
use Rattle.type_verifier.specs.declared.method.MethodCode.{MethodCode}
use Rattle.type_verifier.specs.Standing.{fits}

-- Locals are those of a frame that can be expanded.
pub record AreRight (x : MethodCode) (store : List Local) (l : Locals) : Type 0 where
  pub are : AreLocals store l (types_down store l)
  pub fit : fits x x.code.now.max_locals (types_down store l) ≡ true

-- ---- locals

-- What a shape states of locals, by those of the frame before.
abbrev pub chopped : ℕ → List SlotType → Option (List SlotType)
chopped n ts = if nat_le n (length ts) then Some (drop n ts) else None

abbrev pub locals_by : List SlotType → Shape → Option (List SlotType)
locals_by ts shape.SameLocals = Some ts
locals_by ts (shape.OneItem t) = Some ts
locals_by ts (shape.Chopped n) = chopped n ts
locals_by ts (shape.Appended more) = Some (reverse more.items ++ ts)
locals_by ts (shape.Whole locals stack) = Some (reverse locals.items)

-- Whether there are such, and they fit the method.
abbrev pub fit_any : MethodCode → Option (List SlotType) → Bool
fit_any x None = false
fit_any x (Some ts) = fits x x.code.now.max_locals ts

-- Locals are these, and fit; or there are none that do.
pub record AreThese
    (x : MethodCode) (store : List Local) (wanted : Option (List SlotType)) (l : Locals)
    : Type 0 where
  pub is : wanted ≡ Some (types_down store l)
  pub right : AreRight x store l

abbrev pub AreNext :
    MethodCode → List Local → Option (List SlotType) → Option Locals → Type 0
AreNext x store wanted None = fit_any x wanted ≡ false
AreNext x store wanted (Some l) = AreThese x store wanted l

-- Locals with these behind them; without the last ones; and by a shape.
abbrev pub AreMore :
    MethodCode → List Local → List Local → Locals → List SlotType → Option Locals → Type 0
AreMore x old new before more l = AreNext x new (Some (reverse more ++ types_down old before)) l

abbrev pub AreFewer : MethodCode → List Local → Locals → ℕ → Option Locals → Type 0
AreFewer x store before n l = AreNext x store (chopped n (types_down store before)) l

abbrev pub AreAlone : MethodCode → List Local → List SlotType → Option Locals → Type 0
AreAlone x new types l = AreNext x new (Some (reverse types)) l

abbrev pub NextBy :
    MethodCode → List Local → List Local → Locals → Shape → Option Locals → Type 0
NextBy x old new before s l = AreNext x new (locals_by (types_down old before) s) l

-- ---- the stack

-- What a shape states of the stack, the top first.
abbrev pub stack_by : Shape → List SlotType
stack_by shape.SameLocals = []
stack_by (shape.OneItem t) = t ∷ []
stack_by (shape.Chopped n) = []
stack_by (shape.Appended more) = []
stack_by (shape.Whole locals stack) = reverse stack.items

-- A stack is this one, and fits; or this one doesn't.
pub record IsThis (x : MethodCode) (wanted s : List SlotType) : Type 0 where
  pub is : s ≡ wanted
  pub fit : fits x x.code.now.max_stack wanted ≡ true

abbrev pub IsStack : MethodCode → List SlotType → Option (List SlotType) → Type 0
IsStack x wanted None = fits x x.code.now.max_stack wanted ≡ false
IsStack x wanted (Some s) = IsThis x wanted s

abbrev pub StackBy : MethodCode → Shape → Option (List SlotType) → Type 0
StackBy x s found = IsStack x (stack_by s) found

-- ---- the frame

-- Whether the frame that a difference states can be expanded behind these locals.
abbrev pub is_framed : MethodCode → List SlotType → Difference → Bool
is_framed x ts d =
    nat_lt d.at (length x.code.now.instructions)
    && fit_any x (locals_by ts d.shape)
    && fits x x.code.now.max_stack (stack_by d.shape)

-- It is this one; or it can't be.
pub record IsFrameBy
    (x : MethodCode) (ts : List SlotType) (d : Difference) (store : List Local) (f : StatedFrame)
    : Type 0 where
  pub there : nat_lt d.at (length x.code.now.instructions) ≡ true
  pub locals : AreThese x store (locals_by ts d.shape) f.locals
  pub stack : IsThis x (stack_by d.shape) f.stack

abbrev pub FrameBy :
    MethodCode → List Local → List Local → Locals → Difference → Option StatedFrame → Type 0
FrameBy x old new before d None = is_framed x (types_down old before) d ≡ false
FrameBy x old new before d (Some f) = IsFrameBy x (types_down old before) d new f
