-- The frames that a method states, by instruction.
use Rattle.std.specs.Prelude.{◌≡◌, ℕ, zero, suc, List, [], ◌∷◌, All, map, reverse, Option, Some, None, IfSome, slice_get}
use Rattle.std.specs.Option.{option_map}
use Rattle.type_rules.specs.Assignability.{FrameTypes}
use Rattle.type_rules.specs.Frames.{full_frame}
use Rattle.vframes.specs.declared.named.Named.{Named}
use Rattle.vframes.specs.declared.slot_type.SlotType.{SlotType}
use Rattle.vframes.specs.declared.stated.Local.{Local}
use Rattle.vframes.specs.declared.stated.Locals.{Locals}
use Rattle.vframes.specs.declared.stated.StatedFrame.{StatedFrame}
use Rattle.vframes.specs.View.{types_in}
use Rattle.vframes.specs.Stated.{AreLocals, AreWithin}

-- What is stated of locals, and of the stack, the top first, in a method of so many locals.
pub record StatedTypes : Type 0 where
  pub items : List SlotType
  pub stack : List SlotType
  pub max : ℕ

-- The same by the names of a class, in full.
abbrev pub stated_types : List Named → StatedTypes → FrameTypes
stated_types ns x = full_frame x.max (types_in ns x.items) (types_in ns x.stack)

-- What is made of a local, if it is there.
abbrev pub from_local : Option Local → (Local → List SlotType) → List SlotType
from_local None go = []
from_local (Some n) go = go n

-- So many locals down from the last one.
abbrev pub down : ℕ → List Local → Locals → List SlotType
down zero store l = []
down (suc k) store l = from_local (slice_get store l.last) (λ n. n.t ∷ down k store n.below)

-- The types of locals, the last one first.
abbrev pub types_down : List Local → Locals → List SlotType
types_down store l = down l.count store l

-- What a frame that is kept states.
abbrev pub kept_types : List Local → ℕ → StatedFrame → StatedTypes
kept_types store max x = record {
  items = reverse (types_down store x.locals);
  stack = x.stack;
  max = max;
}

-- Its locals are there, and there is room for them.
pub record IsKept (store : List Local) (max : ℕ) (x : StatedFrame) : Type 0 where
  pub are : AreLocals store x.locals (types_down store x.locals)
  pub within : AreWithin max (types_down store x.locals)

-- All frames of a table.
abbrev pub AreKept : List Local → ℕ → List (Option StatedFrame) → Type 0
AreKept store max frames = All (λ o. IfSome o (IsKept store max)) frames

abbrev pub table_of : List Local → ℕ → List (Option StatedFrame) → List (Option StatedTypes)
table_of store max frames = map (option_map (kept_types store max)) frames

-- What stands at a place of a list with gaps.
abbrev pub filled : {A : Type 0} → Option (Option A) → Option A
filled None = None
filled (Some x) = x

-- The frame that is stated for an instruction.
abbrev pub frame_at : List (Option StatedTypes) → ℕ → Option StatedTypes
frame_at fs at = filled (slice_get fs at)
