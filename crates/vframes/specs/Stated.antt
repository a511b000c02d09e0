-- Frames that are stated, by number: locals are named by the last one, and each names those below
-- it.
use Rattle.std.specs.Prelude.{◌≡◌, ◌<◌, ◌≤◌, ◌+◌, ◌-◌, ◌^◌, ℕ, suc, Bool, true, false, ◌||◌, List, [], ◌∷◌, ◌++◌, length, drop, replicate, reverse, Some, slice_get}
use Rattle.program_rules.specs.Types as rules
use Rattle.type_rules.specs.Assignability.{FrameTypes, width, height}
use Rattle.type_rules.specs.Frames.{is_uninit_this, with_tops, full_frame}
use Rattle.vframes.specs.declared.named.Named.{Named}
use Rattle.vframes.specs.declared.slot_type.SlotType.{SlotType}
use Rattle.vframes.specs.declared.stated.Local.{Local}
use Rattle.vframes.specs.declared.stated.Locals.{Locals}
use Rattle.vframes.specs.declared.stated.StatedFrame.{StatedFrame}
use Rattle.vframes.specs.View.{type_of, types_in}

-- No locals.
pub record AreNone (l : Locals) : Type 0 where
  pub count : l.count ≡ 0
  pub words : l.words ≡ 0
  pub flag : l.flag ≡ false

-- The last local is of this type, and so are those below.
pub record AreMore (store : List Local) (l : Locals) (t : SlotType) (Rest : Locals → Type 0) : Type 0 where
  pub below : Locals
  pub there : slice_get store l.last ≡ Some (record { t = t; below = below })
  pub count : l.count ≡ suc below.count
  pub words : l.words ≡ width (type_of [] t) + below.words
  pub flag : l.flag ≡ (is_uninit_this (type_of [] t) || below.flag)
  pub rest : Rest below

-- The types of locals, the last one first.
abbrev pub AreLocals : List Local → Locals → List SlotType → Type 0
AreLocals store l [] = AreNone l
AreLocals store l (t ∷ ts) = AreMore store l t (λ b. AreLocals store b ts)

-- These are the last of locals and those below it.
pub record IsLast (store : List Local) (n : Local) (ts : List SlotType) : Type 0 where
  pub rest : List SlotType
  pub is : ts ≡ n.t ∷ rest
  pub are : AreLocals store n.below rest

-- These are locals without so many of the last ones.
pub record AreChopped (store : List Local) (l : Locals) (down : ℕ) (ts : List SlotType) : Type 0 where
  pub enough : down ≤ length ts
  pub are : AreLocals store l (drop down ts)

-- All locals of a method of so many, where these are stated, the last one first.
abbrev pub full_locals : List Named → ℕ → List SlotType → List rules.VType
full_locals ns max ts =
    let items = types_in ns (reverse ts) in
    with_tops items ++ replicate (max - height items) rules.Top

-- They are within so many words.
abbrev pub AreWithin : ℕ → List SlotType → Type 0
AreWithin max ts = height (types_in [] ts) ≤ max

-- A frame that is stated is this one, in full.
pub record IsFull (ns : List Named) (store : List Local) (max : ℕ) (x : StatedFrame) (f : FrameTypes) : Type 0 where
  pub types : List SlotType
  pub are : AreLocals store x.locals types
  pub within : AreWithin max types
  pub is : f ≡ full_frame max (types_in ns (reverse types)) (types_in ns x.stack)

-- ---- what calls on locals say

-- What was right stays right.
abbrev pub StayRight : List Local → List Local → Type 0
StayRight old new = (l : Locals) (ts : List SlotType) → AreLocals old l ts → AreLocals new l ts

-- Locals with one more; without the last one; without so many, or there are fewer; none.
abbrev pub IsOneMore : List Local → List Local → Locals → SlotType → Locals → Type 0
IsOneMore old new below t l =
    (ts : List SlotType) → AreLocals old below ts → AreLocals new l (t ∷ ts)

abbrev pub IsLastOf : List Local → Locals → Local → Type 0
IsLastOf store l n = (ts : List SlotType) → AreLocals store l ts → IsLast store n ts

abbrev pub IsChopOf : List Local → Locals → ℕ → Locals → Type 0
IsChopOf store l count left =
    (ts : List SlotType) → AreLocals store l ts → AreChopped store left count ts

abbrev pub AreFewer : List Local → Locals → ℕ → Type 0
AreFewer store l count = (ts : List SlotType) → AreLocals store l ts → length ts < count

abbrev pub AreEmpty : List Local → Locals → Type 0
AreEmpty store l = (ts : List SlotType) → AreLocals store l ts → ts ≡ []

-- There is room for the numbers of one more.
pub record HasRoom (l : Locals) : Type 0 where
  pub count : l.count < 2 ^ 31
  pub words : l.words < 2 ^ 31

-- There is room for these behind locals, in a method of at most 65535 words.
pub record HasRoomFor (store : List Local) (below : Locals) (more : List SlotType) : Type 0 where
  pub types : List SlotType
  pub are : AreLocals store below types
  pub few : height (types_in [] types) + height (types_in [] more) ≤ 65535

-- Locals with these behind them.
abbrev pub AreMoreBy : List Local → List Local → Locals → List SlotType → Locals → Type 0
AreMoreBy old new below more l =
    (ts : List SlotType) → AreLocals old below ts → AreLocals new l (reverse more ++ ts)

-- These are the types of locals, the last one first.
abbrev pub AreTypesOf : List Local → Locals → List SlotType → Type 0
AreTypesOf store l out = (ts : List SlotType) → AreLocals store l ts → out ≡ ts

-- A type is put into the next locals, a long into two.
abbrev pub PutsWords : List SlotType → SlotType → List SlotType → Type 0
PutsWords old t new =
    (ns : List Named) → types_in ns new ≡ types_in ns old ++ with_tops (type_of ns t ∷ [])

-- All types, of which the last stands first, are put into locals.
abbrev pub AreSpread : List SlotType → List SlotType → Type 0
AreSpread down all = (ns : List Named) → types_in ns all ≡ with_tops (types_in ns (reverse down))

-- These are all locals of a method of so many, where these are stated.
abbrev pub AreFull : List Local → ℕ → Locals → List SlotType → Type 0
AreFull store max l all =
    (ns : List Named) (ts : List SlotType) → AreLocals store l ts → AreWithin max ts
    → types_in ns all ≡ full_locals ns max ts
