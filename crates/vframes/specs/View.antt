-- Types by number, seen as those of the rules.
use Rattle.std.specs.Prelude.{◌≡◌, ℕ, false, nat_eq, List, [], ◌∷◌, map}
use Rattle.program_rules.specs.Types as rules
use Rattle.type_rules.specs.Assignability.{width, height}
use Rattle.vframes.specs.declared.named.Named.{Named}
use Rattle.vframes.specs.declared.slot_type.SlotType.{SlotType}
use Rattle.vframes.specs.declared.slot_type.SlotType.TheVariants as slot
use Rattle.vframes.specs.declared.stack.Two.{Two}
use Rattle.vframes.specs.declared.stack.Two.TheVariants as two
use Rattle.vframes.specs.Named.{name_at}

-- A type by the names of a class.
abbrev pub type_of : List Named → SlotType → rules.VType
type_of ns slot.Top = rules.Top
type_of ns slot.Int = rules.IntType
type_of ns slot.Long = rules.LongType
type_of ns slot.Null = rules.NullType
type_of ns slot.UninitThis = rules.UninitThis
type_of ns (slot.Uninit at) = rules.Uninit at
type_of ns (slot.Obj i) = rules.Obj (name_at ns i)

-- It isn't of two words.
abbrev pub IsNoPair : rules.VType → Type 0
IsNoPair t = nat_eq (width t) 2 ≡ false

-- Types by the names of a class.
abbrev pub types_in : List Named → List SlotType → List rules.VType
types_in ns ts = map (type_of ns) ts

-- The words of types.
abbrev pub words_of : List SlotType → ℕ
words_of ts = height (types_in [] ts)

-- The types of two words, the upper one first.
abbrev pub two_slots : Two → List SlotType
two_slots two.Long = slot.Long ∷ []
two_slots (two.Words t u) = t ∷ u ∷ []

-- The same by the names of a class.
abbrev pub two_types : List Named → Two → List rules.VType
two_types ns ts = types_in ns (two_slots ts)
