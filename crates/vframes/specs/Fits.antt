-- When one type by number may stand where another is stated, by the names of a class in a program.
use Rattle.std.specs.Prelude.{◌≡◌, ◌&&◌, ℕ, Bool, List, Option, Some, nat_eq, slice_get}
use Rattle.std.specs.Option.{option_map}
use Rattle.program_rules.specs.Names.{Name}
use Rattle.type_rules.specs.References.{Classes, classes_of, base_of}
use Rattle.type_rules.specs.Assignability.{FrameTypes, width, class_assignable, base_assignable, assignable, locals_assignable, stack_assignable, frame_assignable}
use Rattle.type_rules.specs.Rows.{leads_to}
use Rattle.class_model.specs.declared.class.ClassId.{ClassId}
use Rattle.class_link.specs.Info.{Info}
use Rattle.class_link.specs.declared.frames.VType.{VType}
use Rattle.class_link.specs.View.{vtype_of}
use Rattle.class_table.specs.Table.{number_of, look}
use Rattle.vframes.specs.declared.frame.Frame.{Frame}
use Rattle.vframes.specs.declared.named.Named.{Named}
use Rattle.vframes.specs.declared.slot_type.SlotType.{SlotType}
use Rattle.vframes.specs.Named.{IsNumberOf}
use Rattle.vframes.specs.View.{type_of, types_in}
use Rattle.vframes.specs.FrameView.{types_of}
use Rattle.vframes.specs.declared.stated.Local.{Local}
use Rattle.vframes.specs.declared.stated.Locals.{Locals}
use Rattle.vframes.specs.declared.stated.StatedFrame.{StatedFrame}
use Rattle.vframes.specs.Stated.{AreLocals, AreWithin, IsFull, full_locals}
use Rattle.vframes.specs.StatedFrames.{StatedTypes, stated_types, frame_at, table_of}

-- What the rules ask of a program.
abbrev pub classes_in : List Info → Classes
classes_in p = classes_of (look p)

-- Whether a type is assignable to another, where both name their classes.
abbrev pub assignable_by_name : List Info → VType → VType → Bool
assignable_by_name p t u = assignable (classes_of (look p)) (vtype_of t) (vtype_of u)

-- Whether a class is an interface, and whether one is another or stands below it.
abbrev pub InterfaceIs : List Info → Option ClassId → Bool → Type 0
InterfaceIs p id b = (n : Name) → IsNumberOf p id n → b ≡ (classes_of (look p)).interface n

abbrev pub BelowIs : List Info → ℕ → Option ClassId → Bool → Type 0
BelowIs p k above b =
    (m n : Name) → number_of p m ≡ Some k → IsNumberOf p above n
    → b ≡ (classes_of (look p)).subtype m n

-- Whether a class is assignable to this one.
abbrev pub ClassFits : List Info → Option ClassId → Name → Bool → Type 0
ClassFits p id to b =
    (m : Name) → IsNumberOf p id m → b ≡ class_assignable (classes_of (look p)) m to

-- Whether names without their dimensions are assignable.
abbrev pub base_fits : List Info → Name → Name → Bool
base_fits p m n = base_assignable (classes_of (look p)) 0 0 (base_of m) (base_of n)

-- Types, those of locals, an item of a stack with its words, a stack, a frame.
abbrev pub type_fits : List Info → List Named → SlotType → SlotType → Bool
type_fits p ns t u = assignable (classes_of (look p)) (type_of ns t) (type_of ns u)

abbrev pub locals_fit : List Info → List Named → List SlotType → List SlotType → Bool
locals_fit p ns ts us = locals_assignable (classes_of (look p)) (types_in ns ts) (types_in ns us)

abbrev pub item_fits : List Info → List Named → SlotType → SlotType → Bool
item_fits p ns t u =
    nat_eq (width (type_of ns t)) (width (type_of ns u))
    && assignable (classes_of (look p)) (type_of ns t) (type_of ns u)

abbrev pub stack_fits : List Info → List Named → List SlotType → List SlotType → Bool
stack_fits p ns ts us = stack_assignable (classes_of (look p)) (types_in ns ts) (types_in ns us)

abbrev pub frame_fits : List Info → List Named → Frame → FrameTypes → Bool
frame_fits p ns f g = frame_assignable (classes_of (look p)) (types_of ns f) g

-- Whether an instruction states a frame to which this one is assignable.
abbrev pub leads_among : List Info → List Named → Frame → List (Option StatedTypes) → ℕ → Bool
leads_among p ns f fs to =
    leads_to (classes_of (look p)) (types_of ns f)
    (option_map (stated_types ns) (frame_at fs to))

abbrev pub leads_in :
    List Info → List Named → List Local → ℕ → Frame → List (Option StatedFrame) → ℕ → Bool
leads_in p ns store max f frames to = leads_among p ns f (table_of store max frames) to

-- Whether the local at a place takes this type; whether all locals are assignable to those of a
-- method of so many, where these are stated; and whether a frame is to one that is stated.
abbrev pub LocalFits : List Info → List Named → List SlotType → ℕ → SlotType → Bool → Type 0
LocalFits p ns from at to b =
    (u : SlotType) → slice_get from at ≡ Some u → b ≡ type_fits p ns u to

abbrev pub LocalsFit :
    List Info → List Named → List Local → ℕ → List SlotType → Locals → Bool → Type 0
LocalsFit p ns store max from to b =
    (ts : List SlotType) → AreLocals store to ts → AreWithin max ts
    → b ≡ locals_assignable (classes_of (look p)) (types_in ns from) (full_locals ns max ts)

abbrev pub FrameFits :
    List Info → List Named → List Local → ℕ → Frame → StatedFrame → Bool → Type 0
FrameFits p ns store max from to b =
    (f : FrameTypes) → IsFull ns store max to f → b ≡ frame_fits p ns from f

-- A frame is that which is stated, in full.
abbrev pub FrameIs : List Local → ℕ → StatedFrame → Frame → Type 0
FrameIs store max x g =
    (ns : List Named) (f : FrameTypes) → IsFull ns store max x f → f ≡ types_of ns g

-- A frame is that which an instruction states, if it states one.
abbrev pub IsStatedAt : List (Option StatedTypes) → ℕ → Option Frame → Type 0
IsStatedAt fs at f =
    (ns : List Named)
    → option_map (types_of ns) f ≡ option_map (stated_types ns) (frame_at fs at)
