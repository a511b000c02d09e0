-- The frames that a code states, by instruction and by the numbers of names.
use Rattle.std.specs.Prelude.{◌≡◌, ℕ, nat_eq, if◌then◌else◌, List, ◌++◌, map, replicate, Option, Some, None, Result, Ok, Err, slice_get}
use Rattle.std.specs.Option.{option_map}
use Rattle.program_rules.specs.Names.{Name}
use Rattle.program_rules.specs.Linked.{LinkedMethod, LinkedCode}
use Rattle.type_rules.specs.Frames.{FullFrame, first_items, expand, stated_at}
use Rattle.vframes.specs.declared.named.Named.{Named}
use Rattle.vframes.specs.declared.slot_type.SlotType.{SlotType}
use Rattle.vframes.specs.declared.stated.Local.{Local}
use Rattle.vframes.specs.declared.stated.StatedFrame.{StatedFrame}
use Rattle.vframes.specs.View.{types_in}
use Rattle.vframes.specs.StatedFrames.{StatedTypes, stated_types, frame_at, filled, AreKept, IsKept}
use Rattle.type_verifier.specs.declared.shapes.Difference.{Difference}
use Rattle.type_verifier.specs.Shapes.{frame_in}
use Rattle.type_verifier.specs.declared.frames.Expansion.{Expansion}
use Rattle.type_verifier.specs.declared.frames.Expansion.TheVariants as expansion
use Rattle.type_verifier.specs.declared.method.MethodCode.{MethodCode}
use Rattle.type_verifier.specs.Standing.{IsOf}

-- ---- the table

-- A table is as it was, with gaps behind it.
pub record IsLonger (old new : List (Option StatedFrame)) : Type 0 where
  pub more : ℕ
  pub is : new ≡ old ++ replicate more None

-- A frame, unless there was one.
abbrev pub or_this : Option StatedFrame → Option StatedFrame → Option StatedFrame
or_this None x = x
or_this (Some f) x = Some f

-- A frame is stated for an instruction, unless one was.
abbrev pub IsPut :
    List (Option StatedFrame) → ℕ → StatedFrame → List (Option StatedFrame) → Type 0
IsPut old at x new =
    (to : ℕ) → filled (slice_get new to)
    ≡ or_this (filled (slice_get old to)) (if nat_eq at to then Some x else None)

-- What was kept stays so.
abbrev pub StayKept :
    List (Option StatedFrame) → StatedFrame → List (Option StatedFrame) → Type 0
StayKept old x new =
    (store : List Local) (max : ℕ) → AreKept store max old → IsKept store max x
    → AreKept store max new

-- ---- of a method

-- All frames can be expanded, and by instruction they are these.
pub record AreInFull
    (ns : List Named) (fs : List (Option StatedTypes)) (r : Result (List FullFrame) ℕ)
    : Type 0 where
  pub frames : List FullFrame
  pub is : r ≡ Ok frames
  pub each : (to : ℕ) → stated_at to frames ≡ option_map (stated_types ns) (frame_at fs to)

-- A method of the rules and its code are these, by the names of a class; and so are the receiver
-- with the arguments, and the frames that are stated.
pub record IsMethodOf
    (x : MethodCode) (ts : List SlotType) (ds : List Difference) (ns : List Named) (n : Name)
    (m : LinkedMethod) (c : LinkedCode) : Type 0 where
  pub method : IsOf x m c
  pub first : types_in ns ts ≡ first_items n m
  pub frames : map (frame_in ns) ds ≡ c.frames

-- What the frames that are stated come to.
abbrev pub IsExpansion : List Named → Expansion → Result (List FullFrame) ℕ → Type 0
IsExpansion ns (expansion.Frames fs) r = AreInFull ns fs r
IsExpansion ns (expansion.BadFrame at) r = r ≡ Err at

abbrev pub ExpandsTo : MethodCode → List SlotType → List Difference → Expansion → Type 0
ExpandsTo x first ds e =
    (ns : List Named) (n : Name) (m : LinkedMethod) (code : LinkedCode)
    → IsMethodOf x first ds ns n m code → IsExpansion ns e (expand n m code)
