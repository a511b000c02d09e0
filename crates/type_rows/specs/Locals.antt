-- What locals hold by number, as the rules see them.
use Rattle.std.specs.Prelude.{◌≡◌, ℕ, Bool, List, slice_get}
use Rattle.program_rules.specs.Types as rules
use Rattle.type_rules.specs.Assignability.{same_type}
use Rattle.type_rules.specs.Rows.{Checked, Fails, reads, is_long_type, without_long_type, stored_type}
use Rattle.vframes.specs.declared.frame.Frame.{Frame}
use Rattle.vframes.specs.declared.named.Named.{Named}
use Rattle.vframes.specs.declared.slot_type.SlotType.{SlotType}
use Rattle.vframes.specs.View.{type_of, types_in}
use Rattle.vframes.specs.FrameView.{types_of}

-- ---- loads

-- A local holds this type, which is such a one; or none such (rule 6).
abbrev pub ReadsSuch : (rules.VType → Bool) → Frame → ℕ → SlotType → Type 0
ReadsSuch test f n t =
    (ns : List Named) (go : rules.VType → Checked)
    → reads (types_of ns f) n test go ≡ go (type_of ns t)

abbrev pub ReadsNoSuch : (rules.VType → Bool) → Frame → ℕ → Type 0
ReadsNoSuch test f n =
    (ns : List Named) (go : rules.VType → Checked) → reads (types_of ns f) n test go ≡ Fails 6

-- An int, and a long.
abbrev pub is_int : rules.VType → Bool
is_int t = same_type t rules.IntType

abbrev pub is_long : rules.VType → Bool
is_long t = same_type t rules.LongType

-- ---- stores

-- Whether it is a local that holds a long.
abbrev pub HoldsLong : List SlotType → ℕ → Bool → Type 0
HoldsLong locals n b = (ns : List Named) → b ≡ is_long_type (slice_get (types_in ns locals) n)

-- The long whose second word is this local is ended.
abbrev pub EndsLong : List SlotType → ℕ → List SlotType → Type 0
EndsLong old n new =
    (ns : List Named) → types_in ns new ≡ without_long_type (types_in ns old) n

-- A type is stored in a local.
abbrev pub Stores : List SlotType → ℕ → SlotType → List SlotType → Type 0
Stores old n t new =
    (ns : List Named) → types_in ns new ≡ stored_type (types_in ns old) n (type_of ns t)
