-- Objects that aren't initialised, among types by number.
use Rattle.std.specs.Prelude.{Bool, true, false, nat_eq, if◌then◌else◌}
use Rattle.program_rules.specs.Types as rules
use Rattle.vframes.specs.declared.fresh.Fresh.{Fresh}
use Rattle.vframes.specs.declared.fresh.Fresh.TheVariants as fresh
use Rattle.vframes.specs.declared.slot_type.SlotType.{SlotType}
use Rattle.vframes.specs.declared.slot_type.SlotType.TheVariants as slot

-- The type of such an object.
abbrev pub fresh_type : Fresh → rules.VType
fresh_type fresh.This = rules.UninitThis
fresh_type (fresh.New at) = rules.Uninit at

-- Whether a type is that of this object.
abbrev pub is_fresh : Fresh → SlotType → Bool
is_fresh fresh.This slot.UninitThis = true
is_fresh (fresh.New at) (slot.Uninit other) = nat_eq other at
is_fresh f t = false

-- What stands in the place of a type.
abbrev pub slot_replaced : Fresh → SlotType → SlotType → SlotType
slot_replaced f with_ t = if is_fresh f t then with_ else t
