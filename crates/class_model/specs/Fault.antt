-- How a fault of a class file is printed: by its number and one value (this project's own).
use Rattle.std.specs.Prelude.{ℕ, Option, Some, None}
use Rattle.class_model.specs.declared.fault.ClassFault.{ClassFault}
use Rattle.class_model.specs.declared.fault.ClassFault.TheVariants as fault

-- Want of memory has no number.
abbrev pub number_of : ClassFault → Option ℕ
number_of (fault.Truncated at) = Some 3
number_of (fault.BadText at) = Some 4
number_of (fault.BadTag at tag) = Some 5
number_of (fault.BadIndex at) = Some 6
number_of (fault.BadOpcode at op) = Some 7
number_of (fault.BadLength at) = Some 8
number_of (fault.Padding at) = Some 9
number_of (fault.FloatUsed at) = Some 10
number_of (fault.DynamicUsed at) = Some 11
number_of (fault.BadTarget at) = Some 12
number_of fault.BadMagic = Some 17
number_of (fault.BadVersion major) = Some 18
number_of (fault.TrailingBytes at) = Some 19
number_of fault.Memory = None

-- The place of the fault; for a version the major, and 0 where neither is.
abbrev pub value_of : ClassFault → ℕ
value_of (fault.Truncated at) = at
value_of (fault.BadText at) = at
value_of (fault.BadTag at tag) = at
value_of (fault.BadIndex at) = at
value_of (fault.BadOpcode at op) = at
value_of (fault.BadLength at) = at
value_of (fault.Padding at) = at
value_of (fault.FloatUsed at) = at
value_of (fault.DynamicUsed at) = at
value_of (fault.BadTarget at) = at
value_of fault.BadMagic = 0
value_of (fault.BadVersion major) = major
value_of (fault.TrailingBytes at) = at
value_of fault.Memory = 0
