-- Whether what is of a kind is of a class, an interface or an array type, and the rows that ask it
-- (JVMS 6.5, `checkcast` and `instanceof`).
use Rattle.std.specs.Prelude.{◌≡◌, ℕ, ◌+◌, nat_eq, Bool, false, if◌then◌else◌, List, [], ◌∷◌, Option}
use Rattle.std.specs.Option.{option_map}
use Rattle.program_rules.specs.declared.value.Value.{Value}
use Rattle.program_rules.specs.declared.value.Value.TheVariants.{Int}
use Rattle.program_rules.specs.declared.fault.Fault.TheVariants.{ClassCastException}
use Rattle.program_rules.specs.Names.{Name, is_array_name, descriptor_of, without_first, without_last}
use Rattle.program_rules.specs.Objects.{Object, ObjectKind, class_of_object, descriptor_of_object, object_at}
use Rattle.program_rules.specs.Programs.{Look, supers}
use Rattle.program_rules.specs.Subtypes.{is_within}
use Rattle.machine_rules.specs.State as def
use Rattle.machine_rules.specs.Effects.{jumps, throws}
use Rattle.machine_rules.specs.Lookups.{known_of, on_known, is_instance}
use Rattle.machine_rules.specs.TypeRows.{truth}
use Rattle.class_link.specs.Info.{Info}
use Rattle.class_table.specs.Table.{look}
use Rattle.jvm_world.specs.declared.world.World.{World}
use Rattle.jvm_world.specs.View.{Means}
use Rattle.jvm_rows.specs.Effects.{RowOf}
use Rattle.jvm_rows.specs.Rows.{putting}

-- Whether a descriptor begins as a class's one: `L` is 76 (JVMS 4.3.2).
abbrev pub begins_class : Name → Bool
begins_class [] = false
begins_class (c ∷ cs) = nat_eq c 76

-- The name that a field descriptor says, if it is one of a class or an array.
abbrev pub name_in : Name → Name
name_in d = if is_array_name d then d else without_last (without_first d)

-- Of an object it is `is_instance` of the machine, since a family has the names of `supers`.
abbrev pub is_kind_within : List Info → ObjectKind → Name → Bool
is_kind_within p k n =
    is_within (supers (look p) (class_of_object k)) (descriptor_of_object k) (descriptor_of n)

-- Whether an object is of it, if there is one.
abbrev pub instance_in : List Info → Name → Option Object → Option Bool
instance_in p n o = option_map (λ b. is_instance (known_of (look p) b) n) o

-- The same of the object of a number, in each world that is meant.
abbrev pub TellsInstance : List Info → World → ℕ → Name → Option Bool → Type 0
TellsInstance p w x n is =
    (v : def.World) → Means p w v → instance_in p n (object_at v.heap x) ≡ is

-- ---- the rows, once the class was resolved

-- What `checkcast` ends with once it is known whether the object is of the class.
abbrev pub cast_end_row : Bool → RowOf
cast_end_row passes = λ q room w f fs.
    if passes then jumps w f fs (f.at + 1) f.stack else throws q w (f ∷ fs) ClassCastException

-- `checkcast` of an object.
abbrev pub cast_found_row : Look → Name → ℕ → RowOf
cast_found_row p n x = λ q room w f fs.
    on_known p w x (λ o. cast_end_row (is_instance o n) q room w f fs)

-- 1 or 0.
abbrev pub truth_value : Bool → Value
truth_value b = Int (truth b)

-- `instanceof` of an object.
abbrev pub test_found_row : Look → Name → ℕ → RowOf
test_found_row p n x = λ q room w f fs.
    on_known p w x (λ o. putting 1 (truth_value (is_instance o n)) q room w f fs)
