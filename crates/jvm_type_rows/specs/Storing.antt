-- The store of a reference into an array (JVMS 6.5, `aastore`).
use Rattle.std.specs.Prelude.{◌≡◌, ℕ, ℤ, ◌+◌, Bool, if◌then◌else◌, List, ◌∷◌, drop, slice_set, unsigned_abs, Option, None, Some}
use Rattle.std.specs.Option.{option_map}
use Rattle.program_rules.specs.declared.value.Value.{Value}
use Rattle.program_rules.specs.declared.value.Value.TheVariants.{Ref, Null}
use Rattle.program_rules.specs.declared.fault.Fault.TheVariants.{ArrayStoreException}
use Rattle.program_rules.specs.declared.operation.Element.TheVariants.{ReferenceElement}
use Rattle.program_rules.specs.Kinds.{Kind, narrow_value}
use Rattle.program_rules.specs.Objects.{Object, object_at}
use Rattle.program_rules.specs.Programs.{Look}
use Rattle.machine_rules.specs.State as def
use Rattle.machine_rules.specs.Effects.{jumps, throws}
use Rattle.machine_rules.specs.Lookups.{known_of}
use Rattle.machine_rules.specs.Arrays.{array_kind, on_element, if_storable, fits_component}
use Rattle.machine_rules.specs.Fields.{with_values}
use Rattle.class_link.specs.Info.{Info}
use Rattle.class_table.specs.Table.{look}
use Rattle.jvm_world.specs.declared.world.World.{World}
use Rattle.jvm_world.specs.View.{Means}
use Rattle.jvm_rows.specs.Effects.{RowOf}
use Rattle.jvm_rows.specs.Storing.{storing_at}

-- The kind of an array's elements, if the object is one.
abbrev pub component_in : Option Object → Option Kind
component_in None = None
component_in (Some a) = array_kind a.kind

-- Whether an object may be stored where elements are of a kind, if there are both.
abbrev pub fits_in : List Info → Option Kind → Option Object → Option Bool
fits_in p None o = None
fits_in p (Some k) o = option_map (λ b. fits_component (known_of (look p) b) k) o

-- The same of the object of a number, in each world that is meant.
abbrev pub FitsKind : List Info → World → Option Kind → ℕ → Option Bool → Type 0
FitsKind p w k y is = (v : def.World) → Means p w v → fits_in p k (object_at v.heap y) ≡ is

-- Whether the object of one number may be stored in the array of another one.
abbrev pub FitsArray : List Info → World → ℕ → ℕ → Option Bool → Type 0
FitsArray p w x y is =
    (v : def.World) → Means p w v →
    fits_in p (component_in (object_at v.heap x)) (object_at v.heap y) ≡ is

-- A reference as a value.
abbrev pub reference_value : Option ℕ → Value
reference_value None = Null
reference_value (Some x) = Ref x

-- ---- the row

-- What is left of `aastore` once the value, the index and the array were read.
abbrev pub storing_value : Look → ℤ → ℕ → Value → RowOf
storing_value p i x value = λ q room w f fs.
    on_element q w (f ∷ fs) ReferenceElement i (Some x) (λ y b k old.
    if_storable p q w (f ∷ fs) k value
    (jumps (with_values y b (slice_set b.values (unsigned_abs i) (narrow_value k value)) w) f fs
    (f.at + 1) (drop 3 f.stack)))

-- The same where the array has the element, once it is known whether the object is of its
-- component.
abbrev pub storing_known : ℤ → ℕ → ℕ → Bool → RowOf
storing_known i x y fits = λ q room w f fs.
    if fits then storing_at ReferenceElement i x (Ref y) q room w f fs
    else throws q w (f ∷ fs) ArrayStoreException
