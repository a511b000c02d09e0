-- The stores of elements that are no references.
use Rattle.std.specs.Prelude.{◌≡◌, ℕ, ℤ, ◌+◌, Bool, true, false, List, ◌∷◌, drop, slice_set, unsigned_abs, Some}
use Rattle.program_rules.specs.declared.value.Value.{Value}
use Rattle.program_rules.specs.Kinds.{Kind, narrow_value}
use Rattle.program_rules.specs.declared.operation.Element.{Element}
use Rattle.program_rules.specs.declared.operation.Element.TheVariants.{ReferenceElement}
use Rattle.program_rules.specs.Objects as objects
use Rattle.program_rules.specs.Programs.{Look}
use Rattle.machine_rules.specs.State as def
use Rattle.machine_rules.specs.Effects.{jumps}
use Rattle.machine_rules.specs.Arrays.{array_kind, on_element, stores_element}
use Rattle.machine_rules.specs.Fields.{with_values}
use Rattle.class_link.specs.Info.{Info}
use Rattle.jvm_world.specs.declared.world.World.{World}
use Rattle.jvm_world.specs.View.{Means}
use Rattle.jvm_rows.specs.Effects.{RowOf}

-- Whether an instruction takes elements that are no references.
abbrev pub is_primitive : Element → Bool
is_primitive ReferenceElement = false
is_primitive e = true

-- The row of `iastore` and the like.
abbrev pub storing_element : Look → Element → RowOf
storing_element p e = λ q room w f fs. stores_element p q w f fs e

-- What is left of it for a value that has no test, once value, index and array were read.
abbrev pub storing_at : Element → ℤ → ℕ → Value → RowOf
storing_at e i x value = λ q room w f fs.
    on_element q w (f ∷ fs) e i (Some x) (λ y b k old.
    jumps (with_values y b (slice_set b.values (unsigned_abs i) (narrow_value k value)) w) f fs
    (f.at + 1) (drop 3 f.stack))

-- What is left of a value at the kind of the elements, where an object is an array.
abbrev pub NarrowsFor : objects.Object → Value → Value → Type 0
NarrowsFor b value narrowed =
    (k : Kind) → array_kind b.kind ≡ Some k → narrowed ≡ narrow_value k value

-- The same of the object of a number, in each world that is meant.
abbrev pub NarrowsIn : List Info → World → ℕ → Value → Value → Type 0
NarrowsIn p w x value narrowed =
    (v : def.World) (b : objects.Object) (k : Kind) → Means p w v →
    objects.object_at v.heap x ≡ Some b → array_kind b.kind ≡ Some k →
    narrowed ≡ narrow_value k value
