-- The rows by what their functions were given: an array's or an object's number, an index, a value.
use Rattle.std.specs.Prelude.{◌≡◌, ℕ, ℤ, ◌+◌, ◌⊎◌, Bool, true, false, nat_lt, if◌then◌else◌, List, ◌∷◌, drop, length, slice_get, slice_set, Option, None, Some, IfSome, IsSomeAnd}
use Rattle.program_rules.specs.declared.value.Value.{Value}
use Rattle.program_rules.specs.Kinds.{Kind}
use Rattle.program_rules.specs.declared.fault.Fault.{Fault}
use Rattle.program_rules.specs.declared.fault.Fault.TheVariants.{ArrayIndexOutOfBoundsException}
use Rattle.program_rules.specs.declared.operation.Element.{Element}
use Rattle.program_rules.specs.Objects as objects
use Rattle.machine_rules.specs.declared.machine.Limits.{Limits}
use Rattle.machine_rules.specs.State as def
use Rattle.program_rules.specs.Resolution.{FieldAt}
use Rattle.machine_rules.specs.Effects.{Effect, NoRow, on_some, on_kind, pushes, jumps, throws}
use Rattle.machine_rules.specs.Lookups.{is_array}
use Rattle.machine_rules.specs.Fields.{on_owner, reads_field, writes_field, with_values}
use Rattle.machine_rules.specs.TypeRows.{enters_monitor, exits_monitor, throws_object}
use Rattle.machine_rules.specs.Arrays.{array_kind, element_at, if_inside, on_element, loads_element, serves}
use Rattle.class_link.specs.Info.{Info}
use Rattle.jvm_world.specs.declared.world.World.{World}
use Rattle.jvm_world.specs.View.{Means}
use Rattle.jvm_rows.specs.Effects.{RowOf}
use Rattle.jvm_rows.specs.declared.elements.Sought.{Sought}
use Rattle.jvm_rows.specs.declared.elements.Sought.TheVariants as sought

-- ---- small rows

-- The machine throws.
abbrev pub throwing : Fault → RowOf
throwing fault = λ q room w f fs. throws q w (f ∷ fs) fault

-- A value is pushed in the place of so many.
abbrev pub putting : ℕ → Value → RowOf
putting count v = λ q room w f fs. pushes w f fs room v (drop count f.stack)

-- ---- elements

-- The row of `iaload` and the like.
abbrev pub taking_element : Element → RowOf
taking_element e = λ q room w f fs. loads_element q w f fs room e

-- The load of an element, once the index and the array were read.
abbrev pub loading : Element → ℤ → ℕ → RowOf
loading e i x = λ q room w f fs.
    on_element q w (f ∷ fs) e i (Some x) (λ y b k v. pushes w f fs room v (drop 2 f.stack))

-- What is left of a row that takes an element, once its object was found.
abbrev pub seeking :
    Limits → def.World → List def.Frame → Element → ℤ → ℕ →
    (ℕ → objects.Object → Kind → Value → Effect) → objects.Object → Effect
seeking q v fs e i x go o =
    on_some (array_kind o.kind) (λ k.
    if serves e k then if_inside q v fs (element_at o.values i) (go x o k) else NoRow)

-- It is an array that has this element at an index, and the instruction takes such elements.
pub record HasElement (e : Element) (i : ℤ) (o : objects.Object) (held : Value) : Type 0 where
  pub kind : Kind
  pub array : array_kind o.kind ≡ Some kind
  pub value : element_at o.values i ≡ Some held
  pub found : (q : Limits) (v : def.World) (fs : List def.Frame) (x : ℕ)
      (go : ℕ → objects.Object → Kind → Value → Effect) →
      seeking q v fs e i x go o ≡ go x o kind held

-- What is left of each row that takes an element is this one.
abbrev pub SeeksOnly :
    Element → ℤ → objects.Object → (Limits → def.World → List def.Frame → Effect) → Type 0
SeeksOnly e i o other =
    (q : Limits) (v : def.World) (fs : List def.Frame) (x : ℕ)
    (go : ℕ → objects.Object → Kind → Value → Effect) → seeking q v fs e i x go o ≡ other q v fs

-- What a search for an element in an object gives.
abbrev pub FindsIn : Element → ℤ → objects.Object → Sought → Type 0
FindsIn e i o sought.NoRow = SeeksOnly e i o (λ q v fs. NoRow)
FindsIn e i o sought.Outside =
    SeeksOnly e i o (λ q v fs. throws q v fs ArrayIndexOutOfBoundsException)
FindsIn e i o (sought.Element value) = HasElement e i o value

-- The object of a number has this element, in a world.
pub record IsElement (v : def.World) (e : Element) (i : ℤ) (x : ℕ) (value : Value) : Type 0 where
  pub object : objects.Object
  pub there : objects.object_at v.heap x ≡ Some object
  pub has : HasElement e i object value

-- What is left of each row that takes an element of an object is this one.
abbrev pub FindsOnly :
    List Info → World → Element → ℤ → ℕ → (Limits → def.World → List def.Frame → Effect) → Type 0
FindsOnly p w e i x other =
    (v : def.World) (q : Limits) (fs : List def.Frame)
    (go : ℕ → objects.Object → Kind → Value → Effect) → Means p w v →
    on_element q v fs e i (Some x) go ≡ other q v fs

-- What a search for an element gives.
abbrev pub Finds : List Info → World → Element → ℤ → ℕ → Sought → Type 0
Finds p w e i x sought.NoRow = FindsOnly p w e i x (λ q v fs. NoRow)
Finds p w e i x sought.Outside =
    FindsOnly p w e i x (λ q v fs. throws q v fs ArrayIndexOutOfBoundsException)
Finds p w e i x (sought.Element value) = (v : def.World) → Means p w v → IsElement v e i x value

-- ---- values of a kind

-- A value of a kind stands on the top of a stack.
abbrev pub TakesKind : Kind → List Value → Value → List Value → Type 0
TakesKind k stack value rest =
    (go : Value → List Value → Effect) → on_kind k stack go ≡ go value rest

-- None does, and no row that takes one applies.
abbrev pub NoKind : Kind → List Value → Type 0
NoKind k stack = (go : Value → List Value → Effect) → on_kind k stack go ≡ NoRow

-- ---- fields

-- The rows of `getfield` and of `putfield`, once the field was found.
abbrev pub getting : FieldAt → RowOf
getting x = λ q room w f fs. reads_field q w f fs room x

abbrev pub storing : FieldAt → RowOf
storing x = λ q room w f fs. writes_field q w f fs x

-- What is left of them once the object was read, and what is to be stored.
abbrev pub getting_from : ℕ → ℕ → RowOf
getting_from slot x = λ q room w f fs.
    on_owner q w f fs (Some x) (λ n b.
    on_some (slice_get b.values slot) (λ v. pushes w f fs room v (drop 1 f.stack)))

abbrev pub storing_in : ℕ → Value → ℕ → RowOf
storing_in slot value x = λ q room w f fs.
    on_owner q w f fs (Some x) (λ n b.
    if nat_lt slot (length b.values)
    then jumps (with_values n b (slice_set b.values slot value) w) f fs (f.at + 1)
    (drop 2 f.stack) else NoRow)

-- Whether there is an object that has fields: it is no array.
abbrev pub InstanceBy : Bool → Option objects.Object → Type 0
InstanceBy true o = IsSomeAnd o (λ b. is_array b.kind ≡ false)
InstanceBy false o = IfSome o (λ b. is_array b.kind ≡ true)

-- The same of the object of a number, in each world that is meant.
abbrev pub TellsInstance : List Info → World → ℕ → Bool → Type 0
TellsInstance p w x there =
    (v : def.World) → Means p w v → InstanceBy there (objects.object_at v.heap x)

-- What an object that has fields holds in a slot, if it is one and has the slot.
abbrev pub Holds : Option objects.Object → ℕ → Option Value → Type 0
Holds o slot None = IfSome o (λ b. (is_array b.kind ≡ true) ⊎ (slice_get b.values slot ≡ None))
Holds o slot (Some value) =
    IsSomeAnd o (λ b. (is_array b.kind ≡ false) × (slice_get b.values slot ≡ Some value))

-- The same of the object of a number, in each world that is meant.
abbrev pub FindsValue : List Info → World → ℕ → ℕ → Option Value → Type 0
FindsValue p w x slot value =
    (v : def.World) → Means p w v → Holds (objects.object_at v.heap x) slot value

-- ---- monitors, athrow

abbrev pub entering : RowOf
entering = λ q room w f fs. enters_monitor q w f fs

abbrev pub exiting : RowOf
exiting = λ q room w f fs. exits_monitor q w f fs

abbrev pub throwing_object : RowOf
throwing_object = λ q room w f fs. throws_object q w f fs
