-- The search for an element.
use Rattle.std.proofs.Common.{◌≡◌, ◌∙◌, ap, ℕ, ℤ, true, false, List, Option, None, Some}
use Rattle.std.specs.Prelude.{if◌then◌else◌}
use Rattle.program_rules.specs.declared.value.Value.{Value}
use Rattle.program_rules.specs.declared.operation.Element.{Element}
use Rattle.program_rules.specs.Kinds.{Kind}
use Rattle.program_rules.specs.Objects as objects
use Rattle.machine_rules.specs.declared.machine.Limits.{Limits}
use Rattle.machine_rules.specs.State as def
use Rattle.machine_rules.specs.Effects.{Effect, NoRow, on_some}
use Rattle.machine_rules.specs.Arrays.{array_kind, element_at, if_inside, serves, on_element}
use Rattle.jvm_values.specs.declared.object.Object.{Object}
use Rattle.class_link.specs.Info.{Info}
use Rattle.jvm_world.specs.declared.world.World.{World}
use Rattle.jvm_world.specs.View.{object_of, IsObjectIn}
use Rattle.jvm_rows.specs.declared.elements.Sought.{Sought}
use Rattle.jvm_rows.specs.declared.elements.Sought.TheVariants as sought
use Rattle.jvm_rows.specs.Rows.{seeking, FindsIn, IsElement, Finds}

-- ---- in an object

pub no_array : (e : Element) (i : ℤ) (o : objects.Object) → array_kind o.kind ≡ None → FindsIn e i o sought.NoRow
no_array e i o none = λ q v fs x go. ap (λ a. on_some a (λ k. if serves e k then if_inside q v fs (element_at o.values i) (go x o k) else NoRow)) none

pub other_array : (e : Element) (i : ℤ) (o : objects.Object) (k : Kind) → array_kind o.kind ≡ Some k → serves e k ≡ false → FindsIn e i o sought.NoRow
other_array e i o k is other = λ q v fs x go.
    ap (λ a. on_some a (λ j. if serves e j then if_inside q v fs (element_at o.values i) (go x o j) else NoRow)) is
    ∙ ap (λ b. if b then if_inside q v fs (element_at o.values i) (go x o k) else NoRow) other

inside : (e : Element) (i : ℤ) (o : objects.Object) (k : Kind) (found : Option Value) → array_kind o.kind ≡ Some k → serves e k ≡ true → element_at o.values i ≡ found → (q : Limits) (v : def.World) (fs : List def.Frame) (x : ℕ) (go : ℕ → objects.Object → Kind → Value → Effect) → seeking q v fs e i x go o ≡ if_inside q v fs found (go x o k)
inside e i o k found is such at q v fs x go =
    ap (λ a. on_some a (λ j. if serves e j then if_inside q v fs (element_at o.values i) (go x o j) else NoRow)) is
    ∙ ap (λ b. if b then if_inside q v fs (element_at o.values i) (go x o k) else NoRow) such
    ∙ ap (λ a. if_inside q v fs a (go x o k)) at

pub outside : (e : Element) (i : ℤ) (o : objects.Object) (k : Kind) → array_kind o.kind ≡ Some k → serves e k ≡ true → element_at o.values i ≡ None → FindsIn e i o sought.Outside
outside e i o k is such at = λ q v fs x go. inside e i o k None is such at q v fs x go

pub has_element : (e : Element) (i : ℤ) (o : objects.Object) (k : Kind) (value : Value) → array_kind o.kind ≡ Some k → serves e k ≡ true → element_at o.values i ≡ Some value → FindsIn e i o (sought.Element value)
has_element e i o k value is such at = record {
  kind = k;
  array = is;
  value = at;
  found = λ q v fs x go. inside e i o k (Some value) is such at q v fs x go;
}

-- ---- in the object of a number

found_at : (q : Limits) (v : def.World) (fs : List def.Frame) (e : Element) (i : ℤ) (x : ℕ) (go : ℕ → objects.Object → Kind → Value → Effect) (o : Option objects.Object) → objects.object_at v.heap x ≡ o → on_element q v fs e i (Some x) go ≡ on_some o (seeking q v fs e i x go)
found_at q v fs e i x go o is = ap (λ a. on_some a (seeking q v fs e i x go)) is

pub no_object : (p : List Info) (w : World) (e : Element) (i : ℤ) (x : ℕ) → IsObjectIn p w x None → Finds p w e i x sought.NoRow
no_object p w e i x none = λ v q fs go m. found_at q v fs e i x go None (none v m)

pub of_object : (p : List Info) (w : World) (e : Element) (i : ℤ) (x : ℕ) (o : Object) (s : Sought) → IsObjectIn p w x (Some o) → FindsIn e i (object_of p o) s → Finds p w e i x s
of_object p w e i x o sought.NoRow is h = λ v q fs go m. found_at q v fs e i x go (Some (object_of p o)) (is v m) ∙ h q v fs x go
of_object p w e i x o sought.Outside is h = λ v q fs go m. found_at q v fs e i x go (Some (object_of p o)) (is v m) ∙ h q v fs x go
of_object p w e i x o (sought.Element value) is h = λ v m. record { object = object_of p o; there = is v m; has = h }

pub element_is : (q : Limits) (v : def.World) (fs : List def.Frame) (e : Element) (i : ℤ) (x : ℕ) (value : Value) (h : IsElement v e i x value) (go : ℕ → objects.Object → Kind → Value → Effect) → on_element q v fs e i (Some x) go ≡ go x h.object h.has.kind value
element_is q v fs e i x value h go = found_at q v fs e i x go (Some h.object) h.there ∙ h.has.found q v fs x go
