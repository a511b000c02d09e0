-- What a name resolves to, and what an instruction goes on with then.
use Rattle.std.proofs.Common.{◌≡◌, ◌∙◌, ◌<◌, sym, refl, ap, Bool, true, false, List, Option, Some, None, length}
use Rattle.std.specs.Prelude.{if◌then◌else◌}
use Rattle.program_rules.specs.declared.fault.Fault.TheVariants.{NoClassDefFoundError}
use Rattle.program_rules.specs.Faults.{Answer, Found, Fails}
use Rattle.program_rules.specs.Linked.{Linked}
use Rattle.program_rules.specs.Names.{Name, class_behind}
use Rattle.program_rules.specs.Outlines.{outline_of, is_present}
use Rattle.program_rules.specs.Programs.{Family, family}
use Rattle.class_model.specs.declared.class.ClassId.{ClassId}
use Rattle.class_link.specs.Info.{Info}
use Rattle.class_table.specs.Table.{look, name_at}
use Rattle.machine_rules.specs.declared.machine.Limits.{Limits}
use Rattle.machine_rules.specs.State.{Frame, World}
use Rattle.machine_rules.specs.Effects.{Effect, on_found, throws}
use Rattle.jvm_link.specs.Named.{class_named, IsClassNamed}

-- ---- classes

abbrev answer : Option Linked → Family → Answer Family
answer o c = if is_present (outline_of o) then Found c else Fails NoClassDefFoundError

named_by :
    (p : List Info) (n m : Name) (o : Option Linked) → m ≡ class_behind n → look p m ≡ o →
    class_named (look p) n ≡ answer o (family (look p) (class_behind n))
unfolding family
named_by p n m o e is =
    ap (λ o. if is_present (outline_of o) then Found (family (look p) (class_behind n)) else Fails NoClassDefFoundError)
    (ap (look p) (sym e) ∙ is)

-- The class that a name stands for is there.
pub class_here :
    (p : List Info) (n m : Name) (id : ClassId) (c : Linked) → m ≡ class_behind n →
    id.0 < length p → name_at p id.0 ≡ m → look p (name_at p id.0) ≡ Some c → IsClassNamed p n id
class_here p n m id c e lt named is = record {
  within = lt;
  named = named ∙ e;
  found = named_by p n m (Some c) e (ap (look p) (sym named) ∙ is);
}

-- There is none.
pub class_missing :
    (p : List Info) (n m : Name) → m ≡ class_behind n → look p m ≡ None →
    class_named (look p) n ≡ Fails NoClassDefFoundError
class_missing p n m e is = named_by p n m None e is

-- ---- what goes on

-- A class that is absent throws, whatever would be searched in it.
pub absent_throws :
    {A : Type 0} (q : Limits) (u : World) (fs : List Frame) (present : Bool) (answer : Answer A)
    (go : A → Effect) →
    (if present then on_found q u fs answer go else throws q u fs NoClassDefFoundError)
    ≡ on_found q u fs (if present then answer else Fails NoClassDefFoundError) go
absent_throws q u fs true answer go = refl
absent_throws q u fs false answer go = refl
