-- What an instruction that resolves a name goes on with, in one step (JVMS 5.4.3, 6.5).
use Rattle.std.specs.Prelude.{◌≡◌, List, ◌∷◌}
use Rattle.machine_rules.specs.declared.machine.Limits.{Limits}
use Rattle.program_rules.specs.Names.{Name, class_behind}
use Rattle.program_rules.specs.Instructions.{FieldRef, MethodRef}
use Rattle.program_rules.specs.Programs.{Look, Family}
use Rattle.program_rules.specs.Resolution.{FieldAt, MethodAt, resolve_field}
use Rattle.machine_rules.specs.State.{Frame, World}
use Rattle.machine_rules.specs.Effects.{Effect, on_found}
use Rattle.machine_rules.specs.Lookups.{consult, resolves}
use Rattle.machine_rules.specs.Calls.{invokes}
use Rattle.jvm_link.specs.Named.{class_named, field_named, method_named}

-- An instruction that names a class.
abbrev pub ClassesResolve : Type 0
ClassesResolve =
    (p : Look) (q : Limits) (w : World) (fs : List Frame) (n : Name)
    (go : World → Family → Effect) →
    let u = consult p (class_behind n) w in
    resolves p q w fs n go ≡ on_found q u fs (class_named p n) (go u)

-- One that names a field.
abbrev pub FieldsResolve : Type 0
FieldsResolve =
    (p : Look) (q : Limits) (w : World) (fs : List Frame) (r : FieldRef)
    (go : World → FieldAt → Effect) →
    let u = consult p (class_behind r.class) w in
    resolves p q w fs r.class (λ v c. on_found q v fs (resolve_field r c) (go v))
    ≡ on_found q u fs (field_named p r) (go u)

-- One that names a method.
abbrev pub MethodsResolve : Type 0
MethodsResolve =
    (p : Look) (q : Limits) (w : World) (f : Frame) (fs : List Frame) (r : MethodRef)
    (go : World → MethodAt → Effect) →
    let u = consult p (class_behind r.class) w in
    resolves p q w (f ∷ fs) r.class (invokes q f fs r go)
    ≡ on_found q u (f ∷ fs) (method_named p r) (go u)
