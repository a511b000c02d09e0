-- What a name resolves to: its class first, and then what is searched there (JVMS 5.4.3).
use Rattle.std.specs.Prelude.{◌≡◌, ◌<◌, if◌then◌else◌, List, Result, Ok, Err, length}
use Rattle.program_rules.specs.Names.{Name, class_behind}
use Rattle.program_rules.specs.declared.fault.Fault.{Fault}
use Rattle.program_rules.specs.declared.fault.Fault.TheVariants.{NoClassDefFoundError}
use Rattle.program_rules.specs.Faults.{Answer, Found, Fails}
use Rattle.program_rules.specs.Instructions.{FieldRef, MethodRef}
use Rattle.program_rules.specs.Outlines.{is_present}
use Rattle.program_rules.specs.Programs.{Look, Family, family, consulted_with}
use Rattle.program_rules.specs.Resolution.{FieldAt, MethodAt, resolve_field, resolve_method}
use Rattle.class_model.specs.declared.class.ClassId.{ClassId}
use Rattle.class_link.specs.Info.{Info}
use Rattle.class_table.specs.Seen.{Seen, IsConsultedOf}
use Rattle.class_table.specs.Table.{look, name_at}

-- A search in a class, where there is that class (JVMS 5.4.3.1).
abbrev pub if_present : {A : Type 0} → Family → Answer A → Answer A
if_present c answer = if is_present c.class then answer else Fails NoClassDefFoundError

-- A search in the class that a name stands for.
abbrev pub search_named : {A : Type 0} → Look → Name → (Family → Answer A) → Answer A
search_named p n search =
    if_present (family p (class_behind n)) (search (family p (class_behind n)))

-- What the name of a class or an array resolves to, what a reference to a field does, and what one
-- to a method does.
abbrev pub class_named : Look → Name → Answer Family
class_named p n = search_named p n Found

abbrev pub field_named : Look → FieldRef → Answer FieldAt
field_named p r = search_named p r.class (resolve_field r)

abbrev pub method_named : Look → MethodRef → Answer MethodAt
method_named p r = search_named p r.class (resolve_method r)

-- ---- by number

-- A name stands for this class, which is there.
pub record IsClassNamed (p : List Info) (n : Name) (id : ClassId) : Type 0 where
  pub within : id.0 < length p
  pub named : name_at p id.0 ≡ class_behind n
  pub found : class_named (look p) n ≡ Found (family (look p) (class_behind n))

-- What a name resolves to.
abbrev pub ResolvesClass : List Info → Name → Result ClassId Fault → Type 0
ResolvesClass p n (Ok id) = IsClassNamed p n id
ResolvesClass p n (Err fault) = class_named (look p) n ≡ Fails fault

-- The class that a name stands for was consulted with all above it.
pub record Consults (p : List Info) (n : Name) (old new : Seen) : Type 0 where
  pub names : new.names ≡ consulted_with (look p) (class_behind n) old.names
  pub kept : IsConsultedOf p new
