-- What is found in the class that a name stands for.
use Rattle.std.proofs.Common.{◌≡◌, ◌∙◌, ◌<◌, sym, refl, subst, ap, length, ℕ, Bool, true, false, List, Option, Some, None, Result, Ok, Err}
use Rattle.std.specs.Prelude.{if◌then◌else◌}
use Rattle.program_rules.specs.Names.{Name, class_behind, is_array_name}
use Rattle.program_rules.specs.declared.fault.Fault.{Fault}
use Rattle.program_rules.specs.declared.fault.Fault.TheVariants.{NoClassDefFoundError, NoSuchFieldError}
use Rattle.program_rules.specs.Faults.{Answer, Found, Fails}
use Rattle.program_rules.specs.Outlines.{is_present}
use Rattle.program_rules.specs.Programs.{Look, Family, family, consulted_with, Rising, nodes}
use Rattle.program_rules.specs.Resolution.{field_at, search_field, resolve_field, resolve_method}
use Rattle.class_model.specs.declared.class.ClassId.{ClassId}
use Rattle.class_link.specs.declared.linked.FieldRef.{FieldRef}
use Rattle.class_link.specs.declared.linked.MethodRef.{MethodRef}
use Rattle.class_link.specs.Symbols.{kind_of}
use Rattle.class_link.specs.View.{field_ref_of, method_ref_of}
use Rattle.class_link.specs.Info.{Info}
use Rattle.class_table.specs.Seen.{Seen, IsConsultedOf}
use Rattle.class_table.specs.Table.{look, name_at}
use Rattle.jvm_link.specs.declared.site.Site.{Site}
use Rattle.jvm_link.specs.declared.site.Callee.{Callee}
use Rattle.jvm_link.specs.Sites.{node_at, ResolvesField}
use Rattle.jvm_link.specs.Answers.{AnswersCall, ResolvesMethod}
use Rattle.jvm_link.specs.Named.{if_present, search_named, class_named, field_named, method_named, IsClassNamed, ResolvesClass, Consults}
use Rattle.jvm_link.specs.References.{IsFieldNamed, ResolvesFieldRef, ResolvesMethodRef}

-- A class is there where it was found.
there : {A : Type 0} (c : Family) (answer : Answer A) → if_present c (Found c) ≡ Found c → if_present c answer ≡ answer
there c answer found = by_case (is_present c.class) refl
  where
    by_case : (b : Bool) → is_present c.class ≡ b → if_present c answer ≡ answer
    by_case true e = ap (λ x. if x then answer else Fails NoClassDefFoundError) e
    by_case false e =
        let fails : Fails NoClassDefFoundError ≡ Found c = sym (ap (λ x. if x then Found c else Fails NoClassDefFoundError) e) ∙ found in
        absurd cc

-- What is searched by a name is searched in the class that it stands for.
pub searched : {A : Type 0} (p : List Info) (n : Name) (id : ClassId) (search : Family → Answer A) → IsClassNamed p n id → search_named (look p) n search ≡ search (family (look p) (name_at p id.0))
searched p n id search is =
    there (family (look p) (class_behind n)) (search (family (look p) (class_behind n))) is.found
    ∙ ap (λ m. search (family (look p) m)) (sym is.named)

abbrev fault_of : {A : Type 0} → Answer A → Fault
fault_of (Found x) = NoClassDefFoundError
fault_of (Fails fault) = fault

-- Where the class is absent, so is what would be searched there.
absent : {A : Type 0} (c : Family) (answer : Answer A) (fault : Fault) → if_present c (Found c) ≡ Fails fault → if_present c answer ≡ Fails fault
absent c answer fault fails = by_case (is_present c.class) refl
  where
    by_case : (b : Bool) → is_present c.class ≡ b → if_present c answer ≡ Fails fault
    by_case true e =
        let found : Found c ≡ Fails fault = sym (ap (λ x. if x then Found c else Fails NoClassDefFoundError) e) ∙ fails in
        absurd cc
    by_case false e =
        let one : NoClassDefFoundError ≡ fault = ap fault_of (sym (ap (λ x. if x then Found c else Fails NoClassDefFoundError) e) ∙ fails) in
        ap (λ x. if x then answer else Fails NoClassDefFoundError) e ∙ ap (λ f. Fails f) one

pub field_absent : (p : List Info) (r : FieldRef) (fault : Fault) → class_named (look p) r.class ≡ Fails fault → ResolvesFieldRef p r (Err fault)
field_absent p r fault fails = absent (family (look p) (class_behind r.class)) (resolve_field (field_ref_of r) (family (look p) (class_behind r.class))) fault fails

pub method_absent : (p : List Info) (r : MethodRef) (fault : Fault) → class_named (look p) r.class ≡ Fails fault → ResolvesMethodRef p r (Err fault)
method_absent p r fault fails = absent (family (look p) (class_behind r.class)) (resolve_method (method_ref_of r) (family (look p) (class_behind r.class))) fault fails

pub named_within : (p : List Info) (n : Name) (id : ClassId) → IsClassNamed p n id → id.0 < length p
named_within p n id is = is.within

-- A name that is equal stands for the same class.
pub class_moved : (p : List Info) (n m : Name) (answer : Result ClassId Fault) → n ≡ m → ResolvesClass p n answer → ResolvesClass p m answer
class_moved p n m answer e is = subst (λ x. ResolvesClass p x answer) e is

pub consults_moved : (p : List Info) (n m : Name) (old new : Seen) → n ≡ m → Consults p n old new → Consults p m old new
consults_moved p n m old new e is = subst (λ x. Consults p x old new) e is

pub consults : (p : List Info) (n : Name) (id : ClassId) (old new : Seen) → IsClassNamed p n id → new.names ≡ consulted_with (look p) (name_at p id.0) old.names → IsConsultedOf p new → Consults p n old new
consults p n id old new is names kept = record {
  names = names ∙ ap (λ m. consulted_with (look p) m old.names) is.named;
  kept = kept;
}

pub method_searched : (p : List Info) (r : MethodRef) (id : ClassId) (answer : Result Callee Fault) → IsClassNamed p r.class id → ResolvesMethod p id.0 (method_ref_of r) answer → ResolvesMethodRef p r answer
method_searched p r id answer is found =
    subst (λ a. AnswersCall p a answer) (sym (searched p r.class id (resolve_method (method_ref_of r)) is)) found

-- An array has no fields.
pub array_field : (p : List Info) (r : FieldRef) (id : ClassId) (array : Bool) → IsClassNamed p r.class id → array ≡ is_array_name r.class → array ≡ true → ResolvesFieldRef p r (Err NoSuchFieldError)
unfolding resolve_field
array_field p r id array is says holds =
    searched p r.class id (resolve_field (field_ref_of r)) is
    ∙ ap (λ b. if b then Fails NoSuchFieldError else search_field (family (look p) (name_at p id.0)).rising r.name r.desc (family (look p) (name_at p id.0)).searching) (sym says ∙ holds)

pub no_field : (p : List Info) (r : FieldRef) (id : ClassId) (array : Bool) (name desc : Name) → IsClassNamed p r.class id → array ≡ is_array_name r.class → array ≡ false → name ≡ r.name → desc ≡ r.desc → ResolvesField p id.0 name desc None → ResolvesFieldRef p r (Err NoSuchFieldError)
no_field p r id array name desc is says fails en ed none =
    let named = subst (λ n. ResolvesField p id.0 n desc None) en none in
    let both = subst (λ d. ResolvesField p id.0 r.name d None) ed named in
    searched p r.class id (resolve_field (field_ref_of r)) is ∙ both r.class (kind_of r.kind) (sym says ∙ fails)

pub field_searched : (p : List Info) (r : FieldRef) (id : ClassId) (s : Site) (array : Bool) (name desc : Name) → IsClassNamed p r.class id → array ≡ is_array_name r.class → array ≡ false → name ≡ r.name → desc ≡ r.desc → ResolvesField p id.0 name desc (Some s) → ResolvesFieldRef p r (Ok s)
field_searched p r id s array name desc is says fails en ed found =
    let named = subst (λ n. ResolvesField p id.0 n desc (Some s)) en found in
    let both = subst (λ d. ResolvesField p id.0 r.name d (Some s)) ed named in
    record {
      within = both.within;
      field = both.field;
      there = both.there;
      found =
          searched p r.class id (resolve_field (field_ref_of r)) is
          ∙ both.resolved r.class (kind_of r.kind) (sym says ∙ fails)
          ∙ ap (λ m. Found (field_at (nodes Rising (look p) m) (node_at p s.class.0) (s.place, both.field))) is.named;
    }
