-- Fields of objects with their slots, found and held.
use Rattle.std.proofs.Common.{◌≡◌, ◌∙◌, inl, inr, sym, refl, subst, ap, ℕ, ◌<◌, ◌≤◌, ◌^◌, Bool, true, false, List, [], length, Option, None, Some, IfSome, arith}
use Rattle.std.specs.Prelude.{◌&&◌, nat_eq, if◌then◌else◌}
use Rattle.program_rules.specs.declared.fault.Fault.TheVariants.{NoClassDefFoundError}
use Rattle.program_rules.specs.Faults.{Answer, Found, Fails}
use Rattle.program_rules.specs.Names.{Name, class_behind}
use Rattle.program_rules.specs.Outlines.{is_present, outline_of}
use Rattle.program_rules.specs.Programs.{Look, Family, family, nodes, Rising}
use Rattle.program_rules.specs.Resolution.{FieldAt, field_at, slot_of, resolve_field}
use Rattle.class_model.specs.declared.class.ClassId.{ClassId}
use Rattle.class_link.specs.declared.linked.Entry.TheVariants as entry
use Rattle.class_link.specs.declared.linked.FieldRef.{FieldRef}
use Rattle.class_link.specs.View.{field_ref_of}
use Rattle.class_link.specs.Info.{Info}
use Rattle.class_table.specs.Table.{look, name_at}
use Rattle.jvm_link.specs.declared.site.Site.{Site}
use Rattle.jvm_link.specs.Named.{IsClassNamed}
use Rattle.jvm_link.specs.Sites.{node_at}
use Rattle.jvm_link.specs.References.{IsEntry, IsFieldNamed}
use Rattle.jvm_members.specs.Sites.{ResolvesTo, Serves, ServesIn, ServesFor, TellsStatic}
use Rattle.jvm_link.specs.Holding.{held, Holds, HoldSame}
use Rattle.jvm_members.specs.declared.sites.ObjectField.{ObjectField}
use Rattle.jvm_members.specs.Slots.{AreSlots, IsKnown, IsObjectField}

-- ---- found

pub serves_same : (number slot : ℕ) → number ≡ slot → Serves number slot
serves_same number slot e = inl (sym e)

pub serves_last : (slot : ℕ) → 2 ^ 32 ≤ slot → Serves 4294967295 slot
serves_last slot h = inr (omega arith, omega (arith, h))

-- the field of the definitions at a site
pub found_is : (p : List Info) (r : FieldRef) (s : Site) (x : FieldAt) (is : IsFieldNamed p r s) → ResolvesTo p r x → field_at (nodes Rising (look p) (class_behind r.class)) (node_at p s.class.0) (s.place, is.field) ≡ x
found_is p r s x is to =
    let both : Found (field_at (nodes Rising (look p) (class_behind r.class)) (node_at p s.class.0) (s.place, is.field)) ≡ Found x = sym is.found ∙ to in
    cc

pub slot_found : (p : List Info) (r : FieldRef) (s : Site) (root : ClassId) (name : Name) (number : ℕ) → IsFieldNamed p r s → name ≡ class_behind r.class → name_at p root.0 ≡ name → ServesIn p root.0 s number → ServesFor p r number
slot_found p r s root name number is behind named serves x to =
    let here : Serves number (slot_of (nodes Rising (look p) (class_behind r.class)) (node_at p s.class.0) s.place) =
    subst (λ (n : Name). Serves number (slot_of (nodes Rising (look p) n) (node_at p s.class.0) s.place)) (named ∙ behind) serves in
    subst (λ (y : FieldAt). Serves number y.slot) (found_is p r s x is to) here

-- ---- the class that is named

-- Where a search in a class finds something the class is there.
present : {A : Type 0} (b : Bool) (a : Answer A) (x : A) (c : Family) → (if b then a else Fails NoClassDefFoundError) ≡ Found x → (if b then Found c else Fails NoClassDefFoundError) ≡ Found c
present true a x c e = refl
present false a x c e = absurd cc

pub named_so : (p : List Info) (r : FieldRef) (s : Site) (name : Name) (id : ClassId) → IsFieldNamed p r s → name ≡ class_behind r.class → id.0 < length p → name_at p id.0 ≡ name → IsClassNamed p r.class id
named_so p r s name id is behind within named =
    let c : Family = family (look p) (class_behind r.class) in
    record {
      within = within;
      named = named ∙ behind;
      found =
          present (is_present c.class) (resolve_field (field_ref_of r) c) (field_at (nodes Rising (look p) (class_behind r.class)) (node_at p s.class.0) (s.place, is.field)) c is.found;
    }

no_answer : (b : Bool) (a : Answer FieldAt) (x : FieldAt) → b ≡ false → (if b then a else Fails NoClassDefFoundError) ≡ Found x → ⊥
no_answer true a x lacks e = absurd cc
no_answer false a x lacks e = absurd cc

absent : (p : Look) (n : Name) → p n ≡ None → is_present (family p n).class ≡ false
unfolding family
absent p n none = ap (λ o. is_present (outline_of o)) none

pub class_there : (p : List Info) (r : FieldRef) (s : Site) (name : Name) → IsFieldNamed p r s → name ≡ class_behind r.class → look p name ≡ None → ⊥
class_there p r s name is behind none =
    let c : Family = family (look p) (class_behind r.class) in
    no_answer (is_present c.class) (resolve_field (field_ref_of r) c) (field_at (nodes Rising (look p) (class_behind r.class)) (node_at p s.class.0) (s.place, is.field))
    (absent (look p) (class_behind r.class) (subst (λ (n : Name). look p n ≡ None) behind none)) is.found

pub object_is : (p : List Info) (r : FieldRef) (s : Site) (id : ClassId) (slot : ℕ) → IsFieldNamed p r s → TellsStatic p s false → IsClassNamed p r.class id → ServesIn p id.0 s slot → IsObjectField p r (record { named = id; site = s; slot = slot })
object_is p r s id slot is object named serves = record {
  named = named;
  found = is;
  object = object;
  serves = slot_found p r s id (class_behind r.class) slot is refl named.named serves;
}

-- ---- held

pub none_held : (p : List Info) → AreSlots p []
none_held p class index x is = absurd cc

pub held_field : (p : List Info) (rows : List (List (Option ObjectField))) (class index : ℕ) (found : Option ObjectField) → AreSlots p rows → found ≡ held class index rows → IfSome found (IsKnown p class index)
held_field p rows class index None slots is = tt
held_field p rows class index (Some x) slots is = slots class index x (sym is)

module _ (p : List Info) (old new : List (List (Option ObjectField))) where
  pub held_more : (class index : ℕ) (field : ObjectField) (r : FieldRef) → AreSlots p old → IsEntry p class index (entry.Field r) → IsObjectField p r field → Holds class index field old new → AreSlots p new
  held_more class index field r slots here right holds c i x is =
      by_case (nat_eq class c) (nat_eq index i) refl refl
    where
      by_case : (a b : Bool) → nat_eq class c ≡ a → nat_eq index i ≡ b → IsKnown p c i x
      by_case true true ea eb =
          let ec : class ≡ c = grind (arith, ea) in
          let ei : index ≡ i = grind (arith, eb) in
          let stored : Some field ≡ Some x = sym (holds c i ∙ ap (λ t. if t then Some field else held c i old) (ap (λ t. t && nat_eq index i) ea ∙ eb)) ∙ is in
          let one : field ≡ x = cc in
          record {
            reference = r;
            stands = subst (λ z. IsEntry p c z (entry.Field r)) ei (subst (λ z. IsEntry p z index (entry.Field r)) ec here);
            field = subst (λ (z : ObjectField). IsObjectField p r z) one right;
          }
      by_case true false ea eb = slots c i x (sym (holds c i ∙ ap (λ t. if t then Some field else held c i old) (ap (λ t. t && nat_eq index i) ea ∙ eb)) ∙ is)
      by_case false b ea eb = slots c i x (sym (holds c i ∙ ap (λ t. if t then Some field else held c i old) (ap (λ t. t && nat_eq index i) ea)) ∙ is)

  pub held_same : AreSlots p old → HoldSame old new → AreSlots p new
  held_same slots same c i x is = slots c i x (sym (same c i) ∙ is)
