-- What is kept stays right.
use Rattle.std.proofs.Common.{◌≡◌, ◌∙◌, sym, refl, subst, ap, ℕ, Bool, true, false, List, [], Option, None, Some, arith}
use Rattle.std.specs.Prelude.{◌&&◌, nat_eq, if◌then◌else◌, Result}
use Rattle.program_rules.specs.Names.{Name}
use Rattle.program_rules.specs.declared.fault.Fault.{Fault}
use Rattle.class_model.specs.declared.class.ClassId.{ClassId}
use Rattle.class_link.specs.declared.linked.Entry.TheVariants as entry
use Rattle.class_link.specs.declared.linked.FieldRef.{FieldRef}
use Rattle.class_link.specs.declared.linked.MethodRef.{MethodRef}
use Rattle.class_link.specs.Info.{Info}
use Rattle.jvm_link.specs.declared.site.Site.{Site}
use Rattle.jvm_link.specs.declared.site.Callee.{Callee}
use Rattle.jvm_link.specs.Named.{IsClassNamed}
use Rattle.jvm_link.specs.declared.rows.Kept.{Kept}
use Rattle.jvm_link.specs.declared.rows.Kept.TheVariants as kept
use Rattle.jvm_link.specs.Holding.{held, Holds, HoldSame}
use Rattle.jvm_link.specs.References.{IsEntry, IsRight, IsTableOf, IsFieldOf, IsMethodOf, KeepsClass, KeepsField, KeepsMethod, KeepsMethodClass, ResolvesFieldRef, ResolvesMethodRef}

pub nothing_kept : (p : List Info) → IsTableOf p []
nothing_kept p class index k is = absurd cc

module _ (p : List Info) (old new : List (List (Option Kept))) where
  pub kept_more : (class index : ℕ) (kept : Kept) → IsTableOf p old → IsRight p class index kept → Holds class index kept old new → IsTableOf p new
  kept_more class index kept table right holds c i k is =
      by_case (nat_eq class c) (nat_eq index i) refl refl
    where
      by_case : (x y : Bool) → nat_eq class c ≡ x → nat_eq index i ≡ y → IsRight p c i k
      by_case true true ex ey =
          let ec : class ≡ c = grind (arith, ex) in
          let ei : index ≡ i = grind (arith, ey) in
          let stored : Some kept ≡ Some k = sym (holds c i ∙ ap (λ b. if b then Some kept else held c i old) (ap (λ b. b && nat_eq index i) ex ∙ ey)) ∙ is in
          let ek : kept ≡ k = cc in
          subst (λ z. IsRight p c i z) ek (subst (λ z. IsRight p c z kept) ei (subst (λ z. IsRight p z index kept) ec right))
      by_case true false ex ey = table c i k (sym (holds c i ∙ ap (λ b. if b then Some kept else held c i old) (ap (λ b. b && nat_eq index i) ex ∙ ey)) ∙ is)
      by_case false y ex ey = table c i k (sym (holds c i ∙ ap (λ b. if b then Some kept else held c i old) (ap (λ b. b && nat_eq index i) ex)) ∙ is)

  pub kept_same : IsTableOf p old → HoldSame old new → IsTableOf p new
  kept_same table same c i k is = table c i k (sym (same c i) ∙ is)

module _ (rows : List (List (Option Kept))) (class index : ℕ) (found : Option Kept) where
  pub class_kept : (id : ClassId) → found ≡ held class index rows → found ≡ Some (kept.Class id) → KeepsClass rows class index id
  class_kept id is some = record {
    named = λ p n table entry. table class index (kept.Class id) (sym is ∙ some) n entry;
  }

  pub field_kept : (id : ClassId) (answer : Result Site Fault) → found ≡ held class index rows → found ≡ Some (kept.Field id answer) → KeepsField rows class index id answer
  field_kept id answer is some = record {
    named = λ p r table entry. (table class index (kept.Field id answer) (sym is ∙ some) r entry).named;
    resolved = λ p r table entry. (table class index (kept.Field id answer) (sym is ∙ some) r entry).resolved;
  }

  pub method_kept : (id : ClassId) (answer : Result Callee Fault) → found ≡ held class index rows → found ≡ Some (kept.Method id answer) → KeepsMethod rows class index id answer
  method_kept id answer is some = record {
    named = λ p r table entry. (table class index (kept.Method id answer) (sym is ∙ some) r entry).named;
    resolved = λ p r table entry. (table class index (kept.Method id answer) (sym is ∙ some) r entry).resolved;
  }

pub method_class_kept : (rows : List (List (Option Kept))) (class index : ℕ) (id : ClassId) (answer : Result Callee Fault) → KeepsMethod rows class index id answer → KeepsMethodClass rows class index id
method_class_kept rows class index id answer k = record { named = k.named }

module _ (p : List Info) (class index : ℕ) (id : ClassId) where
  pub class_right : (n : Name) → IsEntry p class index (entry.Class n) → IsClassNamed p n id → IsRight p class index (kept.Class id)
  class_right n here is m other =
      let both : Some (entry.Class n) ≡ Some (entry.Class m) = sym here ∙ other in
      let one : n ≡ m = cc in
      subst (λ x. IsClassNamed p x id) one is

  pub field_right : (r : FieldRef) (answer : Result Site Fault) → IsEntry p class index (entry.Field r) → IsClassNamed p r.class id → ResolvesFieldRef p r answer → IsRight p class index (kept.Field id answer)
  field_right r answer here is found s other =
      let both : Some (entry.Field r) ≡ Some (entry.Field s) = sym here ∙ other in
      let one : r ≡ s = cc in
      subst (λ x. IsFieldOf p id answer x) one (record { named = is; resolved = found })

  pub method_right : (r : MethodRef) (answer : Result Callee Fault) → IsEntry p class index (entry.Method r) → IsClassNamed p r.class id → ResolvesMethodRef p r answer → IsRight p class index (kept.Method id answer)
  method_right r answer here is found s other =
      let both : Some (entry.Method r) ≡ Some (entry.Method s) = sym here ∙ other in
      let one : r ≡ s = cc in
      subst (λ x. IsMethodOf p id answer x) one (record { named = is; resolved = found })
