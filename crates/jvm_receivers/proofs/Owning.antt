-- What is held of whether references name the class itself or a superinterface of it.
use Rattle.std.proofs.Common.{◌≡◌, ◌∙◌, sym, refl, subst, ap, ℕ, Bool, true, false, List, [], Option, Some, arith}
use Rattle.std.specs.Prelude.{◌&&◌, nat_eq, if◌then◌else◌}
use Rattle.class_link.specs.declared.linked.Entry.TheVariants as entry
use Rattle.class_link.specs.declared.linked.MethodRef.{MethodRef}
use Rattle.class_link.specs.Info.{Info}
use Rattle.jvm_link.specs.Holding.{held, Holds, HoldSame}
use Rattle.jvm_link.specs.References.{IsEntry}
use Rattle.jvm_receivers.specs.Owned.{AreOwned, TellsOwn}
use Rattle.jvm_receivers.specs.Receivers.{is_own}

pub none_held : (p : List Info) → AreOwned p []
none_held p class index own is = absurd cc

pub held_own : (p : List Info) (rows : List (List (Option Bool))) (class index : ℕ) (found : Option Bool) (own : Bool) (r : MethodRef) → AreOwned p rows → IsEntry p class index (entry.Method r) → found ≡ held class index rows → found ≡ Some own → own ≡ is_own p class r.class
held_own p rows class index found own r owned here is some = owned class index own (sym is ∙ some) r here

-- What is right of the reference at an index is right there.
tells_own : (p : List Info) (class index : ℕ) (own : Bool) (r : MethodRef) → IsEntry p class index (entry.Method r) → own ≡ is_own p class r.class → TellsOwn p class index own
tells_own p class index own r here right = λ s there.
    let both : Some (entry.Method r) ≡ Some (entry.Method s) = sym here ∙ there in
    let one : r ≡ s = cc in
    right ∙ ap (λ (x : MethodRef). is_own p class x.class) one

module _ (p : List Info) (old new : List (List (Option Bool))) where
  pub held_more : (class index : ℕ) (own : Bool) (r : MethodRef) → AreOwned p old → IsEntry p class index (entry.Method r) → own ≡ is_own p class r.class → Holds class index own old new → AreOwned p new
  held_more class index own r owned here right holds c i x is =
      by_case (nat_eq class c) (nat_eq index i) refl refl
    where
      by_case : (a b : Bool) → nat_eq class c ≡ a → nat_eq index i ≡ b → TellsOwn p c i x
      by_case true true ea eb =
          let ec : class ≡ c = grind (arith, ea) in
          let ei : index ≡ i = grind (arith, eb) in
          let stored : Some own ≡ Some x = sym (holds c i ∙ ap (λ t. if t then Some own else held c i old) (ap (λ t. t && nat_eq index i) ea ∙ eb)) ∙ is in
          let one : own ≡ x = cc in
          subst (TellsOwn p c i) one
          (subst (λ z. TellsOwn p c z own) ei (subst (λ z. TellsOwn p z index own) ec (tells_own p class index own r here right)))
      by_case true false ea eb = owned c i x (sym (holds c i ∙ ap (λ t. if t then Some own else held c i old) (ap (λ t. t && nat_eq index i) ea ∙ eb)) ∙ is)
      by_case false b ea eb = owned c i x (sym (holds c i ∙ ap (λ t. if t then Some own else held c i old) (ap (λ t. t && nat_eq index i) ea)) ∙ is)

  pub held_same : AreOwned p old → HoldSame old new → AreOwned p new
  held_same owned same c i x is = owned c i x (sym (same c i) ∙ is)
