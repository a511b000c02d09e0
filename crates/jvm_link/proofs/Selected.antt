-- What objects select, and what is kept of it.
use Rattle.std.proofs.Common.{◌≡◌, ◌∙◌, sym, refl, subst, ap, ℕ, Bool, true, false, List, Option, Some, Result, Ok, arith}
use Rattle.std.specs.Prelude.{nat_eq}
use Rattle.program_rules.specs.declared.fault.Fault.{Fault}
use Rattle.program_rules.specs.Faults.{Found}
use Rattle.program_rules.specs.Resolution.{same_bool}
use Rattle.program_rules.specs.Selection.{select_virtual}
use Rattle.class_link.specs.declared.linked.Entry.TheVariants as entry
use Rattle.class_link.specs.declared.linked.MethodRef.{MethodRef}
use Rattle.class_link.specs.View.{method_ref_of}
use Rattle.class_link.specs.Info.{Info}
use Rattle.jvm_link.specs.declared.site.Callee.{Callee}
use Rattle.jvm_link.specs.declared.site.Callee.TheVariants.{Method, ArrayClone}
use Rattle.jvm_link.specs.Candidates.{family_at}
use Rattle.jvm_link.specs.Answers.{AnswersCall, HasCallee, SelectsOf}
use Rattle.jvm_link.specs.declared.rows.Receiver.{Receiver}
use Rattle.jvm_link.specs.declared.rows.Kept.{Kept}
use Rattle.jvm_link.specs.declared.rows.Kept.TheVariants as kept
use Rattle.jvm_link.specs.Holding.{held}
use Rattle.jvm_link.specs.Selecting.{same_receiver, SelectsVirtual, SelectsByName}
use Rattle.jvm_link.specs.References.{IsEntry, IsRight, KeepsVirtual, KeepsNamed, ResolvesMethodRef}

-- The class of a method that was found is one of the program.
pub has_callee : (p : List Info) (r : MethodRef) (callee : Callee) → ResolvesMethodRef p r (Ok callee) → HasCallee p callee
has_callee p r (Method s) is = is.callee.within
has_callee p r ArrayClone is = tt

-- What is selected of the method that was found is selected of what the reference resolves to.
pub selects_virtual : (p : List Info) (r : MethodRef) (to : Receiver) (callee : Callee) (answer : Result Callee Fault) → ResolvesMethodRef p r (Ok callee) → SelectsOf p to.class.0 to.array (method_ref_of r) callee answer → SelectsVirtual p r to answer
selects_virtual p r to callee answer is selects = record {
  selects = λ m found.
      let same : Found is.method ≡ Found m = sym is.found ∙ found in
      let one : is.method ≡ m = cc in
      subst (λ x. AnswersCall p (select_virtual (method_ref_of r) x (family_at p to.class.0 to.array)) answer) one (selects is.method is.callee);
}

same_array : (a b : Bool) → same_bool a b ≡ true → a ≡ b
same_array true true e = refl
same_array false false e = refl
same_array true false e = absurd cc
same_array false true e = absurd cc

abbrev receiver : ℕ → Bool → Receiver
receiver class array = record { class = record { 0 = class }; array = array }

-- Objects that are alike are the same to selection.
pub one_receiver : (a b : Receiver) → same_receiver a b ≡ true → a ≡ b
one_receiver a b e = by_case (nat_eq a.class.0 b.class.0) (same_bool a.array b.array) refl refl e
  where
    by_case : (x y : Bool) → nat_eq a.class.0 b.class.0 ≡ x → same_bool a.array b.array ≡ y → same_receiver a b ≡ true → a ≡ b
    by_case true true ex ey e =
        let numbers : a.class.0 ≡ b.class.0 = grind (arith, ex) in
        ap (λ c. receiver c a.array) numbers ∙ ap (λ f. receiver b.class.0 f) (same_array a.array b.array ey)
    by_case true false ex ey e = absurd cc
    by_case false y ex ey e = absurd cc

module _ (rows : List (List (Option Kept))) (class index : ℕ) (found : Option Kept) (of to : Receiver) (answer : Result Callee Fault) (same : Bool) where
  pub virtual_kept : found ≡ held class index rows → found ≡ Some (kept.Virtual of answer) → same ≡ same_receiver of to → same ≡ true → KeepsVirtual rows class index to answer
  virtual_kept is some says holds = record {
    selects = λ p r table entry. subst (λ x. SelectsVirtual p r x answer) (one_receiver of to (sym says ∙ holds)) (table class index (kept.Virtual of answer) (sym is ∙ some) r entry);
  }

  pub named_kept : found ≡ held class index rows → found ≡ Some (kept.Named of answer) → same ≡ same_receiver of to → same ≡ true → KeepsNamed rows class index to answer
  named_kept is some says holds = record {
    selects = λ p r table entry. subst (λ x. SelectsByName p r x answer) (one_receiver of to (sym says ∙ holds)) (table class index (kept.Named of answer) (sym is ∙ some) r entry);
  }

module _ (p : List Info) (class index : ℕ) (r : MethodRef) (to : Receiver) (answer : Result Callee Fault) where
  pub virtual_right : IsEntry p class index (entry.Method r) → SelectsVirtual p r to answer → IsRight p class index (kept.Virtual to answer)
  virtual_right here selects s other =
      let both : Some (entry.Method r) ≡ Some (entry.Method s) = sym here ∙ other in
      let one : r ≡ s = cc in
      subst (λ x. SelectsVirtual p x to answer) one selects

  pub named_right : IsEntry p class index (entry.Method r) → SelectsByName p r to answer → IsRight p class index (kept.Named to answer)
  named_right here selects s other =
      let both : Some (entry.Method r) ≡ Some (entry.Method s) = sym here ∙ other in
      let one : r ≡ s = cc in
      subst (λ x. SelectsByName p x to answer) one selects
