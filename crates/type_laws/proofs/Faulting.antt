-- The first fault of a class is found, and none where there is none.
use Rattle.std.proofs.Common.{◌≡◌, ◌<◌, ◌+◌, ℕ, zero, suc, Bool, true, false, List, [], ◌∷◌, Option, Some, None, IfSome, refl, sym, ap, ◌∙◌, subst, arith}
use Rattle.std.specs.Prelude.{slice_get, if◌then◌else◌}
use Rattle.program_rules.specs.Names.{Name}
use Rattle.program_rules.specs.Linked.{Linked, LinkedMethod}
use Rattle.program_rules.specs.Programs.{Look}
use Rattle.type_rules.specs.References.{classes_of}
use Rattle.type_rules.specs.Rules.{MethodFault, ClassAccepted, method_fault}
use Rattle.type_rules.specs.Faults.{Placed, placed_or, first_fault_from, fault_in, class_fault}
use Rattle.type_laws.specs.Faults.{AcceptedHaveNone, FaultlessAreAccepted, FirstAreFound}

-- ---- methods one by one

module _ (p : Look) (n : Name) (c : Linked) where
  -- the fault of a method at a place
  abbrev fault : ℕ → LinkedMethod → Option MethodFault
  fault k m = method_fault (classes_of p) n c k m

  -- the first one of methods from a place on
  abbrev found : ℕ → List LinkedMethod → Option Placed
  found k ms = first_fault_from (classes_of p) n c k ms

  -- the methods before a place in a list have none
  abbrev NoneBefore : ℕ → List LinkedMethod → ℕ → Type 0
  NoneBefore k ms j = (i : ℕ) (m : LinkedMethod) → i < j → slice_get ms i ≡ Some m → fault (k + i) m ≡ None

  -- none of the methods has one
  abbrev NoneOf : ℕ → List LinkedMethod → Type 0
  NoneOf k ms = (j : ℕ) (m : LinkedMethod) → slice_get ms j ≡ Some m → fault (k + j) m ≡ None

  -- a place counted from the list's second method on
  one_on : (k j : ℕ) (m : LinkedMethod) → fault (suc k + j) m ≡ fault (k + suc j) m
  one_on k j m = let z : suc k + j ≡ k + suc j = omega arith in ap (λ i. fault i m) z

  first_one : (k : ℕ) (m : LinkedMethod) → fault k m ≡ fault (k + zero) m
  first_one k m = let z : k ≡ k + zero = omega arith in ap (λ i. fault i m) z

  none_more : (k : ℕ) (x : LinkedMethod) (ms : List LinkedMethod) → fault k x ≡ None → NoneOf (suc k) ms → NoneOf k (x ∷ ms)
  none_more k x ms here rest zero m at =
      let one : x ≡ m = cc in
      sym (first_one k m) ∙ ap (fault k) (sym one) ∙ here
  none_more k x ms here rest (suc j) m at = sym (one_on k j m) ∙ rest j m at

  none_found : (k : ℕ) (ms : List LinkedMethod) → NoneOf k ms → found k ms ≡ None
  none_found k [] none = refl
  none_found k (x ∷ ms) none =
      ap (λ o. placed_or k o (found (suc k) ms)) (first_one k x ∙ none zero x refl)
      ∙ none_found (suc k) ms (λ j m at. one_on k j m ∙ none (suc j) m at)

  none_by_first : (k : ℕ) (x : LinkedMethod) (ms : List LinkedMethod) (o : Option MethodFault) → fault k x ≡ o → (found (suc k) ms ≡ None → NoneOf (suc k) ms) → placed_or k o (found (suc k) ms) ≡ None → NoneOf k (x ∷ ms)
  none_by_first k x ms None here rest e = none_more k x ms here (rest e)
  none_by_first k x ms (Some f) here rest e = absurd cc

  found_none : (k : ℕ) (ms : List LinkedMethod) → found k ms ≡ None → NoneOf k ms
  found_none k [] e = λ j m at. absurd cc
  found_none k (x ∷ ms) e = none_by_first k x ms (fault k x) refl (found_none (suc k) ms) e

  first_found : (k : ℕ) (ms : List LinkedMethod) (j : ℕ) (m : LinkedMethod) (f : MethodFault) → slice_get ms j ≡ Some m → fault (k + j) m ≡ Some f → NoneBefore k ms j → found k ms ≡ Some (k + j, f)
  first_found k [] j m f at e before = absurd cc
  first_found k (x ∷ ms) zero m f at e before =
      let one : x ≡ m = cc in
      let z : k ≡ k + zero = omega arith in
      ap (λ o. placed_or k o (found (suc k) ms)) (ap (fault k) one ∙ first_one k m ∙ e) ∙ ap (λ i. Some (i, f)) z
  first_found k (x ∷ ms) (suc j) m f at e before =
      let z : suc k + j ≡ k + suc j = omega arith in
      ap (λ o. placed_or k o (found (suc k) ms)) (first_one k x ∙ before zero x (omega arith) refl)
      ∙ first_found (suc k) ms j m f at (one_on k j m ∙ e) (λ i g less there. one_on k i g ∙ before (suc i) g (omega (arith, less)) there)
      ∙ ap (λ i. Some (i, f)) z

  -- ---- the class's methods, which begin at 0

  from_none : (k : ℕ) (m : LinkedMethod) → fault (0 + k) m ≡ fault k m
  from_none k m = let z : 0 + k ≡ k = omega arith in ap (λ i. fault i m) z

  in_file : c.library ≡ false → fault_in (classes_of p) n (Some c) ≡ found 0 c.methods
  in_file file = ap (λ b. if b then None else found 0 c.methods) file

  none_in : p n ≡ Some c → ClassAccepted p n → (b : Bool) → c.library ≡ b → fault_in (classes_of p) n (Some c) ≡ None
  none_in here a true library = ap (λ b. if b then None else found 0 c.methods) library
  none_in here a false file =
      in_file file ∙ none_found 0 c.methods (λ j m at. from_none j m ∙ a.each c j m here file at)

-- ---- the class of a name

none_of : (p : Look) (n : Name) → ClassAccepted p n → (o : Option Linked) → p n ≡ o → fault_in (classes_of p) n o ≡ None
none_of p n a None here = refl
none_of p n a (Some c) here = none_in p n c here a c.library refl

pub accepted_have_none : AcceptedHaveNone
unfolding class_fault
accepted_have_none p n a = none_of p n a (p n) refl

pub faultless_are_accepted : FaultlessAreAccepted
unfolding class_fault
faultless_are_accepted p n library e = record {
  each = λ c k m here file at.
      let none : fault_in (classes_of p) n (Some c) ≡ None = ap (fault_in (classes_of p) n) (sym here) ∙ e in
      sym (from_none p n c k m) ∙ found_none p n c 0 c.methods (sym (in_file p n c file) ∙ none) k m at;
  library = λ c k m here lib at.
      let accepted : ClassAccepted p n = subst (λ o. IfSome o (λ x. x.library ≡ true → ClassAccepted p n)) here library lib in
      accepted.library c k m here lib at;
}

pub first_are_found : FirstAreFound
unfolding class_fault
first_are_found p n k f first =
    let c = first.fails.class in
    let m = first.fails.method in
    let z : 0 + k ≡ k = omega arith in
    ap (fault_in (classes_of p) n) first.fails.has_class
    ∙ in_file p n c first.fails.of_file
    ∙ first_found p n c 0 c.methods k m f first.fails.has_method (from_none p n c k m ∙ first.fails.fails) (λ j g less there. from_none p n c j g ∙ first.before c j g less first.fails.has_class there)
    ∙ ap (λ i. Some (i, f)) z
