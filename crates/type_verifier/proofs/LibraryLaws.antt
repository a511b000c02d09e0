-- The code of the library, and whether instructions have numbers.
use Rattle.std.proofs.Common.{◌≡◌, inl, inr, ◌<◌, ◌+◌, ℕ, zero, suc, true, false, List, [], ◌∷◌, All, Option, Some, None, get_or, length, refl, sym, ap, ◌∙◌, subst, arith}
use Rattle.std.specs.Prelude.{slice_get, option_and_then}
use Rattle.program_rules.specs.Names.{Name}
use Rattle.program_rules.specs.Linked as rules
use Rattle.program_rules.specs.Linked.{code_in}
use Rattle.type_rules.specs.References.{classes_of}
use Rattle.type_rules.specs.Rules.{MethodFault, ClassAccepted, body_fault}
use Rattle.class_model.specs.declared.class.ClassId.{ClassId}
use Rattle.class_link.specs.declared.linked.LinkedClass.{LinkedClass}
use Rattle.class_link.specs.declared.linked.LinkedMethod.{LinkedMethod}
use Rattle.class_link.specs.Info.{Info}
use Rattle.class_link.specs.View.{linked_of, method_of}
use Rattle.class_table.specs.Table.{IsProgram, class_at, look, name_at, number_of}
use Rattle.class_table.proofs.Places.{look_at, number_named, number_within}
use Rattle.type_verifier.specs.Methods.{BodyFaultIn}
use Rattle.type_verifier.specs.declared.end.VerifyFault.{VerifyFault}
use Rattle.type_verifier.specs.Libraries.{AreBodiesIn, BodiesBefore, FirstBodyIn, IsAcceptedInLibrary, IsFirstBodyIn, IsFirstInLibrary, IsFirstInLibraryClass, IsInfoOf, IsRefusedInLibrary, LibraryFaultIs}
use Rattle.type_verifier.specs.Programs.{IsLibraryAccepted, place_of}
use Rattle.type_verifier.proofs.ClassLaws.{before_or_here, is_library, has_method, own_method, class_found}

-- ---- the code of a class

pub one_more_body : (p : List Info) (n : Name) (c : LinkedClass) (k : ℕ) (x : LinkedMethod) → slice_get c.methods k ≡ Some x → BodyFaultIn p n c x None → BodiesBefore p n c k → BodiesBefore p n c (k + 1)
one_more_body p n c k x there none before j m l at =
    elim (before_or_here j k l) [
      | inl h ↦ before j m h at
      | inr h ↦ (let same : Some x ≡ Some m = sym there ∙ ap (slice_get c.methods) (sym h) ∙ at in
          let one : x ≡ m = cc in
          subst (λ z. BodyFaultIn p n c z None) one none)
    ]

module _ (p : List Info) (id : ℕ) (i : Info) (ok : IsProgram p) (info : IsInfoOf p id i) where
  -- by the rules
  body_is : (n : Name) (l : LinkedClass) (d : rules.Linked) (m : rules.LinkedMethod) (x : LinkedMethod) (r : Option MethodFault) → n ≡ name_at p id → linked_of l ≡ d → method_of l.entries x ≡ m → body_fault (classes_of (look p)) n (linked_of l) (method_of l.entries x) (code_in (method_of l.entries x).body) ≡ r → body_fault (classes_of (look p)) (name_at p id) d m (code_in m.body) ≡ r
  body_is n l d m x r en ed em e =
      ap (λ a. body_fault (classes_of (look p)) a d m (code_in m.body)) (sym en)
      ∙ ap (λ a. body_fault (classes_of (look p)) n a m (code_in m.body)) (sym ed)
      ∙ ap (λ a. body_fault (classes_of (look p)) n (linked_of l) a (code_in a.body)) (sym em)
      ∙ e

  pub bodies_accepted : (n : Name) (l : LinkedClass) → n ≡ name_at p id → l ≡ i.linked → AreBodiesIn p n l → l.library ≡ true → IsAcceptedInLibrary p id
  bodies_accepted n l en el all is c has lib = record {
    each = λ d k m has_ file at.
        absurd (let one : Some c ≡ Some d = sym has ∙ has_ in let same : c ≡ d = cc in let both : true ≡ false = sym lib ∙ ap (λ x. x.library) same ∙ file in cc);
    library = λ d k m has_ lib_ at.
        let same : linked_of l ≡ d = ap linked_of el ∙ class_found p id i ok info.there d has_ in
        let mine = own_method l k m (ap (λ a. slice_get a.methods k) same ∙ at) in
        body_is n l d m mine.0 None en same mine.2 (all k mine.0 mine.1);
  }

  bodies_refused : (n : Name) (l : LinkedClass) (f : VerifyFault) → n ≡ name_at p id → l ≡ i.linked → l.library ≡ true → f.class.0 ≡ id → IsFirstBodyIn p n l f → IsRefusedInLibrary p id f
  bodies_refused n l f en el lib class first = record {
    class = class;
    first = record {
      fails = record {
        class = linked_of l;
        method = method_of l.entries first.method;
        has_class = look_at p id i ok.distinct info.there ∙ ap (λ a. Some (linked_of a)) (sym el);
        of_library = is_library l ∙ lib;
        has_method = has_method l f.method first.method first.there;
        fails = body_is n l (linked_of l) (method_of l.entries first.method) first.method (Some (place_of f)) en refl refl first.fault;
      };
      before = λ d j m less has at.
          let same : linked_of l ≡ d = ap linked_of el ∙ class_found p id i ok info.there d has in
          let mine = own_method l j m (ap (λ a. slice_get a.methods j) same ∙ at) in
          body_is n l d m mine.0 None en same mine.2 (first.before j mine.0 less mine.1);
    };
  }

  -- what is answered of the class
  pub library_fault : (n : Name) (l : LinkedClass) (c : ClassId) → n ≡ name_at p id → l ≡ i.linked → l.library ≡ true → c.0 ≡ id → (r : Option VerifyFault) → FirstBodyIn p n l c r → LibraryFaultIs p id r
  library_fault n l c en el lib e None all = bodies_accepted n l en el all lib
  library_fault n l c en el lib e (Some f) first = bodies_refused n l f en el lib (ap (λ x. x.0) first.0 ∙ e) first.1

  pub file_passed : i.linked.library ≡ false → IsAcceptedInLibrary p id
  file_passed file c has lib =
      absurd (let both : false ≡ true = sym file ∙ sym (is_library i.linked) ∙ ap (λ x. x.library) (class_found p id i ok info.there c has) ∙ lib in cc)

-- ---- all classes

by_number : (p : List Info) (n : Name) (c : rules.Linked) (o : Option ℕ) → number_of p n ≡ o → look p n ≡ Some c → c.library ≡ true → ((j : ℕ) → j < length p → IsAcceptedInLibrary p j) → ClassAccepted (look p) n
by_number p n c None e has lib all = absurd (let same : None ≡ Some c = sym (ap (option_and_then (class_at p)) e) ∙ has in cc)
by_number p n c (Some i) e has lib all =
    let named = number_named p n i e in
    subst (ClassAccepted (look p)) named (all i (number_within p n i e) c (ap (look p) named ∙ has) lib)

pub library_is : (p : List Info) → ((j : ℕ) → j < length p → IsAcceptedInLibrary p j) → IsLibraryAccepted (look p)
library_is p all n c has lib = by_number p n c (number_of p n) refl has lib all

pub first_in_library : (p : List Info) (id : ℕ) (f : VerifyFault) → id < length p → ((j : ℕ) → j < id → IsAcceptedInLibrary p j) → IsRefusedInLibrary p id f → IsFirstInLibrary p f
first_in_library p id f l before is =
    let here = sym is.class in
    record {
      within = subst (λ k. k < length p) here l;
      first = subst (λ k. IsFirstInLibraryClass (look p) (name_at p k) f.method (place_of f)) here is.first;
      before = subst (λ k. (j : ℕ) → j < k → IsAcceptedInLibrary p j) here before;
    }

-- ---- numbers

got : {A : Type 0} (xs : List A) (k : ℕ) (d : A) → k < length xs → slice_get xs k ≡ Some (get_or xs k d)
got [] k d l = absurd (omega (arith, l))
got (x ∷ xs) zero d l = refl
got (x ∷ xs) (suc k) d l = got xs k d (omega (arith, l))

pub all_by_place : {A : Type 0} (P : A → Type 0) (xs : List A) → ((k : ℕ) (x : A) → k < length xs → slice_get xs k ≡ Some x → P x) → All P xs
all_by_place P xs h k d l = h k (get_or xs k d) l (got xs k d l)

-- one more of those before a place
pub one_more_place : {A : Type 0} (P : A → Type 0) (xs : List A) (i : ℕ) (x : A) → slice_get xs i ≡ Some x → P x → ((k : ℕ) (y : A) → k < i → slice_get xs k ≡ Some y → P y) → (k : ℕ) (y : A) → k < i + 1 → slice_get xs k ≡ Some y → P y
one_more_place P xs i x there here before k y l at =
    elim (before_or_here k i l) [
      | inl h ↦ before k y h at
      | inr h ↦ (let same : Some x ≡ Some y = sym there ∙ ap (slice_get xs) (sym h) ∙ at in
          let one : x ≡ y = cc in
          subst P one here)
    ]
