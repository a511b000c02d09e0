-- The first fault of a class.
use Rattle.std.proofs.Common.{◌≡◌, ◌⊎◌, inl, inr, ◌<◌, ◌+◌, ℕ, zero, suc, true, false, List, [], ◌∷◌, ◌++◌, Option, Some, None, take, refl, sym, ap, ◌∙◌, subst, arith}
use Rattle.std.specs.Prelude.{slice_get}
use Rattle.std.specs.Option.{option_map}
use Rattle.std.proofs.lemmas.Option.{slice_get-map}
use Rattle.program_rules.specs.Names.{Name}
use Rattle.program_rules.specs.Linked as rules
use Rattle.type_rules.specs.References.{classes_of}
use Rattle.type_rules.specs.Rules.{MethodFault, ClassAccepted, method_fault}
use Rattle.class_model.specs.declared.class.ClassId.{ClassId}
use Rattle.class_link.specs.declared.loaded.ClassBody.{ClassBody}
use Rattle.class_link.specs.declared.linked.Entry.{Entry}
use Rattle.class_link.specs.declared.linked.LinkedClass.{LinkedClass}
use Rattle.class_link.specs.declared.linked.LinkedMethod.{LinkedMethod}
use Rattle.class_link.specs.Info.{Info, HasEntries, class_of}
use Rattle.class_link.specs.View.{linked_of, method_of}
use Rattle.class_table.specs.Table.{IsProgram, look, name_at}
use Rattle.class_table.proofs.Places.{look_at}
use Rattle.type_verifier.specs.declared.end.VerifyFault.{VerifyFault}
use Rattle.type_verifier.specs.Methods.{FaultIn}
use Rattle.type_verifier.specs.Programs.{AreFaultless, ClassFaultIs, FirstRefusedIn, IsFileOf, IsFirstIn, IsLibraryAccepted, IsRefused, place_of}

-- ---- methods one by one

pub taken_more : {A : Type 0} (xs : List A) (k : ℕ) (x : A) → slice_get xs k ≡ Some x → take (suc k) xs ≡ take k xs ++ x ∷ []
taken_more [] k x e = absurd cc
taken_more (y ∷ xs) zero x e = let one : y ≡ x = cc in ap (λ z. z ∷ []) one
taken_more (y ∷ xs) (suc k) x e = ap (λ l. y ∷ l) (taken_more xs k x e)

pub taken_next : {A : Type 0} (xs : List A) (k : ℕ) (x : A) → slice_get xs k ≡ Some x → take (k + 1) xs ≡ take k xs ++ x ∷ []
taken_next xs k x e = let p : k + 1 ≡ suc k = omega arith in ap (λ j. take j xs) p ∙ taken_more xs k x e

pub before_or_here : (j k : ℕ) → j < k + 1 → (j < k) ⊎ (j ≡ k)
before_or_here j zero l = inr (omega (arith, l))
before_or_here zero (suc k) l = inl (omega arith)
before_or_here (suc j) (suc k) l =
    elim (before_or_here j k (omega (arith, l))) [
      | inl h ↦ inl (omega (arith, h))
      | inr h ↦ inr (ap suc h)
    ]

-- No method before a place has a fault.
abbrev pub NoneBefore : List Info → Name → LinkedClass → ℕ → Type 0
NoneBefore p n c k = (j : ℕ) (m : LinkedMethod) → j < k → slice_get c.methods j ≡ Some m → FaultIn p n c j m None

pub one_more_passed : (p : List Info) (n : Name) (c : LinkedClass) (k : ℕ) (x : LinkedMethod) → slice_get c.methods k ≡ Some x → FaultIn p n c k x None → NoneBefore p n c k → NoneBefore p n c (k + 1)
one_more_passed p n c k x there none before j m l at =
    elim (before_or_here j k l) [
      | inl h ↦ before j m h at
      | inr h ↦ (let same : Some x ≡ Some m = sym there ∙ ap (slice_get c.methods) (sym h) ∙ at in
          let one : x ≡ m = cc in
          subst (λ i. FaultIn p n c i m None) (sym h) (subst (λ z. FaultIn p n c k z None) one none))
    ]

pub none_left : (p : List Info) (n : Name) (c : LinkedClass) (k : ℕ) → NoneBefore p n c k → ((j : ℕ) (m : LinkedMethod) → slice_get c.methods j ≡ Some m → j < k) → AreFaultless p n c
none_left p n c k before all j m at = before j m (all j m at) at

-- ---- the class in its program

-- a method of the rules is one of the class
of_method : (es : List Entry) (ms : List LinkedMethod) (k : ℕ) (m : rules.LinkedMethod) (o : Option LinkedMethod) → slice_get ms k ≡ o → option_map (method_of es) o ≡ Some m → (x : LinkedMethod) × (slice_get ms k ≡ Some x) × (method_of es x ≡ m)
of_method es ms k m None e g = absurd cc
of_method es ms k m (Some x) e g = (x, e, (let same : method_of es x ≡ m = cc in same))

pub own_method : (c : LinkedClass) (k : ℕ) (m : rules.LinkedMethod) → slice_get (linked_of c).methods k ≡ Some m → (x : LinkedMethod) × (slice_get c.methods k ≡ Some x) × (method_of c.entries x ≡ m)
unfolding linked_of
own_method c k m e =
    of_method c.entries c.methods k m (slice_get c.methods k) refl (sym (slice_get-map (method_of c.entries) c.methods k) ∙ e)

pub is_library : (c : LinkedClass) → (linked_of c).library ≡ c.library
unfolding linked_of
is_library c = refl

pub has_method : (c : LinkedClass) (k : ℕ) (m : LinkedMethod) → slice_get c.methods k ≡ Some m → slice_get (linked_of c).methods k ≡ Some (method_of c.entries m)
unfolding linked_of
has_method c k m e = slice_get-map (method_of c.entries) c.methods k ∙ ap (option_map (method_of c.entries)) e

-- the class of a number is the one that is there
pub class_found : (p : List Info) (id : ℕ) (i : Info) → IsProgram p → slice_get p id ≡ Some i → (c : rules.Linked) → look p (name_at p id) ≡ Some c → linked_of i.linked ≡ c
class_found p id i ok there c e = let same : Some (linked_of i.linked) ≡ Some c = sym (look_at p id i ok.distinct there) ∙ e in cc

module _ (p : List Info) (id : ℕ) (i : Info) (ok : IsProgram p) (file : IsFileOf p id i) where
  class_is : look p (name_at p id) ≡ Some (linked_of i.linked)
  class_is = look_at p id i ok.distinct file.there

  same_class : (c : rules.Linked) → look p (name_at p id) ≡ Some c → linked_of i.linked ≡ c
  same_class c e = let same : Some (linked_of i.linked) ≡ Some c = sym class_is ∙ e in cc

  -- a fault by the rules
  fault_is : (n : Name) (l : LinkedClass) (c : rules.Linked) (k : ℕ) (m : rules.LinkedMethod) (x : LinkedMethod) (r : Option MethodFault) → n ≡ name_at p id → l ≡ i.linked → linked_of i.linked ≡ c → method_of l.entries x ≡ m → method_fault (classes_of (look p)) n (linked_of l) k (method_of l.entries x) ≡ r → method_fault (classes_of (look p)) (name_at p id) c k m ≡ r
  fault_is n l c k m x r en el ec em e =
      ap (λ a. method_fault (classes_of (look p)) a c k m) (sym en)
      ∙ ap (λ a. method_fault (classes_of (look p)) n a k m) (sym (ap linked_of el ∙ ec))
      ∙ ap (method_fault (classes_of (look p)) n (linked_of l) k) (sym em) ∙ e

  pub file_accepted : (n : Name) (l : LinkedClass) → n ≡ name_at p id → l ≡ i.linked → AreFaultless p n l → ClassAccepted (look p) (name_at p id)
  file_accepted n l en el none = record {
    each = λ c k m has file_ at.
        let same = same_class c has in
        let mine = own_method l k m (ap (λ a. slice_get a.methods k) (ap linked_of el ∙ same) ∙ at) in
        fault_is n l c k m mine.0 None en el same mine.2 (none k mine.0 mine.1);
    library = λ c k m has lib at.
        absurd (let same : false ≡ true = sym file.file ∙ sym (is_library i.linked) ∙ ap (λ a. a.library) (same_class c has) ∙ lib in cc);
  }

  pub file_refused : (n : Name) (l : LinkedClass) (f : VerifyFault) → n ≡ name_at p id → l ≡ i.linked → f.class.0 ≡ id → IsFirstIn p n l f → IsRefused p id f
  file_refused n l f en el class first = record {
    class = class;
    first = record {
      fails = record {
        class = linked_of i.linked;
        method = method_of l.entries first.method;
        has_class = class_is;
        of_file = is_library i.linked ∙ file.file;
        has_method = ap (λ a. slice_get (linked_of a).methods f.method) (sym el) ∙ has_method l f.method first.method first.there;
        fails = fault_is n l (linked_of i.linked) f.method (method_of l.entries first.method) first.method (Some (place_of f)) en el refl refl first.fault;
      };
      before = λ c j m less has at.
          let same = same_class c has in
          let mine = own_method l j m (ap (λ a. slice_get a.methods j) (ap linked_of el ∙ same) ∙ at) in
          fault_is n l c j m mine.0 None en el same mine.2 (first.before j mine.0 less mine.1);
    };
  }

  -- what is answered of the class
  pub class_fault : (n : Name) (l : LinkedClass) (c : ClassId) → n ≡ name_at p id → l ≡ i.linked → c.0 ≡ id → (r : Option VerifyFault) → FirstRefusedIn p n l c r → ClassFaultIs p id r
  class_fault n l c en el e None first = file_accepted n l en el first
  class_fault n l c en el e (Some f) first = file_refused n l f en el (ap (λ x. x.0) first.0 ∙ e) first.1

-- one of the library
pub library_accepted : (p : List Info) (id : ℕ) (i : Info) → IsLibraryAccepted (look p) → look p (name_at p id) ≡ Some (class_of i) → i.linked.library ≡ true → ClassAccepted (look p) (name_at p id)
library_accepted p id i all at lib = all (name_at p id) (class_of i) at (is_library i.linked ∙ lib)

-- ---- the entries of a class and of where it comes from

pub own_entries : (i : Info) (b : ClassBody) (c : LinkedClass) → b ≡ i.body → c ≡ i.linked → HasEntries i.body i.linked.entries → HasEntries b c.entries
own_entries i b c eb ec h =
    subst (λ (l : LinkedClass). HasEntries b l.entries) (sym ec) (subst (λ (x : ClassBody). HasEntries x i.linked.entries) (sym eb) h)
