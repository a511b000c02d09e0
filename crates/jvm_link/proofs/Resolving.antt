-- What a reference to a method is resolved to.
use Rattle.std.proofs.Common.{◌≡◌, ◌∙◌, sym, refl, ap, subst, ℕ, Bool, true, false, List, [], ◌∷◌, take, Option, None, Some}
use Rattle.std.specs.Prelude.{if◌then◌else◌, Result, Ok, Err}
use Rattle.program_rules.specs.Names.{is_array_name}
use Rattle.program_rules.specs.declared.fault.Fault.{Fault}
use Rattle.program_rules.specs.declared.fault.Fault.TheVariants.{NoSuchMethodError, IncompatibleClassChangeError}
use Rattle.program_rules.specs.Faults.{Answer, Found, Fails}
use Rattle.program_rules.specs.Instructions.{MethodRef}
use Rattle.program_rules.specs.Outlines.{is_interface_class}
use Rattle.program_rules.specs.Programs.{family, top_of}
use Rattle.program_rules.specs.Resolution.{same_bool, MethodAt, method_at, first_declared, Candidate, candidates, one_or_first, first_candidate, search_interfaces, most_specific_concrete, found_or, found_or_none, is_initializer_name, is_clone, clone_method, own_initializer, search_method, resolve_in, resolve_method}
use Rattle.class_link.specs.Info.{Info}
use Rattle.class_table.specs.Table.{look, name_at}
use Rattle.class_family.specs.Families.{rising_at, EndsAt}
use Rattle.jvm_link.specs.declared.site.Site.{Site}
use Rattle.jvm_link.specs.declared.site.Callee.{Callee}
use Rattle.jvm_link.specs.declared.site.Callee.TheVariants.{Method, ArrayClone}
use Rattle.jvm_link.specs.declared.interfaces.Specific.{Specific}
use Rattle.jvm_link.specs.declared.interfaces.Specific.TheVariants.{Missing, One, Several}
use Rattle.jvm_link.specs.declared.interfaces.Choice.{Choice}
use Rattle.jvm_link.specs.Sites.{outline_at, node_at, IsMethod}
use Rattle.jvm_link.specs.Candidates.{family_at, IsOne, IsSpecific, IsFirst}
use Rattle.jvm_link.specs.Answers.{FindsCallee, AnswersCall, IsOfKind, ResolvesMethod, AnswersInitializer, SearchesMethod}

-- ---- the walk upwards of a class or an array

pub lowest_array : (p : List Info) (a t : ℕ) → top_of (rising_at p a) ≡ node_at p t ∷ [] → EndsAt p t → (family_at p a true).rising ≡ rising_at p t
unfolding family
lowest_array p a t top ends = top ∙ sym ends

pub lowest_class : (p : List Info) (a : ℕ) → (family_at p a false).rising ≡ rising_at p a
unfolding family
lowest_class p a = refl

pub lowest_by : (p : List Info) (a t : ℕ) (array x : Bool) → array ≡ x → (family_at p a x).rising ≡ rising_at p t → (family_at p a array).rising ≡ rising_at p t
lowest_by p a t array x e h = ap (λ b. (family_at p a b).rising) e ∙ h

-- ---- interfaces, or none

pub kind_array : (p : List Info) (a : ℕ) (array : Bool) → array ≡ true → false ≡ is_interface_class (family_at p a array).class
kind_array p a array e = sym (ap (λ b. is_interface_class (family_at p a b).class) e)

pub kind_class : (p : List Info) (a : ℕ) (array : Bool) → array ≡ false → is_interface_class (outline_at p a) ≡ is_interface_class (family_at p a array).class
unfolding family
kind_class p a array e = sym (ap (λ b. is_interface_class (family_at p a b).class) e)

-- ---- answers

pub method_found : (p : List Info) (answer : Answer MethodAt) (o : Option MethodAt) (s : Site) → IsMethod p o s → ((m : MethodAt) → o ≡ Some m → answer ≡ Found m) → FindsCallee p answer (Method s)
method_found p answer o s h finds = record {
  method = method_at (node_at p s.class.0) (s.place, h.head);
  found = finds (method_at (node_at p s.class.0) (s.place, h.head)) h.found;
  callee = record { within = h.within; head = h.head; there = h.there; found = refl };
}

pub or_none_some : (p : List Info) (o : Option MethodAt) (s : Site) → IsMethod p o s → FindsCallee p (found_or_none o) (Method s)
or_none_some p o s h = method_found p (found_or_none o) o s h (λ m e. ap found_or_none e)

pub or_none_none : (p : List Info) (o : Option MethodAt) → o ≡ None → found_or_none o ≡ Fails NoSuchMethodError
or_none_none p o e = ap found_or_none e

-- ---- choices

pub choice_one : (p : List Info) (cs : List Candidate) (s : Site) → IsOne p (most_specific_concrete cs) s → FindsCallee p (search_interfaces cs) (Method s)
choice_one p cs s h = method_found p (search_interfaces cs) (Some h.candidate.method) s h.method (λ m e. ap (λ l. one_or_first l cs) h.list ∙ (let f : h.candidate.method ≡ m = cc in ap Found f))

specific_first : (cs : List Candidate) (p : List Info) (s : Specific) → IsSpecific p (most_specific_concrete cs) s → ((site : Site) → s ≡ One site → ⊥) → search_interfaces cs ≡ first_candidate cs
specific_first cs p Missing h none = ap (λ l. one_or_first l cs) h
specific_first cs p (One site) h none = absurd (none site refl)
specific_first cs p Several h none = ap (λ l. one_or_first l cs) h.list

pub choice_first : (p : List Info) (cs : List Candidate) (c : Choice) (s : Site) → IsSpecific p (most_specific_concrete cs) c.specific → ((site : Site) → c.specific ≡ One site → ⊥) → IsFirst p cs s → FindsCallee p (search_interfaces cs) (Method s)
choice_first p cs c s specific none h = method_found p (search_interfaces cs) (Some h.candidate.method) s h.method (λ m e. specific_first cs p c.specific specific none ∙ ap first_candidate h.list ∙ (let f : h.candidate.method ≡ m = cc in ap Found f))

pub choice_none : (p : List Info) (cs : List Candidate) (c : Choice) → IsSpecific p (most_specific_concrete cs) c.specific → ((site : Site) → c.specific ≡ One site → ⊥) → cs ≡ [] → search_interfaces cs ≡ Fails NoSuchMethodError
choice_none p cs c specific none h = specific_first cs p c.specific specific none ∙ ap first_candidate h

-- ---- the searches

module _ (p : List Info) (a : ℕ) (r : MethodRef) where
  pub searched_here : (array : Bool) (t : ℕ) (s : Site) → (family_at p a array).rising ≡ rising_at p t → IsMethod p (first_declared r.name r.desc (rising_at p t)) s → SearchesMethod p a array r (Ok (Method s))
  searched_here array t s rising h =
      method_found p (search_method r (family_at p a array)) (first_declared r.name r.desc (rising_at p t)) s h
      (λ m e. ap (λ o. found_or o (search_interfaces (candidates r.name r.desc (family_at p a array).searching))) (ap (first_declared r.name r.desc) rising ∙ e))

  pub searched_above : (array : Bool) (t : ℕ) (answer : Result Callee Fault) → (family_at p a array).rising ≡ rising_at p t → first_declared r.name r.desc (rising_at p t) ≡ None → AnswersCall p (search_interfaces (candidates r.name r.desc (family_at p a array).searching)) answer → SearchesMethod p a array r answer
  searched_above array t answer rising none h =
      subst (λ x. AnswersCall p x answer) (sym (ap (λ o. found_or o (search_interfaces (candidates r.name r.desc (family_at p a array).searching))) (ap (first_declared r.name r.desc) rising ∙ none))) h

  pub initializer_array : (array : Bool) → array ≡ is_array_name r.class → array ≡ true → AnswersInitializer p a r (Err NoSuchMethodError)
  initializer_array array e is = ap (λ b. found_or_none (if b then None else first_declared r.name r.desc (take 1 (family_at p a (is_array_name r.class)).rising))) (sym e ∙ is)

  pub initializer_class : (array : Bool) (answer : Result Callee Fault) → array ≡ is_array_name r.class → array ≡ false → AnswersCall p (found_or_none (first_declared r.name r.desc (take 1 (rising_at p a)))) answer → AnswersInitializer p a r answer
  unfolding family
  initializer_class array answer e is h =
      subst (λ x. AnswersCall p x answer)
      (sym (ap (λ b. found_or_none (if b then None else first_declared r.name r.desc (take 1 (family_at p a b).rising))) (sym e ∙ is))) h

  abbrev resolved : Answer MethodAt
  resolved = resolve_method r (family (look p) (name_at p a))

  abbrev here : Bool
  here = same_bool (is_interface_class (family_at p a (is_array_name r.class)).class) r.interface

  resolved_by : (k c i : Bool) → here ≡ k → is_clone r ≡ c → is_initializer_name r.name ≡ i → resolved ≡ (if k then if c then Found clone_method else if i then found_or_none (own_initializer r (family_at p a (is_array_name r.class))) else search_method r (family_at p a (is_array_name r.class)) else Fails IncompatibleClassChangeError)
  unfolding resolve_method
  resolved_by k c i kind clone init =
      ap (λ b. if b then if is_clone r then Found clone_method else resolve_in r (family_at p a (is_array_name r.class)) else Fails IncompatibleClassChangeError) kind
      ∙ ap (λ b. if k then if b then Found clone_method else resolve_in r (family_at p a (is_array_name r.class)) else Fails IncompatibleClassChangeError) clone
      ∙ ap (λ b. if k then if c then Found clone_method else if b then found_or_none (own_initializer r (family_at p a (is_array_name r.class))) else search_method r (family_at p a (is_array_name r.class)) else Fails IncompatibleClassChangeError) init

  kind_here : (array x y : Bool) → array ≡ is_array_name r.class → IsOfKind p a array r.interface x → x ≡ y → here ≡ y
  kind_here array x y e kind is = ap (λ b. same_bool (is_interface_class (family_at p a b).class) r.interface) (sym e) ∙ sym kind ∙ is

  pub resolved_changed : (array x : Bool) → array ≡ is_array_name r.class → IsOfKind p a array r.interface x → x ≡ false → resolved ≡ Fails IncompatibleClassChangeError
  resolved_changed array x e kind is = resolved_by false (is_clone r) (is_initializer_name r.name) (kind_here array x false e kind is) refl refl

  pub resolved_clone : (array x : Bool) → array ≡ is_array_name r.class → IsOfKind p a array r.interface x → x ≡ true → is_clone r ≡ true → FindsCallee p resolved ArrayClone
  resolved_clone array x e kind is clone = record {
    method = clone_method;
    found = resolved_by true true (is_initializer_name r.name) (kind_here array x true e kind is) clone refl;
    callee = refl;
  }

  pub resolved_initializer : (array x : Bool) (answer : Result Callee Fault) → array ≡ is_array_name r.class → IsOfKind p a array r.interface x → x ≡ true → is_clone r ≡ false → is_initializer_name r.name ≡ true → AnswersInitializer p a r answer → ResolvesMethod p a r answer
  resolved_initializer array x answer e kind is clone init h =
      subst (λ y. AnswersCall p y answer) (sym (resolved_by true false true (kind_here array x true e kind is) clone init)) h

  pub resolved_search : (array x : Bool) (answer : Result Callee Fault) → array ≡ is_array_name r.class → IsOfKind p a array r.interface x → x ≡ true → is_clone r ≡ false → is_initializer_name r.name ≡ false → SearchesMethod p a array r answer → ResolvesMethod p a r answer
  resolved_search array x answer e kind is clone init h =
      subst (λ y. AnswersCall p y answer)
      (ap (λ b. search_method r (family_at p a b)) e ∙ sym (resolved_by true false false (kind_here array x true e kind is) clone init)) h
