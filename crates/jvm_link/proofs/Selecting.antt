-- What an object selects by name and descriptor.
use Rattle.std.proofs.Common.{◌≡◌, ◌∙◌, sym, ap, subst, ℕ, ◌<◌, Bool, true, false, List, [], ◌∷◌, length, Option, None, Some}
use Rattle.std.specs.Prelude.{if◌then◌else◌, Result, Ok}
use Rattle.program_rules.specs.Linked.{is_static}
use Rattle.program_rules.specs.declared.fault.Fault.{Fault}
use Rattle.program_rules.specs.declared.fault.Fault.TheVariants.{AbstractMethodError, IncompatibleClassChangeError}
use Rattle.program_rules.specs.Faults.{Found, Fails}
use Rattle.program_rules.specs.Instructions.{MethodRef}
use Rattle.program_rules.specs.Outlines.{head_in}
use Rattle.program_rules.specs.Programs.{Rising, nodes, concat_over, superclass_in}
use Rattle.program_rules.specs.Resolution.{MethodAt, method_at, with_node, declared_method, or_else, found_or, Candidate, candidates, most_specific_concrete}
use Rattle.program_rules.specs.Selection.{if_virtual, first_through, the_one, select_named}
use Rattle.class_model.specs.declared.class.ClassId.{ClassId}
use Rattle.class_link.specs.Info.{Info}
use Rattle.class_table.specs.Table.{look, name_at, IsProgram}
use Rattle.class_family.specs.Families.{rising_at}
use Rattle.class_family.proofs.Levels.{rising_step}
use Rattle.jvm_link.specs.declared.site.Site.{Site}
use Rattle.jvm_link.specs.declared.site.Callee.TheVariants.{Method}
use Rattle.jvm_link.specs.declared.site.Callee.{Callee}
use Rattle.jvm_link.specs.Sites.{outline_at, node_at, rising_from, DeclaresMethod, IsMethod}
use Rattle.jvm_link.specs.Candidates.{family_at, IsOne, AreSeveral}
use Rattle.jvm_link.specs.Answers.{FindsCallee, AnswersCall, SelectsAbove, SelectsNamed}
use Rattle.jvm_link.proofs.Resolving.{method_found}

module _ (p : List Info) (r : MethodRef) where
  -- ---- the method of one class

  pub virtual_none : (a : ℕ) → head_in r.name r.desc (outline_at p a) ≡ None → if_virtual (declared_method r.name r.desc (node_at p a)) ≡ None
  virtual_none a e = ap (λ o. if_virtual (with_node (node_at p a) o)) e

  pub virtual_static : (a place flags : ℕ) (h : DeclaresMethod p a r.name r.desc place) → flags ≡ h.head.flags → is_static flags ≡ true → if_virtual (declared_method r.name r.desc (node_at p a)) ≡ None
  virtual_static a place flags h e static =
      ap (λ o. if_virtual (with_node (node_at p a) o)) h.there
      ∙ ap (λ b. if b then None else Some (method_at (node_at p a) (place, h.head))) (ap is_static (sym e) ∙ static)

  pub virtual_here : (s : Site) (flags : ℕ) → s.class.0 < length p → (h : DeclaresMethod p s.class.0 r.name r.desc s.place) → flags ≡ h.head.flags → is_static flags ≡ false → IsMethod p (if_virtual (declared_method r.name r.desc (node_at p s.class.0))) s
  virtual_here s flags lt h e static = record {
    within = lt;
    head = h.head;
    there = h.within;
    found =
        ap (λ o. if_virtual (with_node (node_at p s.class.0) o)) h.there
        ∙ ap (λ b. if b then None else Some (method_at (node_at p s.class.0) (s.place, h.head))) (ap is_static (sym e) ∙ static);
  }

  -- ---- upwards

  module _ (test : Option MethodAt → Option MethodAt) where
    pub through_passed : (a : ℕ) (up : Option ClassId) → rising_at p a ≡ node_at p a ∷ rising_from p up → test (declared_method r.name r.desc (node_at p a)) ≡ None → first_through test r (rising_at p a) ≡ first_through test r (rising_from p up)
    through_passed a up e none = ap (first_through test r) e ∙ ap (λ o. or_else o (first_through test r (rising_from p up))) none

    pub through_here : (answer : Option MethodAt) (a : ℕ) (s : Site) → IsProgram p → answer ≡ first_through test r (rising_at p a) → IsMethod p (test (declared_method r.name r.desc (node_at p a))) s → IsMethod p answer s
    through_here answer a s ok before h = record {
      within = h.within;
      head = h.head;
      there = h.there;
      found =
          before ∙ ap (first_through test r) (rising_step (look p) ok.ranks (name_at p a))
          ∙ ap (λ o. or_else o (first_through test r (concat_over (nodes Rising (look p)) (superclass_in (outline_at p a))))) h.found;
    }

  -- ---- answers

  pub one_found : (cs : List Candidate) (s : Site) → IsOne p cs s → FindsCallee p (the_one cs) (Method s)
  one_found cs s h = method_found p (the_one cs) (Some h.candidate.method) s h.method (λ m e. ap the_one h.list ∙ (let f : h.candidate.method ≡ m = cc in ap Found f))

  pub none_abstract : (cs : List Candidate) → cs ≡ [] → the_one cs ≡ Fails AbstractMethodError
  none_abstract cs e = ap the_one e

  pub several_change : (cs : List Candidate) → AreSeveral cs → the_one cs ≡ Fails IncompatibleClassChangeError
  several_change cs h = ap the_one h.list

  module _ (a : ℕ) (array : Bool) (start : ℕ) (rising : (family_at p a array).rising ≡ rising_at p start) where
    named_is : select_named r (family_at p a array) ≡ found_or (first_through if_virtual r (rising_at p start)) (the_one (most_specific_concrete (candidates r.name r.desc (family_at p a array).searching)))
    unfolding select_named
    named_is = ap (λ l. found_or (first_through if_virtual r l) (the_one (most_specific_concrete (candidates r.name r.desc (family_at p a array).searching)))) rising

    pub named_here : (s : Site) → IsMethod p (first_through if_virtual r (rising_at p start)) s → SelectsNamed p a array r (Ok (Method s))
    named_here s h =
        method_found p (select_named r (family_at p a array)) (first_through if_virtual r (rising_at p start)) s h
        (λ m e. named_is ∙ ap (λ o. found_or o (the_one (most_specific_concrete (candidates r.name r.desc (family_at p a array).searching)))) e)

    pub named_above : (answer : Result Callee Fault) → first_through if_virtual r (rising_at p start) ≡ None → SelectsAbove p a array r answer → SelectsNamed p a array r answer
    named_above answer none h =
        subst (λ x. AnswersCall p x answer)
        (sym (named_is ∙ ap (λ o. found_or o (the_one (most_specific_concrete (candidates r.name r.desc (family_at p a array).searching)))) none)) h
