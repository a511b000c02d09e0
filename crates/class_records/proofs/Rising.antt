-- The classes above a test class are found by what stands above its name.
use Rattle.std.proofs.Common.{◌≡◌, ◌∙◌, ℕ, zero, suc, Bool, true, false, List, [], ◌∷◌, Option, Some, None, refl, sym, ap, subst, ⊎_elim}
use Rattle.std.specs.Prelude.{◌==◌, if◌then◌else◌, option_and_then}
use Rattle.std.specs.Option.{option_map}
use Rattle.std.proofs.lemmas.Bool.{eqb-true}
use Rattle.class_model.specs.Pool.{class_name_of}
use Rattle.class_model.specs.declared.class.Class.{Class}
use Rattle.class_model.specs.declared.constant.Const.{Const}
use Rattle.program_rules.specs.Names.{Name, same, is_listed}
use Rattle.program_rules.specs.Linked.{Linked, parents_with, parents_of, is_library}
use Rattle.program_rules.specs.Programs.{Look, concat_over, supers_within}
use Rattle.program_rules.specs.Library.{class_among, first_of}
use Rattle.class_link.specs.Linking.{link, class_or_none}
use Rattle.class_link.specs.Symbols.{name_or_empty}
use Rattle.lib_table.specs.Library.{library_meant}
use Rattle.test_discovery.specs.Listed.{Files, superclass_of, file_above, rising_from}
use Rattle.record_rules.specs.Profiles.{Held}
use Rattle.machine_laws.specs.Consulted.{Seen}
use Rattle.reuse_laws.proofs.Tests.{or_either, or_first, or_second, first_listed}
use Rattle.class_records.proofs.Lists.{listed_over}
use Rattle.class_records.specs.Profile.{file_of, class_meant, files_held}

none_left : (files : Files) (o : Option Class) → rising_from zero files o ≡ []
none_left files None = refl
none_left files (Some c) = refl

none_there : (k : ℕ) (files : Files) → rising_from k files None ≡ []
none_there zero files = refl
none_there (suc k) files = refl

-- where a class file names its superclass, so does the linked class
zero_case : (b : Bool) (pool : List Const) (index : ℕ) (m : Name) → b ≡ (index == 0) → class_name_of pool index ≡ Some m → class_or_none pool index ≡ Some m
zero_case true pool index m e h =
    let none : class_name_of pool index ≡ None = ap (class_name_of pool) (eqb-true index 0 (sym e)) in
    let both : None ≡ Some m = sym none ∙ h in
    absurd cc
zero_case false pool index m e h =
    subst (λ (z : Bool). (if z then None else Some (name_or_empty (class_name_of pool index))) ≡ Some m) e (ap (λ (o : Option Name). Some (name_or_empty o)) h)

super_linked : (c : Class) (m : Name) → superclass_of c ≡ Some m → (link c).parent ≡ Some m
unfolding link
super_linked c m h = zero_case (c.parent == 0) c.pool c.parent m refl h

parent_first : (o : Option Name) (m : Name) (is : List Name) → o ≡ Some m → is_listed m (parents_with o is) ≡ true
parent_first None m is h = absurd cc
parent_first (Some n) m is h = let same_name : n ≡ m = cc in subst (λ (z : Name). is_listed m (z ∷ is) ≡ true) (sym same_name) (first_listed m is)

-- what was seen above a parent was seen above a class
lifted : (p : Look) (k : ℕ) (n m x : Name) → is_listed m (parents_of (p n)) ≡ true → Seen p (supers_within k p m) x → Seen p (supers_within (suc k) p n) x
lifted p k n m x parent h =
    ⊎_elim (λ (e : is_library (p x) ≡ true). or_first (is_library (p x)) (is_listed x (supers_within (suc k) p n)) e)
    (λ (e : is_listed x (supers_within k p m) ≡ true). or_second (is_library (p x)) (is_listed x (supers_within (suc k) p n)) (or_second (same n x) (is_listed x (concat_over (supers_within k p) (parents_of (p n)))) (listed_over (supers_within k p) x m (parents_of (p n)) parent e)))
    (or_either (is_library (p x)) (is_listed x (supers_within k p m)) h)

own_seen : (p : Look) (k : ℕ) (n : Name) → Seen p (supers_within (suc k) p n) n
own_seen p k n = or_second (is_library (p n)) (is_listed n (supers_within (suc k) p n)) (first_listed n (concat_over (supers_within k p) (parents_of (p n))))

link_case : (n : Name) (o : Option (List ℕ)) (c : Class) → option_and_then (file_of n) o ≡ Some c → option_and_then (class_meant n) o ≡ Some (link c)
link_case n None c h = absurd cc
link_case n (Some b) c h = ap (option_map link) h

module _ (held held' : Held) where
  abbrev p : Look
  p n = first_of (option_and_then (class_meant n) (held n)) (class_among library_meant n)

  linked_at : (n : Name) (c : Class) → files_held held n ≡ Some c → p n ≡ Some (link c)
  linked_at n c h = ap (λ (o : Option Linked). first_of o (class_among library_meant n)) (link_case n (held n) c h)

  above_case : (k : ℕ) (s : Option Name) → ((m : Name) → s ≡ Some m → rising_from k (files_held held') (files_held held' m) ≡ rising_from k (files_held held) (files_held held m)) → rising_from k (files_held held') (option_and_then (files_held held') s) ≡ rising_from k (files_held held) (option_and_then (files_held held) s)
  above_case k None h = none_there k (files_held held') ∙ sym (none_there k (files_held held))
  above_case k (Some m) h = h m refl

  class_case : (k : ℕ) (o : Option Class) → ((c : Class) → o ≡ Some c → rising_from k (files_held held') (file_above (files_held held') c) ≡ rising_from k (files_held held) (file_above (files_held held) c)) → rising_from (suc k) (files_held held') o ≡ rising_from (suc k) (files_held held) o
  class_case k None h = refl
  class_case k (Some c) h = ap (λ (cs : List Class). c ∷ cs) (h c refl)

  pub same_rising : (k : ℕ) (n : Name) → ((x : Name) → Seen p (supers_within k p n) x → held' x ≡ held x) → rising_from k (files_held held') (files_held held' n) ≡ rising_from k (files_held held) (files_held held n)
  same_rising zero n h = none_left (files_held held') (files_held held' n) ∙ sym (none_left (files_held held) (files_held held n))
  same_rising (suc k) n h =
      ap (λ (o : Option (List ℕ)). rising_from (suc k) (files_held held') (option_and_then (file_of n) o)) (h n (own_seen p k n))
      ∙ class_case k (files_held held n) (λ c e.
      above_case k (superclass_of c) (λ m s.
      same_rising k m (λ x seen.
      h x (lifted p k n m x (subst (λ (o : Option Linked). is_listed m (parents_of o) ≡ true) (sym (linked_at n c e)) (parent_first (link c).parent m (link c).interfaces (super_linked c m s))) seen))))
