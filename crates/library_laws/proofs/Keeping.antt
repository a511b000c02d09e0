-- What is below a class that keeps items keeps the same: none of the five is above another, so the
-- walk up from what is below one passes no other.
use Rattle.std.proofs.Common.{◌≡◌, ◌∙◌, refl, sym, subst, Bool, true, false, List, [], ◌∷◌, ⊎_elim, codes}
use Rattle.std.specs.Prelude.{◌||◌, if◌then◌else◌}
use Rattle.std.specs.List.{list_all}
use Rattle.std.proofs.lemmas.Bool.{or_cases, true≢false}
use Rattle.class_link.specs.Linking.{link_library}
use Rattle.program_rules.specs.Names.{Name, same, is_listed}
use Rattle.program_rules.specs.Outlines.{outline_of, is_interface_class}
use Rattle.program_rules.specs.Programs.{Look, supers}
use Rattle.type_rules.specs.References.{is_subtype}
use Rattle.type_laws.specs.Values.{Keeping, keeping_in, keeping_of}
use Rattle.type_laws.proofs.Tests.{same_is, if_true}
use Rattle.class_order.specs.Ranks.{IsOrdered}
use Rattle.program_laws.specs.Walks.{IsPassed, PassesOver}
use Rattle.program_laws.proofs.Walks.{agree}
use Rattle.library_laws.specs.KeepingHosts.{Keeps}
use Rattle.lib_table.specs.Interfaces.{basic_interfaces, collection_interfaces}
use Rattle.lib_table.specs.LangClasses.{objects, texts, numbers}
use Rattle.lib_table.specs.Exceptions.{throwables, errors, machine_exceptions, library_exceptions}
use Rattle.lib_table.specs.Collected.{collections, list_classes, hash_classes, utility_classes, assertions}
use Rattle.library_laws.proofs.Over.{beside, any_of}

-- The classes that say what is kept.
abbrev hosts : List Name
hosts = codes "java/util/ArrayList" ∷ codes "java/util/Optional" ∷ codes "mt/Hashed" ∷ codes "mt/Iter" ∷ codes "java/lang/Enum" ∷ []

-- ---- they are classes, and none is above another

is_plain : Look → Name → Bool
is_plain p n = if is_interface_class (outline_of (p n)) then false else true

is_apart : Look → Name → Name → Bool
is_apart p a b = same a b || (if is_subtype p a b then false else true)

module _ (other : Look) where
  hosts_plain : list_all (is_plain (beside other)) hosts ≡ true
  unfolding is_plain link_library basic_interfaces collection_interfaces objects texts numbers throwables errors machine_exceptions library_exceptions collections list_classes hash_classes utility_classes assertions
  hosts_plain = refl

  plain : (n : Name) → is_listed n hosts ≡ true → is_interface_class (outline_of (beside other n)) ≡ false
  unfolding is_plain
  plain n host = if_true (is_interface_class (outline_of (beside other n))) (any_of (is_plain (beside other)) n hosts host hosts_plain)

  hosts_apart : list_all (λ a. list_all (is_apart (beside other) a) hosts) hosts ≡ true
  unfolding is_apart link_library supers basic_interfaces collection_interfaces objects texts numbers throwables errors machine_exceptions library_exceptions collections list_classes hash_classes utility_classes assertions
  hosts_apart = refl

  apart : (a b : Name) → is_listed a hosts ≡ true → is_listed b hosts ≡ true → is_subtype (beside other) a b ≡ true → a ≡ b
  unfolding is_apart
  apart a b is_a is_b below =
      let all = any_of (λ a. list_all (is_apart (beside other) a) hosts) a hosts is_a hosts_apart in
      let one = any_of (is_apart (beside other) a) b hosts is_b all in
      ⊎_elim (λ i. same_is a b i) (λ i. absurd (true≢false (sym below ∙ if_true (is_subtype (beside other) a b) i))) (or_cases (same a b) _ one)

  -- ---- a class that a walk passes is none of them

  other_case : (b n k : Name) (t : Bool) → same n k ≡ t → is_listed b hosts ≡ true → is_listed k hosts ≡ true → IsPassed (beside other) b n → t ≡ false
  other_case b n k true e host listed passed = absurd (passed.1 (apart n b (subst (λ z. is_listed z hosts ≡ true) (sym (same_is n k e)) listed) host passed.0))
  other_case b n k false e host listed passed = refl

  is_other : (b n k : Name) → is_listed b hosts ≡ true → is_listed k hosts ≡ true → IsPassed (beside other) b n → same n k ≡ false
  is_other b n k = other_case b n k (same n k) refl

  if_not : {A : Type 0} (t : Bool) (x y : A) → t ≡ false → (if t then x else y) ≡ y
  if_not true x y e = cc
  if_not false x y e = refl

  passes : (b : Name) → is_listed b hosts ≡ true → PassesOver (beside other) b keeping_in
  passes b host n ns passed =
      if_not (same n.name (codes "java/util/ArrayList")) _ _ (is_other b n.name (codes "java/util/ArrayList") host refl passed)
      ∙ if_not (same n.name (codes "java/util/Optional")) _ _ (is_other b n.name (codes "java/util/Optional") host refl passed)
      ∙ if_not (same n.name (codes "mt/Hashed")) _ _ (is_other b n.name (codes "mt/Hashed") host refl passed)
      ∙ if_not (same n.name (codes "mt/Iter")) _ _ (is_other b n.name (codes "mt/Iter") host refl passed)
      ∙ if_not (same n.name (codes "java/lang/Enum")) _ _ (is_other b n.name (codes "java/lang/Enum") host refl passed)

  -- ---- so what is below one of them keeps the same

  pub keeps : IsOrdered (beside other) → (n : Name) (k : Keeping) → is_listed n hosts ≡ true → keeping_of (beside other) n ≡ k → Keeps (beside other) n k
  keeps ordered n k host is = record {
    class = plain n host;
    below = λ m below. agree (beside other) ordered m n keeping_in (record { above = below; class = plain n host }) (passes n host) ∙ is;
  }
