-- The native methods of the library fit their descriptors, in a program that has what they need.
use Rattle.std.proofs.Common.{◌≡◌, ◌∙◌, refl, sym, ap, subst, ℕ, suc, Bool, true, false, List, [], ◌∷◌, ◌++◌, map, Option, None, Some, slice_get, cond}
use Rattle.std.specs.Prelude.{filter, if◌then◌else◌}
use Rattle.std.specs.List.{AllByRecursion}
use Rattle.std.proofs.lemmas.Bool.{true≢false}
use Rattle.std.proofs.lemmas.List.Elements.{recursion_from_All}
use Rattle.program_rules.specs.Names.{Name, same}
use Rattle.program_rules.specs.Linked.{Linked, LinkedMethod}
use Rattle.program_rules.specs.Library.{class_among, first_of}
use Rattle.program_rules.specs.Programs.{Look}
use Rattle.type_laws.specs.Soundness.{BodyFits}
use Rattle.type_laws.proofs.Tests.{same_is}
use Rattle.class_link.specs.declared.loaded.LibClass.{LibClass}
use Rattle.class_link.specs.Linking.{link_library}
use Rattle.lib_table.specs.Library.{library, library_meant, class_meant}
use Rattle.lib_table.specs.Exceptions.{throwables, errors, machine_exceptions, library_exceptions}
use Rattle.lib_table.specs.Interfaces.{basic_interfaces, collection_interfaces}
use Rattle.lib_table.specs.LangClasses.{objects, texts, numbers}
use Rattle.lib_table.specs.Collected.{collections, list_classes, hash_classes, utility_classes, assertions}
use Rattle.library_laws.specs.Beside.{AreOfFiles, behind_others}
use Rattle.library_laws.specs.Linked.{NativesFit}
use Rattle.library_laws.specs.Fitting.{keeping_objects}
use Rattle.library_laws.specs.Hosts.{IsNativeHost}
use Rattle.library_laws.specs.Fits.{MethodsFit, AllFit}
use Rattle.library_laws.specs.Natives.{is_keeping, OthersFit}

-- The classes of the library that keep references.
keepers_are : filter is_keeping library ≡ keeping_objects ++ collections
unfolding basic_interfaces collection_interfaces objects texts numbers throwables errors machine_exceptions library_exceptions list_classes hash_classes utility_classes collections assertions
keepers_are = refl

-- ---- lists

joined : (P : LibClass → Type 0) (xs ys : List LibClass) → AllByRecursion P xs → AllByRecursion P ys → AllByRecursion P (xs ++ ys)
joined P [] ys h k = k
joined P (x ∷ xs) ys h k = (h.0, joined P xs ys h.1 k)

first_case : (P : LibClass → Type 0) (x : LibClass) (rest : List LibClass) (b : Bool) → AllByRecursion P (cond b (x ∷ rest) rest) → (b ≡ true → P x) × AllByRecursion P rest
first_case P x rest true h = ((λ e. h.0), h.1)
first_case P x rest false h = ((λ e. absurd (true≢false (sym e))), h)

filtered : (P : LibClass → Type 0) (xs : List LibClass) → AllByRecursion P (filter is_keeping xs) → AllByRecursion (λ x. is_keeping x ≡ true → P x) xs
filtered P [] h = tt
filtered P (x ∷ xs) h = let both = first_case P x (filter is_keeping xs) (is_keeping x) h in (both.0, filtered P xs both.1)

either : (P : LibClass → Type 0) (x : LibClass) (b : Bool) → is_keeping x ≡ b → (is_keeping x ≡ true → P x) → (is_keeping x ≡ false → P x) → P x
either P x true e h k = h e
either P x false e h k = k e

-- Classes of a list, each with its place in the library.
all_of : (P : LibClass → Type 0) (all xs : List LibClass) (from : ℕ → ℕ) → ((k : ℕ) → slice_get xs k ≡ slice_get all (from k)) → ((j : ℕ) (c : LibClass) → slice_get all j ≡ Some c → is_keeping c ≡ false → P c) → AllByRecursion (λ x. is_keeping x ≡ true → P x) xs → AllByRecursion P xs
all_of P all [] from at others h = tt
all_of P all (x ∷ xs) from at others h =
    (either P x (is_keeping x) refl h.0 (others (from 0) x (sym (at 0))), all_of P all xs (λ k. from (suc k)) (λ k. at (suc k)) others h.1)

-- ---- the methods of a class that is found by its name

module _ (p : Look) where
  Found : Name → Linked → Type 0
  Found n c = (k : ℕ) (m : LinkedMethod) → slice_get c.methods k ≡ Some m → BodyFits p n m m.body

  found_case : (n : Name) (c : Linked) (lib : LibClass) (rest : Option Linked) (b : Bool) → same lib.name n ≡ b → MethodsFit p lib → (rest ≡ Some c → Found n c) → (if b then Some (link_library lib) else rest) ≡ Some c → Found n c
  unfolding Found
  found_case n c lib rest false e fits later is = later is
  found_case n c lib rest true e fits later is = λ k m at.
      let one : link_library lib ≡ c = cc in
      let named : lib.name ≡ n = same_is lib.name n e in
      subst (λ z. BodyFits p z m m.body) named (fits k m (ap (λ (d : Linked). slice_get d.methods k) one ∙ at))

  found_among : (n : Name) (c : Linked) (libs : List LibClass) → AllByRecursion (MethodsFit p) libs → class_among (map class_meant libs) n ≡ Some c → Found n c
  unfolding Found
  found_among n c [] fits is = absurd cc
  found_among n c (lib ∷ libs) fits is = found_case n c lib (class_among (map class_meant libs) n) (same lib.name n) refl fits.0 (found_among n c libs fits.1) is

  all_fit : OthersFit → IsNativeHost p → AllFit p collections → AllFit p keeping_objects → AllByRecursion (MethodsFit p) library
  all_fit others host kept objects_kept =
      let keep = subst (AllByRecursion (MethodsFit p)) (sym keepers_are) (joined (MethodsFit p) keeping_objects collections (recursion_from_All (MethodsFit p) keeping_objects objects_kept) (recursion_from_All (MethodsFit p) collections kept)) in
      all_of (MethodsFit p) library library (λ k. k) (λ k. refl) (λ j c at none. others p host j c at none) (filtered (MethodsFit p) library keep)

-- ---- a program of class files and of the library

library_case : (other : Look) → AreOfFiles other → (n : Name) (c : Linked) (o : Option Linked) → other n ≡ o → first_of o (class_among library_meant n) ≡ Some c → c.library ≡ true → class_among library_meant n ≡ Some c
library_case other files n c None e is lib = is
library_case other files n c (Some d) e is lib =
    let one : d ≡ c = cc in
    absurd (true≢false (sym lib ∙ ap (λ (x : Linked). x.library) (sym one) ∙ files.each n d e))

pub natives_fit : (other : Look) → AreOfFiles other → OthersFit → IsNativeHost (behind_others other) → AllFit (behind_others other) collections → AllFit (behind_others other) keeping_objects → NativesFit (behind_others other)
unfolding Found library_meant
natives_fit other files others host kept objects_kept n c k m is lib at =
    found_among (behind_others other) n c library (all_fit (behind_others other) others host kept objects_kept) (library_case other files n c (other n) refl is lib) k m at
