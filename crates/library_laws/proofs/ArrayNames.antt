-- No class is named as an array, and the supers of arrays are there, by computing over the table.
use Rattle.std.proofs.Common.{◌≡◌, ◌∙◌, refl, sym, ap, subst, Bool, true, false, Option, Some, None, ⊎_elim, codes}
use Rattle.std.specs.Prelude.{◌||◌, if◌then◌else◌, is_none}
use Rattle.std.specs.List.{list_all}
use Rattle.std.proofs.lemmas.Bool.{or_cases, or_left, true≢false}
use Rattle.class_link.specs.Linking.{link_library}
use Rattle.program_rules.specs.Names.{Name, same, object_name, is_array_name}
use Rattle.program_rules.specs.Linked.{Linked}
use Rattle.program_rules.specs.Outlines.{outline_of, is_interface_class}
use Rattle.program_rules.specs.Programs.{Look}
use Rattle.program_rules.specs.Library.{class_among, first_of}
use Rattle.type_rules.specs.Assignability.{takes_arrays}
use Rattle.type_laws.proofs.Tests.{same_is, if_true}
use Rattle.program_laws.specs.Ordered.{HasArrays}
use Rattle.lib_table.specs.Interfaces.{basic_interfaces, collection_interfaces}
use Rattle.lib_table.specs.LangClasses.{objects, texts, numbers}
use Rattle.lib_table.specs.Exceptions.{throwables, errors, machine_exceptions, library_exceptions}
use Rattle.lib_table.specs.Collected.{collections, list_classes, hash_classes, utility_classes, assertions}
use Rattle.library_laws.proofs.Meaning.{table}
use Rattle.library_laws.specs.Facts.{AreNoArrays, HasArraysOfFiles}
use Rattle.library_laws.proofs.Over.{beside, over, each_name}

-- ---- above arrays

is_high : Look → Name → Bool
is_high p t = same t object_name || is_interface_class (outline_of (p t))

cloneable_high : (other : Look) → is_high (beside other) (codes "java/lang/Cloneable") ≡ true
unfolding is_high link_library basic_interfaces collection_interfaces objects texts numbers throwables errors machine_exceptions library_exceptions collections list_classes hash_classes utility_classes assertions
cloneable_high other = refl

serializable_high : (other : Look) → is_high (beside other) (codes "java/io/Serializable") ≡ true
unfolding is_high link_library basic_interfaces collection_interfaces objects texts numbers throwables errors machine_exceptions library_exceptions collections list_classes hash_classes utility_classes assertions
serializable_high other = refl

takers_high : (other : Look) (t : Name) → takes_arrays t ≡ true → is_high (beside other) t ≡ true
unfolding is_high
takers_high other t e =
    ⊎_elim
    (λ i. ⊎_elim (λ j. or_left (same t object_name) _ j) (λ j. subst (λ n. is_high (beside other) n ≡ true) (sym (same_is t (codes "java/lang/Cloneable") j)) (cloneable_high other)) (or_cases (same t object_name) _ i))
    (λ i. subst (λ n. is_high (beside other) n ≡ true) (sym (same_is t (codes "java/io/Serializable") i)) (serializable_high other))
    (or_cases (same t object_name || same t (codes "java/lang/Cloneable")) _ e)

-- ---- named as an array

abbrev is_no_array : Name → Bool
is_no_array n = if is_array_name n then false else true

none_in_table : list_all (λ (x : Name × Linked). is_no_array x.0) table ≡ true
unfolding basic_interfaces collection_interfaces objects texts numbers throwables errors machine_exceptions library_exceptions collections list_classes hash_classes utility_classes assertions
none_in_table = refl

none_case : (other : Look) (n : Name) (o : Option Linked) → class_among table n ≡ o → other n ≡ None → is_array_name n ≡ true → is_none (first_of o (other n)) ≡ true
none_case other n None e none is = ap is_none none
none_case other n (Some c) e none is = absurd (true≢false (sym is ∙ if_true (is_array_name n) (each_name is_no_array table n c none_in_table e)))

none_beside : (other : Look) → AreNoArrays other → (n : Name) → is_array_name n ≡ true → is_none (beside other n) ≡ true
none_beside other none n is = none_case other n (class_among table n) refl (none n is) is

arrays_beside : (other : Look) → AreNoArrays other → HasArrays (beside other)
unfolding is_high link_library basic_interfaces collection_interfaces objects texts numbers throwables errors machine_exceptions library_exceptions collections list_classes hash_classes utility_classes assertions
arrays_beside other none = record { object = refl; arrays = takers_high other; none = none_beside other none }

pub arrays : HasArraysOfFiles
arrays other files apart none = over HasArrays other apart (arrays_beside other none)
