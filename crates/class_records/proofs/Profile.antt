-- Class files are a profile.
use Rattle.std.proofs.Common.{◌≡◌, ℕ, Bool, true, false, List, [], ◌∷◌, Option, Some, None, is_none, refl, ap, subst}
use Rattle.std.specs.Prelude.{◌&&◌, All, map, option_and_then, if◌then◌else◌}
use Rattle.std.specs.Option.{option_map}
use Rattle.std.proofs.lemmas.List.Elements.{All-nil, All-cons}
use Rattle.class_model.specs.declared.class.Class.{Class}
use Rattle.program_rules.specs.Names.{Name, same}
use Rattle.program_rules.specs.Linked.{Linked}
use Rattle.program_rules.specs.Programs.{Look, supers}
use Rattle.program_rules.specs.Library.{class_among}
use Rattle.machine_laws.specs.Consulted.{Seen, IsLibraryWhole}
use Rattle.class_link.specs.Linking.{link, link_library}
use Rattle.class_link.specs.declared.loaded.LibClass.{LibClass}
use Rattle.lib_table.specs.Library.{class_meant as class_meant_of, library, library_meant}
use Rattle.library_laws.specs.Beside as beside
use Rattle.library_laws.specs.Facts.{InEachProgram}
use Rattle.test_discovery.specs.Scripts.{TestOf}
use Rattle.record_rules.specs.Profiles.{Held, class_by}
use Rattle.reuse_laws.proofs.Tests.{and_both}
use Rattle.jvm_world.specs.View.{test_of}
use Rattle.class_records.specs.Profile.{file_of, class_meant, most_superclasses, are_different, held_files, look_held, names_with, are_apart, are_right_supers, is_program, profile}
use Rattle.class_records.specs.Laws.{ClassFilesAreAProfile}
use Rattle.class_records.proofs.Rising.{same_rising}

linked_case : (o : Option Class) (c : Linked) → option_map link o ≡ Some c → c.library ≡ false
unfolding link
linked_case None c h = absurd cc
linked_case (Some k) c h = let e : link k ≡ c = cc in subst (λ (z : Linked). z.library ≡ false) e refl

of_file : (n : Name) (bytes : List ℕ) (c : Linked) → class_meant n bytes ≡ Some c → c.library ≡ false
of_file n bytes c h = linked_case (file_of n bytes) c h

-- a class of the library is one
alone_case : (c : LibClass) (cs : List LibClass) (n : Name) (k : Linked) (b : Bool) → (class_among (map class_meant_of cs) n ≡ Some k → k.library ≡ true) → (if b then Some (link_library c) else class_among (map class_meant_of cs) n) ≡ Some k → k.library ≡ true
unfolding link_library
alone_case c cs n k true h e = let same_class : link_library c ≡ k = cc in subst (λ (z : Linked). z.library ≡ true) same_class refl
alone_case c cs n k false h e = h e

alone_among : (cs : List LibClass) (n : Name) (k : Linked) → class_among (map class_meant_of cs) n ≡ Some k → k.library ≡ true
alone_among [] n k e = absurd cc
alone_among (c ∷ cs) n k e = alone_case c cs n k (same c.name n) (alone_among cs n k) e

is_alone : (n : Name) (c : Linked) → class_among library_meant n ≡ Some c → c.library ≡ true
unfolding library_meant
is_alone n c e = alone_among library n c e

none_is : (o : Option Linked) → is_none o ≡ true → o ≡ None
none_is None h = refl
none_is (Some c) h = absurd cc

all_apart : (fs : List (Name × List ℕ)) → are_apart fs ≡ true → All (λ f. class_among library_meant f.0 ≡ None) fs
all_apart [] h = All-nil (λ (f : Name × List ℕ). class_among library_meant f.0 ≡ None)
all_apart (f ∷ fs) h =
    let parts = and_both (is_none (class_among library_meant f.0)) (are_apart fs) h in
    All-cons (λ (f : Name × List ℕ). class_among library_meant f.0 ≡ None) f fs (none_is (class_among library_meant f.0) parts.0) (all_apart fs parts.1)

-- the classes of the class files
abbrev others : Held → Look
others held n = option_and_then (class_meant n) (held n)

file_case : (n : Name) (o : Option (List ℕ)) (c : Linked) → option_and_then (class_meant n) o ≡ Some c → c.library ≡ false
file_case n None c h = absurd cc
file_case n (Some b) c h = of_file n b c h

apart_case : (n : Name) (o : Option (List ℕ)) (c : Linked) → ((bytes : List ℕ) → o ≡ Some bytes → class_among library_meant n ≡ None) → option_and_then (class_meant n) o ≡ Some c → class_among library_meant n ≡ None
apart_case n None c apart h = absurd cc
apart_case n (Some b) c apart h = apart b refl

is_whole : InEachProgram IsLibraryWhole → (held : Held) → ((n : Name) (bytes : List ℕ) → held n ≡ Some bytes → class_among library_meant n ≡ None) → IsLibraryWhole (beside.behind_others (others held))
is_whole whole held apart =
    whole (others held) (record { each = λ n c e. file_case n (held n) c e }) (record { each = λ n c e. apart_case n (held n) c (apart n) e })

same_test : (held held' : Held) (class method : Name) →
    ((k : Name) → Seen (class_by profile held) (supers (class_by profile held) class) k → held' k ≡ held k) →
    profile.test held' class method ≡ profile.test held class method
unfolding supers
same_test held held' class method h =
    ap (λ (cs : List Class). option_map test_of (TestOf cs method)) (same_rising held held' most_superclasses class h)

program_apart : (fs : List (Name × List ℕ)) → is_program fs ≡ true → All (λ f. class_among library_meant f.0 ≡ None) fs
unfolding is_program
program_apart fs h =
    let rest = and_both (are_different (map (λ f. f.0) fs)) (are_apart fs && are_right_supers (look_held (held_files fs)) (names_with fs)) h in
    all_apart fs (and_both (are_apart fs) (are_right_supers (look_held (held_files fs)) (names_with fs)) rest.1).0

pub is_profile : InEachProgram IsLibraryWhole → ClassFilesAreAProfile
is_profile whole = record {
  files = of_file;
  alone = is_alone;
  apart = program_apart;
  whole = is_whole whole;
  tests = λ held held' class method apart h. same_test held held' class method h;
}
