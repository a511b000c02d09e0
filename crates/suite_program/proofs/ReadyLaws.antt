-- What a program of class files and of the library has for the verifier and the machine.
use Rattle.std.proofs.Common.{◌≡◌, Bool, true, false, List, [], ◌∷◌, map, Option, Some, None, refl, sym, ap, subst, inl, inr}
use Rattle.std.specs.Prelude.{All, if◌then◌else◌}
use Rattle.std.specs.List.{AllByRecursion}
use Rattle.std.specs.Cmp.Lexicographic.{same_text}
use Rattle.std.proofs.lemmas.List.Elements.{recursion_from_All, All-from_recursion}
use Rattle.class_model.specs.declared.class.Class.{Class}
use Rattle.class_link.specs.declared.loaded.Loaded.{Loaded}
use Rattle.class_link.specs.declared.loaded.LibClass.{LibClass}
use Rattle.class_link.specs.Info.{Info, own_name}
use Rattle.class_link.specs.Linking.{link}
use Rattle.class_reader.specs.Spells.{IsClass}
use Rattle.class_table.specs.Table.{AreDistinct, bodies_of, look}
use Rattle.program_rules.specs.Names.{Name, same}
use Rattle.program_rules.specs.Linked.{Linked}
use Rattle.program_rules.specs.Library.{class_among}
use Rattle.type_laws.specs.Bounds.{HasBoundedCodes}
use Rattle.program_laws.specs.Bounded.{LinkedFilesAreBounded}
use Rattle.lib_table.specs.Library.{library_meant, class_meant}
use Rattle.library_laws.specs.Beside.{AreOfFiles, AreApart, behind_others, named, program_of}
use Rattle.mutant_runs.specs.Codes.{IsBoundedBody}
use Rattle.type_verifier.specs.Programs.{IsLibraryAccepted}
use Rattle.suite_program.specs.Programs.{classes_in, names_in}
use Rattle.suite_program.proofs.DuplicateLaws.{In, apart_lists}

-- ---- bounds

abbrev IsBoundedClass : Name × Linked → Type 0
IsBoundedClass x = HasBoundedCodes x.1

bounded_library : (library : List LibClass) → AllByRecursion IsBoundedClass (map class_meant library) → AllByRecursion IsBoundedBody (bodies_of [] library)
bounded_library [] h = tt
bounded_library (c ∷ library) h = (h.0, bounded_library library h.1)

bounded_bodies : (classes : List Loaded) (library : List LibClass) → LinkedFilesAreBounded → AllByRecursion (λ (l : Loaded). IsClass l.class) classes → AllByRecursion IsBoundedClass (map class_meant library) → AllByRecursion IsBoundedBody (bodies_of classes library)
bounded_bodies [] library law h l = bounded_library library l
bounded_bodies (c ∷ classes) library law h l = (law c.class h.0, bounded_bodies classes library law h.1 l)

of_bodies : (p : List Info) → AllByRecursion IsBoundedBody (map (λ i. i.body) p) → AllByRecursion (λ (i : Info). IsBoundedBody i.body) p
of_bodies [] h = tt
of_bodies (i ∷ p) h = (h.0, of_bodies p h.1)

pub are_bounded : (p : List Info) (classes : List Loaded) (library : List LibClass) → LinkedFilesAreBounded → map class_meant library ≡ library_meant → All IsBoundedClass library_meant → All (λ (l : Loaded). IsClass l.class) classes
    → map (λ i. i.body) p ≡ bodies_of classes library → All (λ (i : Info). IsBoundedBody i.body) p
are_bounded p classes library law lib bounded spelled made =
    let of_library : AllByRecursion IsBoundedClass (map class_meant library) = subst (AllByRecursion IsBoundedClass) (sym lib) (recursion_from_All IsBoundedClass library_meant bounded) in
    let bodies : AllByRecursion IsBoundedBody (bodies_of classes library) = bounded_bodies classes library law (recursion_from_All (λ (l : Loaded). IsClass l.class) classes spelled) of_library in
    All-from_recursion (λ (i : Info). IsBoundedBody i.body) p (of_bodies p (subst (AllByRecursion IsBoundedBody) (sym made) bodies))

-- ---- the library beside class files

of_file : (x : Class) (rest : Option Linked) (c : Linked) (b : Bool) → (rest ≡ Some c → c.library ≡ false) → (if b then Some (link x) else rest) ≡ Some c → c.library ≡ false
unfolding link
of_file x rest c true later e = let same : link x ≡ c = cc in sym (ap (λ (d : Linked). d.library) same)
of_file x rest c false later e = later e

are_files : (classes : List Class) (n : Name) (c : Linked) → class_among (map named classes) n ≡ Some c → c.library ≡ false
are_files [] n c e = absurd cc
are_files (x ∷ classes) n c e = of_file x (class_among (map named classes) n) c (same (own_name x) n) (are_files classes n c) e

pub of_files : (classes : List Class) → AreOfFiles (class_among (map named classes))
of_files classes = record { each = are_files classes }

-- The name of a class that is found is one of the names.
in_case : (m n : Name) (ms : List Name) (x rest : Option Linked) (c : Linked) (b : Bool) → same m n ≡ b → (rest ≡ Some c → In n ms) → (if b then x else rest) ≡ Some c → In n (m ∷ ms)
in_case m n ms x rest c true h later e = inl (same_text m n (sym h))
in_case m n ms x rest c false h later e = inr (later e)

in_names : (xs : List (Name × Linked)) (n : Name) (c : Linked) → class_among xs n ≡ Some c → In n (map (λ (x : Name × Linked). x.0) xs)
in_names [] n c e = absurd cc
in_names (x ∷ xs) n c e = in_case x.0 n (map (λ (x : Name × Linked). x.0) xs) (Some x.1) (class_among xs n) c (same x.0 n) refl (in_names xs n c) e

in_own : (classes : List Class) (n : Name) (c : Linked) → class_among (map named classes) n ≡ Some c → In n (map own_name classes)
in_own [] n c e = absurd cc
in_own (x ∷ classes) n c e = in_case (own_name x) n (map own_name classes) (Some (link x)) (class_among (map named classes) n) c (same (own_name x) n) refl (in_own classes n c) e

absent_case : (classes : List Class) (n : Name) (c : Linked) (o : Option Linked) → AreDistinct (names_in classes) → class_among (map named classes) n ≡ Some c → class_among library_meant n ≡ o → class_among library_meant n ≡ None
absent_case classes n c None distinct e is = is
absent_case classes n c (Some d) distinct e is = absurd (apart_lists n (map own_name classes) (map (λ (x : Name × Linked). x.0) library_meant) distinct (in_own classes n c e) (in_names library_meant n d is))

pub are_apart : (classes : List Class) → AreDistinct (names_in classes) → AreApart (class_among (map named classes))
are_apart classes distinct = record { each = λ n c e. absent_case classes n c (class_among library_meant n) distinct e refl }

-- The law of the library, over any classes of files that are apart from it.
abbrev pub BehindAccepted : Type 0
BehindAccepted = (other : Name → Option Linked) → AreOfFiles other → AreApart other → IsLibraryAccepted (behind_others other)

pub library_accepted : (p : List Info) (classes : List Loaded) → BehindAccepted → look p ≡ program_of (classes_in classes) → AreDistinct (names_in (classes_in classes)) → IsLibraryAccepted (look p)
unfolding program_of
library_accepted p classes law is distinct =
    let cs = classes_in classes in
    subst IsLibraryAccepted (sym is) (law (class_among (map named cs)) (of_files cs) (are_apart cs distinct))
