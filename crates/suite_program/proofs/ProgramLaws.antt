-- A program that was built is the program of its classes by name.
use Rattle.std.proofs.Common.{◌≡◌, ◌∙◌, refl, ap, ℕ, suc, ◌+◌, Bool, true, false, List, [], ◌∷◌, ◌++◌, map, Option, Some, None, slice_get, arith}
use Rattle.std.specs.Prelude.{All, if◌then◌else◌, option_and_then}
use Rattle.std.specs.List.{AllByRecursion}
use Rattle.std.proofs.lemmas.List.Elements.{recursion_from_All}
use Rattle.std.specs.Option.{option_map}
use Rattle.program_rules.specs.Names.{Name, same}
use Rattle.program_rules.specs.Linked.{Linked}
use Rattle.program_rules.specs.Library.{class_among, first_of}
use Rattle.lib_table.specs.Library.{library_meant}
use Rattle.class_link.specs.declared.loaded.Loaded.{Loaded}
use Rattle.class_link.specs.declared.loaded.LibClass.{LibClass}
use Rattle.class_link.specs.declared.loaded.ClassBody.{ClassBody}
use Rattle.class_link.specs.declared.loaded.ClassBody.TheVariants as body
use Rattle.class_link.specs.Info.{Info, IsInfo, body_name, link_body, own_name}
use Rattle.class_link.specs.Linking.{link_library}
use Rattle.class_table.specs.Faults.{look_of}
use Rattle.class_table.specs.Table.{place_from, place_in, look, bodies_of, names, names_of}
use Rattle.library_laws.specs.Beside.{named, program_of}
use Rattle.suite_program.specs.Programs.{classes_in, names_in}

-- ---- by name

among_both : (xs ys : List (Name × Linked)) (n : Name) → class_among (xs ++ ys) n ≡ first_of (class_among xs n) (class_among ys n)
among_both [] ys n = refl
among_both (x ∷ xs) ys n = both_case (same x.0 n) (among_both xs ys n)
  where
    both_case : (b : Bool) → class_among (xs ++ ys) n ≡ first_of (class_among xs n) (class_among ys n) → (if b then Some x.1 else class_among (xs ++ ys) n) ≡ first_of (if b then Some x.1 else class_among xs n) (class_among ys n)
    both_case true e = refl
    both_case false e = e

-- ---- what a program was made of

abbrev of_body : ClassBody → Name × Linked
of_body b = (body_name b, link_body b)

of_library : (library : List LibClass) → map of_body (map body.Library library) ≡ map (λ c. (c.name, link_library c)) library
of_library [] = refl
of_library (c ∷ library) = ap (λ z. (c.name, link_library c) ∷ z) (of_library library)

of_bodies : (classes : List Loaded) (library : List LibClass) → map of_body (bodies_of classes library) ≡ map named (classes_in classes) ++ map (λ c. (c.name, link_library c)) library
of_bodies [] library = of_library library
of_bodies (c ∷ classes) library = ap (λ z. named c.class ∷ z) (of_bodies classes library)

-- ---- by number

found_body : (f : ℕ → Option Linked) (k : ℕ) (n : Name) (x : ClassBody) (xs : List ClassBody) (b : Bool) → f k ≡ Some (link_body x) → option_and_then f (place_from n (suc k) (map body_name xs)) ≡ class_among (map of_body xs) n
    → option_and_then f (if b then Some k else place_from n (suc k) (map body_name xs)) ≡ (if b then Some (link_body x) else class_among (map of_body xs) n)
found_body f k n x xs true here rest = here
found_body f k n x xs false here rest = rest

bodies_from : (f : ℕ → Option Linked) (k : ℕ) (n : Name) (xs : List ClassBody) → ((j : ℕ) → f (k + j) ≡ option_map link_body (slice_get xs j)) → option_and_then f (place_from n k (map body_name xs)) ≡ class_among (map of_body xs) n
bodies_from f k n [] h = refl
bodies_from f k n (x ∷ xs) h =
    found_body f k n x xs (same (body_name x) n) (ap f (let e : k ≡ k + 0 = omega arith in e) ∙ h 0)
    (bodies_from f (suc k) n xs (λ j. ap f (let e : suc k + j ≡ k + suc j = omega arith in e) ∙ h (suc j)))

linked_at : List ClassBody → ℕ → Option Linked
linked_at bs j = option_map link_body (slice_get bs j)

mapped_after : (bs : List ClassBody) (o : Option ℕ) → option_map link_body (option_and_then (slice_get bs) o) ≡ option_and_then (linked_at bs) o
unfolding linked_at
mapped_after bs None = refl
mapped_after bs (Some j) = refl

bodies_among : (bs : List ClassBody) (n : Name) → look_of bs n ≡ class_among (map of_body bs) n
unfolding linked_at
bodies_among bs n = mapped_after bs (place_in (map body_name bs) n) ∙ bodies_from (linked_at bs) 0 n bs (λ j. ap (linked_at bs) (let e : 0 + j ≡ j = omega arith in e))

pub look_is : (classes : List Loaded) (library : List LibClass) → map (λ c. (c.name, link_library c)) library ≡ library_meant → look_of (bodies_of classes library) ≡ program_of (classes_in classes)
unfolding program_of
look_is classes library lib =
    let pairs : map of_body (bodies_of classes library) ≡ map named (classes_in classes) ++ library_meant = of_bodies classes library ∙ ap (λ z. map named (classes_in classes) ++ z) lib in
    λ i n. (bodies_among (bodies_of classes library) n ∙ ap (λ z. class_among z n) pairs ∙ among_both (map named (classes_in classes)) library_meant n) i

pub is_program : (p : List Info) (classes : List Loaded) (library : List LibClass) → look p ≡ look_of (bodies_of classes library) → map (λ c. (c.name, link_library c)) library ≡ library_meant → look p ≡ program_of (classes_in classes)
is_program p classes library looks lib = looks ∙ look_is classes library lib

-- ---- names

of_library_names : (library : List LibClass) → map body_name (map body.Library library) ≡ map (λ (c : Name × Linked). c.0) (map (λ c. (c.name, link_library c)) library)
of_library_names [] = refl
of_library_names (c ∷ library) = ap (λ z. c.name ∷ z) (of_library_names library)

names_with : (classes : List Loaded) (library : List LibClass) → names_of classes library ≡ map own_name (classes_in classes) ++ map (λ (c : Name × Linked). c.0) (map (λ c. (c.name, link_library c)) library)
names_with [] library = of_library_names library
names_with (c ∷ classes) library = ap (λ z. own_name c.class ∷ z) (names_with classes library)

pub names_are : (classes : List Loaded) (library : List LibClass) → map (λ c. (c.name, link_library c)) library ≡ library_meant → names_of classes library ≡ names_in (classes_in classes)
names_are classes library lib = names_with classes library ∙ ap (λ z. map own_name (classes_in classes) ++ map (λ (c : Name × Linked). c.0) z) lib

named_by : (p : List Info) → AllByRecursion IsInfo p → names p ≡ map body_name (map (λ i. i.body) p)
named_by [] h = refl
named_by (x ∷ p) h = let first = h.0.name in let rest = named_by p h.1 in (λ i. first i ∷ rest i)

-- A program that was built has the names of its classes and of the library's, by number.
pub all_named : (p : List Info) (classes : List Loaded) (library : List LibClass) → All IsInfo p → map (λ i. i.body) p ≡ bodies_of classes library → map (λ c. (c.name, link_library c)) library ≡ library_meant → names p ≡ names_in (classes_in classes)
all_named p classes library ok made lib = named_by p (recursion_from_All IsInfo p ok) ∙ ap (map body_name) made ∙ names_are classes library lib
