-- Each test that is found is the one of its class and method.
use Rattle.std.proofs.Common.{◌≡◌, ◌∙◌, ℕ, suc, ◌≤◌, Bool, true, false, List, [], ◌∷◌, length, Option, Some, None, refl, sym, ap, arith}
use Rattle.std.specs.Prelude.{◌||◌, if◌then◌else◌, option_and_then, slice_get}
use Rattle.std.specs.List.{AllByRecursion}
use Rattle.std.specs.Option.{option_map}
use Rattle.std.proofs.lemmas.List.Elements.{All-from_recursion, recursion_from_All}
use Rattle.class_model.specs.declared.class.Class.{Class}
use Rattle.program_rules.specs.Names.{Name, same, is_listed}
use Rattle.class_link.specs.declared.loaded.Loaded.{Loaded}
use Rattle.class_link.specs.Info.{Info, file_in}
use Rattle.class_table.specs.declared.scripted.Test.{Test}
use Rattle.class_table.specs.Table.{look, names, place_from, number_of}
use Rattle.jvm_world.specs.View.{test_of}
use Rattle.test_discovery.specs.Listed.{Files, files_of, rising}
use Rattle.test_discovery.specs.Scripts.{TestOf}
use Rattle.test_laws.specs.Laws.{AcceptedDeclareOnce, FoundAreTestsOf, RisingEnds, AreAmong}
use Rattle.suite_laws.specs.Found.{ProgramsHaveFiles}
use Rattle.class_records.specs.Profile.{files_held, most_superclasses}
use Rattle.suite_records.specs.Suites.{bytes_of, IsSuite, IsOwnTest}
use Rattle.suite_records.specs.Laws.{FoundAreOwnTests}
use Rattle.suite_records.proofs.Files.{files_are}

-- ---- class files have names of the program

placed_case : (n : Name) (i j : ℕ) (l b : Bool) (rest : Option ℕ) → (rest ≡ Some j → l ≡ true) → (if b then Some i else rest) ≡ Some j → b || l ≡ true
placed_case n i j l true rest h e = refl
placed_case n i j l false rest h e = h e

placed : (n : Name) (i j : ℕ) (ms : List Name) → place_from n i ms ≡ Some j → is_listed n ms ≡ true
placed n i j [] e = absurd cc
placed n i j (m ∷ ms) e = placed_case n i j (is_listed n ms) (same m n) (place_from n (suc i) ms) (placed n (suc i) j ms) e

numbered : (p : List Info) (n : Name) (o : Option ℕ) (c : Class) → number_of p n ≡ o → option_and_then (λ id. option_and_then file_in (slice_get p id)) o ≡ Some c → is_listed n (names p) ≡ true
numbered p n None c at e = absurd cc
numbered p n (Some id) c at e = placed n 0 id (names p) at

among : (p : List Info) → AreAmong (names p) (files_of p)
among p n c e = numbered p n (number_of p n) c refl e

as_many : (p : List Info) → length (names p) ≡ length p
as_many [] = refl
as_many (i ∷ p) = ap suc (as_many p)

-- ---- tests

each_map : {A : Type 0} (P Q : A → Type 0) → ((x : A) → P x → Q x) → (xs : List A) → AllByRecursion P xs → AllByRecursion Q xs
each_map P Q h [] q = tt
each_map P Q h (x ∷ xs) q = (h x q.0, each_map P Q h xs q.1)

module _ (have : ProgramsHaveFiles) (ends : RisingEnds) (files : List Loaded) (p : List Info) (s : IsSuite files p) where
  same_files : files_held (bytes_of files) ≡ files_of p
  same_files = (λ i n. files_are files p s n i) ∙ sym s.of.files

  same_rising : (n : Name) → rising most_superclasses (files_held (bytes_of files)) n ≡ rising (length p) (files_of p) n
  same_rising n =
      let built = s.of.program in
      let of = have p built in
      let few = built.few in
      let many = as_many p in
      let le : length (names p) ≤ 4294967296 = omega (arith, few, many) in
      ap (λ (f : Files). rising most_superclasses f n) same_files
      ∙ ends (look p) (files_of p) (names p) most_superclasses n built.ranks of.named of.meant (among p) le
      ∙ ap (λ (k : ℕ). rising k (files_of p) n) many

  own : (t : Test) → TestOf (rising (length p) (files_of p) t.class) t.method ≡ Some t → IsOwnTest files t
  own t e = ap (λ (cs : List Class). option_map test_of (TestOf cs t.method)) (same_rising t.class) ∙ ap (option_map test_of) e

pub own_tests : ProgramsHaveFiles → AcceptedDeclareOnce → FoundAreTestsOf → RisingEnds → FoundAreOwnTests
own_tests have once found ends files p names ts s e =
    let built = s.of.program in
    let ready = s.of.ready in
    let of = have p built in
    let all = found (length p) (files_of p) names ts of.named (once (look p) (files_of p) ready.accepted of.meant) e in
    All-from_recursion (IsOwnTest files) ts
    (each_map (λ t. TestOf (rising (length p) (files_of p) t.class) t.method ≡ Some t) (IsOwnTest files) (own have ends files p s) ts
    (recursion_from_All (λ t. TestOf (rising (length p) (files_of p) t.class) t.method ≡ Some t) ts all))
