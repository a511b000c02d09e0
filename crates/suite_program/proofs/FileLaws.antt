-- The class files of a program that was built are those of its classes by name.
use Rattle.std.proofs.Common.{◌≡◌, ◌∙◌, refl, ap, ℕ, suc, ◌+◌, Bool, true, false, List, [], ◌∷◌, map, Option, None, Some, slice_get, arith}
use Rattle.std.specs.Prelude.{All, if◌then◌else◌, option_and_then}
use Rattle.std.specs.List.{AllByRecursion}
use Rattle.std.proofs.lemmas.List.Elements.{recursion_from_All}
use Rattle.class_model.specs.declared.class.Class.{Class}
use Rattle.program_rules.specs.Names.{Name, same}
use Rattle.class_link.specs.declared.loaded.Loaded.{Loaded}
use Rattle.class_link.specs.declared.loaded.LibClass.{LibClass}
use Rattle.class_link.specs.declared.loaded.ClassBody.{ClassBody}
use Rattle.class_link.specs.declared.loaded.ClassBody.TheVariants as body
use Rattle.class_link.specs.Info.{Info, IsInfo, body_name, own_name, file_in}
use Rattle.class_table.specs.Table.{place_from, names, bodies_of}
use Rattle.mutant_runs.specs.Programs.{files_of}
use Rattle.suite_program.specs.Programs.{classes_in, class_file}

abbrev Named : Type 0
Named = Name × Option Class

-- the file at the first of these names that is this one
abbrev file_among : List Named → Name → Option Class
file_among [] n = None
file_among (x ∷ xs) n = if same x.0 n then x.1 else file_among xs n

-- ---- by number and by name

abbrev by_name : Info → Named
by_name i = (i.name, file_in i)

found_case : (f : ℕ → Option Class) (k : ℕ) (n : Name) (x : Info) (xs : List Info) (b : Bool) → f k ≡ file_in x → option_and_then f (place_from n (suc k) (names xs)) ≡ file_among (map by_name xs) n
    → option_and_then f (if b then Some k else place_from n (suc k) (names xs)) ≡ (if b then file_in x else file_among (map by_name xs) n)
found_case f k n x xs true here rest = here
found_case f k n x xs false here rest = rest

found_from : (f : ℕ → Option Class) (k : ℕ) (n : Name) (xs : List Info) → ((j : ℕ) → f (k + j) ≡ option_and_then file_in (slice_get xs j)) → option_and_then f (place_from n k (names xs)) ≡ file_among (map by_name xs) n
found_from f k n [] h = refl
found_from f k n (x ∷ xs) h =
    found_case f k n x xs (same x.name n) (ap f (let e : k ≡ k + 0 = omega arith in e) ∙ h 0)
    (found_from f (suc k) n xs (λ j. ap f (let e : suc k + j ≡ k + suc j = omega arith in e) ∙ h (suc j)))

files_among : (p : List Info) (n : Name) → files_of p n ≡ file_among (map by_name p) n
files_among p n = found_from (λ id. option_and_then file_in (slice_get p id)) 0 n p (λ j. ap (λ id. option_and_then file_in (slice_get p id)) (let e : 0 + j ≡ j = omega arith in e))

-- ---- what a program was made of

abbrev file_of : ClassBody → Option Class
file_of (body.File loaded) = Some loaded.class
file_of other = None

pub file_by : (i : Info) (b : ClassBody) → i.body ≡ b → file_in i ≡ file_of b
file_by i (body.File loaded) e = rw e refl
file_by i (body.Edited edit) e = rw e refl
file_by i (body.Library c) e = rw e refl

abbrev of_body : ClassBody → Named
of_body b = (body_name b, file_of b)

all_of_bodies : (p : List Info) → AllByRecursion IsInfo p → map by_name p ≡ map of_body (map (λ i. i.body) p)
all_of_bodies [] h = refl
all_of_bodies (x ∷ p) h =
    let first = h.0.name in
    let file : file_in x ≡ file_of x.body = file_by x x.body refl in
    let rest = all_of_bodies p h.1 in
    (λ i. (first i, file i) ∷ rest i)

no_file : (b : Bool) (o : Option Class) → o ≡ None → (if b then None else o) ≡ None
no_file true o h = refl
no_file false o h = h

in_library : (library : List LibClass) (n : Name) → file_among (map of_body (map body.Library library)) n ≡ None
in_library [] n = refl
in_library (c ∷ library) n = no_file (same c.name n) _ (in_library library n)

in_bodies : (classes : List Loaded) (library : List LibClass) (n : Name) → file_among (map of_body (bodies_of classes library)) n ≡ class_file (classes_in classes) n
in_bodies [] library n = in_library library n
in_bodies (c ∷ classes) library n = ap (λ o. if same (own_name c.class) n then Some c.class else o) (in_bodies classes library n)

pub are_files : (p : List Info) (classes : List Loaded) (library : List LibClass) → All IsInfo p → map (λ i. i.body) p ≡ bodies_of classes library → files_of p ≡ class_file (classes_in classes)
are_files p classes library ok made = λ i n. (files_among p n ∙ ap (λ z. file_among z n) (all_of_bodies p (recursion_from_All IsInfo p ok) ∙ ap (map of_body) made) ∙ in_bodies classes library n) i
