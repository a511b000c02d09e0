-- The class files of a program that was built hold the bytes of its classes by name.
use Rattle.std.proofs.Common.{◌≡◌, ◌∙◌, refl, ap, ℕ, suc, ◌+◌, Bool, true, false, List, [], ◌∷◌, map, Option, None, Some, slice_get, arith}
use Rattle.std.specs.Prelude.{All, if◌then◌else◌, option_and_then}
use Rattle.std.specs.List.{AllByRecursion}
use Rattle.std.proofs.lemmas.List.Elements.{recursion_from_All}
use Rattle.program_rules.specs.Names.{Name, same}
use Rattle.class_link.specs.declared.loaded.Loaded.{Loaded}
use Rattle.class_link.specs.declared.loaded.LibClass.{LibClass}
use Rattle.class_link.specs.declared.loaded.ClassBody.{ClassBody}
use Rattle.class_link.specs.declared.loaded.ClassBody.TheVariants as body
use Rattle.class_link.specs.Info.{Info, IsInfo, body_name, own_name}
use Rattle.class_table.specs.Table.{place_from, names, bodies_of}
use Rattle.suite_runs.specs.Below.{HoldsFiles, bytes_of, bytes_in, info_bytes, held_by}
use Rattle.suite_runs.specs.Below.{IsMadeOf}

abbrev Named : Type 0
Named = Name × Option (List ℕ)

-- the bytes at the first of these names that is this one
abbrev bytes_among : List Named → Name → Option (List ℕ)
bytes_among [] n = None
bytes_among (x ∷ xs) n = if same x.0 n then x.1 else bytes_among xs n

-- ---- by number and by name

abbrev by_name : Info → Named
by_name i = (i.name, info_bytes i)

found_case : (f : ℕ → Option (List ℕ)) (k : ℕ) (n : Name) (x : Info) (xs : List Info) (b : Bool) → f k ≡ info_bytes x → option_and_then f (place_from n (suc k) (names xs)) ≡ bytes_among (map by_name xs) n
    → option_and_then f (if b then Some k else place_from n (suc k) (names xs)) ≡ (if b then info_bytes x else bytes_among (map by_name xs) n)
found_case f k n x xs true here rest = here
found_case f k n x xs false here rest = rest

found_from : (f : ℕ → Option (List ℕ)) (k : ℕ) (n : Name) (xs : List Info) → ((j : ℕ) → f (k + j) ≡ option_and_then info_bytes (slice_get xs j)) → option_and_then f (place_from n k (names xs)) ≡ bytes_among (map by_name xs) n
found_from f k n [] h = refl
found_from f k n (x ∷ xs) h =
    found_case f k n x xs (same x.name n) (ap f (let e : k ≡ k + 0 = omega arith in e) ∙ h 0)
    (found_from f (suc k) n xs (λ j. ap f (let e : suc k + j ≡ k + suc j = omega arith in e) ∙ h (suc j)))

held_among : (p : List Info) (n : Name) → held_by p n ≡ bytes_among (map by_name p) n
held_among p n = found_from (λ id. option_and_then info_bytes (slice_get p id)) 0 n p (λ j. ap (λ id. option_and_then info_bytes (slice_get p id)) (let e : 0 + j ≡ j = omega arith in e))

-- ---- what a program was made of

abbrev of_body : ClassBody → Named
of_body b = (body_name b, bytes_in b)

all_of_bodies : (p : List Info) → AllByRecursion IsInfo p → map by_name p ≡ map of_body (map (λ i. i.body) p)
all_of_bodies [] h = refl
all_of_bodies (x ∷ p) h =
    let first = h.0.name in
    let rest = all_of_bodies p h.1 in
    (λ i. (first i, bytes_in x.body) ∷ rest i)

no_bytes : (b : Bool) (o : Option (List ℕ)) → o ≡ None → (if b then None else o) ≡ None
no_bytes true o h = refl
no_bytes false o h = h

in_library : (library : List LibClass) (n : Name) → bytes_among (map of_body (map body.Library library)) n ≡ None
in_library [] n = refl
in_library (c ∷ library) n = no_bytes (same c.name n) _ (in_library library n)

in_bodies : (classes : List Loaded) (library : List LibClass) (n : Name) → bytes_among (map of_body (bodies_of classes library)) n ≡ bytes_of classes n
in_bodies [] library n = in_library library n
in_bodies (c ∷ classes) library n = ap (λ o. if same (own_name c.class) n then Some c.bytes else o) (in_bodies classes library n)

pub holds_files : (p : List Info) (classes : List Loaded) → All IsInfo p → IsMadeOf classes p → HoldsFiles classes p
holds_files p classes ok of = λ i n. (held_among p n ∙ ap (λ z. bytes_among z n) (all_of_bodies p (recursion_from_All IsInfo p ok) ∙ ap (map of_body) of.made) ∙ in_bodies classes of.library n) i
