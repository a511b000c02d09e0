-- The tests that are found by the numbers of classes are those of the definition by names.
use Rattle.std.proofs.Common.{◌≡◌, ◌≢◌, ◌∙◌, ℕ, zero, suc, ◌+◌, ◌≤◌, Bool, true, false, ltb, List, [], ◌∷◌, ◌++◌, length, map, slice_get, Result, Ok, Err, refl, sym, ap, arith, append_assoc}
use Rattle.std.specs.Prelude.{if◌then◌else◌}
use Rattle.std.specs.Io.Iter.{u64_saturate}
use Rattle.std.proofs.lemmas.Bool.{ltb-false}
use Rattle.std.proofs.lemmas.List.{map-append, length-map, length-append}
use Rattle.class_model.specs.declared.class.ClassId.{ClassId}
use Rattle.program_rules.specs.Names.{Name}
use Rattle.class_link.specs.Info.{Info, own_name}
use Rattle.class_link.specs.declared.loaded.Loaded.{Loaded}
use Rattle.class_table.specs.Table.{name_at, name_or_none, names}
use Rattle.class_table.specs.declared.scripted.Test.{Test}
use Rattle.test_discovery.specs.Listed.{files_of}
use Rattle.test_discovery.specs.Discovery.{Tests, name_in, names_of, program_tests, counted}
use Rattle.test_discovery.specs.declared.fault.TestFault.{TestFault}
use Rattle.test_discovery.specs.declared.fault.TestFault.TheVariants as fault
use Rattle.mutest_engine.specs.Steps.{and_then, Refuses}
use Rattle.mutest_engine.specs.Numbers.{numbers_from, numbers_of}
use Rattle.suite_runs.specs.Below.{classes_in, class_file, names_in}
use Rattle.mutest_engine.specs.Linked.{all_classes}
use Rattle.mutest_engine.specs.Discovered.{IsStopOfTest, refuse_many_tests, few_found, tests_named, tests_of, tests_from}
use Rattle.mutest_engine.specs.declared.suite.LoadedSuite.{LoadedSuite}
use Rattle.mutest_engine.specs.declared.refusal.Limit.TheVariants as limit
use Rattle.mutest_engine.specs.declared.refusal.Refusal.{Refusal}
use Rattle.mutest_engine.specs.declared.refusal.Refusal.TheVariants.{BadTest, TooMany}
use Rattle.mutest_engine.specs.declared.stop.Stop.{Stop}
use Rattle.mutest_engine.specs.declared.stop.Stop.TheVariants as stop
use Rattle.mutest_engine.proofs.CountLaws.{same_tests}
use Rattle.mutest_engine.proofs.FitLaws.{classes_both}

-- ---- by number

name_is : (p : List Info) (k : ℕ) → name_in (slice_get p k) ≡ name_or_none (slice_get (names p) k)
name_is [] zero = refl
name_is [] (suc k) = refl
name_is (x ∷ p) zero = refl
name_is (x ∷ p) (suc k) = name_is p k

by_number : (p : List Info) (ids : List ClassId) → names_of p ids ≡ map (name_at p) (numbers_of ids)
by_number p [] = refl
by_number p (id ∷ ids) = ap (λ n. n ∷ names_of p ids) (name_is p id.0) ∙ ap (λ ns. name_at p id.0 ∷ ns) (by_number p ids)

-- What the search finds by numbers.
found_by : (p : List Info) (ids : List ClassId) (first count : ℕ) → numbers_of ids ≡ numbers_from first count → few_found (program_tests p ids) ≡ tests_from p first count
unfolding tests_named
found_by p ids first count is = ap (λ ns. few_found (Tests (length p) (files_of p) ns)) (by_number p ids ∙ ap (map (name_at p)) is)

-- ---- what the code found

is_fault : (found : Result (List Test) TestFault) (f : TestFault) → counted found ≡ Err f → found ≡ Err f
is_fault (Ok ts) f h = absurd cc
is_fault (Err g) f h = let e : g ≡ f = cc in ap (λ x. Err x) e

told_as : (found : Result (List Test) TestFault) (f : TestFault) (s : Stop) (r : Refusal) → found ≡ Err f → s ≡ stop.Refused (BadTest f) → s ≡ stop.Refused r → few_found found ≡ Err r
told_as found f s r is told e =
    let both : stop.Refused (BadTest f) ≡ stop.Refused r = sym told ∙ e in
    let same : BadTest f ≡ r = cc in
    ap few_found is ∙ ap (λ x. Err x) same

by_fault : (found : Result (List Test) TestFault) (f : TestFault) (s : Stop) → IsStopOfTest f s → (f ≢ fault.Memory → found ≡ Err f) → Refuses (λ r. few_found found ≡ Err r) s
by_fault found (fault.BadTest class method rule) s told is = λ r e. told_as found (fault.BadTest class method rule) s r (is (λ q. absurd cc)) told e
by_fault found (fault.RunnerUsed class) s told is = λ r e. told_as found (fault.RunnerUsed class) s r (is (λ q. absurd cc)) told e
by_fault found fault.Memory s told is = λ r e. let both : stop.WantOfMemory ≡ stop.Refused r = sym told ∙ e in absurd cc

many : (found : Result (List Test) TestFault) (n : ℕ) (r : Refusal) → counted found ≡ Ok n → refuse_many_tests n ≡ Err r → few_found found ≡ Err r
many (Ok ts) n r h is = let e : n ≡ u64_saturate (length ts) = cc in ap (λ (x : Result (Unit {0}) Refusal). and_then x (λ few. Ok ts)) (sym (same_tests n (length ts) e) ∙ is)
many (Err f) n r h is = absurd cc

few : (found : Result (List Test) TestFault) (ts : List Test) (n : ℕ) (u : Unit {0}) → counted found ≡ Ok n → refuse_many_tests n ≡ Ok u → found ≡ Ok ts → few_found found ≡ Ok ts
few found ts n u h is found_is =
    let both : counted (Ok ts) ≡ Ok n = ap counted (sym found_is) ∙ h in
    let e : n ≡ u64_saturate (length ts) = cc in
    ap few_found found_is ∙ ap (λ (x : Result (Unit {0}) Refusal). and_then x (λ few. Ok ts)) (sym (same_tests n (length ts) e) ∙ is)

module _ (p : List Info) (ids : List ClassId) (first count : ℕ) (are : numbers_of ids ≡ numbers_from first count) where
  pub count_refused : (f : TestFault) (s : Stop) → IsStopOfTest f s → (f ≢ fault.Memory → counted (program_tests p ids) ≡ Err f) → Refuses (λ r. tests_from p first count ≡ Err r) s
  count_refused f s told is = λ r e. sym (found_by p ids first count are) ∙ by_fault (program_tests p ids) f s told (λ q. is_fault (program_tests p ids) f (is q)) r e

  pub tests_refused : (f : TestFault) (s : Stop) → IsStopOfTest f s → (f ≢ fault.Memory → program_tests p ids ≡ Err f) → Refuses (λ r. tests_from p first count ≡ Err r) s
  tests_refused f s told is = λ r e. sym (found_by p ids first count are) ∙ by_fault (program_tests p ids) f s told is r e

  pub too_many_tests : (n : ℕ) (r told : Refusal) → counted (program_tests p ids) ≡ Ok n → Err r ≡ refuse_many_tests n → stop.Refused r ≡ stop.Refused told → tests_from p first count ≡ Err told
  too_many_tests n r told h is e =
      let same : r ≡ told = cc in
      sym (found_by p ids first count are) ∙ many (program_tests p ids) n r h (sym is) ∙ ap (λ x. Err x) same

  pub few_tests_found : (ts : List Test) (n : ℕ) (u : Unit {0}) → counted (program_tests p ids) ≡ Ok n → Ok u ≡ refuse_many_tests n → program_tests p ids ≡ Ok ts → tests_from p first count ≡ Ok ts
  few_tests_found ts n u h is found = sym (found_by p ids first count are) ∙ few (program_tests p ids) ts n u h (sym is) found

-- ---- a suite

behind : (before ns : List Name) (j : ℕ) → slice_get (before ++ ns) (length before + j) ≡ slice_get ns j
behind [] ns j = ap (slice_get ns) (let e : 0 + j ≡ j = omega arith in e)
behind (b ∷ before) ns j = ap (slice_get (b ∷ (before ++ ns))) (let e : suc (length before) + j ≡ suc (length before + j) = omega arith in e) ∙ behind before ns j

gathered : (g : ℕ → Name) (k : ℕ) (ns others : List Name) → ((j : ℕ) → g (k + j) ≡ name_or_none (slice_get (ns ++ others) j)) → map g (numbers_from k (length ns)) ≡ ns
gathered g k [] others h = refl
gathered g k (n ∷ ns) others h =
    let here : g k ≡ n = ap g (let e : k ≡ k + 0 = omega arith in e) ∙ h 0 in
    ap (λ m. m ∷ map g (numbers_from (suc k) (length ns))) here
    ∙ ap (λ l. n ∷ l) (gathered g (suc k) ns others (λ j. ap g (let e : suc k + j ≡ k + suc j = omega arith in e) ∙ h (suc j)))

named_behind : (all before ns others : List Name) → all ≡ before ++ (ns ++ others) → map (λ k. name_or_none (slice_get all k)) (numbers_from (length before) (length ns)) ≡ ns
named_behind all before ns others is =
    ap (λ l. map (λ k. name_or_none (slice_get l k)) (numbers_from (length before) (length ns))) is
    ∙ gathered (λ k. name_or_none (slice_get (before ++ (ns ++ others)) k)) (length before) ns others (λ j. ap name_or_none (behind before (ns ++ others) j))

as_long : (ls : List Loaded) → length ls ≡ length (map own_name (classes_in ls))
as_long [] = refl
as_long (l ∷ ls) = ap suc (as_long ls)

-- The names of a suite's program: those of its classes folder, of its tests folder, and of the
-- library.
parted : (s : LoadedSuite) → names_in (classes_in (all_classes s)) ≡ map own_name (classes_in s.classes) ++ (map own_name (classes_in s.tests) ++ names_in [])
parted s =
    ap names_in (classes_both s.classes s.tests)
    ∙ ap (λ ns. ns ++ names_in []) (map-append own_name (classes_in s.classes) (classes_in s.tests))
    ∙ append_assoc (map own_name (classes_in s.classes)) (map own_name (classes_in s.tests)) (names_in [])

-- The tests of the classes behind those of the classes folder.
pub of_suite : (s : LoadedSuite) (p : List Info) (all : List Loaded) (own count : ℕ) → names p ≡ names_in (classes_in all) → files_of p ≡ class_file (classes_in all) → all ≡ all_classes s → own ≡ length s.classes → count ≡ length s.tests
    → tests_from p own count ≡ tests_of s
of_suite s p all own count named files is first len =
    let cs = classes_in (all_classes s) in
    let named_so : names p ≡ names_in cs = named ∙ ap (λ l. names_in (classes_in l)) is in
    let most : length p ≡ length (names_in cs) = sym (length-map p (λ i. i.name)) ∙ ap length named_so in
    let files_so : files_of p ≡ class_file cs = files ∙ ap (λ l. class_file (classes_in l)) is in
    let numbers : numbers_from own count ≡ numbers_from (length (map own_name (classes_in s.classes))) (length (map own_name (classes_in s.tests))) =
    ap (λ k. numbers_from k count) (first ∙ as_long s.classes) ∙ ap (numbers_from (length (map own_name (classes_in s.classes)))) (len ∙ as_long s.tests) in
    let own_names : map (name_at p) (numbers_from own count) ≡ map own_name (classes_in s.tests) =
    ap (map (name_at p)) numbers ∙ named_behind (names p) (map own_name (classes_in s.classes)) (map own_name (classes_in s.tests)) (names_in []) (named_so ∙ parted s) in
    ap (λ m. tests_named m (files_of p) (map (name_at p) (numbers_from own count))) most
    ∙ ap (λ f. tests_named (length (names_in cs)) f (map (name_at p) (numbers_from own count))) files_so
    ∙ ap (tests_named (length (names_in cs)) (class_file cs)) own_names

-- They are no more than the classes of the program.
pub all_enough : (s : LoadedSuite) (p : List Info) (all : List Loaded) (own count : ℕ) → all ≡ all_classes s → own ≡ length s.classes → count ≡ length s.tests → length all ≤ length p → own + count ≤ length p
all_enough s p all own count is first len many =
    let more : length all ≡ length (s.classes ++ s.tests) = ap length is in
    let sum : length (s.classes ++ s.tests) ≡ length s.classes + length s.tests = length-append s.classes s.tests in
    omega (arith, more, sum, first, len, many)

-- ---- their number

abbrev over : Bool → Result (Unit {0}) Refusal
over t = if t then Err (TooMany limit.Tests 65536) else Ok tt

abbrev within : Bool → List Test → Result (List Test) Refusal
within t ts = and_then (over t) (λ few. Ok ts)

bounded : (ts found : List Test) (t : Bool) → ltb 65535 (length ts) ≡ t → within t ts ≡ Ok found → length found ≤ 65535
bounded ts found true e h = absurd cc
bounded ts found false e h = let same : ts ≡ found = cc in rw (sym same) (ltb-false 65535 (length ts) e)

most_of : (found : Result (List Test) TestFault) (ts : List Test) → few_found found ≡ Ok ts → length ts ≤ 65535
most_of (Ok all) ts h = bounded all ts (ltb 65535 (length all)) refl h
most_of (Err f) ts h = absurd cc

pub tests_few : (s : LoadedSuite) (ts : List Test) → tests_of s ≡ Ok ts → length ts ≤ 65535
unfolding tests_named
tests_few s ts h = most_of (Tests (length (names_in (classes_in (all_classes s)))) (class_file (classes_in (all_classes s))) (map own_name (classes_in s.tests))) ts h
