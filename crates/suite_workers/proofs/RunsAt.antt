-- The runs of a job, cell by cell.
use Rattle.std.proofs.Common.{◌≡◌, ◌∙◌, sym, refl, ap, subst, ℕ, zero, suc, ◌+◌, ◌*◌, ◌<◌, ◌≤◌, ◌^◌, Bool, true, false, List, [], ◌∷◌, ◌++◌, Option, None, Some, All, length, map, replicate, slice_get, slice_index_or, arith, length-append}
use Rattle.std.specs.Prelude.{AllPairs, Contains, is_some, if◌then◌else◌, zip}
use Rattle.std.specs.Option.{option_map_or}
use Rattle.std.proofs.lemmas.List.{map-append}
use Rattle.std.proofs.lemmas.Option.{slice_get_within}
use Rattle.claim_core.specs.Claims.{no_place}
use Rattle.claim_core.specs.Ending.{Cell}
use Rattle.class_model.specs.declared.class.Class.{Class}
use Rattle.class_link.specs.Info.{Info}
use Rattle.mutator_ops.specs.declared.mutant.Mutant.{Mutant}
use Rattle.history_file.specs.Rows.{Numbered}
use Rattle.record_rules.specs.declared.record.RunRecord.{RunRecord}
use Rattle.job_rules.specs.Gathered.{flat}
use Rattle.job_rules.specs.Tried.{Ascend, Tried}
use Rattle.job_rules.specs.Worked.{cell_at, cells_from, cells_of}
use Rattle.suite_jobs.specs.Jobs.{viable_file}
use Rattle.worker_gate.specs.Ends.{mutant_at, test_at as place_at}
use Rattle.worker_gate.specs.Hands.{IsRunOf, Runs}
use Rattle.suite_workers.specs.Cells.{mutants_from}
use Rattle.suite_workers.specs.Marks.{Marked, mark, marked}
use Rattle.suite_workers.specs.Jobs.{CellJob, IsCovered, cell_run, cell_runs, runs_on}
use Rattle.suite_workers.proofs.Lists.{first_one, long_map, one_more}

-- ---- one cell

-- The run of a cell: a viable mutant, and a test that covers it.
pub record RunAt (p : List Info) (j : CellJob) (mutant test : ℕ) (t : Tried RunRecord) : Type 0 where
  pub m : Mutant
  pub covering : List ℕ
  pub made : Class × List ℕ
  pub number : slice_get j.mutants mutant ≡ Some m
  pub pair : Contains (zip j.mutants j.covering) (m, covering)
  pub viable : viable_file p m ≡ Some made
  pub has : Contains covering test
  pub run : t ≡ cell_run p j made test

in_map : {X Y : Type 0} (f : X → Y) (xs : List X) (k : ℕ) (y : Y) → slice_get (map f xs) k ≡ Some y → (x : X) × Contains xs x × (y ≡ f x)
in_map f [] k y h = absurd cc
in_map f (x ∷ xs) zero y h = (x, first_one x xs, cc)
in_map f (x ∷ xs) (suc k) y h = let more = in_map f xs k y h in (more.0, one_more x more.0 xs more.1, more.2)

module _ (p : List Info) (j : CellJob) where
  -- Of one mutant's runs.
  record RunOn (m : Mutant × List ℕ) (test : ℕ) (t : Tried RunRecord) : Type 0 where
    made : Class × List ℕ
    viable : viable_file p m.0 ≡ Some made
    has : Contains m.1 test
    run : t ≡ cell_run p j made test

  on_case : (m : Mutant × List ℕ) (o : Option (Class × List ℕ)) (k : ℕ) (t : Tried RunRecord) → viable_file p m.0 ≡ o → slice_get (option_map_or (λ made. map (cell_run p j made) m.1) o []) k ≡ Some t → RunOn m t.test t
  on_case m None k t is h = absurd cc
  on_case m (Some made) k t is h =
      let one = in_map (cell_run p j made) m.1 k t h in
      let test : t.test ≡ one.0 = ap (λ (r : Tried RunRecord). r.test) one.2 in
      record {
        made = made;
        viable = is;
        has = subst (Contains m.1) (sym test) one.1;
        run = one.2 ∙ ap (cell_run p j made) (sym test);
      }

  run_on : (m : Mutant × List ℕ) (k : ℕ) (t : Tried RunRecord) → slice_get (runs_on p j m) k ≡ Some t → RunOn m t.test t
  run_on m k t h = on_case m (viable_file p m.0) k t refl h

  record PairAt (ms : List Mutant) (covering : List (List ℕ)) (mutant : ℕ) (ts : List (Tried RunRecord)) : Type 0 where
    m : Mutant
    tests : List ℕ
    number : slice_get ms mutant ≡ Some m
    pair : Contains (zip ms covering) (m, tests)
    runs : ts ≡ runs_on p j (m, tests)

  pair_at : (ms : List Mutant) (covering : List (List ℕ)) (mutant place : ℕ) (t : Tried RunRecord) → slice_get (slice_index_or (map (runs_on p j) (zip ms covering)) mutant []) place ≡ Some t → PairAt ms covering mutant (slice_index_or (map (runs_on p j) (zip ms covering)) mutant [])
  pair_at [] covering mutant place t h = absurd cc
  pair_at (m ∷ ms) [] mutant place t h = absurd cc
  pair_at (m ∷ ms) (ks ∷ covering) zero place t h = record { m = m; tests = ks; number = refl; pair = first_one (m, ks) (zip ms covering); runs = refl }
  pair_at (m ∷ ms) (ks ∷ covering) (suc mutant) place t h =
      let more = pair_at ms covering mutant place t h in
      record { m = more.m; tests = more.tests; number = more.number; pair = one_more (m, ks) (more.m, more.tests) (zip ms covering) more.pair; runs = more.runs }

  pub run_at : (mutant test : ℕ) (t : Tried RunRecord) → IsRunOf (cell_runs p j) mutant test t → RunAt p j mutant test t
  unfolding cell_runs
  run_at mutant test t is =
      let pair = pair_at j.mutants j.covering mutant is.place t is.stands in
      let on = run_on (pair.m, pair.tests) is.place t (subst (λ (ts : List (Tried RunRecord)). slice_get ts is.place ≡ Some t) pair.runs is.stands) in
      record {
        m = pair.m;
        covering = pair.tests;
        made = on.made;
        number = pair.number;
        pair = pair.pair;
        viable = on.viable;
        has = subst (Contains pair.tests) is.test_is on.has;
        run = on.run ∙ ap (cell_run p j on.made) is.test_is;
      }

-- ---- all cells

-- The tests of a mutant's runs are those that cover it.
tests_case : (p : List Info) (j : CellJob) (m : Mutant × List ℕ) (o : Option (Class × List ℕ)) → ((k : ℕ) → Contains m.1 k → is_some o ≡ true) → map (λ (t : Tried RunRecord). t.test) (option_map_or (λ made. map (cell_run p j made) m.1) o []) ≡ m.1
tests_case p j (m, []) None h = refl
tests_case p j (m, k ∷ ks) None h = let no = h k (first_one k ks) in absurd cc
tests_case p j (m, ks) (Some made) h = each ks
  where
    each : (xs : List ℕ) → map (λ (t : Tried RunRecord). t.test) (map (cell_run p j made) xs) ≡ xs
    each [] = refl
    each (x ∷ xs) = ap (λ l. x ∷ l) (each xs)

pub tests_are : (p : List Info) (j : CellJob) (tests : ℕ) (m : Mutant × List ℕ) → IsCovered p tests m → map (λ (t : Tried RunRecord). t.test) (runs_on p j m) ≡ m.1
tests_are p j tests m c = tests_case p j m (viable_file p m.0) c.viable

-- Of lists of runs with these tests.
abbrev pub HasTests : {Rec : Type 0} → List (List (Tried Rec)) → List (List ℕ) → Type 0
HasTests [] [] = Unit {0}
HasTests [] (ks ∷ covering) = ⊥
HasTests (ts ∷ ms) [] = ⊥
HasTests (ts ∷ ms) (ks ∷ covering) = (map (λ t. t.test) ts ≡ ks) × HasTests ms covering

tests_marked : (history : Option Numbered) (ts : List (Tried RunRecord)) → map (λ (t : Tried Marked). t.test) (map (mark history) ts) ≡ map (λ (t : Tried RunRecord). t.test) ts
tests_marked history [] = refl
tests_marked history (t ∷ ts) = ap (λ l. t.test ∷ l) (tests_marked history ts)

pub has_marked : (history : Option Numbered) (ms : List (List (Tried RunRecord))) (covering : List (List ℕ)) → HasTests ms covering → HasTests (marked history ms) covering
has_marked history [] [] h = tt
has_marked history [] (ks ∷ covering) h = absurd h
has_marked history (ts ∷ ms) [] h = absurd h
has_marked history (ts ∷ ms) (ks ∷ covering) h = (tests_marked history ts ∙ h.0, has_marked history ms covering h.1)

has_tests : (p : List Info) (j : CellJob) (n : ℕ) (ms : List Mutant) (covering : List (List ℕ)) → length covering ≡ length ms → All (IsCovered p n) (zip ms covering) → HasTests (map (runs_on p j) (zip ms covering)) covering
has_tests p j n [] [] long h = tt
has_tests p j n [] (ks ∷ covering) long h = absurd (omega (arith, long))
has_tests p j n (m ∷ ms) [] long h = absurd (omega (arith, long))
has_tests p j n (m ∷ ms) (ks ∷ covering) long h =
    (tests_are p j n (m, ks) (h zero (m, ks) (omega arith)), has_tests p j n ms covering (omega (arith, long)) (λ k d lt. h (suc k) d (omega (arith, lt))))

mutants_of_one : (k : ℕ) (ts : List (Tried RunRecord)) → map mutant_at (map (cell_at k) ts) ≡ replicate (length ts) k
mutants_of_one k [] = refl
mutants_of_one k (t ∷ ts) = ap (λ l. k ∷ l) (mutants_of_one k ts)

tests_of_one : (k : ℕ) (ts : List (Tried RunRecord)) → map place_at (map (cell_at k) ts) ≡ map (λ (t : Tried RunRecord). t.test) ts
tests_of_one k [] = refl
tests_of_one k (t ∷ ts) = ap (λ l. t.test ∷ l) (tests_of_one k ts)

pub mutants_listed : (k : ℕ) (ms : List (List (Tried RunRecord))) (covering : List (List ℕ)) → HasTests ms covering → map mutant_at (cells_from k ms) ≡ mutants_from k covering
mutants_listed k [] [] h = refl
mutants_listed k [] (ks ∷ covering) h = absurd h
mutants_listed k (ts ∷ ms) [] h = absurd h
mutants_listed k (ts ∷ ms) (ks ∷ covering) h =
    map-append mutant_at (map (cell_at k) ts) (cells_from (suc k) ms)
    ∙ ap (λ l. l ++ map mutant_at (cells_from (suc k) ms)) (mutants_of_one k ts ∙ ap (λ n. replicate n k) (sym (long_map (λ (t : Tried RunRecord). t.test) ts) ∙ ap length h.0))
    ∙ ap (λ l. replicate (length ks) k ++ l) (mutants_listed (suc k) ms covering h.1)

pub tests_listed : (k : ℕ) (ms : List (List (Tried RunRecord))) (covering : List (List ℕ)) → HasTests ms covering → map place_at (cells_from k ms) ≡ flat covering
tests_listed k [] [] h = refl
tests_listed k [] (ks ∷ covering) h = absurd h
tests_listed k (ts ∷ ms) [] h = absurd h
tests_listed k (ts ∷ ms) (ks ∷ covering) h =
    map-append place_at (map (cell_at k) ts) (cells_from (suc k) ms)
    ∙ ap (λ l. l ++ map place_at (cells_from (suc k) ms)) (tests_of_one k ts ∙ h.0)
    ∙ ap (λ l. ks ++ l) (tests_listed (suc k) ms covering h.1)

pub long_tests : (ms : List (List (Tried RunRecord))) (covering : List (List ℕ)) → HasTests ms covering → length ms ≡ length covering
long_tests [] [] h = refl
long_tests [] (ks ∷ covering) h = absurd h
long_tests (ts ∷ ms) [] h = absurd h
long_tests (ts ∷ ms) (ks ∷ covering) h = ap suc (long_tests ms covering h.1)

-- The cells of a job, by its covering tests.
pub record AreCells (p : List Info) (j : CellJob) : Type 0 where
  pub mutants : map mutant_at (cells_of (cell_runs p j)) ≡ mutants_from 0 j.covering
  pub tests : map place_at (cells_of (cell_runs p j)) ≡ flat j.covering
  pub long : length (cell_runs p j) ≡ length j.covering
  pub has : HasTests (cell_runs p j) j.covering

pub are_cells : (p : List Info) (j : CellJob) → length j.covering ≡ length j.mutants → All (IsCovered p (length j.tests)) (zip j.mutants j.covering) → AreCells p j
unfolding cell_runs
are_cells p j long covered =
    let has = has_tests p j (length j.tests) j.mutants j.covering long covered in
    record {
      mutants = mutants_listed 0 (map (runs_on p j) (zip j.mutants j.covering)) j.covering has;
      tests = tests_listed 0 (map (runs_on p j) (zip j.mutants j.covering)) j.covering has;
      long = long_tests (map (runs_on p j) (zip j.mutants j.covering)) j.covering has;
      has = has;
    }
