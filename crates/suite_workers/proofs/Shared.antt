-- The cells of a job may be shared among workers.
use Rattle.std.proofs.Common.{◌≡◌, ◌∙◌, sym, refl, ap, subst, ℕ, zero, suc, ◌+◌, ◌*◌, ◌<◌, ◌≤◌, ◌^◌, Bool, true, false, List, [], ◌∷◌, ◌++◌, Option, None, Some, All, length, map, slice_get, slice_index, slice_index_or, arith, length-append}
use Rattle.std.specs.Prelude.{AllPairs, Contains, is_some, if◌then◌else◌, zip}
use Rattle.std.specs.Option.{option_map_or}
use Rattle.std.proofs.Math.Nat.{suc-mul}
use Rattle.claim_core.specs.Claims.{no_place}
use Rattle.claim_core.specs.Ending.{Cell}
use Rattle.class_model.specs.declared.class.Class.{Class}
use Rattle.machine_rules.specs.Runs.{run_of}
use Rattle.machine_laws.specs.Walks.{RunsKeepLimits}
use Rattle.class_link.specs.Info.{Info}
use Rattle.mutator_ops.specs.declared.mutant.Mutant.{Mutant}
use Rattle.history_file.specs.Rows.{Numbered}
use Rattle.record_rules.specs.declared.record.RunRecord.{RunRecord}
use Rattle.job_rules.specs.Gathered.{flat}
use Rattle.job_rules.specs.Tried.{Ascend, Tried, cost_of, cost_of_all, cost_of_run}
use Rattle.job_rules.specs.Worked.{cells_of}
use Rattle.suite_jobs.specs.Jobs.{viable_file}
use Rattle.suite_jobs.specs.Laws.{steps_of}
use Rattle.worker_gate.specs.Ends.{mutant_at, test_at as place_at}
use Rattle.worker_gate.specs.Hands.{Runs}
use Rattle.worker_gate.specs.Sharing.{AreCellsOf}
use Rattle.worker_gate.specs.declared.ends.JobCells.{JobCells}
use Rattle.suite_workers.specs.Cells.{AreListed}
use Rattle.suite_workers.specs.Jobs.{CanRun, CellJob, FitsNumbers, IsCovered, asked_of, cell_run, cell_runs, runs_on, most_limit}
use Rattle.suite_workers.specs.Marks.{mark, marked, run_reading}
use Rattle.suite_workers.proofs.Lists.{all_joined, at_map, bound_at, long_map}
use Rattle.suite_workers.proofs.Marking.{all_ascend_marked, cells_marked, costs_marked}
use Rattle.suite_workers.proofs.RunsAt.{AreCells, HasTests, are_cells}

-- ---- covering tests

-- A fact of each mutant with its tests is one of each list of tests.
each_tests : (P : Mutant × List ℕ → Type 0) (Q : List ℕ → Type 0) → ((m : Mutant × List ℕ) → P m → Q m.1) → (ms : List Mutant) (covering : List (List ℕ)) → length covering ≡ length ms → All P (zip ms covering) → All Q covering
each_tests P Q f [] [] long h k d lt = absurd (omega (arith, lt))
each_tests P Q f [] (ks ∷ covering) long h k d lt = absurd (omega (arith, long))
each_tests P Q f (m ∷ ms) [] long h k d lt = absurd (omega (arith, lt))
each_tests P Q f (m ∷ ms) (ks ∷ covering) long h zero d lt = f (m, ks) (h zero (m, ks) (omega arith))
each_tests P Q f (m ∷ ms) (ks ∷ covering) long h (suc k) d lt = each_tests P Q f ms covering (omega (arith, long)) (λ i x l. h (suc i) x (omega (arith, l))) k d (omega (arith, lt))

all_flat : {X : Type 0} (P : X → Type 0) (lists : List (List X)) → All (All P) lists → All P (flat lists)
all_flat P [] h k d lt = absurd (omega (arith, lt))
all_flat P (xs ∷ lists) h k d lt = all_joined P xs (flat lists) (h zero xs (omega arith)) (all_flat P lists (λ i e l. h (suc i) e (omega (arith, l)))) k d lt

-- ---- what cells are asked

ascend_of : (ts : List (Tried RunRecord)) (ks : List ℕ) → map (λ (t : Tried RunRecord). t.test) ts ≡ ks → AllPairs ◌<◌ ks → Ascend ts
ascend_of ts ks is h = λ i j d lt within.
    let test : Tried RunRecord → ℕ = λ t. t.test in
    let long = long_map test ts in
    let same = ap length is in
    let one : (slice_index_or ts i d).test ≡ slice_index_or ks i d.test = at_map test ts i d (omega (arith, lt, within)) ∙ ap (λ l. slice_index_or l i d.test) is in
    let two : (slice_index_or ts j d).test ≡ slice_index_or ks j d.test = at_map test ts j d within ∙ ap (λ l. slice_index_or l j d.test) is in
    let less = h i j d.test lt (omega (arith, within, long, same)) in
    omega (arith, one, two, less)

pub all_ascend : (ms : List (List (Tried RunRecord))) (covering : List (List ℕ)) → HasTests ms covering → All (AllPairs ◌<◌) covering → All Ascend ms
all_ascend [] [] has h k d lt = absurd (omega (arith, lt))
all_ascend [] (ks ∷ covering) has h k d lt = absurd has
all_ascend (ts ∷ ms) [] has h k d lt = absurd has
all_ascend (ts ∷ ms) (ks ∷ covering) has h zero d lt = ascend_of ts ks has.0 (h zero ks (omega arith))
all_ascend (ts ∷ ms) (ks ∷ covering) has h (suc k) d lt = all_ascend ms covering has.1 (λ i e l. h (suc i) e (omega (arith, l))) k d (omega (arith, lt))

pub places_of : (cells : List Cell) (n : ℕ) → n ≤ 65535 → All (λ k. k < n) (map place_at cells) → All (λ cell. cell.place < no_place) cells
places_of cells n few h = λ k d lt.
    let long = long_map place_at cells in
    let is = at_map place_at cells k d lt in
    let less = h k d.place (omega (arith, lt, long)) in
    omega (arith, is, less, few)

-- ---- what runs cost

cost_case : (found : Option RunRecord) (steps most : ℕ) → steps ≤ most → (if is_some found then 0 else steps) ≤ most
cost_case None steps most le = le
cost_case (Some r) steps most le = omega arith

pub cost_within : (most : ℕ) (ts : List (Tried RunRecord)) → All (λ (t : Tried RunRecord). t.made.steps ≤ most) ts → cost_of steps_of ts ≤ length ts * most
cost_within most [] h = omega arith
cost_within most (t ∷ ts) h =
    let one = cost_case t.found t.made.steps most (h zero t (omega arith)) in
    let more = cost_within most ts (λ k d lt. h (suc k) d (omega (arith, lt))) in
    let times = suc-mul (length ts) most in
    omega (arith, one, more, times)

mul_both : (a b n : ℕ) → (a + b) * n ≡ a * n + b * n
mul_both a b n = omega arith

costs_within : (most : ℕ) (ms : List (List (Tried RunRecord))) (covering : List (List ℕ)) → HasTests ms covering → All (All (λ (t : Tried RunRecord). t.made.steps ≤ most)) ms → cost_of_all steps_of ms ≤ length (flat covering) * most
costs_within most [] [] has h = omega arith
costs_within most [] (ks ∷ covering) has h = absurd has
costs_within most (ts ∷ ms) [] has h = absurd has
costs_within most (ts ∷ ms) (ks ∷ covering) has h =
    let one = cost_within most ts (h zero ts (omega arith)) in
    let more = costs_within most ms covering has.1 (λ k d lt. h (suc k) d (omega (arith, lt))) in
    let long : length ts ≡ length ks = sym (long_map (λ (t : Tried RunRecord). t.test) ts) ∙ ap length has.0 in
    let one_is : cost_of steps_of ts ≤ length ks * most = subst (λ n. cost_of steps_of ts ≤ n * most) long one in
    let both : length (ks ++ flat covering) * most ≡ length ks * most + length (flat covering) * most = ap (λ n. n * most) (length-append ks (flat covering)) ∙ mul_both (length ks) (length (flat covering)) most in
    omega (arith, one_is, more, both)

module _ (law : RunsKeepLimits) (p : List Info) (j : CellJob) (fits : FitsNumbers j) where
  run_most : (made : Class × List ℕ) (k : ℕ) → (cell_run p j made k).made.steps ≤ most_limit
  run_most made k =
      let x = asked_of p j made k in
      let run = (law x.look x.test x.limits x.limit).0 in
      let bound = bound_at most_limit j.bounds k fits.bounds in
      omega (arith, run, bound)

  runs_case : (m : Mutant × List ℕ) (o : Option (Class × List ℕ)) → All (λ (t : Tried RunRecord). t.made.steps ≤ most_limit) (option_map_or (λ made. map (cell_run p j made) m.1) o [])
  runs_case m None k d lt = absurd (omega (arith, lt))
  runs_case m (Some made) k d lt = each m.1 k d lt
    where
      each : (ks : List ℕ) → All (λ (t : Tried RunRecord). t.made.steps ≤ most_limit) (map (cell_run p j made) ks)
      each [] k d lt = absurd (omega (arith, lt))
      each (x ∷ ks) zero d lt = run_most made x
      each (x ∷ ks) (suc k) d lt = each ks k d (omega (arith, lt))

  all_most : (ms : List (Mutant × List ℕ)) → All (All (λ (t : Tried RunRecord). t.made.steps ≤ most_limit)) (map (runs_on p j) ms)
  all_most [] k d lt = absurd (omega (arith, lt))
  all_most (m ∷ ms) zero d lt = runs_case m (viable_file p m.0)
  all_most (m ∷ ms) (suc k) d lt = all_most ms k d (omega (arith, lt))

  pub cost_most : CanRun p j → cost_of_all steps_of (cell_runs p j) ≤ length (flat j.covering) * most_limit
  unfolding cell_runs
  cost_most can =
      let cells = are_cells p j can.long can.covered in
      costs_within most_limit (cell_runs p j) j.covering cells.has (all_most (zip j.mutants j.covering))

  pub ascend_for : CanRun p j → All Ascend (cell_runs p j)
  ascend_for can =
      let are = are_cells p j can.long can.covered in
      all_ascend (cell_runs p j) j.covering are.has (each_tests (IsCovered p (length j.tests)) (AllPairs ◌<◌) (λ m c. c.ascend) j.mutants j.covering can.long can.covered)

  pub cells_for : CanRun p j → (history : Option Numbered) (all : Bool) (cells : JobCells) → AreListed j.covering all cells → AreCellsOf run_reading (marked history (cell_runs p j)) cells
  cells_for can history all cells listed =
      let are = are_cells p j can.long can.covered in
      let same = cells_marked history (cell_runs p j) in
      let long_same = ap length same in
      let long_marked = long_map (map (mark history)) (cell_runs p j) in
      let long_cells = long_map place_at (cells_of (cell_runs p j)) in
      let flat_long = ap length are.tests in
      let few_cells = fits.cells in let few_mutants = fits.mutants in
      let long = are.long in let of = can.long in
      let cost = cost_most can in
      let numbers = all_flat (λ k. k < length j.tests) j.covering (each_tests (IsCovered p (length j.tests)) (All (λ k. k < length j.tests)) (λ m c. c.numbers) j.mutants j.covering can.long can.covered) in
      record {
        mutants = listed.mutants ∙ sym are.mutants ∙ ap (map mutant_at) (sym same);
        tests = listed.tests ∙ sym are.tests ∙ ap (map place_at) (sym same);
        count = listed.count ∙ sym are.long ∙ sym long_marked;
        few = omega (arith, long_marked, long, of, few_mutants);
        fit = omega (arith, long_same, long_cells, flat_long, few_cells);
        ascend = all_ascend_marked history (cell_runs p j) (ascend_for can);
        places = subst (All (λ cell. cell.place < no_place)) (sym same) (places_of (cells_of (cell_runs p j)) (length j.tests) fits.tests (subst (All (λ k. k < length j.tests)) (sym are.tests) numbers));
        room = subst (λ n. n < 2 ^ 63) (sym (costs_marked history (cell_runs p j))) (room_of (length (flat j.covering)) (cost_of_all steps_of (cell_runs p j)) few_cells cost);
      }
    where
      room_of : (n cost : ℕ) → n ≤ 4194304 → cost ≤ n * most_limit → cost < 2 ^ 63
      room_of n cost few le = omega (arith, few, le)
