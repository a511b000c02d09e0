-- All cells of a job, shared among workers.
use Rattle.std.proofs.Common.{◌≡◌, ◌∙◌, sym, refl, ap, subst, ℕ, zero, suc, ◌+◌, ◌*◌, ◌<◌, ◌≤◌, ◌^◌, Bool, List, All, length, arith}
use Rattle.std.specs.Prelude.{IfOk, Result, Ok, Err, Vec}
use Rattle.std.specs.declared.alloc.Global.{Global}
use Rattle.std.proofs.Math.Nat.{suc-mul}
use Rattle.class_model.specs.declared.memory.Memory.{Memory}
use Rattle.machine_laws.specs.Walks.{RunsKeepLimits}
use Rattle.class_link.specs.Info.{Info}
use Rattle.job_rules.specs.Gathered.{flat}
use Rattle.job_rules.specs.Tried.{cost_of_all}
use Rattle.suite_jobs.specs.Laws.{steps_of}
use Rattle.worker_gate.specs.Hands.{Runs}
use Rattle.worker_gate.specs.Sharing.{AreCellsOf, AreEndsOf, MayShare, Shared, SharedSo}
use Rattle.worker_gate.specs.declared.ends.JobCells.{JobCells}
use Rattle.suite_workers.specs.Cells.{AreListed}
use Rattle.suite_workers.specs.Jobs.{cell_runs, job_in, most_limit}
use Rattle.suite_workers.specs.Said.{CostsAtMost, MayRunCells, RunsCells}
use Rattle.suite_workers.specs.Saying.{RunEnd, SaysAll}
use Rattle.suite_workers.specs.Marks.{Marked, run_reading}
use Rattle.suite_workers.specs.Old.{history_of}
use Rattle.suite_workers.specs.Working.{runs_from}
use Rattle.suite_workers.specs.declared.said.CellsSaid.{CellsSaid}
use Rattle.suite_workers.specs.declared.setup.JobSetup.{JobSetup}
use Rattle.suite_workers.proofs.Marking.{costs_marked}
use Rattle.suite_workers.proofs.RunsAt.{are_cells}
use Rattle.suite_workers.proofs.Sayings.{costs_so, said_so}
use Rattle.suite_workers.proofs.Shared.{ascend_for, cells_for, cost_most}

-- ---- room on the meter

pub times_most : (n c m : ℕ) → c ≤ m → n * c ≤ n * m
times_most zero c m le = omega arith
times_most (suc n) c m le =
    let more = times_most n c m le in
    let one = suc-mul n c in
    let two = suc-mul n m in
    omega (arith, more, one, two, le)

pub once_most : (n c : ℕ) → 0 < n → c ≤ n * c
once_most zero c some = absurd (omega (arith, some))
once_most (suc n) c some = let one = suc-mul n c in omega (arith, one)

cost_case : (cells cost : ℕ) → cells ≤ 4194304 → cost ≤ cells * most_limit → cost ≤ 5243299430400000
cost_case cells cost few le = omega (arith, few, le)

room_case : (meter n cost : ℕ) → meter < 2 ^ 63 → n ≤ 64 → cost ≤ 5243299430400000 → meter + n * cost < 2 ^ 64
room_case meter n cost low few le = let all = times_most n cost 5243299430400000 le in omega (arith, low, few, all)

module _ (law : RunsKeepLimits) (p : List Info) (x : JobSetup) (workers meter : ℕ) (may : MayRunCells p x workers meter) where
  cost_low : cost_of_all steps_of (cell_runs p (job_in x)) ≤ 5243299430400000
  cost_low = cost_case (length (flat x.covering.now)) (cost_of_all steps_of (cell_runs p (job_in x))) may.fits.cells (cost_most law p (job_in x) may.fits may.can)

  -- What all cost is the same of marked runs.
  cost_is : cost_of_all run_reading.steps (runs_from p x) ≡ cost_of_all steps_of (cell_runs p (job_in x))
  cost_is = costs_marked (history_of x.look_ups.now) (cell_runs p (job_in x))

  pub may_share : (hands : List (Runs Marked)) (cells : JobCells) → length hands ≡ workers → All (λ w. w ≡ runs_from p x) hands → AreListed x.covering.now x.all cells → MayShare run_reading (λ w. w) cells hands meter
  may_share hands cells long each listed =
      let some = may.some in
      let few : length hands ≤ 64 = subst (λ n. n ≤ 64) (sym long) may.few in
      record {
        some = omega (arith, some, long);
        few = omega (arith, few);
        job = runs_from p x;
        each = each;
        of = cells_for law p (job_in x) may.fits may.can (history_of x.look_ups.now) x.all cells listed;
        room = room_case meter (length hands) (cost_of_all run_reading.steps (runs_from p x)) may.meter_is few (subst (λ n. n ≤ 5243299430400000) (sym cost_is) cost_low);
      }

  -- ---- what is answered

  module _ (hands : List (Runs Marked)) (cells : JobCells) (long : length hands ≡ workers) (each : All (λ w. w ≡ runs_from p x) hands) (listed : AreListed x.covering.now x.all cells) (after : ℕ) where
    shared_so : (result : Result (Vec RunEnd Global) Memory) → Shared run_reading (λ (w : Runs Marked). w) cells hands meter after result → SharedSo run_reading x.all workers (runs_from p x) meter after result
    shared_so result s =
        subst (λ n. SharedSo run_reading x.all n (runs_from p x) meter after result) long
        (subst (λ b. SharedSo run_reading b (length hands) (runs_from p x) meter after result) listed.all_is
        (s.shared (runs_from p x) each))

    pub no_ends : (memory : Memory) → Shared run_reading (λ (w : Runs Marked). w) cells hands meter after (Err memory) → RunsCells p x workers meter after (Err memory)
    no_ends memory s =
        let so = shared_so (Err memory) s in
        record { from = so.from; most = subst (λ n. after ≤ meter + workers * n) cost_is so.within }

    said_case : (es : List RunEnd) (result : Result CellsSaid Memory) → AreEndsOf run_reading x.all workers (runs_from p x) meter after es → IfOk result (SaysAll x.all x.covering.now es) → RunsCells p x workers meter after result
    said_case es (Ok said) are says =
        let history = history_of x.look_ups.now in
        let runs = cell_runs p (job_in x) in
        let cells_are = are_cells p (job_in x) may.can.long may.can.covered in
        (said_so x.all workers history runs meter after es are x.covering.now said cells_are.has (ascend_for law p (job_in x) may.fits may.can) says, costs_so x.all workers history runs meter after es are)
    said_case es (Err memory) are says =
        let costs = costs_so x.all workers (history_of x.look_ups.now) (cell_runs p (job_in x)) meter after es are in
        let is = costs.meter in
        let most = costs.most in
        let once = once_most workers (cost_of_all steps_of (cell_runs p (job_in x))) may.some in
        record { from = omega (arith, is); most = omega (arith, is, most, once) }

    pub all_said : (ends : Vec RunEnd Global) (result : Result CellsSaid Memory) → Shared run_reading (λ (w : Runs Marked). w) cells hands meter after (Ok ends) → IfOk result (SaysAll x.all x.covering.now ends.items) → RunsCells p x workers meter after result
    all_said ends result s says = said_case ends.items result (shared_so (Ok ends) s) says
