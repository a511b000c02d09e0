-- One cell more, and what is left.
use Rattle.std.proofs.Common.{◌≡◌, ◌≢◌, ◌⊎◌, ℕ, zero, suc, ◌+◌, ◌-◌, ◌<◌, ◌≤◌, List, [], ◌∷◌, ◌++◌, Bool, true, false, ◌||◌, map, length, refl, sym, ap, ap₂, ◌∙◌, subst, arith, Option, Some, Result, Ok, Err, is_some, All, AllPairs, slice_get, slice_index, slice_index_or, ⊎_elim, true≢false, append_assoc, append-nil, length-append, nat_le, leb-true, if◌then◌else◌}
use Rattle.std.proofs.lemmas.List.{map-append}
use Rattle.std.proofs.lemmas.List.Folds.{list_any-append}
use Rattle.std.proofs.lemmas.Option.{slice_get-get_or, slice_get_within, get_or_from_slice_get}
use Rattle.std.specs.List.{list_any}
use Rattle.atomic_table.specs.Seated.{TableId}
use Rattle.claim_core.specs.declared.events.ClaimEntry.{ClaimEntry}
use Rattle.claim_core.specs.declared.events.ClaimEntry.TheVariants.{Claimed, Looked, Detected}
use Rattle.claim_core.specs.Agreement.{Ascends}
use Rattle.claim_core.specs.Claims.{is_exhausted, is_past, no_place}
use Rattle.claim_core.specs.Ending.{Cell}
use Rattle.job_rules.specs.Tried.{Tried, cost_of_all}
use Rattle.job_rules.specs.Ended.{cost_of_end, cost_of_ends, say_end}
use Rattle.job_rules.specs.Worked.{Work, IsWorkOf, numbered, did, all_did, detection, cells_of, cell_at, runs_in}
use Rattle.job_laws.proofs.Placed.{Nth, get_map, long_cells, nth_cell, nth_exists, nth_is}
use Rattle.mutant_table.specs.Entries.{ListAgrees, RanOut}
use Rattle.mutant_table.specs.Seats.{IsSeatAt, entries_of}
use Rattle.mutant_table.specs.declared.rule.Sizes.{Sizes}
use Rattle.class_model.specs.declared.memory.Memory.{Memory}
use Rattle.mt_edge.specs.declared.outside.EdgeFault.TheVariants.{Memory as Wanting}
use Rattle.worker_gate.specs.Hands.{Reading, Runs, IsRunOf, IsCellOf, AtMost}
use Rattle.worker_gate.specs.Ends.{IsPlanOf, StandsFor, Begun, Working, Left, Wants, Turned, IsSameWorker, DidCell, cell_of, ends_in, ends_alone, mutant_at, number_drawn, numbered_of, test_at}
use Rattle.worker_gate.specs.declared.ends.Job.{Job}
use Rattle.worker_gate.specs.declared.ends.Plan.{Plan}
use Rattle.worker_gate.specs.declared.ends.WorkEnd.{WorkEnd}
use Rattle.worker_gate.proofs.Costs.{cost_ends-push, most_more}

-- ---- lists

long_map : {X Y : Type 0} (f : X → Y) (xs : List X) → length (map f xs) ≡ length xs
long_map f [] = refl
long_map f (x ∷ xs) = ap suc (long_map f xs)

pub all_push : {X : Type 0} (P : X → Type 0) (xs : List X) (x : X) → All P xs → P x → All P (xs ++ x ∷ [])
all_push P [] x h p zero d lt = p
all_push P [] x h p (suc k) d lt = absurd (omega arith)
all_push P (y ∷ xs) x h p zero d lt = h zero d (omega arith)
all_push P (y ∷ xs) x h p (suc k) d lt = all_push P xs x (λ i e l. h (suc i) e (omega arith)) p k d (omega arith)

all_did-push : {Rec S : Type 0} (say : Rec → Option S) (ws : List (Work Rec)) (w : Work Rec) → all_did say (ws ++ w ∷ []) ≡ all_did say ws ++ did say w
all_did-push say [] w = append-nil (did say w)
all_did-push say (v ∷ ws) w = ap (λ l. did say v ++ l) (all_did-push say ws w) ∙ sym (append_assoc (did say v) (all_did say ws) (did say w))

-- ---- the plan

-- the cell for which a drawn number stands, with its run
pub record PlanCell {Rec : Type 0} (z : Sizes) (ms : Runs Rec) (plan : Plan) (n : ℕ) : Type 0 where
  pub run : Tried Rec
  pub run_is : slice_get (runs_in ms) n ≡ Some run
  pub cell_is : slice_get (cells_of ms) n ≡ Some (cell_of (slice_index plan.mutants n) (slice_index plan.tests n))
  pub of : IsRunOf ms (slice_index plan.mutants n) (slice_index plan.tests n) run
  pub few : slice_index plan.mutants n < z.mutants
  pub place : slice_index plan.tests n < no_place

pub order_at : {M F Rec S : Type 0} (r : Reading M F Rec S) (z : Sizes) (ms : Runs Rec) (plan : Plan) → IsPlanOf r z ms plan → (d : ℕ) → d < z.cells → (slice_get plan.order d ≡ Some (number_drawn plan d)) × (number_drawn plan d < length (cells_of ms))
order_at r z ms plan h d lt =
    let long = h.order.count in
    let cells = h.cells in
    let at = slice_get-get_or plan.order d 0 (omega (arith, lt, long, cells)) in
    (at, h.order.within d (number_drawn plan d) at)

pub stands_for : {M F Rec S : Type 0} (r : Reading M F Rec S) (z : Sizes) (ms : Runs Rec) (plan : Plan) → IsPlanOf r z ms plan → (d : ℕ) → d < z.cells → StandsFor plan d
stands_for r z ms plan h d lt =
    let at = order_at r z ms plan h d lt in
    let within = at.1 in
    let count = h.order.count in
    let cells = h.cells in
    let m = ap length h.mutants in let lm = long_map mutant_at (cells_of ms) in
    let t = ap length h.tests in let tm = long_map test_at (cells_of ms) in
    record {
      order = omega (arith, lt, count, cells);
      mutants = omega (arith, within, m, lm);
      tests = omega (arith, within, t, tm);
    }

pub plan_cell : {M F Rec S : Type 0} (r : Reading M F Rec S) (z : Sizes) (ms : Runs Rec) (plan : Plan) → IsPlanOf r z ms plan → (n : ℕ) → n < length (cells_of ms) → PlanCell z ms plan n
plan_cell r z ms plan h n lt =
    let long = long_cells 0 ms in
    let some = get_some (runs_in ms) n (omega (arith, lt, long)) in
    let t = some.0 in
    let nth = nth_exists ms n t some.1 in
    let k = nth.0 in
    let cell = nth_cell 0 ms k n t nth.1 in
    let zk : 0 + k ≡ k = omega arith in
    let in_list = nth_is ms k n t nth.1 in
    let within : k < length ms = within_of ms k n t nth.1 in
    let mutant : slice_index plan.mutants n ≡ 0 + k = ap (λ l. slice_index l n) h.mutants ∙ get_or_from_slice_get (map mutant_at (cells_of ms)) n (0 + k) 0 (get_map mutant_at (cells_of ms) n (cell_at (0 + k) t) cell) in
    let test : slice_index plan.tests n ≡ t.test = ap (λ l. slice_index l n) h.tests ∙ get_or_from_slice_get (map test_at (cells_of ms)) n t.test 0 (get_map test_at (cells_of ms) n (cell_at (0 + k) t) cell) in
    let few = h.few in
    record {
      run = t;
      run_is = some.1;
      cell_is = cell ∙ ap₂ (λ a b. Some (cell_of a b)) (sym mutant) (sym test);
      of = record { place = in_list.0; stands = ap (λ i. slice_get (slice_index_or ms i []) in_list.0) (mutant ∙ zk) ∙ in_list.1; test_is = sym test };
      few = omega (arith, mutant, zk, within, few);
      place =
          let small = h.places n (cell_at (0 + k) t) lt in
          let got = ap (λ (c : Cell). c.place) (get_or_from_slice_get (cells_of ms) n (cell_at (0 + k) t) (cell_at (0 + k) t) cell) in
          omega (arith, small, got, test);
    }
  where
    get_some : {X : Type 0} (xs : List X) (n : ℕ) → n < length xs → (x : X) × (slice_get xs n ≡ Some x)
    get_some [] n lt = absurd (omega arith)
    get_some (x ∷ xs) zero lt = (x, refl)
    get_some (x ∷ xs) (suc n) lt = get_some xs n (omega arith)

    within_of : {X : Type 0} (ms : Runs X) (k n : ℕ) (t : Tried X) → Nth ms k n t → k < length ms
    within_of [] k n t h = absurd h
    within_of (ts ∷ ms) zero n t h = omega arith
    within_of (ts ∷ ms) (suc k) n t h = let more = within_of ms k (n - length ts) t h.1 in omega (arith, more)

pub has_cell : {M F Rec S : Type 0} (r : Reading M F Rec S) (z : Sizes) (ms : Runs Rec) (plan : Plan) → IsPlanOf r z ms plan → (n : ℕ) → n < length (cells_of ms) → IsCellOf ms (slice_index plan.mutants n) (slice_index plan.tests n)
has_cell r z ms plan h n lt = let p = plan_cell r z ms plan h n lt in record { run = p.run; is = p.of }

-- ---- a worker that isn't past the cells

past_did : {Rec S : Type 0} (say : Rec → Option S) (cells : ℕ) (w : Work Rec) → w.drawn < cells → list_any (is_past cells) (did say w) ≡ false
past_did say cells w lt = by_case (nat_le cells w.drawn) refl (is_some (say_end say w.end))
  where
    by_case : (b : Bool) → nat_le cells w.drawn ≡ b → (d : Bool) → list_any (is_past cells) (Claimed w.drawn ∷ Looked w.cell.mutant w.seen ∷ (if d then Detected w.cell.mutant w.cell.place ∷ [] else [])) ≡ false
    by_case true is d = let le = leb-true cells w.drawn is in absurd (omega (arith, le, lt))
    by_case false is true = ap (λ b. b || false) is
    by_case false is false = ap (λ b. b || false) is

not_past : {Rec S : Type 0} (say : Rec → Option S) (all : Bool) (ms : Runs Rec) (order : List ℕ) (cells : ℕ) (ws : List (Work Rec)) → cells ≡ length order → All (IsWorkOf all ms order) ws → is_exhausted cells (all_did say ws) ≡ false
not_past say all ms order cells [] count each = refl
not_past say all ms order cells (w ∷ ws) count each =
    let one : IsWorkOf all ms order w = each zero w (omega arith) in
    let within = slice_get_within order w.drawn w.number one.drew in
    list_any-append (is_past cells) (did say w) (all_did say ws)
    ∙ ap₂ (λ a b. a || b) (past_did say cells w (omega (arith, within, count))) (not_past say all ms order cells ws count (λ k d lt. each (suc k) d (omega arith)))

-- ---- the beginning and the end

module _ {C M F Rec S : Type 0} (r : Reading M F Rec S) (table : TableId) (z : Sizes) (plan : Plan) (ms : Runs Rec) where
  pub begins : (e : WorkEnd C M F) → Begun table z e → Working r table z plan ms e
  begins e h =
      let none : ends_in r e ≡ [] = ap (map (numbered_of r)) h.none in
      let part = h.part in
      record {
        seat = h.seat;
        works = [];
        ends = none;
        each = λ k d lt. absurd (omega arith);
        noted = h.idle;
        counted = part ∙ sym (ap (λ l. cost_of_ends r.steps (map (λ p. p.1) l)) none);
        most = omega (arith, part);
        fault = λ is. absurd (let f = h.fault in cc);
      }

  -- no cell was left
  pub leaves : (old new : WorkEnd C M F) → IsPlanOf r z ms plan → Working r table z plan ms old → IsSeatAt table z new.job.seat → RanOut z.cells (entries_of old.job.seat) (entries_of new.job.seat) → new.cells ≡ old.cells → new.job.part ≡ old.job.part → Left r table z plan.all plan.order ms new
  leaves old new h w seat out cells part =
      let last : (n : ℕ) × (z.cells ≤ n) × (entries_of new.job.seat ≡ entries_of old.job.seat ++ Claimed n ∷ []) = ⊎_elim
      (λ stays. absurd (true≢false (sym stays.0 ∙ ap (is_exhausted z.cells) w.noted ∙ not_past r.say plan.all ms plan.order z.cells w.works (h.cells ∙ sym h.order.count) w.each)))
      (λ drew. drew)
      out in
      record {
        seat = seat;
        most = let m = w.most in omega (arith, m, part);
        did = λ f. (
          record {
            works = w.works;
            last = last.0;
            past = last.1;
            ends_are = ap (λ c. map (numbered_of r) c.items) cells ∙ w.ends;
            each = w.each;
            noted = last.2 ∙ ap (λ l. l ++ Claimed last.0 ∷ []) w.noted;
          },
          part ∙ w.counted ∙ ap (λ c. cost_of_ends r.steps (map (λ p. p.1) (map (numbered_of r) c.items))) (sym cells),
        );
      }

  -- ---- one cell more

  -- with the cell that is drawn, a part is at most what all runs cost
  part_more : (old : WorkEnd C M F) (d before after : ℕ) → IsPlanOf r z ms plan → Working r table z plan ms old → d < z.cells → ListAgrees z.cells (entries_of old.job.seat ++ Claimed d ∷ []) → before ≡ old.job.part → AtMost r ms (slice_index plan.mutants (number_drawn plan d)) (slice_index plan.tests (number_drawn plan d)) before after → after ≤ cost_of_all r.steps ms
  part_more old d before after h w lt agrees part most =
      let n = number_drawn plan d in
      let at = order_at r z ms plan h d lt in
      let p = plan_cell r z ms plan h n at.1 in
      let pairs = subst (λ l. AllPairs (Ascends z.cells) (l ++ Claimed d ∷ [])) w.noted agrees.ascends in
      let sum = most_more r.say r.steps plan.all ms plan.order z.cells w.works d n p.run h.order w.each pairs at.0 p.run_is in
      let counted = w.counted in
      let ends = ap (λ l. cost_of_ends r.steps (map (λ p. p.1) l)) w.ends in
      let cost = most.most p.run p.of in
      omega (arith, sum, counted, ends, cost, part)

  pub does_more : (old mid new : WorkEnd C M F) (d : ℕ) → IsPlanOf r z ms plan → Working r table z plan ms old → d < z.cells
      → entries_of mid.job.seat ≡ entries_of old.job.seat ++ Claimed d ∷ [] → ListAgrees z.cells (entries_of old.job.seat ++ Claimed d ∷ [])
      → mid.cells ≡ old.cells → mid.job.part ≡ old.job.part → IsSeatAt table z new.job.seat
      → DidCell r plan.all ms (number_drawn plan d) (slice_index plan.mutants (number_drawn plan d)) (slice_index plan.tests (number_drawn plan d)) mid new
      → AtMost r ms (slice_index plan.mutants (number_drawn plan d)) (slice_index plan.tests (number_drawn plan d)) mid.job.part new.job.part
      → new.fault ≢ Some Wanting → Working r table z plan ms new
  does_more old mid new d h w lt drew agrees cells part seat more most fault =
      let n = number_drawn plan d in
      let m = slice_index plan.mutants n in
      let at = order_at r z ms plan h d lt in
      let p = plan_cell r z ms plan h n at.1 in
      let work : Work Rec = record { drawn = d; number = n; cell = cell_of m (slice_index plan.tests n); run = p.run; seen = more.seen; end = more.end } in
      let ends : ends_in r new ≡ ends_in r old ++ (n, more.end) ∷ [] = more.cells ∙ ap (λ c. map (numbered_of r) c.items ++ (n, more.end) ∷ []) cells in
      record {
        seat = seat;
        works = w.works ++ work ∷ [];
        ends = ends ∙ ap (λ l. l ++ (n, more.end) ∷ []) w.ends ∙ sym (map-append numbered w.works (work ∷ []));
        each = all_push (IsWorkOf plan.all ms plan.order) w.works work w.each (record { drew = at.0; cell = p.cell_is; run = p.run_is; ended = more.ended p.run p.of });
        noted = more.noted ∙ ap (λ l. l ++ Looked m more.seen ∷ detection r.say work.cell more.end) (drew ∙ ap (λ l. l ++ Claimed d ∷ []) w.noted)
            ∙ append_assoc (all_did r.say w.works) (Claimed d ∷ []) (Looked m more.seen ∷ detection r.say work.cell more.end)
            ∙ sym (all_did-push r.say w.works work);
        counted = more.counted ∙ ap (λ a. a + cost_of_end r.steps more.end) (part ∙ w.counted)
            ∙ sym (cost_ends-push r.steps (ends_alone r old) more.end)
            ∙ ap (cost_of_ends r.steps) (sym (map-append (λ p. p.1) (ends_in r old) ((n, more.end) ∷ [])) ∙ ap (map (λ p. p.1)) (sym ends));
        most = part_more old d mid.job.part new.job.part h w lt agrees part most;
        fault = fault;
      }

  -- memory ran out in a cell
  pub wants_in : (old mid new : WorkEnd C M F) (d : ℕ) → IsPlanOf r z ms plan → Working r table z plan ms old → d < z.cells
      → ListAgrees z.cells (entries_of old.job.seat ++ Claimed d ∷ []) → mid.job.part ≡ old.job.part → IsSeatAt table z new.job.seat
      → AtMost r ms (slice_index plan.mutants (number_drawn plan d)) (slice_index plan.tests (number_drawn plan d)) mid.job.part new.job.part → Wants r table z ms new
  wants_in old mid new d h w lt agrees part seat most = record {
    seat = seat;
    most = part_more old d mid.job.part new.job.part h w lt agrees part most;
  }

  -- ---- turns

  pub turned_more : (e : WorkEnd C M F) (t : Result Bool Memory) (b : Bool) → t ≡ Ok b → b ≡ true → Turned r table z plan ms e t → Working r table z plan ms e
  turned_more e t b is yes_ turned = subst (λ x. Turned r table z plan ms e (Ok x)) yes_ (subst (Turned r table z plan ms e) is turned)

  pub turned_left : (e : WorkEnd C M F) (t : Result Bool Memory) (b : Bool) → t ≡ Ok b → b ≡ false → Turned r table z plan ms e t → Left r table z plan.all plan.order ms e
  turned_left e t b is no_ turned = subst (λ x. Turned r table z plan ms e (Ok x)) no_ (subst (Turned r table z plan ms e) is turned)

  pub turned_wants : (e : WorkEnd C M F) (t : Result Bool Memory) (m : Memory) → t ≡ Err m → Turned r table z plan ms e t → Wants r table z ms e
  turned_wants e t m is turned = subst (Turned r table z plan ms e) is turned

  -- it is noted that memory ran out
  pub noted_wants : (e new : WorkEnd C M F) → new.job ≡ e.job → new.fault ≡ Some Wanting → Wants r table z ms e → Left r table z plan.all plan.order ms new
  noted_wants e new job fault w = record {
    seat = subst (λ (j : Job _). IsSeatAt table z j.seat) (sym job) w.seat;
    most = subst (λ (j : Job _). j.part ≤ cost_of_all r.steps ms) (sym job) w.most;
    did = λ none. absurd (none fault);
  }

  pub working_wants : (e : WorkEnd C M F) → Working r table z plan ms e → Wants r table z ms e
  working_wants e w = record { seat = w.seat; most = w.most }

-- a list that grew didn't stay
pub grew_agrees : (cells : ℕ) (n : ℕ) (old new : List ClaimEntry) → new ≡ old ++ Claimed n ∷ [] → (new ≡ old) ⊎ ListAgrees cells new → ListAgrees cells (old ++ Claimed n ∷ [])
grew_agrees cells n old new drew s = ⊎_elim
    (λ same. let l = length-append old (Claimed n ∷ []) in let e : length old ≡ length (old ++ Claimed n ∷ []) = ap length (sym same ∙ drew) in absurd (omega (arith, l, e)))
    (λ agrees. subst (ListAgrees cells) drew agrees)
    s

pub same_more : {C M F : Type 0} (a b c : WorkEnd C M F) → IsSameWorker a b → IsSameWorker b c → IsSameWorker a c
same_more a b c x y = record { place = y.place ∙ x.place; worker = y.worker ∙ x.worker }
