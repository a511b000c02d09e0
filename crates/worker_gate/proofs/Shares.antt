-- Cells that are shared among hands.
use Rattle.std.proofs.Common.{◌≡◌, ℕ, zero, suc, ◌+◌, ◌*◌, ◌<◌, ◌≤◌, ◌^◌, List, [], ◌∷◌, ◌++◌, map, length, reverse, refl, sym, ap, ◌∙◌, subst, arith, Option, Some, None, Ok, Err, All, Vec, slice_get, slice_index_or, append_assoc}
use Rattle.std.proofs.lemmas.List.{map-append}
use Rattle.std.specs.Option.{option_map}
use Rattle.std.specs.declared.alloc.Global.{Global}
use mathlib.Core.List.{reverse_aux}
use Rattle.atomic_table.specs.Seated.{TableId}
use Rattle.claim_core.specs.Ending.{Cell}
use Rattle.class_model.specs.declared.memory.Memory.{Memory}
use Rattle.job_rules.specs.Tried.{Tried, cost_of_all}
use Rattle.job_rules.specs.Ended.{AreAllEnds}
use Rattle.job_rules.specs.Worked.{cell_at, cells_from, cells_of, parted}
use Rattle.mutant_table.specs.Seats.{AreSeatsAt, IsSeatAt, entries_of, worker_of}
use Rattle.mutant_table.specs.declared.rule.Sizes.{Sizes}
use Rattle.mutant_table.specs.declared.seat.ClaimSeat.{ClaimSeat}
use Rattle.worker_gate.specs.Ends.{ended_of, mutant_at, IsPlanOf}
use Rattle.worker_gate.specs.Exact.{IsExact}
use Rattle.worker_gate.specs.Hands.{Reading, Runs}
use Rattle.worker_gate.specs.Leaving.{AreJobsOf}
use Rattle.worker_gate.specs.Rounds.{StandByMutant}
use Rattle.worker_gate.specs.Settled.{parts_of, AreLeft, IsTableFor, Places, SettlesAll}
use Rattle.worker_gate.specs.Sharing.{AreCellsOf, AreEndsOf, AreHandsOf, CountAtMost, HasCountedNothing, IsPlanFor, MayShare, Shared, ends_at, hands_in, seat_in}
use Rattle.worker_gate.specs.Workers.{AllWorked, IsReady}
use Rattle.worker_gate.specs.declared.ends.CellEnd.{CellEnd}
use Rattle.worker_gate.specs.declared.ends.JobCells.{JobCells}
use Rattle.worker_gate.specs.declared.ends.Job.{Job}
use Rattle.worker_gate.specs.declared.ends.Plan.{Plan}
use Rattle.worker_gate.specs.declared.ends.WorkEnd.{WorkEnd}
use Rattle.worker_gate.proofs.Exactly.{settled_exact}
use Rattle.worker_gate.proofs.Leaving.{jobs_leave, may_settle}
use Rattle.worker_gate.proofs.Ready.{rev_push}

long_map : {X Y : Type 0} (f : X → Y) (xs : List X) → length (map f xs) ≡ length xs
long_map f [] = refl
long_map f (x ∷ xs) = ap suc (long_map f xs)

at_map : {X Y : Type 0} (f : X → Y) (xs : List X) (k : ℕ) (d : X) → k < length xs → f (slice_index_or xs k d) ≡ slice_index_or (map f xs) k (f d)
at_map f [] k d lt = absurd (omega arith)
at_map f (x ∷ xs) zero d lt = refl
at_map f (x ∷ xs) (suc k) d lt = at_map f xs k d (omega arith)

-- ---- cells stand by mutant

abbrev Above : ℕ → List ℕ → Type 0
Above k xs = (n a : ℕ) → slice_get xs n ≡ Some a → k ≤ a

above_more : {Rec : Type 0} (k : ℕ) (ts : List (Tried Rec)) (rest : List Cell) → Above k (map mutant_at rest) → Above k (map mutant_at (map (cell_at k) ts ++ rest))
above_more k [] rest h n a e = h n a e
above_more k (t ∷ ts) rest h zero a e = let same : k ≡ a = cc in omega (arith, same)
above_more k (t ∷ ts) rest h (suc n) a e = above_more k ts rest h n a e

above_cells : {Rec : Type 0} (k : ℕ) (ms : List (List (Tried Rec))) → Above k (map mutant_at (cells_from k ms))
above_cells k [] n a e = absurd cc
above_cells k (ts ∷ ms) n a e = above_more k ts (cells_from (suc k) ms) (λ m b f. let more = above_cells (suc k) ms m b f in omega (arith, more)) n a e

stand_more : {Rec : Type 0} (k : ℕ) (ts : List (Tried Rec)) (rest : List Cell) → Above k (map mutant_at rest) → StandByMutant (map mutant_at rest) → StandByMutant (map mutant_at (map (cell_at k) ts ++ rest))
stand_more k [] rest above h n a b ea eb = h n a b ea eb
stand_more k (t ∷ ts) rest above h zero a b ea eb =
    let same : k ≡ a = cc in
    let le = above_more k ts rest above zero b eb in
    omega (arith, same, le)
stand_more k (t ∷ ts) rest above h (suc n) a b ea eb = stand_more k ts rest above h n a b ea eb

stand_from : {Rec : Type 0} (k : ℕ) (ms : List (List (Tried Rec))) → StandByMutant (map mutant_at (cells_from k ms))
stand_from k [] n a b ea eb = absurd cc
stand_from k (ts ∷ ms) n a b ea eb = stand_more k ts (cells_from (suc k) ms) (λ m x e. let more = above_cells (suc k) ms m x e in omega (arith, more)) (stand_from (suc k) ms) n a b ea eb

pub stand_so : {M F Rec S : Type 0} (r : Reading M F Rec S) (ms : Runs Rec) (cells : JobCells) → AreCellsOf r ms cells → StandByMutant cells.mutants
stand_so r ms cells are = subst StandByMutant (sym are.mutants) (stand_from 0 ms)

-- ---- jobs of hands

-- one job more was made, of the last thing of a list
pub made_more : {C X : Type 0} (f : Job C → X) (things rest initial : List X) (thing : X) (jobs new : List (Job C)) (job : Job C) → things ++ reverse (map f jobs) ≡ initial → things ≡ rest ++ thing ∷ [] → new ≡ jobs ++ job ∷ [] → f job ≡ thing → rest ++ reverse (map f new) ≡ initial
made_more f things rest initial thing jobs new job inv popped pushed of =
    ap (λ l. rest ++ reverse (map f l)) pushed
    ∙ ap (λ l. rest ++ reverse l) (map-append f jobs (job ∷ []))
    ∙ ap (λ l. rest ++ l) (rev_push (map f jobs) [] (f job))
    ∙ ap (λ x. rest ++ x ∷ reverse (map f jobs)) of
    ∙ sym (append_assoc rest (thing ∷ []) (reverse (map f jobs)))
    ∙ ap (λ l. l ++ reverse (map f jobs)) (sym popped)
    ∙ inv

map_onto : {X Y : Type 0} (f : X → Y) (xs acc : List X) → map f (reverse_aux xs acc) ≡ reverse_aux (map f xs) (map f acc)
map_onto f [] acc = refl
map_onto f (x ∷ xs) acc = map_onto f xs (x ∷ acc)

pub map-reverse : {X Y : Type 0} (f : X → Y) (xs : List X) → map f (reverse xs) ≡ reverse (map f xs)
map-reverse f xs = map_onto f xs []

all_onto : {X : Type 0} (P : X → Type 0) (xs acc : List X) → All P xs → All P acc → All P (reverse_aux xs acc)
all_onto P [] acc h k = k
all_onto P (x ∷ xs) acc h k = all_onto P xs (x ∷ acc) (λ i d lt. h (suc i) d (omega arith)) (all_cons P x acc (h zero x (omega arith)) k)
  where
    all_cons : {X : Type 0} (P : X → Type 0) (x : X) (xs : List X) → P x → All P xs → All P (x ∷ xs)
    all_cons P x xs p h zero d lt = p
    all_cons P x xs p h (suc k) d lt = h k d (omega arith)

pub all_reverse : {X : Type 0} (P : X → Type 0) (xs : List X) → All P xs → All P (reverse xs)
all_reverse P xs h = all_onto P xs [] h (λ k d lt. absurd (omega arith))

pub all_more : {X : Type 0} (P : X → Type 0) (xs : List X) (x : X) → All P xs → P x → All P (xs ++ x ∷ [])
all_more P [] x h p zero d lt = p
all_more P [] x h p (suc k) d lt = absurd (omega arith)
all_more P (y ∷ xs) x h p zero d lt = h zero d (omega arith)
all_more P (y ∷ xs) x h p (suc k) d lt = all_more P xs x (λ i e l. h (suc i) e (omega arith)) p k d (omega arith)

pub none_left : {X Y : Type 0} (xs : List X) (ys : List Y) → length xs ≡ length ys → ys ≡ [] → xs ≡ []
none_left [] ys long none = refl
none_left (x ∷ xs) ys long none = let no = ap length none in absurd (omega (arith, long, no))

-- ---- before workers begin

same_job : {C Rec : Type 0} (runs : C → Runs Rec) (a b : Runs Rec) (hands : List C) → 0 < length hands → AreHandsOf runs a hands → AreHandsOf runs b hands → a ≡ b
same_job runs a b [] some ha hb = absurd (omega arith)
same_job runs a b (h ∷ hands) some ha hb = sym (ha zero h (omega arith)) ∙ hb zero h (omega arith)

module _ {C M F Rec S : Type 0} (r : Reading M F Rec S) (runs : C → Runs Rec) (cells : JobCells) (plan : Plan) (z : Sizes) where
  pub plan_is : (ms : Runs Rec) → AreCellsOf r ms cells → IsPlanFor cells plan → z.cells ≡ length plan.order → z.mutants ≡ cells.count → IsPlanOf r z ms plan
  plan_is ms are for number mutants =
      let order = for.rounds.order_is (cells_of ms) (sym are.mutants) in
      record {
        cells = number ∙ order.count;
        mutants = for.mutants ∙ are.mutants;
        tests = for.tests ∙ are.tests;
        order = order;
        few = sym are.count ∙ sym mutants;
        places = are.places;
        room = are.room;
      }

  pub table_for : (ms : Runs Rec) → AreCellsOf r ms cells → IsPlanFor cells plan → z.cells ≡ length plan.order → IsTableFor z plan.order ms
  table_for ms are for number =
      let order = for.rounds.order_is (cells_of ms) (sym are.mutants) in
      record { cells = number ∙ order.count; places = are.places; order_is = order; ascend = are.ascend }

  -- how many numbers are drawn
  pub drawn_are : (ms : Runs Rec) → AreCellsOf r ms cells → IsPlanFor cells plan → length plan.order ≡ length (cells_of ms)
  drawn_are ms are for = (for.rounds.order_is (cells_of ms) (sym are.mutants)).count

module _ {C Rec : Type 0} (runs : C → Runs Rec) (ms : Runs Rec) (hands : List C) (jobs : List (Job C)) where
  pub jobs_long : map hands_in jobs ≡ hands → length jobs ≡ length hands
  jobs_long is = sym (long_map hands_in jobs) ∙ ap length is

  pub runs_at : map hands_in jobs ≡ hands → AreHandsOf runs ms hands → (k : ℕ) (j : Job C) → k < length jobs → runs (slice_index_or jobs k j).hands ≡ ms
  runs_at is each k j lt =
      let long = jobs_long is in
      ap runs (at_map hands_in jobs k j lt ∙ ap (λ l. slice_index_or l k j.hands) is)
      ∙ each k j.hands (omega (arith, lt, long))

module _ {C : Type 0} (table : TableId) (z : Sizes) (seats : List ClaimSeat) (jobs : List (Job C)) where
  seats_long : map seat_in jobs ≡ seats → length jobs ≡ length seats
  seats_long is = sym (long_map seat_in jobs) ∙ ap length is

  seat_at : map seat_in jobs ≡ seats → (k : ℕ) (j : Job C) → k < length jobs → (slice_index_or jobs k j).seat ≡ slice_index_or seats k j.seat
  seat_at is k j lt = at_map seat_in jobs k j lt ∙ ap (λ l. slice_index_or l k j.seat) is

  pub ready_all : map seat_in jobs ≡ seats → AreSeatsAt table z seats → All (λ seat. entries_of seat ≡ []) seats → All HasCountedNothing jobs → All (IsReady table z) jobs
  ready_all is are idle nothing = λ k j lt.
      let long = seats_long is in
      let at = seat_at is k j lt in
      let within : k < length seats = omega (arith, lt, long) in
      record {
        seat = subst (IsSeatAt table z) (sym at) (are.each k j.seat within).0;
        idle = ap entries_of at ∙ idle k j.seat within;
        part = nothing k j lt;
      }

  pub are_jobs : {Rec : Type 0} (runs : C → Runs Rec) (ms : Runs Rec) (hands : List C) → map seat_in jobs ≡ seats → AreSeatsAt table z seats → map hands_in jobs ≡ hands → AreHandsOf runs ms hands → AreJobsOf runs z ms jobs
  are_jobs runs ms hands is are of each =
      let long = seats_long is in
      record {
        count = long ∙ are.count;
        each = λ k j lt.
            let within : k < length seats = omega (arith, lt, long) in
            (runs_at runs ms hands jobs of each k j lt, ap worker_of (seat_at is k j lt) ∙ (are.each k j.seat within).1);
      }

-- ---- what they answer

some_of_map : {X Y : Type 0} (f : X → Y) (places : List (Option X)) (gathered : List Y) → map (option_map f) places ≡ map Some gathered → (map f (ends_at places) ≡ gathered) × (length places ≡ length gathered)
some_of_map f [] [] e = (refl, refl)
some_of_map f [] (y ∷ ys) e = absurd cc
some_of_map f (p ∷ places) [] e = absurd cc
some_of_map f (None ∷ places) (y ∷ ys) e = absurd cc
some_of_map f (Some x ∷ places) (y ∷ ys) e =
    let head : f x ≡ y = cc in
    let rest : map (option_map f) places ≡ map Some ys = cc in
    let more = some_of_map f places ys rest in
    (ap (λ a. a ∷ map f (ends_at places)) head ∙ ap (λ l. y ∷ l) more.0, ap suc more.1)

module _ {C M F Rec S : Type 0} (r : Reading M F Rec S) (runs : C → Runs Rec) (cells : JobCells) (hands : List C) (before : ℕ) (may : MayShare r runs cells hands before) where
  pub asked_job : (ms : Runs Rec) → AreHandsOf runs ms hands → may.job ≡ ms
  asked_job ms each = same_job runs may.job ms hands may.some may.each each

  pub shared_err : (after : ℕ) (e : Memory) → before ≤ after → after ≤ before + length hands * cost_of_all r.steps may.job → Shared r runs cells hands before after (Err e)
  shared_err after e from most = record {
    shared = λ ms each.
        subst (λ job. CountAtMost (length hands * cost_of_all r.steps job) before after) (asked_job ms each) (record { from = from; within = most });
  }

  pub shared_ok : (plan : Plan) (table : TableId) (z : Sizes) (left : List (WorkEnd C M F)) (places : Places M F) (after : ℕ) (ends : Vec (CellEnd M F) Global)
      → IsPlanFor cells plan → z.cells ≡ length plan.order → z.workers ≡ length hands
      → AreLeft r table z plan.all plan.order may.job left
      → SettlesAll r table z left places → after ≡ before + parts_of left → ends.items ≡ ends_at places.items
      → Shared r runs cells hands before after (Ok ends)
  shared_ok plan table z left places after ends for number workers are settles meter is =
      let table_is = table_for r runs cells plan z may.job may.of for number in
      let s = settles.settles plan.all plan.order may.job table_is are in
      let filled = some_of_map (ended_of r) places.items s.gathered s.filled in
      let same : map (ended_of r) ends.items ≡ s.gathered = ap (map (ended_of r)) is ∙ filled.0 in
      let exact = settled_exact r z plan.all plan.order may.job (parts_of left) places table_is s in
      let all_is = subst (λ b. IsExact r b z.workers may.job (parts_of left) s.gathered) for.all exact in
      let workers_are = subst (λ n. IsExact r cells.all n may.job (parts_of left) s.gathered) workers all_is in
      let long = ap length same in
      let long_ends = long_map (ended_of r) ends.items in
      let count = s.count in
      let drawn = drawn_are r runs cells plan z may.job may.of for in
      record {
        shared = λ ms each.
            subst (λ job. AreEndsOf r cells.all (length hands) job before after ends.items) (asked_job ms each)
            (record {
              count = omega (arith, long, long_ends, count, number, drawn);
              each = subst (λ g. AreAllEnds r.say cells.all may.job (parted may.job g)) (sym same) (subst (λ b. AreAllEnds r.say b may.job (parted may.job s.gathered)) for.all s.ends);
              cost = parts_of left;
              meter = meter;
              exact = subst (λ g. IsExact r cells.all (length hands) may.job (parts_of left) g) (sym same) workers_are;
            });
      }

  -- What so many workers left of the cells.
  module _ (plan : Plan) (table : TableId) (z : Sizes) (seats : List ClaimSeat) (jobs : List (Job C)) (left : List (WorkEnd C M F)) where
    pub left_are : map seat_in jobs ≡ seats → AreSeatsAt table z seats → map hands_in jobs ≡ hands → length left ≡ length jobs → AllWorked r runs table z plan jobs left → AreLeft r table z plan.all plan.order may.job left
    left_are is are of long worked =
        jobs_leave r runs table z plan may.job jobs left (are_jobs table z seats jobs runs may.job hands is are of may.each) long worked

    parts_most : AreLeft r table z plan.all plan.order may.job left → z.workers ≡ length hands → parts_of left ≤ length hands * cost_of_all r.steps may.job
    parts_most are workers = subst (λ n. parts_of left ≤ n * cost_of_all r.steps may.job) workers (may_settle r table z plan.all plan.order may.job left are).parts

    pub parts_fit : AreLeft r table z plan.all plan.order may.job left → z.workers ≡ length hands → (now : ℕ) → now ≡ before → now + parts_of left < 2 ^ 64
    parts_fit are workers now same =
        let most = parts_most are workers in
        let room = may.room in
        omega (arith, most, room, same)

    pub left_err : AreLeft r table z plan.all plan.order may.job left → z.workers ≡ length hands → (now after : ℕ) (e : Memory) → now ≡ before → after ≡ now + parts_of left → Shared r runs cells hands before after (Err e)
    left_err are workers now after e same rose =
        let most = parts_most are workers in
        shared_err after e (omega (arith, same, rose)) (omega (arith, same, rose, most))

    pub places_long : AreLeft r table z plan.all plan.order may.job left → IsPlanFor cells plan → z.cells ≡ length plan.order → (places : Places M F) → SettlesAll r table z left places → length places.items ≡ length plan.order
    places_long are for number places settles =
        let s = settles.settles plan.all plan.order may.job (table_for r runs cells plan z may.job may.of for number) are in
        let long = (some_of_map (ended_of r) places.items s.gathered s.filled).1 in
        let count = s.count in
        omega (arith, long, count, number)
