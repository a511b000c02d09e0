-- What workers leave.
use Rattle.std.proofs.Common.{◌≡◌, ℕ, zero, suc, ◌+◌, ◌<◌, ◌≤◌, List, [], ◌∷◌, ◌++◌, Bool, true, false, map, length, refl, sym, ap, ◌∙◌, subst, arith, Option, Some, is_some, All, AllPairs, Contains, slice_get, slice_index_or, ⊎_elim, true≢false}
use Rattle.std.proofs.lemmas.List.Elements.{Contains-append_left}
use Rattle.std.proofs.lemmas.Option.{slice_get_within}
use Rattle.claim_core.specs.declared.events.ClaimEntry.{ClaimEntry}
use Rattle.claim_core.specs.declared.events.ClaimEntry.TheVariants.{Claimed, Looked, Detected}
use Rattle.claim_core.specs.Agreement.{Ascends, IsFresh}
use Rattle.claim_core.specs.Claims.{Claims, list_of, no_place}
use Rattle.claim_core.specs.Ending.{Cell}
use Rattle.job_rules.specs.Tried.{Tried, Ascend, detects}
use Rattle.job_rules.specs.Ended.{Ended, ran, reused, skipped, say_end, IsSkipped, DetectsAt, IsEnd, SkipsBehind, AreAllEnds, AllSkipBehind}
use Rattle.job_rules.specs.Worked.{Work, cells_from, EndsOn, IsWorkOf, numbered, did, all_did, DidCells, AllDid, AreGathered, ends_of, cells_of, cell_at, runs_in, parted}
use Rattle.job_laws.proofs.Placed.{Nth, nth_run, nth_cell, nth_is, nth_exists, nth_of, nth_order, part_all, as_contains, from_contains}
use Rattle.job_laws.proofs.Noted.{contains_map, all_at, within_of, to_all, detected_work, first_of, second_of, third_of, says_run, run_says, in_order}

-- the work of a cell, by its number, among those of a worker
record DoneIn {Rec S : Type 0} (say : Rec → Option S) (all : Bool) (ms : List (List (Tried Rec))) (order : List ℕ) (works : List (Work Rec)) (k n : ℕ) (t : Tried Rec) (e : Ended Rec) : Type 0 where
  pub work : Work Rec
  pub among : Contains works work
  pub number : work.number ≡ n
  pub drew : slice_get order work.drawn ≡ Some n
  pub mutant : work.cell.mutant ≡ k
  pub place : work.cell.place ≡ t.test
  pub end : work.end ≡ e
  pub ended : EndsOn all t.test work.seen t e

done_in : {Rec S : Type 0} (say : Rec → Option S) (all : Bool) (ms : List (List (Tried Rec))) (order : List ℕ) (cells : ℕ) (entries : List ClaimEntry) (ends : List (ℕ × Ended Rec)) (d : DidCells say all ms order cells entries ends) (k n : ℕ) (t : Tried Rec) (e : Ended Rec) → Nth ms k n t → Contains ends (n, e) → DoneIn say all ms order d.works k n t e
done_in say all ms order cells entries ends d k n t e nth by =
    let x = contains_map numbered d.works (n, e) (subst (λ l. Contains l (n, e)) d.ends_are by) in
    let w = x.0 in
    let work : IsWorkOf all ms order w = all_at (IsWorkOf all ms order) d.works w d.each x.1 in
    let number : w.number ≡ n = ap (λ (p : ℕ × Ended _). p.0) x.2 in
    let end : w.end ≡ e = ap (λ (p : ℕ × Ended _). p.1) x.2 in
    let run' : Some w.run ≡ Some t = sym work.run ∙ ap (slice_get (runs_in ms)) number ∙ nth_run ms k n t nth in
    let run : w.run ≡ t = cc in
    let cell' : Some w.cell ≡ Some (cell_at (0 + k) t) = sym work.cell ∙ ap (slice_get (cells_of ms)) number ∙ nth_cell 0 ms k n t nth in
    let cell : w.cell ≡ cell_at (0 + k) t = cc in
    let zk : 0 + k ≡ k = omega arith in
    let place : w.cell.place ≡ t.test = ap (λ (y : Cell). y.place) cell in
    record {
      work = w;
      among = x.1;
      number = number;
      drew = work.drew ∙ ap Some number;
      mutant = ap (λ (y : Cell). y.mutant) cell ∙ zk;
      place = place;
      end = end;
      ended = subst (λ f. EndsOn all t.test w.seen t f) end (subst (λ r. EndsOn all t.test w.seen r w.end) run (subst (λ p. EndsOn all p w.seen w.run w.end) place work.ended));
    }

module _ {Rec S : Type 0} (say : Rec → Option S) (all : Bool) (ms : List (List (Tried Rec))) (order : List ℕ) (c : Claims) (ends : List (List (ℕ × Ended Rec))) (gathered : List (Ended Rec)) (h : AllDid say all ms order c ends) (g : AreGathered (length c.lists) c.cells ends gathered) where
  -- a detection in a worker's list is of a detecting run
  detects_at : (u k v : ℕ) → Contains (list_of c u) (Detected k v) → DetectsAt say (slice_index_or ms k []) v
  detects_at u k v at =
      let d = h.each u (within_of c.lists u (Detected k v) at) in
      let x = detected_work say d.works d.last k v (subst (λ l. Contains l (Detected k v)) d.noted at) in
      let w = x.0 in
      let work : IsWorkOf all ms order w = all_at (IsWorkOf all ms order) d.works w d.each x.1 in
      let nth = nth_exists ms w.number w.run work.run in
      let cell' : Some w.cell ≡ Some (cell_at (0 + nth.0) w.run) = sym work.cell ∙ nth_cell 0 ms nth.0 w.number w.run nth.1 in
      let cell : w.cell ≡ cell_at (0 + nth.0) w.run = cc in
      let zk : 0 + nth.0 ≡ nth.0 = omega arith in
      let k_is : nth.0 ≡ k = sym zk ∙ sym (ap (λ (y : Cell). y.mutant) cell) ∙ x.3 in
      let v_is : w.run.test ≡ v = sym (ap (λ (y : Cell). y.place) cell) ∙ x.4 in
      let in_list = nth_is ms nth.0 w.number w.run nth.1 in
      (w.run, subst (λ j. Contains (slice_index_or ms j []) w.run) k_is (as_contains (slice_index_or ms nth.0 []) in_list.0 w.run in_list.1), v_is, says_run say all w.cell.place w.seen w.run w.end work.ended x.2)

  is_end : (u k n : ℕ) (t : Tried Rec) (e : Ended Rec) (cells : DidCells say all ms order c.cells (list_of c u) (ends_of ends u)) → Nth ms k n t → DoneIn say all ms order cells.works k n t e → IsEnd say all (slice_index_or ms k []) t e
  is_end u k n t (ran r) cells nth d = (d.ended.1, d.ended.2)
  is_end u k n t (reused r) cells nth d = d.ended.1
  is_end u k n t (skipped v) cells nth d =
      let w = d.work in
      let seen : Contains (list_of c u) (Looked k v) =
      subst (λ l. Contains l (Looked k v)) (sym cells.noted)
      (Contains-append_left (all_did say cells.works) (Claimed cells.last ∷ []) (Looked k v)
      (to_all say cells.works w (Looked k v) d.among
      (subst (λ m. Contains (did say w) (Looked m v)) d.mutant
      (subst (λ s. Contains (did say w) (Looked w.cell.mutant s)) (sym d.ended.1) (second_of say w))))) in
      let small : t.test < no_place = all_at (λ (y : Cell). y.place < no_place) (cells_of ms) (cell_at (0 + k) t) h.places (as_contains (cells_of ms) n (cell_at (0 + k) t) (nth_cell 0 ms k n t nth)) in
      let lt = d.ended.2 in
      (d.ended.0, lt, ⊎_elim (λ none. absurd (omega (arith, none, lt, small))) (λ found. detects_at found.0 k v found.1) (h.agree.looked u k v seen))

  ends_at : (k n : ℕ) (t : Tried Rec) (e : Ended Rec) → Nth ms k n t → slice_get gathered n ≡ Some e → IsEnd say all (slice_index_or ms k []) t e
  ends_at k n t e nth is =
      let by = g.each n e is in
      let d = h.each by.0 by.1 in
      is_end by.0 k n t e d nth (done_in say all ms order c.cells (list_of c by.0) (ends_of ends by.0) d k n t e nth by.2)

  count_is : length gathered ≡ length (runs_in ms)
  count_is = g.count ∙ h.count ∙ long 0 ms
    where
      long_map : (b : ℕ) (ts : List (Tried Rec)) → length (map (cell_at b) ts) ≡ length ts
      long_map b [] = refl
      long_map b (t ∷ ts) = ap suc (long_map b ts)

      long_both : {X : Type 0} (xs ys : List X) → length (xs ++ ys) ≡ length xs + length ys
      long_both [] ys = omega arith
      long_both (x ∷ xs) ys = let more = long_both xs ys in omega (arith, more)

      long : (b : ℕ) (ms : List (List (Tried Rec))) → length (cells_from b ms) ≡ length (runs_in ms)
      long b [] = refl
      long b (ts ∷ ms) =
          let one = long_map b ts in let more = long (suc b) ms in
          let l = long_both (map (cell_at b) ts) (cells_from (suc b) ms) in let r = long_both ts (runs_in ms) in
          omega (arith, one, more, l, r)

  pub workers_end : AreAllEnds say all ms (parted ms gathered)
  workers_end = part_all (IsEnd say all) ms gathered count_is ends_at

-- ---- one worker

some_at : {X : Type 0} (es : List X) (n : ℕ) → n < length es → (e : X) × (slice_get es n ≡ Some e)
some_at [] n lt = absurd (omega arith)
some_at (e ∷ es) zero lt = (e, refl)
some_at (e ∷ es) (suc n) lt = some_at es n (omega arith)

-- a cell that was done, whose run detects at this place or below
record DoneBelow {Rec S : Type 0} (say : Rec → Option S) (ms : List (List (Tried Rec))) (gathered : List (Ended Rec)) (k v : ℕ) : Type 0 where
  pub number : ℕ
  pub run : Tried Rec
  pub end : Ended Rec
  pub nth : Nth ms k number run
  pub is : slice_get gathered number ≡ Some end
  pub below : run.test ≤ v
  pub detecting : detects say run ≡ true
  pub done : IsSkipped end → ⊥

below_more : {Rec S : Type 0} (say : Rec → Option S) (ms : List (List (Tried Rec))) (gathered : List (Ended Rec)) (k v w : ℕ) → v ≤ w → DoneBelow say ms gathered k v → DoneBelow say ms gathered k w
below_more say ms gathered k v w le d = let b = d.below in record { number = d.number; run = d.run; end = d.end; nth = d.nth; is = d.is; below = omega (arith, b, le); detecting = d.detecting; done = d.done }

by_end : {Rec S : Type 0} (say : Rec → Option S) (ms : List (List (Tried Rec))) (gathered : List (Ended Rec)) (k v n : ℕ) (u : Tried Rec) (e : Ended Rec) → Nth ms k n u → slice_get gathered n ≡ Some e → u.test ≤ v → detects say u ≡ true → IsEnd say false (slice_index_or ms k []) u e → ((x : ℕ) → x < v → DetectsAt say (slice_index_or ms k []) x → DoneBelow say ms gathered k x) → DoneBelow say ms gathered k v
by_end say ms gathered k v n u (ran r) nth is low dt end again = record { number = n; run = u; end = ran r; nth = nth; is = is; below = low; detecting = dt; done = λ s. s }
by_end say ms gathered k v n u (reused r) nth is low dt end again = record { number = n; run = u; end = reused r; nth = nth; is = is; below = low; detecting = dt; done = λ s. s }
by_end say ms gathered k v n u (skipped x) nth is low dt end again =
    let lt = end.1 in
    below_more say ms gathered k x v (omega (arith, lt, low)) (again x (omega (arith, lt, low)) end.2)

skip_or : {Rec : Type 0} (place seen : ℕ) (t : Tried Rec) (e : Ended Rec) → EndsOn false place seen t e → seen < place → IsSkipped e
skip_or place seen t (ran r) h lt = ⊎_elim (λ no_. absurd (true≢false (sym no_))) (λ le. absurd (omega (arith, le, lt))) h.0
skip_or place seen t (reused r) h lt = ⊎_elim (λ no_. absurd (true≢false (sym no_))) (λ le. absurd (omega (arith, le, lt))) h.0
skip_or place seen t (skipped v) h lt = tt

-- the claims of a list ascend, and its looks are fresh
abbrev Both : ℕ → ClaimEntry → ClaimEntry → Type 0
Both cells d e = Ascends cells d e × IsFresh d e

-- of two cells of one mutant that one worker did, the later one's look sees the earlier detection
seen_low : {Rec S : Type 0} (say : Rec → Option S) (ms : List (List (Tried Rec))) (order : List ℕ) (cells : ℕ) (works : List (Work Rec)) (rest : List ClaimEntry) → AllPairs (Both cells) (all_did say works ++ rest) → (k a b : ℕ) (t u : Tried Rec) (e f : Ended Rec) → (x : DoneIn say false ms order works k a t e) → (y : DoneIn say false ms order works k b u f) → x.work.drawn < y.work.drawn → (IsSkipped e → ⊥) → detects say t ≡ true → y.work.seen ≤ t.test
seen_low say ms order cells works rest ordered k a b t u e f x y lt done dt =
    let says : is_some (say_end say x.work.end) ≡ true = ap (λ z. is_some (say_end say z)) x.end ∙ run_says say false t.test x.work.seen t e x.ended done dt in
    ⊎_elim
    (λ (same : x.work ≡ y.work). let n = ap (λ (w : Work _). w.drawn) same in absurd (omega (arith, n, lt)))
    (λ apart. ⊎_elim
    (λ before. let fresh = (before (Detected x.work.cell.mutant x.work.cell.place) (Looked y.work.cell.mutant y.work.seen) (third_of say x.work says) (second_of say y.work)).1 (x.mutant ∙ sym y.mutant) in let p = x.place in omega (arith, fresh, p))
    (λ behind. let up = (behind (Claimed x.work.drawn) (Claimed y.work.drawn) (first_of say x.work) (first_of say y.work)).0.0 in absurd (omega (arith, up, lt)))
    apart)
    (in_order say (Both cells) works rest ordered x.work y.work x.among y.among)

module _ {Rec S : Type 0} (say : Rec → Option S) (ms : List (List (Tried Rec))) (order : List ℕ) (c : Claims) (ends : List (List (ℕ × Ended Rec))) (gathered : List (Ended Rec)) (h : AllDid say false ms order c ends) (g : AreGathered (length c.lists) c.cells ends gathered) where
  least_done : (fuel k v : ℕ) → v < fuel → DetectsAt say (slice_index_or ms k []) v → DoneBelow say ms gathered k v
  least_done zero k v lt at = absurd (omega arith)
  least_done (suc fuel) k v lt at =
      let place = from_contains (slice_index_or ms k []) at.0 at.1 in
      let nth = nth_of ms k place.0 at.0 place.1 in
      let within : nth.0 < length gathered = let l = count_is say false ms order c ends gathered h g in let w = slice_get_within (runs_in ms) nth.0 at.0 (nth_run ms k nth.0 at.0 nth.1) in omega (arith, l, w) in
      let e = some_at gathered nth.0 within in
      by_end say ms gathered k v nth.0 at.0 e.0 nth.1 e.1 (let s = at.2 in omega (arith, s)) at.3
      (ends_at say false ms order c ends gathered h g k nth.0 at.0 e.0 nth.1 e.1)
      (λ x less more. least_done fuel k x (omega (arith, less, lt)) more)

  -- an end is of the one worker
  of_one : length c.lists ≡ 1 → (n : ℕ) (e : Ended Rec) → slice_get gathered n ≡ Some e → Contains (ends_of ends 0) (n, e)
  of_one one n e is = let by = g.each n e is in let lt = by.1 in let zero_is : by.0 ≡ 0 = omega (arith, lt, one) in subst (λ w. Contains (ends_of ends w) (n, e)) zero_is by.2

  skips : All Ascend ms → length c.lists ≡ 1 → (k n : ℕ) (t : Tried Rec) (e : Ended Rec) → Nth ms k n t → slice_get gathered n ≡ Some e → SkipsBehind say (slice_index_or ms k []) t e
  skips asc one k n t e nth is v lt at =
      let low = least_done (suc v) k v (omega arith) at in
      let below = low.below in
      let before : low.number < n = nth_order ms k low.number n low.run t asc low.nth nth (omega (arith, below, lt)) in
      let d = h.each 0 h.some in
      let a = done_in say false ms order c.cells (list_of c 0) (ends_of ends 0) d k low.number low.run low.end low.nth (of_one one low.number low.end low.is) in
      let b = done_in say false ms order c.cells (list_of c 0) (ends_of ends 0) d k n t e nth (of_one one n e is) in
      let ordered : AllPairs (Both c.cells) (all_did say d.works ++ Claimed d.last ∷ []) = subst (AllPairs (Both c.cells)) d.noted (λ i j x l w. (h.agree.ascends 0 i j x l w, h.agree.fresh 0 i j x l w)) in
      let drawn = h.order_is.ascends a.work.drawn b.work.drawn low.number n (cell_at (0 + k) low.run) (cell_at (0 + k) t) a.drew b.drew (nth_cell 0 ms k low.number low.run low.nth) (nth_cell 0 ms k n t nth) refl before in
      let seen = seen_low say ms order c.cells d.works (Claimed d.last ∷ []) ordered k low.number n low.run t low.end e a b drawn low.done low.detecting in
      skip_or t.test b.work.seen t e b.ended (omega (arith, seen, below, lt))

  pub one_skips : All Ascend ms → length c.lists ≡ 1 → AllSkipBehind say ms (parted ms gathered)
  one_skips asc one = part_all (SkipsBehind say) ms gathered (count_is say false ms order c ends gathered h g) (skips asc one)
