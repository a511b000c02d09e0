-- What workers leave, one after the other.
use Rattle.std.proofs.Common.{◌≡◌, ℕ, zero, suc, ◌*◌, ◌<◌, ◌≤◌, List, [], ◌∷◌, map, length, refl, ap, ◌∙◌, subst, arith, slice_index_or}
use Rattle.std.proofs.Math.Nat.{suc-mul}
use Rattle.job_rules.specs.Tried.{cost_of_all}
use Rattle.mutant_table.specs.Seats.{IsSeatAt, worker_of}
use Rattle.mutant_table.specs.declared.seat.ClaimSeat.{ClaimSeat}
use Rattle.worker_gate.specs.Ends.{Left}
use Rattle.worker_gate.specs.Leaving.{JobsLeave, LeftMaySettle}
use Rattle.worker_gate.specs.Settled.{parts_of, seat_of}
use Rattle.worker_gate.specs.declared.ends.WorkEnd.{WorkEnd}

pub jobs_leave : {C M F Rec S : Type 0} → JobsLeave C M F Rec S
jobs_leave r runs table z plan ms jobs ends are long all =
    record {
      count = long ∙ are.count;
      each = λ k d lt.
          let within : k < length jobs = omega (arith, lt, long) in
          let of = are.each k d.job within in
          let worked = all.each k d.job d within in
          (subst (λ x. Left r table z plan.all plan.order x (slice_index_or ends k d)) of.0 worked.left, worked.place ∙ of.1);
    }

-- a fact of each seat, by its place
seats_at : {C M F : Type 0} (P : ℕ → ClaimSeat → Type 0) (es : List (WorkEnd C M F)) → ((k : ℕ) (d : WorkEnd C M F) → k < length es → P k (slice_index_or es k d).job.seat) → (k : ℕ) (d : ClaimSeat) → k < length es → P k (slice_index_or (map seat_of es) k d)
seats_at P [] h k d lt = absurd (omega arith)
seats_at P (e ∷ es) h zero d lt = h zero e (omega arith)
seats_at P (e ∷ es) h (suc k) d lt = seats_at (λ i. P (suc i)) es (λ i x l. h (suc i) x (omega arith)) k d (omega arith)

long_map : {X Y : Type 0} (f : X → Y) (xs : List X) → length (map f xs) ≡ length xs
long_map f [] = refl
long_map f (x ∷ xs) = ap suc (long_map f xs)

parts_within : {C M F : Type 0} (most : ℕ) (es : List (WorkEnd C M F)) → ((k : ℕ) (d : WorkEnd C M F) → k < length es → (slice_index_or es k d).job.part ≤ most) → parts_of es ≤ length es * most
parts_within most [] h = omega arith
parts_within most (e ∷ es) h =
    let one = h zero e (omega arith) in
    let more = parts_within most es (λ k d lt. h (suc k) d (omega arith)) in
    let times = suc-mul (length es) most in
    omega (arith, one, more, times)

pub may_settle : {C M F Rec S : Type 0} → LeftMaySettle C M F Rec S
may_settle r table z all order ms ends left =
    let long = long_map seat_of ends in
    record {
      seated = record {
        count = long ∙ left.count;
        each = λ k d lt. seats_at (λ i s. IsSeatAt table z s × (worker_of s ≡ i)) ends (λ i x l. ((left.each i x l).0.seat, (left.each i x l).1)) k d (omega (arith, lt, long));
      };
      parts = subst (λ n. parts_of ends ≤ n * cost_of_all r.steps ms) left.count (parts_within (cost_of_all r.steps ms) ends (λ k d lt. (left.each k d lt).0.most));
    }
