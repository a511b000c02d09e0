-- One cell.
use Rattle.std.proofs.Common.{◌≡◌, ℕ, ◌<◌, ◌≤◌, [], ◌∷◌, ◌++◌, Bool, true, false, refl, sym, arith, Option, Some, None, IfSome, IfNone, IfOk, Result, Ok, Err, inl, inr, nat_lt, if◌then◌else◌, ltb-true, ltb-false}
use Rattle.claim_core.specs.declared.events.ClaimEntry.TheVariants.{Looked}
use Rattle.claim_core.specs.Claims.{no_place}
use Rattle.job_rules.specs.Tried.{Tried}
use Rattle.job_rules.specs.Ended.{Ended, ran, reused, skipped}
use Rattle.job_rules.specs.Worked.{EndsOn, MayRun}
use Rattle.mutant_table.specs.Drawing.{Notes, SeesPlace}
use Rattle.mutant_table.specs.Seats.{entries_of}
use Rattle.mutant_table.specs.declared.seat.ClaimSeat.{ClaimSeat}
use Rattle.worker_gate.specs.Ends.{Done, skip_of, seen_place}

below_is : (test place v : ℕ) (b : Bool) → nat_lt place test ≡ b → (if b then Some place else None) ≡ Some v → (v ≡ place) × (v < test)
below_is test place v true is e = let same : place ≡ v = cc in let lt = ltb-true place test is in (sym same, omega (arith, same, lt))
below_is test place v false is e = absurd cc

pub skips_so : (all : Bool) (seen : Option ℕ) (test v : ℕ) → skip_of all seen test ≡ Some v → (all ≡ false) × (v ≡ seen_place seen) × (v < test)
skips_so true seen test v e = absurd cc
skips_so false None test v e = absurd cc
skips_so false (Some place) test v e = let b = below_is test place v (nat_lt place test) refl e in (refl, b.0, b.1)

above_is : (test place : ℕ) (b : Bool) → nat_lt place test ≡ b → (if b then Some place else None) ≡ None → test ≤ place
above_is test place true is e = absurd cc
above_is test place false is e = ltb-false place test is

pub runs_so : (all : Bool) (seen : Option ℕ) (test : ℕ) → test < no_place → skip_of all seen test ≡ None → MayRun all test (seen_place seen)
runs_so true seen test lt e = inl refl
runs_so false None test lt e = inr (omega (arith, lt))
runs_so false (Some place) test lt e = inr (above_is test place (nat_lt place test) refl e)

pub done_so : {Rec : Type 0} (all : Bool) (test seen : ℕ) (t : Tried Rec) (e : Ended Rec) → MayRun all test seen → Done t e → EndsOn all test seen t e
done_so all test seen t (ran r) may d = (may, d.0, d.1)
done_so all test seen t (reused r) may d = (may, d)
done_so all test seen t (skipped v) may d = absurd d

pub looked_is : (mutant : ℕ) (seen : Option ℕ) (old new : ClaimSeat) → IfSome seen (SeesPlace mutant old new) → IfNone seen (Notes (Looked mutant no_place) old new) → entries_of new ≡ entries_of old ++ Looked mutant (seen_place seen) ∷ []
looked_is mutant None old new some none = none
looked_is mutant (Some v) old new some none = some.1

pub ok_map : {A B : Type 0} (P Q : A → Type 0) (r : Result A B) → ((a : A) → P a → Q a) → IfOk r P → IfOk r Q
ok_map P Q (Ok a) f h = f a h
ok_map P Q (Err b) f h = tt
