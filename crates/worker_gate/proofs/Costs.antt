-- What the cells that a worker has done cost, and one more, is at most what all runs cost.
use Rattle.std.proofs.Common.{◌≡◌, ◌≢◌, ℕ, zero, suc, ◌+◌, ◌≤◌, List, [], ◌∷◌, ◌++◌, Bool, map, length, replicate, refl, sym, ap, ◌∙◌, arith, Option, Some, None, is_some, if◌then◌else◌, All, AllPairs, Contains, slice_get, slice_set, inl, inr, ◌⊎◌, ⊎_elim}
use Rattle.std.proofs.lemmas.List.{map-append}
use Rattle.std.proofs.lemmas.List.Elements.{Contains-append_cases, Contains-append_right}
use Rattle.std.proofs.lemmas.Option.{slice_get_within}
use Rattle.claim_core.specs.declared.events.ClaimEntry.TheVariants.{Claimed}
use Rattle.claim_core.specs.Agreement.{Ascends}
use Rattle.job_rules.specs.Tried.{Tried, cost_of, cost_of_all, cost_of_run}
use Rattle.job_rules.specs.Ended.{Ended, ran, reused, skipped, cost_of_end, cost_of_ends}
use Rattle.job_rules.specs.Gathered.{put_all}
use Rattle.job_rules.specs.Worked.{Work, EndsOn, IsWorkOf, IsOrderOf, numbered, all_did, cells_of, runs_in}
use Rattle.job_laws.proofs.Alike.{in_cons}
use Rattle.job_laws.proofs.Filled.{Apart, apart_both, apart_works, cost_placed, cost_none, get_none, long_none, put_cost, put_long, set_long, set_other, set_same, some_same}
use Rattle.job_laws.proofs.Noted.{all_at, contains_map, first_of, pairs_across, to_all}

-- ---- ends in their places

same_or : (a b : ℕ) → (a ≡ b) ⊎ (a ≢ b)
same_or zero zero = inl refl
same_or zero (suc b) = inr (λ e. omega (arith, e))
same_or (suc a) zero = inr (λ e. omega (arith, e))
same_or (suc a) (suc b) = ⊎_elim (λ e. inl (ap suc e)) (λ apart. inr (λ e. apart (omega (arith, e)))) (same_or a b)

none_in : {X : Type 0} (x : X) → Contains [] x → ⊥
none_in x (k, lt, is) = omega (arith, lt)

-- a run at this number costs as much as this end, or more
abbrev Covers : {Rec : Type 0} → (Rec → ℕ) → List (Tried Rec) → ℕ → Ended Rec → Type 0
Covers steps ts n e = (t : Tried _) × (slice_get ts n ≡ Some t) × (cost_of_end steps e ≤ cost_of_run steps t)

abbrev Fits : {Rec : Type 0} → (Rec → ℕ) → List (Tried Rec) → List (Option (Ended Rec)) → Type 0
Fits steps ts f = (n : ℕ) (e : Ended _) → slice_get f n ≡ Some (Some e) → Covers steps ts n e

cost_fits : {Rec : Type 0} (steps : Rec → ℕ) (ts : List (Tried Rec)) (f : List (Option (Ended Rec))) → length f ≡ length ts → Fits steps ts f → cost_placed steps f ≤ cost_of steps ts
cost_fits steps [] [] long h = omega arith
cost_fits steps [] (x ∷ f) long h = absurd (omega arith)
cost_fits steps (t ∷ ts) [] long h = absurd (omega arith)
cost_fits steps (t ∷ ts) (None ∷ f) long h = let more = cost_fits steps ts f (omega arith) (λ n e is. h (suc n) e is) in omega (arith, more)
cost_fits steps (t ∷ ts) (Some e ∷ f) long h =
    let one = h zero e refl in
    let same : t ≡ one.0 = some_same t one.0 one.1 in
    let cost = one.2 in
    let eq = ap (cost_of_run steps) same in
    let more = cost_fits steps ts f (omega arith) (λ n e is. h (suc n) e is) in
    omega (arith, cost, eq, more)

fits_set : {Rec : Type 0} (steps : Rec → ℕ) (ts : List (Tried Rec)) (f : List (Option (Ended Rec))) (p : ℕ × Ended Rec) → Fits steps ts f → Covers steps ts p.0 p.1 → Fits steps ts (slice_set f p.0 (Some p.1))
fits_set steps ts f p h ok n e is = ⊎_elim
    (λ (same : n ≡ p.0).
    let within = slice_get_within (slice_set f p.0 (Some p.1)) n (Some e) is in
    let long = set_long f p.0 (Some p.1) in
    let at = set_same f p.0 (Some p.1) (omega (arith, within, long, same)) in
    let end : p.1 ≡ e = some_same p.1 e (some_same (Some p.1) (Some e) (sym at ∙ ap (slice_get (slice_set f p.0 (Some p.1))) (sym same) ∙ is)) in
    let cost = ok.2 in
    let eq = ap (cost_of_end steps) end in
    (ok.0, ap (slice_get ts) same ∙ ok.1, omega (arith, cost, eq)))
    (λ apart. h n e (sym (set_other f p.0 n (Some p.1) apart) ∙ is))
    (same_or n p.0)

fits_put : {Rec : Type 0} (steps : Rec → ℕ) (ts : List (Tried Rec)) (ps : List (ℕ × Ended Rec)) (f : List (Option (Ended Rec))) → Fits steps ts f → ((q : ℕ × Ended Rec) → Contains ps q → Covers steps ts q.0 q.1) → Fits steps ts (put_all ps f)
fits_put steps ts [] f h ok = h
fits_put steps ts (p ∷ ps) f h ok = fits_put steps ts ps (slice_set f p.0 (Some p.1)) (fits_set steps ts f p h (ok p (zero, omega arith, refl))) (λ q c. ok q (Contains-append_right (p ∷ []) ps q c))

none_there : {X : Type 0} (k n : ℕ) (x : X) → slice_get (replicate k None) n ≡ Some (Some x) → ⊥
none_there zero n x is = cc
none_there (suc k) zero x is = let no_ : None ≡ Some x = some_same None (Some x) is in cc
none_there (suc k) (suc n) x is = none_there k n x is

fits_none : {Rec : Type 0} (steps : Rec → ℕ) (ts : List (Tried Rec)) (k : ℕ) → Fits steps ts (replicate k None)
fits_none steps ts k n e is = absurd (none_there k n e is)

-- ends with numbers that are apart cost at most what all runs cost
cost_apart : {Rec : Type 0} (steps : Rec → ℕ) (ts : List (Tried Rec)) (ps : List (ℕ × Ended Rec)) → Apart ps → ((q : ℕ × Ended Rec) → Contains ps q → Covers steps ts q.0 q.1) → cost_of_ends steps (map (λ p. p.1) ps) ≤ cost_of steps ts
cost_apart steps ts ps apart ok =
    let start : List (Option (Ended _)) = replicate (length ts) None in
    let long = long_none {X = Option (Ended _)} (length ts) None in
    let put = put_cost steps ps start apart (λ q c. let t = ok q c in get_none {X = Option (Ended _)} (length ts) q.0 None (slice_get_within ts q.0 t.0 t.1)) in
    let none = cost_none steps (length ts) in
    let fit = cost_fits steps ts (put_all ps start) (put_long ps start ∙ long) (fits_put steps ts ps start (fits_none steps ts (length ts)) ok) in
    omega (arith, put, none, fit)

-- ---- runs

cost_append : {Rec : Type 0} (steps : Rec → ℕ) (ts us : List (Tried Rec)) → cost_of steps (ts ++ us) ≡ cost_of steps ts + cost_of steps us
cost_append steps [] us = omega arith
cost_append steps (t ∷ ts) us = let more = cost_append steps ts us in omega (arith, more)

cost_runs : {Rec : Type 0} (steps : Rec → ℕ) (ms : List (List (Tried Rec))) → cost_of steps (runs_in ms) ≡ cost_of_all steps ms
cost_runs steps [] = refl
cost_runs steps (ts ∷ ms) = let more = cost_runs steps ms in let a = cost_append steps ts (runs_in ms) in omega (arith, more, a)

pub cost_ends-push : {Rec : Type 0} (steps : Rec → ℕ) (es : List (Ended Rec)) (e : Ended Rec) → cost_of_ends steps (es ++ e ∷ []) ≡ cost_of_ends steps es + cost_of_end steps e
cost_ends-push steps [] e = omega arith
cost_ends-push steps (x ∷ es) e = let more = cost_ends-push steps es e in omega (arith, more)

end_cost : {Rec : Type 0} (steps : Rec → ℕ) (all : Bool) (place seen : ℕ) (t : Tried Rec) (e : Ended Rec) → EndsOn all place seen t e → cost_of_end steps e ≤ cost_of_run steps t
end_cost steps all place seen t (ran r) h =
    let none = ap (λ o. if is_some o then 0 else steps t.made) h.1 in
    let made = ap steps h.2 in
    omega (arith, none, made)
end_cost steps all place seen t (reused r) h = omega arith
end_cost steps all place seen t (skipped v) h = omega arith

-- an end that costs as much as the run
abbrev full_by : {Rec : Type 0} → Tried Rec → Option Rec → Ended Rec
full_by t None = ran t.made
full_by t (Some r) = reused r

full_cost : {Rec : Type 0} (steps : Rec → ℕ) (t : Tried Rec) (o : Option Rec) → t.found ≡ o → cost_of_end steps (full_by t o) ≡ cost_of_run steps t
full_cost steps t None is = sym (ap (λ o. if is_some o then 0 else steps t.made) is)
full_cost steps t (Some r) is = sym (ap (λ o. if is_some o then 0 else steps t.made) is)

-- ---- one cell more

pub most_more : {Rec S : Type 0} (say : Rec → Option S) (steps : Rec → ℕ) (all : Bool) (ms : List (List (Tried Rec))) (order : List ℕ) (cells : ℕ) (works : List (Work Rec)) (d n : ℕ) (t : Tried Rec) → IsOrderOf (cells_of ms) order → All (IsWorkOf all ms order) works → AllPairs (Ascends cells) (all_did say works ++ Claimed d ∷ [])
    → slice_get order d ≡ Some n → slice_get (runs_in ms) n ≡ Some t → cost_of_ends steps (map (λ p. p.1) (map numbered works)) + cost_of_run steps t ≤ cost_of_all steps ms
most_more say steps all ms order cells works d n t is each pairs at run =
    let end = full_by t t.found in
    let ps = map numbered works ++ (n, end) ∷ [] in
    let work_of = λ (q : ℕ × Ended _) (c : Contains (map numbered works) q). contains_map numbered works q c in
    let is_work = λ (q : ℕ × Ended _) (c : Contains (map numbered works) q). all_at (IsWorkOf all ms order) works (work_of q c).0 each (work_of q c).1 in
    let apart : Apart ps = apart_both (map numbered works) ((n, end) ∷ []) (apart_works say all ms order cells works (Claimed d ∷ []) is.once each pairs) ((λ q c. absurd (none_in q c)), tt)
    (λ p q cp cq e. ⊎_elim
    (λ (same : (n, end) ≡ q).
    let w = work_of p cp in
    let number : w.0.number ≡ n = ap (λ (y : ℕ × Ended _). y.0) w.2 ∙ e ∙ sym (ap (λ (y : ℕ × Ended _). y.0) same) in
    let one = is.once w.0.drawn d n ((is_work p cp).drew ∙ ap Some number) at in
    let up = (pairs_across (Ascends cells) (all_did say works) (Claimed d ∷ []) pairs (Claimed w.0.drawn) (Claimed d) (to_all say works w.0 (Claimed w.0.drawn) w.1 (first_of say w.0)) (zero, omega arith, refl)).0 in
    omega (arith, one, up))
    (λ none. absurd (none_in q none))
    (in_cons (n, end) [] q cq)) in
    let full = full_cost steps t t.found refl in
    let covers : (q : ℕ × Ended _) → Contains ps q → Covers steps (runs_in ms) q.0 q.1 = λ q c. ⊎_elim
    (λ done.
    let w = work_of q done in
    let work = is_work q done in
    let number : w.0.number ≡ q.0 = ap (λ (y : ℕ × Ended _). y.0) w.2 in
    let ended : w.0.end ≡ q.1 = ap (λ (y : ℕ × Ended _). y.1) w.2 in
    let cost = end_cost steps all w.0.cell.place w.0.seen w.0.run w.0.end work.ended in
    let eq = ap (cost_of_end steps) ended in
    (w.0.run, ap (slice_get (runs_in ms)) (sym number) ∙ work.run, omega (arith, cost, eq)))
    (λ last. ⊎_elim
    (λ (same : (n, end) ≡ q).
    let eq = ap (λ (y : ℕ × Ended _). cost_of_end steps y.1) same in
    (t, ap (λ (y : ℕ × Ended _). slice_get (runs_in ms) y.0) (sym same) ∙ run, omega (arith, eq, full)))
    (λ none. absurd (none_in q none))
    (in_cons (n, end) [] q last))
    (Contains-append_cases (map numbered works) ((n, end) ∷ []) q c) in
    let sum = cost_apart steps (runs_in ms) ps apart covers in
    let parts = ap (cost_of_ends steps) (map-append (λ (p : ℕ × Ended _). p.1) (map numbered works) ((n, end) ∷ [])) in
    let push = cost_ends-push steps (map (λ p. p.1) (map numbered works)) end in
    let total = cost_runs steps ms in
    omega (arith, sum, parts, push, full, total)
