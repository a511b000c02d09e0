-- Jobs and what they leave, place by place.
use Rattle.std.proofs.Common.{◌≡◌, ℕ, zero, suc, ◌<◌, List, [], ◌∷◌, ◌++◌, map, length, reverse, refl, sym, ap, subst, ◌∙◌, arith, All, slice_index_or, append_assoc}
use Rattle.std.proofs.lemmas.List.{map-append}
use mathlib.Core.List.{reverse_aux}
use Rattle.atomic_table.specs.Seated.{TableId}
use Rattle.mutant_table.specs.declared.rule.Sizes.{Sizes}
use Rattle.worker_gate.specs.Ends.{Begun, Worked, WorkedFrom}
use Rattle.worker_gate.specs.Hands.{Reading, Runs}
use Rattle.worker_gate.specs.Workers.{job_of, IsIdle, IsReady, IsPlanned}
use Rattle.worker_gate.specs.declared.ends.Job.{Job}
use Rattle.worker_gate.specs.declared.ends.Plan.{Plan}
use Rattle.worker_gate.specs.declared.ends.WorkEnd.{WorkEnd}

map_onto : {C M F : Type 0} (es acc : List (WorkEnd C M F)) → map job_of (reverse_aux es acc) ≡ reverse_aux (map job_of es) (map job_of acc)
map_onto [] acc = refl
map_onto (e ∷ es) acc = map_onto es (e ∷ acc)

pub map_job-reverse : {C M F : Type 0} (es : List (WorkEnd C M F)) → map job_of (reverse es) ≡ reverse (map job_of es)
map_job-reverse es = map_onto es []

long_as : {C M F : Type 0} (es : List (WorkEnd C M F)) → length (map job_of es) ≡ length es
long_as [] = refl
long_as (e ∷ es) = ap suc (long_as es)

job_at : {C M F : Type 0} (es : List (WorkEnd C M F)) (k : ℕ) (d : WorkEnd C M F) (j : Job C) → k < length es → (slice_index_or es k d).job ≡ slice_index_or (map job_of es) k j
job_at [] k d j lt = absurd (omega arith)
job_at (e ∷ es) zero d j lt = refl
job_at (e ∷ es) (suc k) d j lt = job_at es k d j (omega arith)

pub as_long : {C M F : Type 0} (jobs : List (Job C)) (es : List (WorkEnd C M F)) → map job_of es ≡ jobs → length es ≡ length jobs
as_long jobs es is = sym (long_as es) ∙ ap length is

begun_of : {C M F : Type 0} (table : TableId) (z : Sizes) (e : WorkEnd C M F) → IsReady table z e.job → IsIdle e → Begun table z e
begun_of table z e r i = record { seat = r.seat; idle = r.idle; part = r.part; none = i.0; fault = i.1 }

pub ready_at : {C M F : Type 0} (table : TableId) (z : Sizes) (jobs : List (Job C)) (es : List (WorkEnd C M F)) → map job_of es ≡ jobs → All (IsReady table z) jobs → All IsIdle es → All (Begun table z) es
ready_at table z jobs es is ready idle = λ k d lt.
    let long = as_long jobs es is in
    let same : slice_index_or jobs k d.job ≡ (slice_index_or es k d).job = sym (job_at es k d d.job lt ∙ ap (λ l. slice_index_or l k d.job) is) in
    begun_of table z (slice_index_or es k d) (subst (IsReady table z) same (ready k d.job (omega (arith, lt, long)))) (idle k d lt)

pub planned_at : {C M F Rec S : Type 0} (r : Reading M F Rec S) (runs : C → Runs Rec) (z : Sizes) (plan : Plan) (jobs : List (Job C)) (es : List (WorkEnd C M F)) → map job_of es ≡ jobs → All (IsPlanned r runs z plan) jobs → All (λ (e : WorkEnd C M F). IsPlanned r runs z plan e.job) es
planned_at r runs z plan jobs es is plans = λ k d lt.
    let long = as_long jobs es is in
    let same : slice_index_or jobs k d.job ≡ (slice_index_or es k d).job = sym (job_at es k d d.job lt ∙ ap (λ l. slice_index_or l k d.job) is) in
    subst (IsPlanned r runs z plan) same (plans k d.job (omega (arith, lt, long)))

pub worked_at : {C M F Rec S : Type 0} (r : Reading M F Rec S) (runs : C → Runs Rec) (table : TableId) (z : Sizes) (plan : Plan) (jobs : List (Job C)) (es : List (WorkEnd C M F)) → map job_of es ≡ jobs → (k : ℕ) (j : Job C) (d e : WorkEnd C M F) → k < length es → Worked r table z plan (runs (slice_index_or es k d).job.hands) (slice_index_or es k d) e → WorkedFrom r table z plan (runs (slice_index_or jobs k j).hands) (slice_index_or jobs k j) e
worked_at r runs table z plan jobs es is k j d e lt w =
    let same : (slice_index_or es k d).job ≡ slice_index_or jobs k j = job_at es k d j lt ∙ ap (λ l. slice_index_or l k j) is in
    subst (λ (x : Job _). WorkedFrom r table z plan (runs x.hands) x e) same w

pub rev_push : {X : Type 0} (xs acc : List X) (y : X) → reverse_aux (xs ++ y ∷ []) acc ≡ y ∷ reverse_aux xs acc
rev_push [] acc y = refl
rev_push (x ∷ xs) acc y = rev_push xs (x ∷ acc) y

-- one job more was begun
pub begun_more : {C M F : Type 0} (jobs rest initial : List (Job C)) (es : List (WorkEnd C M F)) (job : Job C) (e : WorkEnd C M F) → jobs ++ reverse (map job_of es) ≡ initial → jobs ≡ rest ++ job ∷ [] → e.job ≡ job → rest ++ reverse (map job_of (es ++ e ∷ [])) ≡ initial
begun_more jobs rest initial es job e inv popped made =
    ap (λ l. rest ++ reverse l) (map-append job_of es (e ∷ []))
    ∙ ap (λ l. rest ++ l) (rev_push (map job_of es) [] e.job)
    ∙ ap (λ j. rest ++ j ∷ reverse (map job_of es)) made
    ∙ sym (append_assoc rest (job ∷ []) (reverse (map job_of es)))
    ∙ ap (λ l. l ++ reverse (map job_of es)) (sym popped)
    ∙ inv
