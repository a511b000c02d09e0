-- Three cells are done by two workers.
use Rattle.std.proofs.Common.{◌≡◌, ◌⊎◌, ◌∙◌, ℕ, zero, suc, ◌<◌, List, [], ◌∷◌, Some, None, refl, sym, ap, subst, arith, inl, inr, ⊎_elim, slice_get}
use Rattle.std.specs.Prelude.{All, Contains}
use Rattle.claim_core.specs.declared.events.ClaimEntry.{ClaimEntry}
use Rattle.claim_core.specs.declared.events.ClaimEntry.TheVariants.{Claimed, Looked, Detected}
use Rattle.claim_core.specs.Claims.{Claims, after_all, list_of, started, no_place}
use Rattle.claim_core.specs.Ending.{Cell, IsWholeRun, Leaves, Settles}
use Rattle.worker_checks.specs.Events.{AreAnswered, IsWholeAtEnd, cell, eight_events, three_cells}

-- What each worker notes.
abbrev first : List ClaimEntry
first = Claimed 0 ∷ Looked 0 65535 ∷ Looked 0 1 ∷ Claimed 2 ∷ Claimed 3 ∷ []

abbrev second : List ClaimEntry
second = Claimed 1 ∷ Detected 0 1 ∷ Claimed 4 ∷ []

abbrev lists : List (List ClaimEntry)
lists = first ∷ second ∷ []

abbrev end : Claims
end = record { cells = 3; next = 5; least = 1 ∷ 65535 ∷ []; lists = lists }

end_is : after_all eight_events (started 2 3 2) ≡ end
end_is = refl

abbrev detecting : List Cell
detecting = cell 0 1 ∷ []

-- ---- the first worker

none_detected : (m p : ℕ) → Contains first (Detected m p) → ⊥
none_detected m p (zero, lt, is) = absurd cc
none_detected m p (suc zero, lt, is) = absurd cc
none_detected m p (suc (suc zero), lt, is) = absurd cc
none_detected m p (suc (suc (suc zero)), lt, is) = absurd cc
none_detected m p (suc (suc (suc (suc zero))), lt, is) = absurd cc
none_detected m p (suc (suc (suc (suc (suc k)))), lt, is) = absurd (omega (arith, lt))

first_claims : (n : ℕ) → Contains first (Claimed n) → (n ≡ 0) ⊎ ((n ≡ 2) ⊎ (n ≡ 3))
first_claims n (zero, lt, is) = let e : 0 ≡ n = cc in inl (sym e)
first_claims n (suc zero, lt, is) = absurd cc
first_claims n (suc (suc zero), lt, is) = absurd cc
first_claims n (suc (suc (suc zero)), lt, is) = let e : 2 ≡ n = cc in inr (inl (sym e))
first_claims n (suc (suc (suc (suc zero))), lt, is) = let e : 3 ≡ n = cc in inr (inr (sym e))
first_claims n (suc (suc (suc (suc (suc k)))), lt, is) = absurd (omega (arith, lt))

not_detecting : (c : Cell) → Contains detecting c → c ≡ cell 0 1
not_detecting c (zero, lt, is) = sym is
not_detecting c (suc k, lt, is) = absurd (omega (arith, lt))

-- A cell that isn't the detecting one is settled by the first worker.
settled_by_first : (c : Cell) → (c ≡ cell 0 1 → ⊥) → Settles detecting first c
settled_by_first c other = (λ h. absurd (none_detected c.mutant c.place h), λ h. absurd (other (not_detecting c h)))

first_done : (n : ℕ) (c : Cell) → Contains first (Claimed n) → slice_get three_cells n ≡ Some c → Leaves first c ⊎ Settles detecting first c
first_done n c claimed at =
    ⊎_elim
    (λ (zero_is : n ≡ 0).
    let is : Some (cell 0 0) ≡ Some c = ap (slice_get three_cells) (sym zero_is) ∙ at in
    let same : cell 0 0 ≡ c = cc in
    inr (subst (Settles detecting first) same (settled_by_first (cell 0 0) (λ e. let p : 0 ≡ 1 = ap (λ (x : Cell). x.place) e in omega (arith, p)))))
    (λ more.
    ⊎_elim
    (λ (two_is : n ≡ 2).
    let is : Some (cell 1 0) ≡ Some c = ap (slice_get three_cells) (sym two_is) ∙ at in
    let same : cell 1 0 ≡ c = cc in
    inr (subst (Settles detecting first) same (settled_by_first (cell 1 0) (λ e. let p : 0 ≡ 1 = ap (λ (x : Cell). x.place) e in omega (arith, p)))))
    (λ (three_is : n ≡ 3).
    let is : None ≡ Some c = ap (slice_get three_cells) (sym three_is) ∙ at in
    absurd cc)
    more)
    (first_claims n claimed)

-- ---- the second worker

second_claims : (n : ℕ) → Contains second (Claimed n) → (n ≡ 1) ⊎ (n ≡ 4)
second_claims n (zero, lt, is) = let e : 1 ≡ n = cc in inl (sym e)
second_claims n (suc zero, lt, is) = absurd cc
second_claims n (suc (suc zero), lt, is) = let e : 4 ≡ n = cc in inr (sym e)
second_claims n (suc (suc (suc k)), lt, is) = absurd (omega (arith, lt))

second_detects : (c : Cell) → Contains second (Detected c.mutant c.place) → c ≡ cell 0 1
second_detects c (zero, lt, is) = absurd cc
second_detects c (suc zero, lt, is) = let m : 0 ≡ c.mutant = cc in let p : 1 ≡ c.place = cc in λ i. record { mutant = sym m i; place = sym p i }
second_detects c (suc (suc zero), lt, is) = absurd cc
second_detects c (suc (suc (suc k)), lt, is) = absurd (omega (arith, lt))

second_settles : Settles detecting second (cell 0 1)
second_settles = (λ h. (zero, omega arith, refl), λ h. (suc zero, omega arith, refl))

second_done : (n : ℕ) (c : Cell) → Contains second (Claimed n) → slice_get three_cells n ≡ Some c → Leaves second c ⊎ Settles detecting second c
second_done n c claimed at =
    ⊎_elim
    (λ (one_is : n ≡ 1).
    let is : Some (cell 0 1) ≡ Some c = ap (slice_get three_cells) (sym one_is) ∙ at in
    let same : cell 0 1 ≡ c = cc in
    inr (subst (Settles detecting second) same second_settles))
    (λ (four_is : n ≡ 4).
    let is : None ≡ Some c = ap (slice_get three_cells) (sym four_is) ∙ at in
    absurd cc)
    (second_claims n claimed)

-- ---- both

done : (w n : ℕ) (c : Cell) → Contains (list_of end w) (Claimed n) → slice_get three_cells n ≡ Some c → Leaves (list_of end w) c ⊎ Settles detecting (list_of end w) c
done zero n c claimed at = first_done n c claimed at
done (suc zero) n c claimed at = second_done n c claimed at
done (suc (suc w)) n c claimed at = let lt = claimed.1 in absurd (omega (arith, lt))

only : (w : ℕ) (c : Cell) → Contains (list_of end w) (Detected c.mutant c.place) → (n : ℕ) × Contains (list_of end w) (Claimed n) × (slice_get three_cells n ≡ Some c) × Settles detecting (list_of end w) c
only zero c h = absurd (none_detected c.mutant c.place h)
only (suc zero) c h =
    let is = second_detects c h in
    (1, (zero, omega arith, refl), ap Some (sym is), subst (Settles detecting second) (sym is) second_settles)
only (suc (suc w)) c h = let lt = h.1 in absurd (omega (arith, lt))

claimed : (n : ℕ) → n < 3 → (w : ℕ) × Contains (list_of end w) (Claimed n)
claimed zero lt = (0, (zero, omega arith, refl))
claimed (suc zero) lt = (1, (zero, omega arith, refl))
claimed (suc (suc zero)) lt = (0, (suc (suc (suc zero)), omega arith, refl))
claimed (suc (suc (suc n))) lt = absurd (omega (arith, lt))

cells : All (λ (c : Cell). (c.mutant < 2) × (c.place < no_place)) three_cells
cells zero d lt = (omega arith, omega arith)
cells (suc zero) d lt = (omega arith, omega arith)
cells (suc (suc zero)) d lt = (omega arith, omega arith)
cells (suc (suc (suc k))) d lt = absurd (omega (arith, lt))

in_table : All (Contains three_cells) detecting
in_table zero d lt = (suc zero, omega arith, refl)
in_table (suc k) d lt = absurd (omega (arith, lt))

pub are_answered : AreAnswered
are_answered = refl

pub is_whole : IsWholeAtEnd
is_whole = subst (λ c. IsWholeRun c three_cells detecting) (sym end_is) (record {
  count = refl;
  cells = cells;
  in_table = in_table;
  claimed = claimed;
  done = done;
  only = only;
})
