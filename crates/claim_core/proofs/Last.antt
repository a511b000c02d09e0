-- What the least places are once all cells of a table are done.
use Rattle.std.proofs.Common.{◌≡◌, ◌≢◌, ◌⊎◌, ℕ, ◌<◌, ◌≤◌, List, if◌then◌else◌, refl, sym, ap, ◌∙◌, subst, true≢false, is_some, eq-eqb, ne_eqb, inl, inr, ⊎_elim, arith, length}
use Rattle.std.specs.Prelude.{◌↔◌, All, Contains, slice_index_or, slice_get, Some, None, IsNone, IfSome}
use mathlib.Core.Logic.{dite}
use native.Mathlib.Decide.{ℕ_discrete}
use Rattle.std.proofs.lemmas.Option.{slice_get-get_or}
use Rattle.std.proofs.lemmas.List.Elements.{All-contains_itself}
use Rattle.claim_core.specs.declared.events.ClaimEntry.TheVariants.{Detected}
use Rattle.claim_core.specs.Claims.{Claims, no_place, place_in, list_of, least_of, started, after_all}
use Rattle.claim_core.specs.Agreement.{ClaimsAgree, IsUndetected, IsLeastDetected}
use Rattle.claim_core.specs.Ending.{Cell, Leaves, Settles, IsWholeRun, IsLeastOf, EndsAtLeast}
use Rattle.claim_core.specs.declared.events.Event.{Event}
use Rattle.claim_core.proofs.Keeping.{started_agrees, after_all_agrees, after_all-least, first-least}

-- what stands in a list meets what all do
all_at : {X : Type 0} (P : X → Type 0) (xs : List X) (x : X) → All P xs → Contains xs x → P x
all_at P xs x h c = subst P c.2 (h c.0 x c.1)

all_from : {X : Type 0} (P : X → Type 0) (xs : List X) → ((x : X) → Contains xs x → P x) → All P xs
all_from P xs h k d lt = h (slice_index_or xs k d) (All-contains_itself xs k d lt)

-- a detected place is of a detecting cell
detected_is : (c : Claims) (table detecting : List Cell) → IsWholeRun c table detecting → (w : ℕ) (cell : Cell) → Contains (list_of c w) (Detected cell.mutant cell.place) → Contains detecting cell
detected_is c table detecting run w cell h = let o = run.only w cell h in o.3.0 h

-- the least place is at most that of each detecting cell
least_at_most : (c : Claims) (table detecting : List Cell) → ClaimsAgree c → IsWholeRun c table detecting → (cell : Cell) → Contains detecting cell → least_of c cell.mutant ≤ cell.place
least_at_most c table detecting ok run cell h =
    let t : Contains table cell = all_at (Contains table) detecting cell run.in_table h in
    let is_cell : slice_get table t.0 ≡ Some cell = slice_get-get_or table t.0 cell t.1 ∙ ap Some t.2 in
    let range = all_at (λ (x : Cell). (x.mutant < length c.least) × (x.place < no_place)) table cell run.cells t in
    let w = run.claimed t.0 (let n = run.count in let lt = t.1 in omega arith) in
    ⊎_elim
    (λ (left : Leaves (list_of c w.0) cell). ⊎_elim
    (λ none. let lt = left.2 in let small = range.1 in absurd (omega arith))
    (λ d. let le = ok.least d.0 cell.mutant left.0 d.1 in let lt = left.2 in omega arith)
    (ok.looked w.0 cell.mutant left.0 left.1))
    (λ (settled : Settles detecting (list_of c w.0) cell). ok.least w.0 cell.mutant cell.place (settled.1 h))
    (run.done w.0 t.0 cell w.1 is_cell)

-- the least place stands for none, or is that of a detecting cell
least_stands : (c : Claims) (table detecting : List Cell) → ClaimsAgree c → IsWholeRun c table detecting → (m : ℕ) → m < length c.least → (least_of c m ≡ no_place) ⊎ Contains detecting (record { mutant = m; place = least_of c m })
least_stands c table detecting ok run m lt = ⊎_elim (λ n. inl n) (λ d. inr (detected_is c table detecting run d.0 (record { mutant = m; place = least_of c m }) d.1)) (ok.found m lt)

-- each detecting cell's place stands for one
small : (c : Claims) (table detecting : List Cell) → IsWholeRun c table detecting → (cell : Cell) → Contains detecting cell → cell.place < no_place
small c table detecting run cell h =
    (all_at (λ (x : Cell). (x.mutant < length c.least) × (x.place < no_place)) table cell run.cells (all_at (Contains table) detecting cell run.in_table h)).1

at_none : (v : ℕ) → v ≡ no_place → place_in v ≡ None
at_none v is = ap (λ b. if b then None else Some v) (eq-eqb v no_place is)

at_some : (v : ℕ) → v ≢ no_place → place_in v ≡ Some v
at_some v other = ap (λ b. if b then None else Some v) (ne_eqb v no_place other)

pub least_is : (c : Claims) (table detecting : List Cell) → ClaimsAgree c → IsWholeRun c table detecting → (m : ℕ) → m < length c.least → IsLeastOf detecting m (place_in (least_of c m))
least_is c table detecting ok run m lt = dite (ℕ_discrete (least_of c m) no_place)
    (λ none. subst (IsLeastOf detecting m) (sym (at_none (least_of c m) none))
    (all_from (λ (x : Cell). x.mutant ≢ m) detecting (λ x h same.
    let least = least_at_most c table detecting ok run x h in
    let is : least_of c x.mutant ≡ least_of c m = ap (least_of c) same in
    let under = small c table detecting run x h in
    omega arith)))
    (λ some. subst (IsLeastOf detecting m) (sym (at_some (least_of c m) some)) (
      ⊎_elim (λ none. absurd (some none)) (λ h. h) (least_stands c table detecting ok run m lt),
      all_from (λ (x : Cell). x.mutant ≡ m → least_of c m ≤ x.place) detecting (λ x h same.
          let least = least_at_most c table detecting ok run x h in
          let is : least_of c x.mutant ≡ least_of c m = ap (least_of c) same in
          omega arith),
    ))

-- no list has a detection of the mutant exactly where its least place is none
pub undetected : (c : Claims) → ClaimsAgree c → (m : ℕ) → m < length c.least → IsNone (place_in (least_of c m)) ↔ IsUndetected c m
undetected c ok m lt = dite (ℕ_discrete (least_of c m) no_place)
    (λ none. (
      (λ is w p h. let le = ok.least w m p h in let small = (ok.in_range w m p h).1 in omega arith),
      (λ off. subst IsNone (sym (at_none (least_of c m) none)) refl),
    ))
    (λ some. (
      (λ is. absurd (true≢false (ap is_some (sym (at_some (least_of c m) some)) ∙ is))),
      (λ off. ⊎_elim (λ none. absurd (some none)) (λ d. absurd (off d.0 (least_of c m) d.1)) (ok.found m lt)),
    ))

pub detected_least : (c : Claims) → ClaimsAgree c → (m : ℕ) → m < length c.least → IfSome (place_in (least_of c m)) (IsLeastDetected c m)
detected_least c ok m lt = dite (ℕ_discrete (least_of c m) no_place)
    (λ none. subst (λ o. IfSome o (IsLeastDetected c m)) (sym (at_none (least_of c m) none)) tt)
    (λ some. subst (λ o. IfSome o (IsLeastDetected c m)) (sym (at_some (least_of c m) some))
    (⊎_elim (λ none. absurd (some none)) (λ d. d) (ok.found m lt), λ w p h. ok.least w m p h))

pub ends_at_least : (mutants cells workers : ℕ) (events : List Event) → EndsAtLeast mutants cells workers events
ends_at_least mutants cells workers events range table detecting run m lt =
    let end = after_all events (started mutants cells workers) in
    least_is end table detecting (after_all_agrees events (started mutants cells workers) range (started_agrees mutants cells workers)) run m
    (omega (arith, lt, after_all-least events (started mutants cells workers), first-least mutants))
