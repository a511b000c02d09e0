-- From the first seat, which has taken in all others, to the claims with the lists of all seats.
use Rattle.std.proofs.Common.{◌≡◌, ℕ, zero, suc, ◌+◌, ◌<◌, List, [], ◌∷◌, ◌++◌, length, map, take, drop, refl, sym, ap, ◌∙◌, subst, arith, add-one}
use Rattle.std.specs.Prelude.{All, slice_index_or}
use mathlib.Core.Option.{some, some-injective, some-ne-none}
use lib.ListN.{get_elem?}
use Rattle.std.proofs.lemmas.List.{ext_get_or, get_or-map, length-map}
use Rattle.atomic_table.specs.Table.{State}
use Rattle.atomic_table.specs.Seated.{TableId}
use Rattle.claim_core.specs.declared.events.ClaimEntry.{ClaimEntry}
use Rattle.claim_core.specs.Agreement.{ClaimsAgree}
use Rattle.mutant_table.specs.declared.rule.View.{View}
use Rattle.mutant_table.specs.declared.rule.Sizes.{Sizes}
use Rattle.mutant_table.specs.declared.seat.ClaimSeat.{ClaimSeat}
use Rattle.mutant_table.specs.Rule.{list_at, LeadsSeats, IsTableOfClaims}
use Rattle.mutant_table.specs.Seats.{entries_of, worker_of, ended_as, AreSeatsAt, IsGathered}

pub first_of_all : {X : Type 0} (P : X → Type 0) (rest later : List X) (x : X) → rest ≡ x ∷ later → All P rest → P x × All P later
first_of_all P rest later x is h = let all : All P (x ∷ later) = subst (All P) is h in (all 0 x (omega arith), λ k d lt. all (suc k) d (omega arith))

took : (xs : List ℕ) (m x : ℕ) → get_elem? xs m ≡ some x → take (suc m) xs ≡ take m xs ++ x ∷ []
took [] m x e = absurd (some-ne-none x (sym e))
took (y ∷ ys) zero x e = ap (λ n. n ∷ []) (some-injective y x e)
took (y ∷ ys) (suc m) x e = ap (λ l. y ∷ l) (took ys m x e)

-- one more word is copied
pub copied : (ws : List ℕ) (m x : ℕ) → get_elem? ws (m + 1) ≡ some x → take (m + 1) (drop 1 ws) ≡ take m (drop 1 ws) ++ x ∷ []
copied [] m x e = absurd (some-ne-none x (sym e))
copied (w ∷ ws) m x e = rw add-one (took ws m x (rw add-one at e))

take_all : (xs : List ℕ) (n : ℕ) → length xs ≡ n → take n xs ≡ xs
take_all [] zero e = refl
take_all [] (suc n) e = refl
take_all (x ∷ xs) zero e = absurd (omega arith)
take_all (x ∷ xs) (suc n) e = ap (λ l. x ∷ l) (take_all xs n (omega arith))

-- the lists that ended are those of the other seats
pub lists_are : (z : Sizes) (table : TableId) (seats : List ClaimSeat) (lists : List (List ClaimEntry)) (views : List View) (v : View) → 0 < z.workers → AreSeatsAt table z seats → IsGathered z seats v
    → length lists ≡ z.workers → v.entries ≡ list_at lists v.worker → LeadsSeats z lists views v → lists ≡ map entries_of seats
lists_are z table [] lists views v some_worker are g long mine lead = let c = are.count in absurd (omega arith)
lists_are z table (first ∷ others) lists views v some_worker are g long mine lead =
    let c = are.count in
    ext_get_or [] lists (map entries_of (first ∷ others)) (omega (arith, long, c, length-map (first ∷ others) entries_of)) (λ i lt. same i lt)
  where
    same : (i : ℕ) → i < length lists → list_at lists i ≡ slice_index_or (map entries_of (first ∷ others)) i []
    same zero lt = sym (mine ∙ ap (list_at lists) g.worker) ∙ g.entries
    same (suc j) lt =
        let c = are.count in
        let under : j < length others = omega (arith, lt, long, c) in
        let ended : (slice_index_or v.ended j (0, [])).1 ≡ list_at lists (slice_index_or v.ended j (0, [])).0 = (lead.ended j (0, []) (omega (arith, ap length g.ended, length-map others ended_as, under))).1 in
        let at : slice_index_or v.ended j (0, []) ≡ ended_as (slice_index_or others j first) = ap (λ l. slice_index_or l j (0, [])) g.ended ∙ get_or-map ended_as others j first (0, []) under in
        let worker : worker_of (slice_index_or others j first) ≡ suc j = (are.each (suc j) first (omega arith)).1 in
        sym (get_or-map entries_of others j first [] under ∙ ap (λ (p : ℕ × List ClaimEntry). p.1) (sym at) ∙ ended ∙ ap (λ (p : ℕ × List ClaimEntry). list_at lists p.0) at ∙ ap (list_at lists) worker)

-- the words and lists at the end are claims that agree
pub ended_agree : (z : Sizes) (table : TableId) (seats : List ClaimSeat) (s : State ℕ View) (id : ℕ) (v : View) (next : ℕ) (least : List ℕ) → 0 < z.workers → AreSeatsAt table z seats → IsGathered z seats v
    → IsTableOfClaims z s → get_elem? s.views id ≡ some v → get_elem? s.words 0 ≡ some next → least ≡ take z.mutants (drop 1 s.words)
    → ClaimsAgree record { cells = z.cells; next = next; least = least; lists = map entries_of seats }
ended_agree z table seats s id v next least some_worker are g h at first copy =
    let c = h.claims in
    let mine = h.seats.each id v at g.live in
    let lead = h.seats.lead id v at g.live g.worker in
    let next_is : c.next ≡ next = some-injective c.next next (ap (λ l. get_elem? l 0) (sym h.words) ∙ first) in
    let least_is : c.least ≡ least = sym (copy ∙ ap (λ l. take z.mutants (drop 1 l)) h.words ∙ take_all c.least z.mutants h.mutants) in
    let lists = lists_are z table seats c.lists s.views v some_worker are g h.workers mine.entries lead in
    subst ClaimsAgree (λ i. record { cells = h.cells i; next = next_is i; least = least_is i; lists = lists i }) h.agree
