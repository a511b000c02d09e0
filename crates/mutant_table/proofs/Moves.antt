-- Each kind of step keeps the rule, and tells its worker of its own list.
use Rattle.std.proofs.Common.{◌≡◌, ℕ, ◌+◌, ◌-◌, ◌%◌, ◌^◌, ◌<◌, ◌≤◌, List, [], ◌∷◌, ◌++◌, true, false, set, length, replicate, refl, sym, ap, ◌∙◌, subst, ⊎_elim, arith, add-one, min}
use Rattle.std.specs.Prelude.{slice_index, slice_set}
use Rattle.std.specs.List.{count_by}
use mathlib.Core.Option.{none}
use Rattle.std.proofs.lemmas.List.{set-get_or, length-set, length-replicate}
use Rattle.std.proofs.lemmas.List.Sums.{count_by-le-length}
use Rattle.atomic_table.specs.Table.{State, Me, keeps, Allows, Splits, Joins, opening, step}
use Rattle.claim_core.specs.declared.events.ClaimEntry.{ClaimEntry}
use Rattle.claim_core.specs.declared.events.ClaimEntry.TheVariants.{Claimed, Looked, Detected}
use Rattle.claim_core.specs.Claims.{Claims, no_place, list_of, least_of, started, noted, claimed, looked, detected, is_exhausted}
use Rattle.claim_core.specs.Agreement.{ClaimsAgree}
use Rattle.claim_core.proofs.Lists.{noted_here, length-noted}
use Rattle.claim_core.proofs.Keeping.{claimed_agrees, looked_agrees, detected_agrees, started_agrees, idle_list}
use Rattle.mutant_table.specs.declared.rule.View.{View}
use Rattle.mutant_table.specs.declared.rule.Sizes.{Sizes}
use Rattle.mutant_table.specs.Entries.{ListAgrees}
use Rattle.mutant_table.specs.Rule.{did, first_view, made_one, seated, taken_in, spent_view, list_at, IsWorkersView, AreSeated, IsTableOfClaims, TellsClaim, TellsLook, TellsDetection}
use Rattle.mutant_table.proofs.Views.{seated_noted, seated_split, seated_join, seated_first}

-- what the agreement says of the list of one worker
list_agrees : (c : Claims) (w : ℕ) → ClaimsAgree c → ListAgrees c.cells (list_of c w)
list_agrees c w ok = record {
  ascends = ok.ascends w;
  fresh = ok.fresh w;
  detected = λ m p h. (ok.in_range w m p h).1;
  looked = λ m v h. ⊎_elim (λ is. omega arith) (λ d. let lt = (ok.in_range d.0 m v d.1).1 in omega arith) (ok.looked w m v h);
}

-- the list of the worker whose view is v, after one more entry
own_list : (z : Sizes) (c d : Claims) (v : View) (e : ClaimEntry) → c.cells ≡ z.cells → d.cells ≡ c.cells → IsWorkersView z c.lists v → v.worker < length c.lists → d.lists ≡ noted c.lists v.worker e → ClaimsAgree d → ListAgrees v.cells (v.entries ++ e ∷ [])
own_list z c d v e cells same mine lt lists ok =
    subst (λ (x : ℕ × List ClaimEntry). ListAgrees x.0 x.1)
    (λ i. ((same ∙ cells ∙ sym mine.cells) i, (ap (λ l. list_at l v.worker) lists ∙ noted_here c.lists v.worker e lt ∙ ap (λ l. l ++ e ∷ []) (sym mine.entries)) i))
    (list_agrees d v.worker ok)

-- word 0 takes the next number
next_set : (ws least : List ℕ) (n m : ℕ) → ws ≡ n ∷ least → slice_set ws 0 m ≡ m ∷ least
next_set ws least n m is = ap (λ l. slice_set l 0 m) is

no_wrap : (n cells workers many : ℕ) → cells + workers < 2 ^ 64 → n + 1 ≤ cells + many → many ≤ workers → (n + 1) % 2 ^ 64 ≡ n + 1
no_wrap n cells workers many room le few = grind arith

pub claims : (z : Sizes) (slots id : ℕ) (me : Me ℕ View) → me.0.live ≡ true → is_exhausted me.0.cells me.0.entries ≡ false
    → Allows (IsTableOfClaims z) slots id me 0 (λ n. (n + 1) % 2 ^ 64) (TellsClaim (step slots 0 1 0 none) me)
claims z slots id me live fresh s h homes at under =
    let v = me.0 in
    let c = h.claims in
    let mine = h.seats.each id v at live in
    let lt : v.worker < length c.lists = (let w = mine.worker in let l = h.workers in omega arith) in
    let n = slice_index s.words 0 in
    let next : n ≡ c.next = ap (λ l. slice_index l 0) h.words in
    let not_out : is_exhausted c.cells (list_of c v.worker) ≡ false = (λ i. is_exhausted ((h.cells ∙ sym mine.cells) i) (sym mine.entries i)) ∙ fresh in
    let ok = claimed_agrees c v.worker lt not_out h.agree in
    let wraps : (c.next + 1) % 2 ^ 64 ≡ c.next + 1 =
    no_wrap c.next c.cells (length c.lists) (count_by (is_exhausted c.cells) (noted c.lists v.worker (Claimed c.next))) (let r = h.room in let k = h.cells in let l = h.workers in omega arith) ok.room
    (omega (arith, count_by-le-length (is_exhausted c.cells) (noted c.lists v.worker (Claimed c.next)), length-noted c.lists v.worker (Claimed c.next))) in
    let e : Claimed n ≡ Claimed c.next = ap Claimed next in
    let told : ListAgrees v.cells (v.entries ++ Claimed c.next ∷ []) = own_list z c (claimed c v.worker) v (Claimed c.next) h.cells refl mine lt refl ok in (
      did v (Claimed n),
      keeps,
      tt,
      record {
        claims = claimed c v.worker;
        agree = ok;
        words = next_set s.words c.least c.next ((n + 1) % 2 ^ 64) h.words ∙ ap (λ k. k ∷ c.least) (ap (λ k. (k + 1) % 2 ^ 64) next ∙ wraps);
        cells = h.cells;
        mutants = h.mutants;
        workers = length-noted c.lists v.worker (Claimed c.next) ∙ h.workers;
        room = h.room;
        seats = subst (λ x. AreSeated z (noted c.lists v.worker (Claimed c.next)) (set s.views id (did v x))) (sym e) (seated_noted z c.lists s.views id v (Claimed c.next) lt at live h.seats);
      },
      (refl, subst (λ x. ListAgrees v.cells (v.entries ++ x ∷ [])) (sym e) told),
    )

-- word m + 1 is the least place of m
word_least : (ws least : List ℕ) (n m : ℕ) → ws ≡ n ∷ least → slice_index ws (m + 1) ≡ slice_index least m
word_least ws least n m is = ap (λ l. slice_index l (m + 1)) is ∙ rw add-one refl

least_set : (ws least : List ℕ) (n m p : ℕ) → ws ≡ n ∷ least → slice_set ws (m + 1) p ≡ n ∷ slice_set least m p
least_set ws least n m p is = ap (λ l. slice_set l (m + 1) p) is ∙ rw add-one refl

pub looks : (z : Sizes) (slots id m : ℕ) (me : Me ℕ View) → m < z.mutants → me.0.live ≡ true → Allows (IsTableOfClaims z) slots id me (m + 1) (λ n. n) (TellsLook (step slots (m + 1) 0 0 none) me)
looks z slots id m me few live s h homes at under =
    let v = me.0 in
    let c = h.claims in
    let mine = h.seats.each id v at live in
    let lt : v.worker < length c.lists = (let w = mine.worker in let l = h.workers in omega arith) in
    let in_least : m < length c.least = (let l = h.mutants in omega arith) in
    let found = slice_index s.words (m + 1) in
    let back : (m + 1) - 1 ≡ m = omega arith in
    let e : Looked m (least_of c m) ≡ Looked m found = ap (Looked m) (sym (word_least s.words c.least c.next m h.words)) in
    let ok = looked_agrees c v.worker m lt in_least h.agree in
    let told : ListAgrees v.cells (v.entries ++ Looked m (least_of c m) ∷ []) = own_list z c (looked c v.worker m) v (Looked m (least_of c m)) h.cells refl mine lt refl ok in (
      did v (Looked m found),
      keeps,
      tt,
      record {
        claims = looked c v.worker m;
        agree = ok;
        words = set-get_or s.words (m + 1) 0 ∙ h.words;
        cells = h.cells;
        mutants = h.mutants;
        workers = length-noted c.lists v.worker (Looked m (least_of c m)) ∙ h.workers;
        room = h.room;
        seats = subst (λ x. AreSeated z (noted c.lists v.worker (Looked m (least_of c m))) (set s.views id (did v x))) e (seated_noted z c.lists s.views id v (Looked m (least_of c m)) lt at live h.seats);
      },
      (ap (λ k. (did v (Looked k found), me.1)) (sym back), subst (λ x. ListAgrees v.cells (v.entries ++ x ∷ [])) (e ∙ ap (λ k. Looked k found) (sym back)) told),
    )

pub detects : (z : Sizes) (slots id m p : ℕ) (me : Me ℕ View) → m < z.mutants → p < no_place → me.0.live ≡ true
    → Allows (IsTableOfClaims z) slots id me (m + 1) (λ n. min n p) (TellsDetection (step slots (m + 1) p 0 none) me)
detects z slots id m p me few small live s h homes at under =
    let v = me.0 in
    let c = h.claims in
    let mine = h.seats.each id v at live in
    let lt : v.worker < length c.lists = (let w = mine.worker in let l = h.workers in omega arith) in
    let in_least : m < length c.least = (let l = h.mutants in omega arith) in
    let found = slice_index s.words (m + 1) in
    let back : (m + 1) - 1 ≡ m = omega arith in
    let ok = detected_agrees c v.worker m p lt in_least small h.agree in
    let told : ListAgrees v.cells (v.entries ++ Detected m p ∷ []) = own_list z c (detected c v.worker m p) v (Detected m p) h.cells refl mine lt refl ok in (
      did v (Detected m p),
      keeps,
      tt,
      record {
        claims = detected c v.worker m p;
        agree = ok;
        words = least_set s.words c.least c.next m (min found p) h.words ∙ ap (λ n. c.next ∷ slice_set c.least m (min n p)) (word_least s.words c.least c.next m h.words);
        cells = h.cells;
        mutants = length-set c.least m (min (least_of c m) p) ∙ h.mutants;
        workers = length-noted c.lists v.worker (Detected m p) ∙ h.workers;
        room = h.room;
        seats = seated_noted z c.lists s.views id v (Detected m p) lt at live h.seats;
      },
      (ap (λ k. (did v (Detected k p), me.1)) (sym back), subst (λ k. ListAgrees v.cells (v.entries ++ Detected k p ∷ [])) (sym back) told),
    )

-- other views, and the same words and lists
reseated : (z : Sizes) (s : State ℕ View) (views : List View) (h : IsTableOfClaims z s) → AreSeated z h.claims.lists views → IsTableOfClaims z record { words = s.words; homes = s.homes; views = views }
reseated z s views h seats = record { claims = h.claims; agree = h.agree; words = h.words; cells = h.cells; mutants = h.mutants; workers = h.workers; room = h.room; seats = seats }

pub splits : (z : Sizes) (id : ℕ) (v : View) → v.live ≡ true → v.worker ≡ 0 → v.made < z.workers → Splits (IsTableOfClaims z) id v (made_one v) (seated v)
splits z id v live host room s h at = reseated z s (set s.views id (made_one v) ++ seated v ∷ []) h (seated_split z h.claims.lists s.views id v live host room at h.seats)

pub joins : (z : Sizes) (id other : ℕ) (v w : View) → v.live ≡ true → v.worker ≡ 0 → w.live ≡ true → Joins (IsTableOfClaims z) id v other w (taken_in v w) spent_view
joins z id other v w live host theirs s h at ne there = reseated z s (set (set s.views id (taken_in v w)) other spent_view) h (seated_join z h.claims.lists s.views id other v w live host theirs at ne there h.seats)

-- the first words and the first seat
pub begins : (z : Sizes) (words : List ℕ) → words ≡ 0 ∷ replicate z.mutants no_place → 0 < z.workers → z.cells + z.workers < 2 ^ 64 → IsTableOfClaims z (opening words [] (first_view z))
begins z words is some_worker room = record {
  claims = started z.mutants z.cells z.workers;
  agree = started_agrees z.mutants z.cells z.workers;
  words = is;
  cells = refl;
  mutants = length-replicate z.mutants no_place;
  workers = length-replicate z.workers (let none : List ClaimEntry = [] in none);
  room = room;
  seats = seated_first z some_worker (idle_list z.workers);
}
