-- A held state after a step of its code.
use Rattle.std.proofs.Common.{◌≡◌, ℕ, zero, suc, ◌+◌, ◌^◌, ◌<◌, List, [], ◌∷◌, ◌++◌, true, false, refl, sym, ap, ◌∙◌, subst, arith, length, map, replicate}
use Rattle.std.specs.Prelude.{slice_index_or, slice_set, OnErr, Result, Ok, Err, Some, None, nat_lt, if◌then◌else◌}
use Rattle.std.proofs.lemmas.List.{map-set, get_or-map, length-map}
use Rattle.std.proofs.Math.Seq.{map-set_same}
use Rattle.claim_core.specs.declared.events.ClaimEntry.{ClaimEntry}
use Rattle.claim_core.specs.declared.state.Worker.{Worker}
use Rattle.claim_core.specs.Claims.{Claims, no_place, list_of, least_of, is_past, is_exhausted, noted, claimed, IsInRange}
use Rattle.claim_core.specs.Held.{IsKept, claims_of, entries_of, drained_of, lists_of}
use Rattle.claim_core.specs.declared.state.ClaimState.TheInside.{Inside}
use Rattle.std.proofs.lemmas.Grind.{get_or_default_zero}
use Rattle.claim_core.specs.declared.events.ClaimEntry.TheVariants.{Claimed}
use Rattle.claim_core.specs.declared.events.Event.{Event}
use Rattle.claim_core.specs.declared.events.Reply.TheVariants.{Cell}
use Rattle.std.proofs.lemmas.Bool.{lt-ltb}
use Rattle.claim_core.specs.Agreement.{ClaimsAgree}
use Rattle.std.proofs.lemmas.List.{length-set}
use Rattle.std.proofs.lemmas.List.Sums.{count_by-le-length}
use Rattle.claim_core.proofs.Keeping.{claimed_agrees, started_agrees}
use Rattle.claim_core.proofs.Lists.{at, length-noted, exhausted-push, exhausted-same}

pub on_err : {T E : Type 0} (P : Type 0) (r : Result T E) → P → OnErr r P
on_err P (Ok v) p = tt
on_err P (Err e) p = p

-- the list of a worker, read among the lists
pub at_lists : (ws : List Worker) (w : ℕ) (d : Worker) → w < length ws → at (lists_of ws) w ≡ entries_of (slice_index_or ws w d)
at_lists ws w d lt = get_or-map entries_of ws w d [] lt

-- a worker whose list gets one more entry
pub lists_noted : (ws : List Worker) (w : ℕ) (e : ClaimEntry) (x d : Worker) → w < length ws → entries_of x ≡ entries_of (slice_index_or ws w d) ++ e ∷ [] → lists_of (slice_set ws w x) ≡ noted (lists_of ws) w e
lists_noted ws w e x d lt is = map-set entries_of ws w x ∙ ap (slice_set (lists_of ws) w) (is ∙ ap (λ l. l ++ e ∷ []) (sym (at_lists ws w d lt)))

pub lists_same : (ws : List Worker) (w : ℕ) (x d : Worker) → entries_of x ≡ entries_of (slice_index_or ws w d) → lists_of (slice_set ws w x) ≡ lists_of ws
lists_same ws w x d is = map-set_same entries_of ws w x d is

pub drained_same : (ws : List Worker) (w : ℕ) (x d : Worker) → drained_of x ≡ drained_of (slice_index_or ws w d) → map drained_of (slice_set ws w x) ≡ map drained_of ws
drained_same ws w x d is = map-set_same drained_of ws w x d is

pub as_many : (ws vs : List Worker) → map drained_of vs ≡ map drained_of ws → length vs ≡ length ws
as_many ws vs is = sym (length-map vs drained_of) ∙ ap length is ∙ length-map ws drained_of

-- a worker knows whether its list is exhausted
pub knows : (cells : ℕ) (ws : List Worker) (w : ℕ) (d : Worker) → w < length ws → map drained_of ws ≡ map (is_exhausted cells) (lists_of ws) → is_exhausted cells (at (lists_of ws) w) ≡ drained_of (slice_index_or ws w d)
knows cells ws w d lt is =
    sym (get_or-map (is_exhausted cells) (lists_of ws) w [] (drained_of d) (omega (arith, lt, length-map ws entries_of))) ∙ ap (λ l. slice_index_or l w (drained_of d)) (sym is) ∙ get_or-map drained_of ws w d (drained_of d) lt

-- an entry that isn't past the cells changes no answer
pub flags_same : (cells : ℕ) (lists : List (List ClaimEntry)) (w : ℕ) (e : ClaimEntry) → is_past cells e ≡ false → map (is_exhausted cells) (noted lists w e) ≡ map (is_exhausted cells) lists
flags_same cells lists w e below = map-set_same (is_exhausted cells) lists w (at lists w ++ e ∷ []) [] (exhausted-same cells (at lists w) e below)

-- one that is past them changes the worker's
pub flags_past : (cells : ℕ) (lists : List (List ClaimEntry)) (w : ℕ) (e : ClaimEntry) → is_exhausted cells (at lists w) ≡ false → is_past cells e ≡ true → map (is_exhausted cells) (noted lists w e) ≡ slice_set (map (is_exhausted cells) lists) w true
flags_past cells lists w e none past = map-set (is_exhausted cells) lists w (at lists w ++ e ∷ []) ∙ ap (slice_set (map (is_exhausted cells) lists) w) (exhausted-push cells (at lists w) e none ∙ past)

pub drained_noted : (cells : ℕ) (ws vs : List Worker) (w : ℕ) (e : ClaimEntry) → is_past cells e ≡ false → lists_of vs ≡ noted (lists_of ws) w e → map drained_of vs ≡ map drained_of ws → map drained_of ws ≡ map (is_exhausted cells) (lists_of ws) → map drained_of vs ≡ map (is_exhausted cells) (lists_of vs)
drained_noted cells ws vs w e below lists flags is = flags ∙ is ∙ sym (flags_same cells (lists_of ws) w e below) ∙ ap (map (is_exhausted cells)) (sym lists)

pub drained_past : (cells : ℕ) (ws vs us : List Worker) (w : ℕ) (e : ClaimEntry) → is_exhausted cells (at (lists_of ws) w) ≡ false → is_past cells e ≡ true
    → lists_of vs ≡ noted (lists_of ws) w e → map drained_of vs ≡ map drained_of ws → lists_of us ≡ lists_of vs → map drained_of us ≡ slice_set (map drained_of vs) w true
    → map drained_of ws ≡ map (is_exhausted cells) (lists_of ws) → map drained_of us ≡ map (is_exhausted cells) (lists_of us)
drained_past cells ws vs us w e none past lists flags same set is =
    set ∙ ap (λ l. slice_set l w true) (flags ∙ is) ∙ sym (flags_past cells (lists_of ws) w e none past) ∙ ap (map (is_exhausted cells)) (sym (same ∙ lists))

pub flags_idle : (cells n : ℕ) → replicate n false ≡ map (is_exhausted cells) (replicate n [])
flags_idle cells zero = refl
flags_idle cells (suc n) = ap (λ l. false ∷ l) (flags_idle cells n)

-- a least place, as it is read
pub read_least : (s : Inside) (c : Claims) (m x : ℕ) → claims_of s ≡ c → m < length c.least → x ≡ slice_index_or s.least.items m x → x ≡ least_of c m
read_least s c m x is = subst (λ d. m < length d.least → x ≡ slice_index_or s.least.items m x → x ≡ least_of d m) is (λ lt h. h ∙ get_or_default_zero s.least.items m x lt)

-- what an event asks of the numbers, of the state as it is held
pub in_range : (s : Inside) (c : Claims) (e : Event) → claims_of s ≡ c → IsInRange c e → IsInRange (claims_of s) e
in_range s c e is range = subst (λ d. IsInRange d e) (sym is) range

pub few_workers : (s : Inside) (w : ℕ) → w < length (lists_of s.workers.items) → w < length s.workers.items
few_workers s w lt = omega (arith, lt, length-map s.workers.items entries_of)

-- a worker's flag, as it is read
pub told : (s : Inside) (w : ℕ) (x : Worker) → IsKept s → w < length (lists_of s.workers.items) → x ≡ slice_index_or s.workers.items w x → is_exhausted s.cells (list_of (claims_of s) w) ≡ x.drained
told s w x kept lt is = knows s.cells s.workers.items w x (few_workers s w lt) kept.drained ∙ ap drained_of (sym is)

-- the next number fits its type
pub next_fits : (s : Inside) (w : ℕ) → IsKept s → w < length (lists_of s.workers.items) → is_exhausted s.cells (list_of (claims_of s) w) ≡ false → s.next + 1 < 2 ^ 64
next_fits s w kept lt none =
    let room = (claimed_agrees (claims_of s) w lt none kept.agree).room in
    let lists = noted (lists_of s.workers.items) w (Claimed s.next) in
    omega (arith, room, kept.room, count_by-le-length (is_exhausted s.cells) lists, length-noted (lists_of s.workers.items) w (Claimed s.next), length-map s.workers.items entries_of)

-- the state is kept where a worker notes an entry that isn't past the cells
pub kept_noted : (s t : Inside) (c : Claims) (w : ℕ) (e : ClaimEntry) → IsKept s → ClaimsAgree c → claims_of t ≡ c → t.cells ≡ s.cells → is_past s.cells e ≡ false
    → lists_of t.workers.items ≡ noted (lists_of s.workers.items) w e → map drained_of t.workers.items ≡ map drained_of s.workers.items → IsKept t
kept_noted s t c w e kept agree is cells below lists flags = record {
  agree = subst ClaimsAgree (sym is) agree;
  drained = drained_noted s.cells s.workers.items t.workers.items w e below lists flags kept.drained ∙ ap (λ n. map (is_exhausted n) (lists_of t.workers.items)) (sym cells);
  room = omega (arith, kept.room, cells, as_many s.workers.items t.workers.items flags);
}

-- and where it draws past them
pub kept_past : (s t : Inside) (vs : List Worker) (c : Claims) (w : ℕ) (e : ClaimEntry) → IsKept s → ClaimsAgree c → claims_of t ≡ c → t.cells ≡ s.cells
    → is_exhausted s.cells (at (lists_of s.workers.items) w) ≡ false → is_past s.cells e ≡ true
    → lists_of vs ≡ noted (lists_of s.workers.items) w e → map drained_of vs ≡ map drained_of s.workers.items
    → lists_of t.workers.items ≡ lists_of vs → map drained_of t.workers.items ≡ slice_set (map drained_of vs) w true → IsKept t
kept_past s t vs c w e kept agree is cells none past lists flags same set = record {
  agree = subst ClaimsAgree (sym is) agree;
  drained = drained_past s.cells s.workers.items vs t.workers.items w e none past lists flags same set kept.drained ∙ ap (λ n. map (is_exhausted n) (lists_of t.workers.items)) (sym cells);
  room = omega (arith, kept.room, cells, as_many s.workers.items vs flags, sym (length-map vs drained_of), length-set (map drained_of vs) w true, ap length set, length-map t.workers.items drained_of);
}

pub kept_idle : (s : Inside) (mutants cells workers : ℕ) → s.cells ≡ cells → s.next ≡ 0 → s.least.items ≡ replicate mutants no_place → lists_of s.workers.items ≡ replicate workers [] → map drained_of s.workers.items ≡ replicate workers false
    → cells + workers < 2 ^ 64 → IsKept s
kept_idle s mutants cells workers c n l ls d room = record {
  agree = subst ClaimsAgree (λ i. record { cells = sym c i; next = sym n i; least = sym l i; lists = sym ls i }) (started_agrees mutants cells workers);
  drained = d ∙ flags_idle s.cells workers ∙ ap (map (is_exhausted s.cells)) (sym ls);
  room = omega (arith, c, room, sym (length-map s.workers.items entries_of), ap length ls, long workers);
}
  where
    long : (k : ℕ) → length (replicate k (let e : List ClaimEntry = [] in e)) ≡ k
    long zero = refl
    long (suc k) = ap suc (long k)

-- a claim by a worker that drew none past the cells
pub state_claimed : (s t : Inside) (c : Claims) (w : ℕ) → claims_of s ≡ c → is_exhausted s.cells (list_of (claims_of s) w) ≡ false → claims_of t ≡ claimed (claims_of s) w → claims_of t ≡ if is_exhausted c.cells (list_of c w) then c else claimed c w
state_claimed s t c w is none h = h ∙ ap (λ d. claimed d w) is ∙ sym (ap (λ b. if b then c else claimed c w) (ap (λ d. is_exhausted d.cells (list_of d w)) (sym is) ∙ none))

-- and its answer, where the number is a cell's
pub reply_cell : (s : Inside) (c : Claims) (w : ℕ) → claims_of s ≡ c → is_exhausted s.cells (list_of (claims_of s) w) ≡ false → s.next < s.cells → Cell (Some s.next) ≡ Cell (if is_exhausted c.cells (list_of c w) then None else (if nat_lt c.next c.cells then Some c.next else None))
reply_cell s c w is none lt =
    subst (λ d. Cell (Some s.next) ≡ Cell (if is_exhausted d.cells (list_of d w) then None else (if nat_lt d.next d.cells then Some d.next else None))) is
    (sym (ap (λ b. Cell (if b then None else (if nat_lt s.next s.cells then Some s.next else None))) none ∙ ap (λ b. Cell (if b then Some s.next else None)) (lt-ltb s.next s.cells lt)))
