-- Ends at the numbers of their cells.
use Rattle.std.proofs.Common.{◌≡◌, ◌≢◌, ℕ, zero, suc, ◌+◌, ◌<◌, ◌≤◌, List, [], ◌∷◌, ◌++◌, Bool, true, map, length, take, drop, replicate, refl, sym, ap, ap₂, ◌∙◌, subst, arith, Option, Some, None, is_some, All, AllPairs, Contains, slice_get, slice_set, slice_index_or, inl, inr, ◌⊎◌, ⊎_elim, append_assoc}
use Rattle.std.proofs.lemmas.List.Elements.{Contains-append_cases, Contains-append_left, Contains-append_right}
use Rattle.std.proofs.lemmas.Option.{slice_get_within}
use Rattle.claim_core.specs.declared.events.ClaimEntry.{ClaimEntry}
use Rattle.claim_core.specs.declared.events.ClaimEntry.TheVariants.{Claimed, Looked, Detected}
use Rattle.claim_core.specs.Agreement.{Ascends}
use Rattle.claim_core.specs.Claims.{Claims, list_of}
use Rattle.job_rules.specs.Tried.{Tried}
use Rattle.job_rules.specs.Ended.{Ended, say_end, cost_of_end, cost_of_ends, cost_of_all_ends}
use Rattle.job_rules.specs.Gathered.{flat, put_all, cost_of_workers}
use Rattle.job_rules.specs.Worked.{Work, IsWorkOf, numbered, did, all_did, AllDid, ends_of, cells_of, runs_in, parted}
use Rattle.job_laws.specs.Gathered.{FillsAll}
use Rattle.job_laws.proofs.Alike.{in_cons}
use Rattle.job_laws.proofs.Noted.{contains_map, all_at, in_did, in_all, to_all, first_of, pairs_across, pairs_behind, within_of}
use Rattle.job_laws.proofs.Placed.{long_cells}

-- ---- one place

pub some_same : {X : Type 0} (a b : X) → Some a ≡ Some b → a ≡ b
some_same a b e = cc

pub set_same : {X : Type 0} (f : List X) (n : ℕ) (x : X) → n < length f → slice_get (slice_set f n x) n ≡ Some x
set_same [] n x lt = absurd (omega arith)
set_same (y ∷ f) zero x lt = refl
set_same (y ∷ f) (suc n) x lt = set_same f n x (omega arith)

pub set_other : {X : Type 0} (f : List X) (n m : ℕ) (x : X) → m ≢ n → slice_get (slice_set f n x) m ≡ slice_get f m
set_other [] n m x apart = refl
set_other (y ∷ f) zero zero x apart = absurd (apart refl)
set_other (y ∷ f) zero (suc m) x apart = refl
set_other (y ∷ f) (suc n) zero x apart = refl
set_other (y ∷ f) (suc n) (suc m) x apart = set_other f n m x (λ e. apart (ap suc e))

pub set_long : {X : Type 0} (f : List X) (n : ℕ) (x : X) → length (slice_set f n x) ≡ length f
set_long [] n x = refl
set_long (y ∷ f) zero x = refl
set_long (y ∷ f) (suc n) x = ap suc (set_long f n x)

abbrev pub cost_placed : {Rec : Type 0} → (Rec → ℕ) → List (Option (Ended Rec)) → ℕ
cost_placed steps [] = 0
cost_placed steps (None ∷ f) = cost_placed steps f
cost_placed steps (Some e ∷ f) = cost_of_end steps e + cost_placed steps f

set_cost : {Rec : Type 0} (steps : Rec → ℕ) (f : List (Option (Ended Rec))) (n : ℕ) (e : Ended Rec) → slice_get f n ≡ Some None → cost_placed steps (slice_set f n (Some e)) ≡ cost_placed steps f + cost_of_end steps e
set_cost steps [] n e h = absurd cc
set_cost steps (None ∷ f) zero e h = omega arith
set_cost steps (Some x ∷ f) zero e h = let same : Some x ≡ None = some_same (Some x) None h in absurd cc
set_cost steps (None ∷ f) (suc n) e h = set_cost steps f n e h
set_cost steps (Some x ∷ f) (suc n) e h = let more = set_cost steps f n e h in omega (arith, more)

-- ---- numbers that are apart

abbrev pub Apart : {X : Type 0} → List (ℕ × X) → Type 0
Apart [] = Unit {0}
Apart (p ∷ ps) = ((q : ℕ × _) → Contains ps q → p.0 ≢ q.0) × Apart ps

pub apart_both : {X : Type 0} (xs ys : List (ℕ × X)) → Apart xs → Apart ys → ((p q : ℕ × X) → Contains xs p → Contains ys q → p.0 ≢ q.0) → Apart (xs ++ ys)
apart_both [] ys ax ay cross = ay
apart_both (x ∷ xs) ys ax ay cross = (
  λ q c. ⊎_elim (λ here. ax.0 q here) (λ there. cross x q (zero, omega arith, refl) there) (Contains-append_cases xs ys q c),
  apart_both xs ys ax.1 ay (λ p q cp cq. cross p q (Contains-append_right (x ∷ []) xs p cp) cq),
)

in_flat : {X : Type 0} (lists : List (List X)) (q : X) → Contains (flat lists) q → (k : ℕ) × (k < length lists) × Contains (slice_index_or lists k []) q
in_flat [] q (i, lt, is) = absurd (omega arith)
in_flat (xs ∷ lists) q c = ⊎_elim
    (λ here. (0, omega arith, here))
    (λ there. let m = in_flat lists q there in (suc m.0, (let lt = m.1 in omega (arith, lt)), m.2))
    (Contains-append_cases xs (flat lists) q c)

to_flat : {X : Type 0} (lists : List (List X)) (k : ℕ) (q : X) → Contains (slice_index_or lists k []) q → Contains (flat lists) q
to_flat [] k q (i, lt, is) = absurd (omega arith)
to_flat (xs ∷ lists) zero q c = Contains-append_left xs (flat lists) q c
to_flat (xs ∷ lists) (suc k) q c = Contains-append_right xs (flat lists) q (to_flat lists k q c)

apart_flat : {X : Type 0} (lists : List (List (ℕ × X))) → ((k : ℕ) → k < length lists → Apart (slice_index_or lists k []))
    → ((j k : ℕ) (p q : ℕ × X) → j < k → k < length lists → Contains (slice_index_or lists j []) p → Contains (slice_index_or lists k []) q → p.0 ≢ q.0) → Apart (flat lists)
apart_flat [] one cross = tt
apart_flat (xs ∷ lists) one cross =
    apart_both xs (flat lists) (one zero (omega arith))
    (apart_flat lists (λ k lt. one (suc k) (omega arith)) (λ j k p q lt within cp cq. cross (suc j) (suc k) p q (omega arith) (omega arith) cp cq))
    (λ p q cp cq. let at = in_flat lists q cq in cross zero (suc at.0) p q (omega arith) (let lt = at.1 in omega (arith, lt)) cp at.2)

-- ---- putting

put_other : {X : Type 0} (ps : List (ℕ × X)) (f : List (Option X)) (n : ℕ) → ((q : ℕ × X) → Contains ps q → q.0 ≢ n) → slice_get (put_all ps f) n ≡ slice_get f n
put_other [] f n off = refl
put_other (p ∷ ps) f n off =
    put_other ps (slice_set f p.0 (Some p.1)) n (λ q c. off q (Contains-append_right (p ∷ []) ps q c))
    ∙ set_other f p.0 n (Some p.1) (λ e. off p (zero, omega arith, refl) (sym e))

pub put_long : {X : Type 0} (ps : List (ℕ × X)) (f : List (Option X)) → length (put_all ps f) ≡ length f
put_long [] f = refl
put_long (p ∷ ps) f = put_long ps (slice_set f p.0 (Some p.1)) ∙ set_long f p.0 (Some p.1)

put_at : {X : Type 0} (ps : List (ℕ × X)) (f : List (Option X)) (p : ℕ × X) → Apart ps → Contains ps p → p.0 < length f → slice_get (put_all ps f) p.0 ≡ Some (Some p.1)
put_at [] f p a (k, lt, is) within = absurd (omega arith)
put_at (x ∷ ps) f p a c within = ⊎_elim
    (λ (same : x ≡ p).
    put_other ps (slice_set f x.0 (Some x.1)) p.0 (λ q cq e. a.0 q cq (ap (λ (y : ℕ × _). y.0) same ∙ sym e))
    ∙ ap (λ (y : ℕ × _). slice_get (slice_set f y.0 (Some y.1)) p.0) same
    ∙ set_same f p.0 (Some p.1) within)
    (λ there. put_at ps (slice_set f x.0 (Some x.1)) p a.1 there (let l = set_long f x.0 (Some x.1) in omega (arith, within, l)))
    (in_cons x ps p c)

pub put_cost : {Rec : Type 0} (steps : Rec → ℕ) (ps : List (ℕ × Ended Rec)) (f : List (Option (Ended Rec))) → Apart ps → ((q : ℕ × Ended Rec) → Contains ps q → slice_get f q.0 ≡ Some None) → cost_placed steps (put_all ps f) ≡ cost_placed steps f + cost_of_ends steps (map (λ p. p.1) ps)
put_cost steps [] f a free = omega arith
put_cost steps (p ∷ ps) f a free =
    let one = set_cost steps f p.0 p.1 (free p (zero, omega arith, refl)) in
    let more = put_cost steps ps (slice_set f p.0 (Some p.1)) a.1 (λ q c. set_other f p.0 q.0 (Some p.1) (λ e. a.0 q c (sym e)) ∙ free q (Contains-append_right (p ∷ []) ps q c)) in
    omega (arith, one, more)

cost_both : {Rec : Type 0} (steps : Rec → ℕ) (xs ys : List (Ended Rec)) → cost_of_ends steps (xs ++ ys) ≡ cost_of_ends steps xs + cost_of_ends steps ys
cost_both steps [] ys = omega arith
cost_both steps (x ∷ xs) ys = let more = cost_both steps xs ys in omega (arith, more)

map_both : {X Y : Type 0} (f : X → Y) (xs ys : List X) → map f (xs ++ ys) ≡ map f xs ++ map f ys
map_both f [] ys = refl
map_both f (x ∷ xs) ys = ap (λ l. f x ∷ l) (map_both f xs ys)

cost_flat : {Rec : Type 0} (steps : Rec → ℕ) (ends : List (List (ℕ × Ended Rec))) → cost_of_ends steps (map (λ p. p.1) (flat ends)) ≡ cost_of_workers steps ends
cost_flat steps [] = refl
cost_flat steps (es ∷ ends) =
    let m = ap (cost_of_ends steps) (map_both (λ (p : ℕ × Ended _). p.1) es (flat ends)) in
    let b = cost_both steps (map (λ p. p.1) es) (map (λ p. p.1) (flat ends)) in
    let more = cost_flat steps ends in
    omega (arith, m, b, more)

-- ---- all places filled

all_some : {X : Type 0} (xs : List (Option X)) → ((n : ℕ) → n < length xs → (e : X) × (slice_get xs n ≡ Some (Some e))) → (ys : List X) × (xs ≡ map Some ys)
all_some [] h = ([], refl)
all_some (x ∷ xs) h =
    let one = h zero (omega arith) in
    let is : x ≡ Some one.0 = some_same x (Some one.0) one.1 in
    let more = all_some xs (λ n lt. h (suc n) (omega arith)) in
    (one.0 ∷ more.0, ap₂ (λ a b. a ∷ b) is more.1)

get_some : {X : Type 0} (ys : List X) (n : ℕ) (e : X) → slice_get ys n ≡ Some e → slice_get (map Some ys) n ≡ Some (Some e)
get_some [] n e h = absurd cc
get_some (y ∷ ys) zero e h = let same : y ≡ e = cc in ap (λ x. Some (Some x)) same
get_some (y ∷ ys) (suc n) e h = get_some ys n e h

cost_some : {Rec : Type 0} (steps : Rec → ℕ) (ys : List (Ended Rec)) → cost_placed steps (map Some ys) ≡ cost_of_ends steps ys
cost_some steps [] = refl
cost_some steps (y ∷ ys) = let more = cost_some steps ys in omega (arith, more)

pub cost_none : {Rec : Type 0} (steps : Rec → ℕ) (n : ℕ) → cost_placed steps (replicate n None) ≡ 0
cost_none steps zero = refl
cost_none steps (suc n) = cost_none steps n

pub long_none : {X : Type 0} (n : ℕ) (x : X) → length (replicate n x) ≡ n
long_none zero x = refl
long_none (suc n) x = ap suc (long_none n x)

pub get_none : {X : Type 0} (n i : ℕ) (x : X) → i < n → slice_get (replicate n x) i ≡ Some x
get_none zero i x lt = absurd (omega arith)
get_none (suc n) zero x lt = refl
get_none (suc n) (suc i) x lt = get_none n i x (omega arith)

long_map : {X Y : Type 0} (f : X → Y) (xs : List X) → length (map f xs) ≡ length xs
long_map f [] = refl
long_map f (x ∷ xs) = ap suc (long_map f xs)

cost_split : {Rec : Type 0} (steps : Rec → ℕ) (k : ℕ) (es : List (Ended Rec)) → cost_of_ends steps (take k es) + cost_of_ends steps (drop k es) ≡ cost_of_ends steps es
cost_split steps zero es = omega arith
cost_split steps (suc k) [] = omega arith
cost_split steps (suc k) (e ∷ es) = let more = cost_split steps k es in omega (arith, more)

drop_long : {X : Type 0} (k : ℕ) (xs : List X) → k ≤ length xs → length (drop k xs) + k ≡ length xs
drop_long zero xs le = omega arith
drop_long (suc k) [] le = absurd (omega arith)
drop_long (suc k) (x ∷ xs) le = let more = drop_long k xs (omega arith) in omega (arith, more)

long_both : {X : Type 0} (xs ys : List X) → length (xs ++ ys) ≡ length xs + length ys
long_both [] ys = omega arith
long_both (x ∷ xs) ys = let more = long_both xs ys in omega (arith, more)

cost_parted : {Rec : Type 0} (steps : Rec → ℕ) (ms : List (List (Tried Rec))) (es : List (Ended Rec)) → length es ≡ length (runs_in ms) → cost_of_all_ends steps (parted ms es) ≡ cost_of_ends steps es
cost_parted steps [] [] long = refl
cost_parted steps [] (e ∷ es) long = absurd (omega arith)
cost_parted steps (ts ∷ ms) es long =
    let both = long_both ts (runs_in ms) in
    let d = drop_long (length ts) es (omega (arith, long, both)) in
    let more = cost_parted steps ms (drop (length ts) es) (omega (arith, long, both, d)) in
    let s = cost_split steps (length ts) es in
    omega (arith, more, s)

-- ---- workers

-- what one number stands for in an order
abbrev Once : List ℕ → Type 0
Once order = (d e n : ℕ) → slice_get order d ≡ Some n → slice_get order e ≡ Some n → d ≡ e

pub apart_works : {Rec S : Type 0} (say : Rec → Option S) (all : Bool) (ms : List (List (Tried Rec))) (order : List ℕ) (cells : ℕ) (ws : List (Work Rec)) (rest : List ClaimEntry) → Once order → All (IsWorkOf all ms order) ws → AllPairs (Ascends cells) (all_did say ws ++ rest) → Apart (map numbered ws)
apart_works say all ms order cells [] rest once each h = tt
apart_works say all ms order cells (w ∷ ws) rest once each h =
    let parts : AllPairs (Ascends cells) (did say w ++ (all_did say ws ++ rest)) = subst (AllPairs (Ascends cells)) (append_assoc (did say w) (all_did say ws) rest) h in
    let own : IsWorkOf all ms order w = each zero w (omega arith) in
    let others : All (IsWorkOf all ms order) ws = λ k d lt. each (suc k) d (omega arith) in (
      λ q c e.
          let x = contains_map numbered ws q c in
          let other : IsWorkOf all ms order x.0 = all_at (IsWorkOf all ms order) ws x.0 others x.1 in
          let n : x.0.number ≡ q.0 = ap (λ (p : ℕ × Ended _). p.0) x.2 in
          let same = once w.drawn x.0.drawn q.0 (own.drew ∙ ap Some e) (other.drew ∙ ap Some n) in
          let up = (pairs_across (Ascends cells) (did say w) (all_did say ws ++ rest) parts (Claimed w.drawn) (Claimed x.0.drawn) (first_of say w)
          (Contains-append_left (all_did say ws) rest (Claimed x.0.drawn) (to_all say ws x.0 (Claimed x.0.drawn) x.1 (first_of say x.0)))).0 in
          omega (arith, up, same),
      apart_works say all ms order cells ws rest once others (pairs_behind (Ascends cells) (did say w) (all_did say ws ++ rest) parts),
    )

claimed_work : {Rec S : Type 0} (say : Rec → Option S) (ws : List (Work Rec)) (last n : ℕ) → Contains (all_did say ws ++ Claimed last ∷ []) (Claimed n) → ((w : Work Rec) × Contains ws w × (w.drawn ≡ n)) ⊎ (last ≡ n)
claimed_work say ws last n c = ⊎_elim
    (λ there.
    let a = in_all say ws (Claimed n) there in
    ⊎_elim (λ (is : Claimed a.0.drawn ≡ Claimed n). inl (a.0, a.1, number a.0.drawn n is))
    (λ more. ⊎_elim (λ (no_ : Looked a.0.cell.mutant a.0.seen ≡ Claimed n). absurd cc)
    (λ (d : (is_some (say_end say a.0.end) ≡ true) × (Detected a.0.cell.mutant a.0.cell.place ≡ Claimed n)). let no_ : Detected a.0.cell.mutant a.0.cell.place ≡ Claimed n = d.1 in absurd cc)
    more) (in_did say a.0 (Claimed n) a.2))
    (λ end. ⊎_elim (λ (is : Claimed last ≡ Claimed n). inr (number last n is)) (λ none. let lt = none.1 in absurd (omega (arith, lt))) (in_cons (Claimed last) [] (Claimed n) end))
    (Contains-append_cases (all_did say ws) (Claimed last ∷ []) (Claimed n) c)
  where
    number : (a b : ℕ) → Claimed a ≡ Claimed b → a ≡ b
    number a b e = cc

contains_at : {X Y : Type 0} (f : X → Y) (xs : List X) (x : X) → Contains xs x → Contains (map f xs) (f x)
contains_at f [] x (k, lt, is) = absurd (omega arith)
contains_at f (y ∷ xs) x c = ⊎_elim
    (λ (same : y ≡ x). (zero, omega arith, ap f same))
    (λ there. Contains-append_right (f y ∷ []) (map f xs) (f x) (contains_at f xs x there))
    (in_cons y xs x c)

module _ {Rec S : Type 0} (say : Rec → Option S) (steps : Rec → ℕ) (all : Bool) (ms : List (List (Tried Rec))) (order : List ℕ) (c : Claims) (ends : List (List (ℕ × Ended Rec))) (h : AllDid say all ms order c ends) (long : length ends ≡ length c.lists) where
  -- an end's number is a cell's, and its worker claimed a number that stands for it
  pub claimed_by : (u : ℕ) → u < length c.lists → (p : ℕ × Ended Rec) → Contains (ends_of ends u) p → (d : ℕ) × Contains (list_of c u) (Claimed d) × (slice_get order d ≡ Some p.0) × (p.0 < c.cells)
  claimed_by u lt p at =
      let d = h.each u lt in
      let x = contains_map numbered d.works p (subst (λ l. Contains l p) d.ends_are at) in
      let n : x.0.number ≡ p.0 = ap (λ (q : ℕ × Ended _). q.0) x.2 in
      let work : IsWorkOf all ms order x.0 = all_at (IsWorkOf all ms order) d.works x.0 d.each x.1 in
      let within = slice_get_within (cells_of ms) x.0.number x.0.cell work.cell in
      let count = h.count in (
        x.0.drawn,
        subst (λ l. Contains l (Claimed x.0.drawn)) (sym d.noted) (Contains-append_left (all_did say d.works) (Claimed d.last ∷ []) (Claimed x.0.drawn)
            (to_all say d.works x.0 (Claimed x.0.drawn) x.1 (first_of say x.0))),
        work.drew ∙ ap Some n,
        omega (arith, within, count, n),
      )

  apart_ends : Apart (flat ends)
  apart_ends = apart_flat ends
      (λ k lt.
      let d = h.each k (omega (arith, lt, long)) in
      subst Apart (sym d.ends_are) (apart_works say all ms order c.cells d.works (Claimed d.last ∷ []) h.order_is.once d.each (subst (AllPairs (Ascends c.cells)) d.noted (h.agree.ascends k))))
      (λ j k p q lt within cp cq e.
      let a = claimed_by j (omega (arith, lt, within, long)) p cp in
      let b = claimed_by k (omega (arith, within, long)) q cq in
      let one = h.order_is.once a.0 b.0 q.0 (a.2 ∙ ap Some e) b.2 in
      let same = h.agree.apart j k b.0 (subst (λ n. Contains (list_of c j) (Claimed n)) one a.1) b.1 in
      omega (arith, same, lt))

  -- each cell is among the ends of some worker
  end_of : (n : ℕ) → n < c.cells → (e : Ended Rec) × Contains (flat ends) (n, e)
  end_of n lt =
      let count = h.count in
      let place = h.order_is.each n (omega (arith, lt, count)) in
      let long_order = h.order_is.count in
      let small = slice_get_within order place.0 n place.1 in
      let zero_d = h.each 0 h.some in
      let past = zero_d.past in
      let drawn = h.agree.below 0 zero_d.last (subst (λ l. Contains l (Claimed zero_d.last)) (sym zero_d.noted) (Contains-append_right (all_did say zero_d.works) (Claimed zero_d.last ∷ []) (Claimed zero_d.last) (zero, omega arith, refl))) in
      let by = h.agree.claimed place.0 (omega (arith, small, long_order, count, past, drawn)) in
      let within = within_of c.lists by.0 (Claimed place.0) by.1 in
      let d = h.each by.0 within in
      ⊎_elim
      (λ found.
      let w = found.0 in
      let work : IsWorkOf all ms order w = all_at (IsWorkOf all ms order) d.works w d.each found.1 in
      let number : w.number ≡ n = some_same w.number n (sym work.drew ∙ ap (slice_get order) found.2 ∙ place.1) in
      (w.end, to_flat ends by.0 (n, w.end) (subst (λ l. Contains l (n, w.end)) (sym d.ends_are) (subst (λ m. Contains (map numbered d.works) (m, w.end)) number (contains_at numbered d.works w found.1)))))
      (λ last. let p = d.past in absurd (omega (arith, last, p, small, long_order, count)))
      (claimed_work say d.works d.last place.0 (subst (λ l. Contains l (Claimed place.0)) d.noted by.1))

  pub fills : FillsAll steps ms c ends
  fills =
      let start : List (Option (Ended Rec)) = replicate c.cells None in
      let start_long = long_none {X = Option (Ended Rec)} c.cells None in
      let put = put_all (flat ends) start in
      let put_l = put_long (flat ends) start in
      let some = all_some put (λ n lt. let e = end_of n (omega (arith, lt, put_l, start_long)) in (e.0, put_at (flat ends) start (n, e.0) apart_ends e.1 (omega (arith, lt, put_l)))) in
      let count : length some.0 ≡ c.cells = let m = long_map Some some.0 in let s = ap length some.1 in omega (arith, m, s, put_l, start_long) in
      record {
        gathered = some.0;
        filled = some.1;
        are = record {
          count = count;
          each = λ n e is.
              let lt = slice_get_within some.0 n e is in
              let o = end_of n (omega (arith, lt, count)) in
              let at = put_at (flat ends) start (n, o.0) apart_ends o.1 (omega (arith, lt, count, start_long)) in
              let also = ap (λ l. slice_get l n) some.1 ∙ get_some some.0 n e is in
              let same : o.0 ≡ e = some_same o.0 e (some_same (Some o.0) (Some e) (sym at ∙ also)) in
              let w = in_flat ends (n, o.0) o.1 in
              (w.0, (let l = w.1 in omega (arith, l, long)), subst (λ x. Contains (ends_of ends w.0) (n, x)) same w.2);
        };
        costs =
            let cells_l = long_cells 0 ms in
            let hc = h.count in
            cost_parted steps ms some.0 (omega (arith, count, hc, cells_l))
            ∙ sym (cost_some steps some.0)
            ∙ ap (cost_placed steps) (sym some.1)
            ∙ put_cost steps (flat ends) start apart_ends (λ q cq. let w = in_flat ends q cq in get_none {X = Option (Ended Rec)} c.cells q.0 None (claimed_by w.0 (let l = w.1 in omega (arith, l, long)) q w.2).3)
            ∙ (let z = cost_none steps c.cells in let f = cost_flat steps ends in omega (arith, z, f));
      }
