-- Every event keeps the agreement.
use Rattle.std.proofs.Common.{◌≡◌, ◌≢◌, ◌⊎◌, ℕ, zero, suc, ◌+◌, ◌<◌, ◌≤◌, List, [], ◌∷◌, Bool, true, false, if◌then◌else◌, refl, sym, ap, ◌∙◌, subst, inl, inr, ⊎_elim, arith, min, length, replicate}
use Rattle.std.proofs.Math.Nat.{min-le_left, min-le_right}
use Rattle.std.proofs.lemmas.Bool.{cases_lt, leb-false}
use Rattle.std.proofs.lemmas.List.{get_or-set_same, get_or-set_other, length-set}
use Rattle.std.specs.Prelude.{All, AllPairs, Contains, slice_index, slice_index_or, count_by, nat_le}
use mathlib.Core.Logic.{dite}
use native.Mathlib.Decide.{ℕ_discrete}
use Rattle.claim_core.specs.declared.events.ClaimEntry.{ClaimEntry}
use Rattle.claim_core.specs.declared.events.ClaimEntry.TheVariants.{Claimed, Looked, Detected}
use Rattle.claim_core.specs.declared.events.Event.{Event}
use Rattle.claim_core.specs.declared.events.Event.TheVariants.{Claim, Look, Detect}
use Rattle.claim_core.specs.Claims.{Claims, no_place, list_of, least_of, started, is_past, is_exhausted, noted, claimed, looked, detected, after, IsInRange, after_all}
use Rattle.claim_core.specs.Agreement.{ClaimsAgree, Ascends, IsFresh}
use Rattle.claim_core.proofs.Lists.{at, length-noted, contains_kept, contains_new, contains_noted, contains_was, pairs_noted, count-same, count-more, under_cells, one_if}

number_of : ClaimEntry → ℕ
number_of (Claimed n) = n
number_of (Looked m v) = v
number_of (Detected m p) = p

mutant_of : ClaimEntry → ℕ
mutant_of (Claimed n) = n
mutant_of (Looked m v) = m
mutant_of (Detected m p) = m

kind_of : ClaimEntry → ℕ
kind_of (Claimed n) = 0
kind_of (Looked m v) = 1
kind_of (Detected m p) = 2

kinds : (d e : ClaimEntry) → kind_of d ≢ kind_of e → d ≡ e → ⊥
kinds d e n is = n (ap kind_of is)

-- a claim of the next number, by a worker that drew none past the cells
pub claimed_agrees : (c : Claims) (w : ℕ) → w < length c.lists → is_exhausted c.cells (list_of c w) ≡ false → ClaimsAgree c → ClaimsAgree (claimed c w)
unfolding kind_of number_of
claimed_agrees c w lt none ok =
    let e = Claimed c.next in
    let no_look : (m v : ℕ) → e ≡ Looked m v → ⊥ = λ m v. kinds e (Looked m v) (λ x. omega (arith, x)) in
    let no_find : (m p : ℕ) → e ≡ Detected m p → ⊥ = λ m p. kinds e (Detected m p) (λ x. omega (arith, x)) in
    record {
      claimed = λ n under. dite (ℕ_discrete n c.next)
          (λ same. (w, subst (λ k. Contains (at (noted c.lists w e) w) (Claimed k)) (sym same) (contains_new c.lists w e lt)))
          (λ apart. let t = ok.claimed n (omega arith) in (t.0, contains_kept c.lists w e t.0 (Claimed n) lt t.1));
      below = λ v n h. ⊎_elim (λ t. let b = ok.below v n t in omega arith) (λ t. let is : c.next ≡ n = ap number_of t.1 in omega arith) (contains_noted c.lists w e v (Claimed n) lt h);
      apart = λ u v n g h. ⊎_elim
          (λ s. ⊎_elim (λ t. ok.apart u v n s t) (λ t. let b = ok.below u n s in let is : c.next ≡ n = ap number_of t.1 in absurd (omega arith)) (contains_noted c.lists w e v (Claimed n) lt h))
          (λ s. ⊎_elim (λ t. let b = ok.below v n t in let is : c.next ≡ n = ap number_of s.1 in absurd (omega arith)) (λ t. s.0 ∙ sym t.0) (contains_noted c.lists w e v (Claimed n) lt h))
          (contains_noted c.lists w e u (Claimed n) lt g);
      ascends = λ v. pairs_noted (Ascends c.cells) c.lists w e v lt (ok.ascends v) rises;
      in_range = λ v m p h. ok.in_range v m p (contains_was c.lists w e v (Detected m p) lt (no_find m p) h);
      least = λ v m p h. ok.least v m p (contains_was c.lists w e v (Detected m p) lt (no_find m p) h);
      found = λ m under. ⊎_elim (λ n. inl n) (λ t. inr (t.0, contains_kept c.lists w e t.0 (Detected m (least_of c m)) lt t.1)) (ok.found m under);
      looked = λ v m p h. ⊎_elim (λ n. inl n) (λ t. inr (t.0, contains_kept c.lists w e t.0 (Detected m p) lt t.1)) (ok.looked v m p (contains_was c.lists w e v (Looked m p) lt (no_look m p) h));
      fresh = λ v. pairs_noted IsFresh c.lists w e v lt (ok.fresh v) no_look_back;
      room = fits (nat_le c.cells c.next) refl;
    }
  where
    fits : (b : Bool) → nat_le c.cells c.next ≡ b → c.next + 1 ≤ c.cells + count_by (is_exhausted c.cells) (noted c.lists w (Claimed c.next))
    fits true is =
        let more : one_if (is_past c.cells (Claimed c.next)) ≡ 1 = ap one_if is in
        omega (arith, ok.room, count-more c.cells c.lists w (Claimed c.next) lt none, more)
    fits false is = let under = leb-false c.cells c.next is in omega arith

    rises : (d : ClaimEntry) → Contains (at c.lists w) d → Ascends c.cells d (Claimed c.next)
    rises (Claimed a) h = (ok.below w a h, under_cells c.cells (at c.lists w) a none h)
    rises (Looked m v) h = tt
    rises (Detected m p) h = tt

    no_look_back : (d : ClaimEntry) → Contains (at c.lists w) d → IsFresh d (Claimed c.next)
    no_look_back (Claimed a) h = tt
    no_look_back (Looked m v) h = tt
    no_look_back (Detected m p) h = tt

-- a look at a mutant
pub looked_agrees : (c : Claims) (w m : ℕ) → w < length c.lists → m < length c.least → ClaimsAgree c → ClaimsAgree (looked c w m)
unfolding kind_of number_of mutant_of
looked_agrees c w m lt in_least ok =
    let e = Looked m (least_of c m) in
    let no_claim : (n : ℕ) → e ≡ Claimed n → ⊥ = λ n. kinds e (Claimed n) (λ x. omega (arith, x)) in
    let no_find : (n p : ℕ) → e ≡ Detected n p → ⊥ = λ n p. kinds e (Detected n p) (λ x. omega (arith, x)) in
    let claims_stay : (v n : ℕ) → Contains (at (noted c.lists w e) v) (Claimed n) → Contains (at c.lists v) (Claimed n) = λ v n. contains_was c.lists w e v (Claimed n) lt (no_claim n) in
    record {
      claimed = λ n under. let t = ok.claimed n under in (t.0, contains_kept c.lists w e t.0 (Claimed n) lt t.1);
      below = λ v n h. ok.below v n (claims_stay v n h);
      apart = λ u v n g h. ok.apart u v n (claims_stay u n g) (claims_stay v n h);
      ascends = λ v. pairs_noted (Ascends c.cells) c.lists w e v lt (ok.ascends v) rises;
      in_range = λ v n p h. ok.in_range v n p (contains_was c.lists w e v (Detected n p) lt (no_find n p) h);
      least = λ v n p h. ok.least v n p (contains_was c.lists w e v (Detected n p) lt (no_find n p) h);
      found = λ n under. ⊎_elim (λ h. inl h) (λ t. inr (t.0, contains_kept c.lists w e t.0 (Detected n (least_of c n)) lt t.1)) (ok.found n under);
      looked = λ v n p h. ⊎_elim
          (λ t. ⊎_elim (λ i. inl i) (λ s. inr (s.0, contains_kept c.lists w e s.0 (Detected n p) lt s.1)) (ok.looked v n p t))
          (λ t. let mm : m ≡ n = ap mutant_of t.1 in let pp : least_of c m ≡ p = ap number_of t.1 in
          ⊎_elim (λ i. inl (sym pp ∙ i)) (λ s. inr (s.0, subst (λ (x : ℕ × ℕ). Contains (at (noted c.lists w e) s.0) (Detected x.0 x.1)) (λ i. (mm i, pp i)) (contains_kept c.lists w e s.0 (Detected m (least_of c m)) lt s.1))) (ok.found m in_least))
          (contains_noted c.lists w e v (Looked n p) lt h);
      fresh = λ v. pairs_noted IsFresh c.lists w e v lt (ok.fresh v) is_fresh;
      room = omega (arith, ok.room, count-same c.cells c.lists w e lt refl);
    }
  where
    rises : (d : ClaimEntry) → Contains (at c.lists w) d → Ascends c.cells d (Looked m (least_of c m))
    rises (Claimed a) h = tt
    rises (Looked n v) h = tt
    rises (Detected n p) h = tt

    is_fresh : (d : ClaimEntry) → Contains (at c.lists w) d → IsFresh d (Looked m (least_of c m))
    is_fresh (Claimed a) h = tt
    is_fresh (Looked n v) h = tt
    is_fresh (Detected n p) h = λ same. ok.least w m p (subst (λ x. Contains (at c.lists w) (Detected x p)) same h)

-- a detection of a mutant
pub detected_agrees : (c : Claims) (w m p : ℕ) → w < length c.lists → m < length c.least → p < no_place → ClaimsAgree c → ClaimsAgree (detected c w m p)
unfolding kind_of number_of mutant_of
detected_agrees c w m p lt in_least small ok =
    let e = Detected m p in
    let no_claim : (n : ℕ) → e ≡ Claimed n → ⊥ = λ n. kinds e (Claimed n) (λ x. omega (arith, x)) in
    let no_look : (n v : ℕ) → e ≡ Looked n v → ⊥ = λ n v. kinds e (Looked n v) (λ x. omega (arith, x)) in
    let claims_stay : (v n : ℕ) → Contains (at (noted c.lists w e) v) (Claimed n) → Contains (at c.lists v) (Claimed n) = λ v n. contains_was c.lists w e v (Claimed n) lt (no_claim n) in
    let as_long : length (detected c w m p).least ≡ length c.least = length-set c.least m (min (least_of c m) p) in
    record {
      claimed = λ n under. let t = ok.claimed n under in (t.0, contains_kept c.lists w e t.0 (Claimed n) lt t.1);
      below = λ v n h. ok.below v n (claims_stay v n h);
      apart = λ u v n g h. ok.apart u v n (claims_stay u n g) (claims_stay v n h);
      ascends = λ v. pairs_noted (Ascends c.cells) c.lists w e v lt (ok.ascends v) rises;
      in_range = λ v n q h. ⊎_elim
          (λ t. let r = ok.in_range v n q t in (rw as_long r.0, r.1))
          (λ (t : (v ≡ w) × (e ≡ Detected n q)). let mm : m ≡ n = ap mutant_of t.1 in let pp : p ≡ q = ap number_of t.1 in (rw as_long (omega arith), omega arith))
          (contains_noted c.lists w e v (Detected n q) lt h);
      least = λ v n q h. ⊎_elim
          (λ t. let a = ok.least v n q t in let b = falls n in omega arith)
          (λ t. let mm : m ≡ n = ap mutant_of t.1 in let pp : p ≡ q = ap number_of t.1 in subst (λ (x : ℕ × ℕ). least_of (detected c w m p) x.0 ≤ x.1) (λ i. (mm i, pp i)) (rw here (min-le_right (least_of c m) p)))
          (contains_noted c.lists w e v (Detected n q) lt h);
      found = λ n under. dite (ℕ_discrete n m)
          (λ same. subst (λ x. (least_of (detected c w m p) x ≡ no_place) ⊎ ((v : ℕ) × Contains (at (noted c.lists w e) v) (Detected x (least_of (detected c w m p) x)))) (sym same) (at_m (ok.found m in_least)))
          (λ apart. ⊎_elim
          (λ h. inl (elsewhere n apart ∙ h))
          (λ t. inr (t.0, subst (λ v. Contains (at (noted c.lists w e) t.0) (Detected n v)) (sym (elsewhere n apart)) (contains_kept c.lists w e t.0 (Detected n (least_of c n)) lt t.1)))
          (ok.found n (rw (sym as_long) under)));
      looked = λ v n q h. ⊎_elim (λ i. inl i) (λ s. inr (s.0, contains_kept c.lists w e s.0 (Detected n q) lt s.1)) (ok.looked v n q (contains_was c.lists w e v (Looked n q) lt (no_look n q) h));
      fresh = λ v. pairs_noted IsFresh c.lists w e v lt (ok.fresh v) is_fresh;
      room = omega (arith, ok.room, count-same c.cells c.lists w e lt refl);
    }
  where
    here : least_of (detected c w m p) m ≡ min (least_of c m) p
    here = get_or-set_same c.least m (min (least_of c m) p) 0 in_least

    elsewhere : (n : ℕ) → n ≢ m → least_of (detected c w m p) n ≡ least_of c n
    elsewhere n apart = get_or-set_other c.least m n (min (least_of c m) p) 0 apart

    falls : (n : ℕ) → least_of (detected c w m p) n ≤ least_of c n
    falls n = dite (ℕ_discrete n m)
        (λ same. subst (λ x. least_of (detected c w m p) x ≤ least_of c x) (sym same) (rw here (min-le_left (least_of c m) p)))
        (λ apart. let x = elsewhere n apart in omega arith)

    rises : (d : ClaimEntry) → Contains (at c.lists w) d → Ascends c.cells d (Detected m p)
    rises (Claimed a) h = tt
    rises (Looked n v) h = tt
    rises (Detected n q) h = tt

    is_fresh : (d : ClaimEntry) → Contains (at c.lists w) d → IsFresh d (Detected m p)
    is_fresh (Claimed a) h = tt
    is_fresh (Looked n v) h = tt
    is_fresh (Detected n q) h = tt

    -- the lesser of the two is the new place or the old one
    at_m : ((least_of c m ≡ no_place) ⊎ ((v : ℕ) × Contains (at c.lists v) (Detected m (least_of c m)))) → (least_of (detected c w m p) m ≡ no_place) ⊎ ((v : ℕ) × Contains (at (noted c.lists w (Detected m p)) v) (Detected m (least_of (detected c w m p) m)))
    at_m f = ⊎_elim
        (λ (gt : p < least_of c m). let is : least_of (detected c w m p) m ≡ p = here ∙ grind arith in inr (w, subst (λ v. Contains (at (noted c.lists w (Detected m p)) w) (Detected m v)) (sym is) (contains_new c.lists w (Detected m p) lt)))
        (λ (le : least_of c m ≤ p). let is : least_of (detected c w m p) m ≡ least_of c m = here ∙ grind arith in
        ⊎_elim (λ h. inl (is ∙ h)) (λ t. inr (t.0, subst (λ v. Contains (at (noted c.lists w (Detected m p)) t.0) (Detected m v)) (sym is) (contains_kept c.lists w (Detected m p) t.0 (Detected m (least_of c m)) lt t.1))) f)
        (cases_lt p (least_of c m))

-- each event
pub after_agrees : (e : Event) (c : Claims) → IsInRange c e → ClaimsAgree c → ClaimsAgree (after e c)
after_agrees (Claim w) c range ok = by_case (is_exhausted c.cells (list_of c w)) refl
  where
    by_case : (b : Bool) → is_exhausted c.cells (list_of c w) ≡ b → ClaimsAgree (if is_exhausted c.cells (list_of c w) then c else claimed c w)
    by_case true is = subst (λ b. ClaimsAgree (if b then c else claimed c w)) (sym is) ok
    by_case false is = subst (λ b. ClaimsAgree (if b then c else claimed c w)) (sym is) (claimed_agrees c w range is ok)
after_agrees (Look w m) c range ok = looked_agrees c w m range.0 range.1 ok
after_agrees (Detect w m p) c range ok = detected_agrees c w m p range.0 range.1 range.2 ok

-- and the numbers of mutants and workers stay
pub same_sizes : (e : Event) (c : Claims) → (length (after e c).lists ≡ length c.lists) × (length (after e c).least ≡ length c.least)
same_sizes (Claim w) c = by_case (is_exhausted c.cells (list_of c w))
  where
    by_case : (b : Bool) → (length (if b then c else claimed c w).lists ≡ length c.lists) × (length (if b then c else claimed c w).least ≡ length c.least)
    by_case true = (refl, refl)
    by_case false = (length-noted c.lists w (Claimed c.next), refl)
same_sizes (Look w m) c = (length-noted c.lists w (Looked m (least_of c m)), refl)
same_sizes (Detect w m p) c = (length-noted c.lists w (Detected m p), length-set c.least m (min (least_of c m) p))

still_in_range : (c d : Claims) (e : Event) → length d.lists ≡ length c.lists → length d.least ≡ length c.least → IsInRange c e → IsInRange d e
still_in_range c d (Claim w) ls l range = rw ls range
still_in_range c d (Look w m) ls l range = (rw ls range.0, rw l range.1)
still_in_range c d (Detect w m p) ls l range = (rw ls range.0, rw l range.1, range.2)

-- all events
pub after_all_agrees : (es : List Event) (c : Claims) → All (IsInRange c) es → ClaimsAgree c → ClaimsAgree (after_all es c)
after_all_agrees [] c range ok = ok
after_all_agrees (e ∷ es) c range ok =
    after_all_agrees es (after e c) (λ k d lt. let sizes = same_sizes e c in still_in_range c (after e c) (slice_index_or es k d) sizes.0 sizes.1 (range (suc k) d (omega arith))) (after_agrees e c (range 0 e (omega arith)) ok)

pub after_all-least : (es : List Event) (c : Claims) → length (after_all es c).least ≡ length c.least
after_all-least [] c = refl
after_all-least (e ∷ es) c = after_all-least es (after e c) ∙ (same_sizes e c).1

pub idle_list : (workers w : ℕ) → at (replicate workers []) w ≡ []
idle_list zero w = refl
idle_list (suc n) zero = refl
idle_list (suc n) (suc w) = idle_list n w

first_least : (mutants m : ℕ) → m < mutants → slice_index (replicate mutants no_place) m ≡ no_place
first_least zero m lt = absurd (omega arith)
first_least (suc n) zero lt = refl
first_least (suc n) (suc m) lt = first_least n m (omega arith)

pub first-least : (mutants : ℕ) → length (replicate mutants no_place) ≡ mutants
first-least zero = refl
first-least (suc n) = ap suc (first-least n)

nothing : (d : ClaimEntry) → Contains [] d → ⊥
nothing d c = let lt = c.1 in omega arith

-- the start
pub started_agrees : (mutants cells workers : ℕ) → ClaimsAgree (started mutants cells workers)
started_agrees mutants cells workers =
    let none : (w : ℕ) (d : ClaimEntry) → Contains (list_of (started mutants cells workers) w) d → ⊥ = λ w d h. nothing d (subst (λ l. Contains l d) (idle_list workers w) h) in
    record {
      claimed = λ n under. absurd (omega arith);
      below = λ w n h. absurd (none w (Claimed n) h);
      apart = λ v w n g h. absurd (none v (Claimed n) g);
      ascends = λ w. subst (AllPairs (Ascends cells)) (sym (idle_list workers w)) (λ i j d lt under. absurd (omega arith));
      in_range = λ w m p h. absurd (none w (Detected m p) h);
      least = λ w m p h. absurd (none w (Detected m p) h);
      found = λ m under. inl (first_least mutants m (omega (arith, under, first-least mutants)));
      looked = λ w m v h. absurd (none w (Looked m v) h);
      fresh = λ w. subst (AllPairs IsFresh) (sym (idle_list workers w)) (λ i j d lt under. absurd (omega arith));
      room = omega arith;
    }
