-- What stands in a worker's list, and in which order.
use Rattle.std.proofs.Common.{◌≡◌, ℕ, zero, suc, ◌+◌, ◌<◌, List, [], ◌∷◌, ◌++◌, Bool, true, false, map, length, refl, sym, ap, ◌∙◌, subst, arith, Option, is_some, if◌then◌else◌, All, AllPairs, Contains, slice_index_or, inl, inr, ◌⊎◌, ⊎_elim, true≢false, unwrap_or, append_assoc, length-append, get_or-append-add}
use Rattle.std.proofs.lemmas.List.{get_or_append_left}
use Rattle.std.proofs.lemmas.List.Elements.{Contains-append_cases, Contains-append_left, Contains-append_right}
use Rattle.claim_core.specs.declared.events.ClaimEntry.{ClaimEntry}
use Rattle.claim_core.specs.declared.events.ClaimEntry.TheVariants.{Claimed, Looked, Detected}
use Rattle.job_rules.specs.Tried.{Tried, known, detects}
use Rattle.job_rules.specs.Ended.{Ended, ran, reused, skipped, say_end, IsSkipped}
use Rattle.job_rules.specs.Worked.{Work, EndsOn, did, all_did, detection}
use Rattle.job_laws.proofs.Alike.{in_cons}

pub contains_map : {X Y : Type 0} (f : X → Y) (xs : List X) (y : Y) → Contains (map f xs) y → (x : X) × Contains xs x × (f x ≡ y)
contains_map f [] y (k, lt, is) = absurd (omega arith)
contains_map f (x ∷ xs) y c = ⊎_elim
    (λ (one : f x ≡ y). (x, (zero, omega arith, refl), one))
    (λ more. let m = contains_map f xs y more in (m.0, Contains-append_right (x ∷ []) xs m.0 m.1, m.2))
    (in_cons (f x) (map f xs) y c)

pub all_at : {X : Type 0} (P : X → Type 0) (xs : List X) (x : X) → All P xs → Contains xs x → P x
all_at P xs x h c = subst P c.2 (h c.0 x c.1)

pub within_of : {X : Type 0} (xs : List (List X)) (u : ℕ) (y : X) → Contains (slice_index_or xs u []) y → u < length xs
within_of [] u y (k, lt, is) = absurd (omega arith)
within_of (x ∷ xs) zero y c = omega arith
within_of (x ∷ xs) (suc u) y c = let more = within_of xs u y c in omega (arith, more)

-- ---- what stands there

in_detection : {Rec : Type 0} (w : Work Rec) (b : Bool) (x : ClaimEntry) → Contains (if b then Detected w.cell.mutant w.cell.place ∷ [] else []) x → (b ≡ true) × (Detected w.cell.mutant w.cell.place ≡ x)
in_detection w true x c = (refl, ⊎_elim (λ is. is) (λ more. let lt = more.1 in absurd (omega (arith, lt))) (in_cons (Detected w.cell.mutant w.cell.place) [] x c))
in_detection w false x (k, lt, is) = absurd (omega arith)

pub in_did : {Rec S : Type 0} (say : Rec → Option S) (w : Work Rec) (x : ClaimEntry) → Contains (did say w) x → (Claimed w.drawn ≡ x) ⊎ ((Looked w.cell.mutant w.seen ≡ x) ⊎ ((is_some (say_end say w.end) ≡ true) × (Detected w.cell.mutant w.cell.place ≡ x)))
in_did say w x c = ⊎_elim (λ a. inl a)
    (λ more. inr (⊎_elim (λ b. inl b) (λ last. inr (in_detection w (is_some (say_end say w.end)) x last)) (in_cons (Looked w.cell.mutant w.seen) (detection say w.cell w.end) x more)))
    (in_cons (Claimed w.drawn) (Looked w.cell.mutant w.seen ∷ detection say w.cell w.end) x c)

pub in_all : {Rec S : Type 0} (say : Rec → Option S) (ws : List (Work Rec)) (x : ClaimEntry) → Contains (all_did say ws) x → (w : Work Rec) × Contains ws w × Contains (did say w) x
in_all say [] x (k, lt, is) = absurd (omega arith)
in_all say (w ∷ ws) x c = ⊎_elim
    (λ here. (w, (zero, omega arith, refl), here))
    (λ there. let m = in_all say ws x there in (m.0, Contains-append_right (w ∷ []) ws m.0 m.1, m.2))
    (Contains-append_cases (did say w) (all_did say ws) x c)

pub to_all : {Rec S : Type 0} (say : Rec → Option S) (ws : List (Work Rec)) (w : Work Rec) (x : ClaimEntry) → Contains ws w → Contains (did say w) x → Contains (all_did say ws) x
to_all say [] w x (k, lt, is) d = absurd (omega arith)
to_all say (v ∷ ws) w x c d = ⊎_elim
    (λ (same : v ≡ w). Contains-append_left (did say v) (all_did say ws) x (subst (λ u. Contains (did say u) x) (sym same) d))
    (λ there. Contains-append_right (did say v) (all_did say ws) x (to_all say ws w x there d))
    (in_cons v ws w c)

-- a detection is of a cell that was done and says something
pub detected_work : {Rec S : Type 0} (say : Rec → Option S) (ws : List (Work Rec)) (last m p : ℕ) → Contains (all_did say ws ++ Claimed last ∷ []) (Detected m p) → (w : Work Rec) × Contains ws w × (is_some (say_end say w.end) ≡ true) × (w.cell.mutant ≡ m) × (w.cell.place ≡ p)
detected_work say ws last m p c = ⊎_elim
    (λ there.
    let a = in_all say ws (Detected m p) there in
    let e = in_did say a.0 (Detected m p) a.2 in
    ⊎_elim (λ (no_ : Claimed a.0.drawn ≡ Detected m p). absurd cc)
    (λ more. ⊎_elim (λ (no_ : Looked a.0.cell.mutant a.0.seen ≡ Detected m p). absurd cc)
    (λ (is : (is_some (say_end say a.0.end) ≡ true) × (Detected a.0.cell.mutant a.0.cell.place ≡ Detected m p)). (a.0, a.1, is.0, injected_m a.0.cell.mutant a.0.cell.place m p is.1, injected_p a.0.cell.mutant a.0.cell.place m p is.1))
    more) e)
    (λ end. ⊎_elim (λ (no_ : Claimed last ≡ Detected m p). absurd cc) (λ none. let lt = none.1 in absurd (omega (arith, lt))) (in_cons (Claimed last) [] (Detected m p) end))
    (Contains-append_cases (all_did say ws) (Claimed last ∷ []) (Detected m p) c)
  where
    injected_m : (a b m p : ℕ) → Detected a b ≡ Detected m p → a ≡ m
    injected_m a b m p e = cc

    injected_p : (a b m p : ℕ) → Detected a b ≡ Detected m p → b ≡ p
    injected_p a b m p e = cc

pub first_of : {Rec S : Type 0} (say : Rec → Option S) (w : Work Rec) → Contains (did say w) (Claimed w.drawn)
first_of say w = (zero, omega arith, refl)

pub second_of : {Rec S : Type 0} (say : Rec → Option S) (w : Work Rec) → Contains (did say w) (Looked w.cell.mutant w.seen)
second_of say w = Contains-append_right (Claimed w.drawn ∷ []) (Looked w.cell.mutant w.seen ∷ detection say w.cell w.end) (Looked w.cell.mutant w.seen) (zero, omega arith, refl)

pub third_of : {Rec S : Type 0} (say : Rec → Option S) (w : Work Rec) → is_some (say_end say w.end) ≡ true → Contains (did say w) (Detected w.cell.mutant w.cell.place)
third_of say w is =
    let here : Contains (detection say w.cell w.end) (Detected w.cell.mutant w.cell.place) = by_case (is_some (say_end say w.end)) is in
    Contains-append_right (Claimed w.drawn ∷ Looked w.cell.mutant w.seen ∷ []) (detection say w.cell w.end) (Detected w.cell.mutant w.cell.place) here
  where
    by_case : (b : Bool) → b ≡ true → Contains (if b then Detected w.cell.mutant w.cell.place ∷ [] else []) (Detected w.cell.mutant w.cell.place)
    by_case true is = (zero, omega arith, refl)
    by_case false is = absurd (true≢false (sym is))

-- ---- what ends say

pub says_run : {Rec S : Type 0} (say : Rec → Option S) (all : Bool) (place seen : ℕ) (t : Tried Rec) (e : Ended Rec) → EndsOn all place seen t e → is_some (say_end say e) ≡ true → detects say t ≡ true
says_run say all place seen t (ran r) h is =
    let k : known t ≡ r = ap (λ o. unwrap_or o t.made) h.1 ∙ sym h.2 in ap (λ x. is_some (say x)) k ∙ is
says_run say all place seen t (reused r) h is =
    let k : known t ≡ r = ap (λ o. unwrap_or o t.made) h.1 in ap (λ x. is_some (say x)) k ∙ is
says_run say all place seen t (skipped v) h is = absurd (true≢false (sym is))

pub run_says : {Rec S : Type 0} (say : Rec → Option S) (all : Bool) (place seen : ℕ) (t : Tried Rec) (e : Ended Rec) → EndsOn all place seen t e → (IsSkipped e → ⊥) → detects say t ≡ true → is_some (say_end say e) ≡ true
run_says say all place seen t (ran r) h did is =
    let k : known t ≡ r = ap (λ o. unwrap_or o t.made) h.1 ∙ sym h.2 in sym (ap (λ x. is_some (say x)) k) ∙ is
run_says say all place seen t (reused r) h did is =
    let k : known t ≡ r = ap (λ o. unwrap_or o t.made) h.1 in sym (ap (λ x. is_some (say x)) k) ∙ is
run_says say all place seen t (skipped v) h did is = absurd (did tt)

-- ---- order

default_of : {X : Type 0} (zs : List X) (i : ℕ) (d e : X) → i < length zs → slice_index_or zs i d ≡ slice_index_or zs i e
default_of [] i d e lt = absurd (omega arith)
default_of (z ∷ zs) zero d e lt = refl
default_of (z ∷ zs) (suc i) d e lt = default_of zs i d e (omega arith)

pub pairs_across : {X : Type 0} (R : X → X → Type 0) (xs ys : List X) → AllPairs R (xs ++ ys) → (x y : X) → Contains xs x → Contains ys y → R x y
pairs_across R xs ys h x y cx cy =
    let long = length-append xs ys in
    let lx = cx.1 in let ly = cy.1 in
    let r = h cx.0 (length xs + cy.0) x (omega (arith, lx)) (omega (arith, ly, long)) in
    let left : slice_index_or (xs ++ ys) cx.0 x ≡ x = get_or_append_left xs ys x cx.0 lx ∙ cx.2 in
    let right : slice_index_or (xs ++ ys) (length xs + cy.0) x ≡ y = get_or-append-add xs ys cy.0 x ∙ default_of ys cy.0 x y ly ∙ cy.2 in
    subst (λ v. R x v) right (subst (λ u. R u (slice_index_or (xs ++ ys) (length xs + cy.0) x)) left r)

pub pairs_behind : {X : Type 0} (R : X → X → Type 0) (xs ys : List X) → AllPairs R (xs ++ ys) → AllPairs R ys
pairs_behind R [] ys h = h
pairs_behind R (x ∷ xs) ys h = pairs_behind R xs ys (λ i j d lt within. h (suc i) (suc j) d (omega arith) (omega arith))

-- of two cells that a worker did, all that was noted of the one stands before all of the other
pub in_order : {Rec S : Type 0} (say : Rec → Option S) (R : ClaimEntry → ClaimEntry → Type 0) (ws : List (Work Rec)) (rest : List ClaimEntry) → AllPairs R (all_did say ws ++ rest) → (a b : Work Rec) → Contains ws a → Contains ws b
    → (a ≡ b) ⊎ (((x y : ClaimEntry) → Contains (did say a) x → Contains (did say b) y → R x y) ⊎ ((x y : ClaimEntry) → Contains (did say a) x → Contains (did say b) y → R y x))
in_order say R [] rest h a b (k, lt, is) cb = absurd (omega arith)
in_order say R (w ∷ ws) rest h a b ca cb =
    let parts : AllPairs R (did say w ++ (all_did say ws ++ rest)) = subst (AllPairs R) (append_assoc (did say w) (all_did say ws) rest) h in
    let later = λ (v : Work _) (c : Contains ws v) (y : ClaimEntry) (d : Contains (did say v) y). Contains-append_left (all_did say ws) rest y (to_all say ws v y c d) in
    ⊎_elim
    (λ (wa : w ≡ a). ⊎_elim
    (λ (wb : w ≡ b). inl (sym wa ∙ wb))
    (λ tb. inr (inl (λ x y dx dy. pairs_across R (did say w) (all_did say ws ++ rest) parts x y (subst (λ v. Contains (did say v) x) (sym wa) dx) (later b tb y dy))))
    (in_cons w ws b cb))
    (λ ta. ⊎_elim
    (λ (wb : w ≡ b). inr (inr (λ x y dx dy. pairs_across R (did say w) (all_did say ws ++ rest) parts y x (subst (λ v. Contains (did say v) y) (sym wb) dy) (later a ta x dx))))
    (λ tb. in_order say R ws rest (pairs_behind R (did say w) (all_did say ws ++ rest) parts) a b ta tb)
    (in_cons w ws b cb))
    (in_cons w ws a ca)
