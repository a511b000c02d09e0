-- The places of records that pass a test, and how many of these, from the first on, pass another.
use Rattle.std.proofs.Common.{◌≡◌, ◌∙◌, ℕ, suc, ◌+◌, Bool, true, false, cond, List, [], ◌∷◌, ◌++◌, length, Option, Some, refl, sym, ap, arith}
use Rattle.std.specs.Prelude.{slice_get, ◌&&◌, not, filter, nat_eq}
use Rattle.std.specs.List.{position_from, prefix_len}
use Rattle.history_file.specs.declared.row.Row.{Row}
use Rattle.history_index.specs.Lookouts.{places_from}
use Rattle.history_index.proofs.Positions.{eq_suc, zero_apart}

suc_is : (n : ℕ) → 1 + n ≡ suc n
suc_is n = omega arith

shifted : (k n : ℕ) → (k + 1) + n ≡ k + suc n
shifted k n = omega arith

from_zero : (k : ℕ) → k ≡ k + 0
from_zero k = omega arith

-- ---- one record more

abbrev pub if_passed : {X : Type 0} → Bool → X → List X
if_passed b x = cond b (x ∷ []) []

one_place : (k : ℕ) (b : Bool) → cond b (k ∷ []) [] ≡ if_passed b (k + 0)
one_place k true = ap (λ (j : ℕ). j ∷ []) (from_zero k)
one_place k false = refl

behind : {X : Type 0} (x : X) (b : Bool) (ps qs rest : List X) → qs ≡ ps ++ rest → cond b (x ∷ qs) qs ≡ cond b (x ∷ ps) ps ++ rest
behind x true ps qs rest h = ap (λ zs. x ∷ zs) h
behind x false ps qs rest h = h

pub places_more : (p : Row → Bool) (k : ℕ) (rs : List Row) (r : Row) → places_from p k (rs ++ r ∷ []) ≡ places_from p k rs ++ if_passed (p r) (k + length rs)
places_more p k [] r = one_place k (p r)
places_more p k (x ∷ rs) r =
    behind k (p x) (places_from p (k + 1) rs) (places_from p (k + 1) (rs ++ r ∷ [])) (if_passed (p r) (k + suc (length rs)))
    (places_more p (k + 1) rs r ∙ ap (λ (j : ℕ). places_from p (k + 1) rs ++ if_passed (p r) j) (shifted k (length rs)))

pub filter_more : {X : Type 0} (p : X → Bool) (rs : List X) (r : X) → filter p (rs ++ r ∷ []) ≡ filter p rs ++ if_passed (p r) r
filter_more p [] r = refl
filter_more p (x ∷ rs) r = behind x (p x) (filter p rs) (filter p (rs ++ r ∷ [])) (if_passed (p r) r) (filter_more p rs r)

len_case : {X : Type 0} (x : X) (k : ℕ) (b : Bool) (ps : List ℕ) (ws : List X) → length ps ≡ length ws → length (cond b (k ∷ ps) ps) ≡ length (cond b (x ∷ ws) ws)
len_case x k true ps ws h = ap suc h
len_case x k false ps ws h = h

pub as_many : (p : Row → Bool) (k : ℕ) (rs : List Row) → length (places_from p k rs) ≡ length (filter p rs)
as_many p k [] = refl
as_many p k (r ∷ rs) = len_case r k (p r) (places_from p (k + 1) rs) (filter p rs) (as_many p (k + 1) rs)

-- ---- one item more in a run

run_one : (b : Bool) → cond b (1 + 0) 0 ≡ cond (b && true) (suc 0) 0
run_one true = refl
run_one false = refl

none_of : (b : Bool) (n : ℕ) → 0 ≡ cond (b && false) n 0
none_of true n = refl
none_of false n = refl

run_case : (b a : Bool) (m n l : ℕ) → m ≡ cond (a && nat_eq n l) (suc l) n → cond b (1 + m) 0 ≡ cond (a && nat_eq (cond b (1 + n) 0) (suc l)) (suc (suc l)) (cond b (1 + n) 0)
run_case true a m n l h = suc_is m ∙ ap suc h ∙ inner a (nat_eq n l) ∙ ap (λ z. cond (a && z) (suc (suc l)) (suc n)) (sym (eq_suc n l)) ∙ ap (λ j. cond (a && nat_eq j (suc l)) (suc (suc l)) j) (sym (suc_is n))
  where
    inner : (x y : Bool) → suc (cond (x && y) (suc l) n) ≡ cond (x && y) (suc (suc l)) (suc n)
    inner true true = refl
    inner true false = refl
    inner false y = refl
run_case false a m n l h = none_of a (suc (suc l)) ∙ ap (λ z. cond (a && z) (suc (suc l)) 0) (sym (zero_apart l))

pub run_more : {X : Type 0} (f : X → Bool) (ws : List X) (r : X) → prefix_len f (ws ++ r ∷ []) ≡ cond (f r && nat_eq (prefix_len f ws) (length ws)) (suc (length ws)) (prefix_len f ws)
run_more f [] r = run_one (f r)
run_more f (w ∷ ws) r = run_case (f w) (f r) (prefix_len f (ws ++ r ∷ [])) (prefix_len f ws) (length ws) (run_more f ws r)

-- ---- the place behind a run

get_later : (k : ℕ) (ps : List ℕ) (m : ℕ) → slice_get (k ∷ ps) (1 + m) ≡ slice_get ps m
get_later k ps m = ap (slice_get (k ∷ ps)) (suc_is m)

named_case : (k : ℕ) (c : Bool) (ps : List ℕ) (m : ℕ) (o : Option ℕ) → slice_get ps m ≡ o → slice_get (k ∷ ps) (cond c (1 + m) 0) ≡ cond (not c) (Some k) o
named_case k true ps m o h = get_later k ps m ∙ h
named_case k false ps m o h = refl

nth_case : {X : Type 0} (f : X → Bool) (x : X) (k : ℕ) (b : Bool) (ps : List ℕ) (ws : List X) (o : Option ℕ) → slice_get ps (prefix_len f ws) ≡ o → slice_get (cond b (k ∷ ps) ps) (prefix_len f (cond b (x ∷ ws) ws)) ≡ cond (b && not (f x)) (Some k) o
nth_case f x k true ps ws o h = named_case k (f x) ps (prefix_len f ws) o h
nth_case f x k false ps ws o h = h

pub behind_run : (p f : Row → Bool) (k : ℕ) (rs : List Row) → slice_get (places_from p k rs) (prefix_len f (filter p rs)) ≡ position_from (λ r. p r && not (f r)) k rs
behind_run p f k [] = refl
behind_run p f k (r ∷ rs) = nth_case f r k (p r) (places_from p (k + 1) rs) (filter p rs) (position_from (λ r. p r && not (f r)) (k + 1) rs) (behind_run p f (k + 1) rs)

first_case : (k : ℕ) (b : Bool) (ps : List ℕ) (o : Option ℕ) → slice_get ps 0 ≡ o → slice_get (cond b (k ∷ ps) ps) 0 ≡ cond b (Some k) o
first_case k true ps o h = refl
first_case k false ps o h = h

pub first_place : (p : Row → Bool) (k : ℕ) (rs : List Row) → slice_get (places_from p k rs) 0 ≡ position_from p k rs
first_place p k [] = refl
first_place p k (r ∷ rs) = first_case k (p r) (places_from p (k + 1) rs) (position_from p (k + 1) rs) (first_place p (k + 1) rs)
