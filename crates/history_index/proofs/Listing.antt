-- Lists of places by the number of a test.
use Rattle.std.proofs.Common.{◌≡◌, ◌∙◌, ℕ, zero, suc, ◌+◌, ◌-◌, ◌<◌, ◌≤◌, ◌^◌, Bool, true, false, cond, List, [], ◌∷◌, ◌++◌, get_or, length, take, Option, Some, None, refl, sym, ap, arith}
use Rattle.std.specs.Prelude.{slice_get, slice_set, nat_eq, if◌then◌else◌}
use Rattle.std.proofs.lemmas.Bool.{eqb-true}
use Rattle.std.proofs.lemmas.List.{length-take-le}
use Rattle.history_file.specs.declared.row.Row.{Row}
use Rattle.history_index.specs.declared.lookout.Lookout.{Lookout}
use Rattle.history_index.specs.declared.lists.Places.{Places}
use Rattle.history_index.specs.Firsts.{PushesPlace, has_no, has_none, list_at, places_in, places_of}
use Rattle.history_index.specs.Lookouts.{HasRoom, IsLookoutOn, Question, is_whole, places_from}
use Rattle.history_index.specs.Numbers.{Indexed}
use Rattle.history_index.specs.Standings.{Standing}
use Rattle.history_index.proofs.Positions.{eq_suc, suc_apart, zero_apart}

-- ---- the places of one test

no_others : (xs : List ℕ) → length xs ≡ 0 → xs ≡ []
no_others [] e = refl
no_others (x ∷ xs) e = absurd (omega (arith, e))

none_of : (o : Option ℕ) (others : List ℕ) → has_no o others ≡ true → places_of o others ≡ []
none_of None others h = no_others others (eqb-true (length others) 0 h)
none_of (Some k) others h = absurd cc

none_behind : (o : Option ℕ) (others : List ℕ) → has_no o others ≡ true → others ≡ []
none_behind None others h = no_others others (eqb-true (length others) 0 h)
none_behind (Some k) others h = absurd cc

-- a first one
pub first_pushed : (place : ℕ) (old new : Places) → has_none old ≡ true → new.first ≡ Some place → new.others.items ≡ old.others.items → places_in new ≡ places_in old ++ place ∷ []
first_pushed place old new none first others =
    ap (λ o. places_of o new.others.items) first ∙ ap (λ xs. place ∷ xs) (others ∙ none_behind old.first old.others.items none) ∙ ap (λ xs. xs ++ place ∷ []) (sym (none_of old.first old.others.items none))

other_case : (o : Option ℕ) (others : List ℕ) (place : ℕ) → places_of o (others ++ place ∷ []) ≡ places_of o others ++ place ∷ []
other_case None others place = refl
other_case (Some k) others place = refl

-- a further one
pub other_pushed : (place : ℕ) (old new : Places) → new.first ≡ old.first → new.others.items ≡ old.others.items ++ place ∷ [] → places_in new ≡ places_in old ++ place ∷ []
other_pushed place old new first others = ap (λ o. places_of o new.others.items) first ∙ ap (places_of old.first) others ∙ other_case old.first old.others.items place

pub none_count : (o : Option ℕ) (others : List ℕ) → o ≡ None → length (places_of o others) ≡ length others
none_count o others e = ap (λ z. length (places_of z others)) e

pub some_count : (o : Option ℕ) (others : List ℕ) (first : ℕ) → o ≡ Some first → length (places_of o others) ≡ length others + 1
some_count o others first e = ap (λ z. length (places_of z others)) e ∙ (let next : suc (length others) ≡ length others + 1 = omega arith in next)

pub none_place : (o : Option ℕ) (others : List ℕ) (k : ℕ) → o ≡ None → slice_get (places_of o others) k ≡ slice_get others k
none_place o others k e = ap (λ z. slice_get (places_of z others) k) e

pub some_place : (o : Option ℕ) (others : List ℕ) (k first : ℕ) → o ≡ Some first → slice_get (places_of o others) k ≡ slice_get (first ∷ others) k
some_place o others k first e = ap (λ z. slice_get (places_of z others) k) e

pub behind_first : (first : ℕ) (others : List ℕ) (k : ℕ) → nat_eq k 0 ≡ false → slice_get (first ∷ others) k ≡ slice_get others (k - 1)
behind_first first others zero e = absurd cc
behind_first first others (suc k) e = let less : k ≡ suc k - 1 = omega arith in ap (slice_get others) less

pub at_first : (first : ℕ) (others : List ℕ) (k : ℕ) → nat_eq k 0 ≡ true → slice_get (first ∷ others) k ≡ Some first
at_first first others k e = ap (slice_get (first ∷ others)) (eqb-true k 0 e)

-- ---- of all tests

set_list : (lists : List Places) (test t place : ℕ) (p d : Places) → test < length lists → places_in p ≡ places_in (get_or lists test d) ++ place ∷ [] → list_at (slice_set lists test p) t ≡ (if nat_eq test t then list_at lists t ++ place ∷ [] else list_at lists t)
set_list [] test t place p d lt is = absurd (omega (arith, lt))
set_list (q ∷ qs) zero zero place p d lt is = is
set_list (q ∷ qs) zero (suc t) place p d lt is = ap (λ b. if b then list_at qs t ++ place ∷ [] else list_at qs t) (sym (zero_apart t))
set_list (q ∷ qs) (suc test) zero place p d lt is = ap (λ b. if b then places_in q ++ place ∷ [] else places_in q) (sym (suc_apart test))
set_list (q ∷ qs) (suc test) (suc t) place p d lt is = set_list qs test t place p d (omega (arith, lt)) is ∙ ap (λ b. if b then list_at qs t ++ place ∷ [] else list_at qs t) (sym (eq_suc test t))

set_len : (xs : List Places) (i : ℕ) (x : Places) → length (slice_set xs i x) ≡ length xs
set_len [] i x = refl
set_len (y ∷ ys) zero x = refl
set_len (y ∷ ys) (suc i) x = ap suc (set_len ys i x)

pub place_pushed : (test place : ℕ) (old new : List Places) (p d : Places) → test < length old → places_in p ≡ places_in (get_or old test d) ++ place ∷ [] → new ≡ slice_set old test p → PushesPlace test place old new
place_pushed test place old new p d lt is set = record {
  len = ap length set ∙ set_len old test p;
  at = λ t. ap (λ xs. list_at xs t) set ∙ set_list old test t place p d lt is;
}

-- one list more, which is empty
pub list_more : (lists : List Places) (p : Places) (t : ℕ) → places_in p ≡ [] → ((k : ℕ) → list_at lists k ≡ []) → list_at (lists ++ p ∷ []) t ≡ []
list_more [] p zero none all = none
list_more [] p (suc t) none all = refl
list_more (q ∷ qs) p zero none all = all 0
list_more (q ∷ qs) p (suc t) none all = list_more qs p t none (λ k. all (suc k))

-- ---- how many there are

few_case : (k n : ℕ) (b : Bool) (ps : List ℕ) → length ps ≤ n → length (cond b (k ∷ ps) ps) ≤ suc n
few_case k n true ps h = omega (arith, h)
few_case k n false ps h = omega (arith, h)

pub few_places : (p : Row → Bool) (k : ℕ) (rs : List Row) → length (places_from p k rs) ≤ length rs
few_places p k [] = omega arith
few_places p k (r ∷ rs) = few_case k (length rs) (p r) (places_from p (k + 1) rs) (few_places p (k + 1) rs)

pub has_room : (n : Indexed) (q : Question) (s : Standing) (rows : List Row) (i place : ℕ) (l : Lookout) → i < length rows → length rows < 2 ^ 32 → place ≡ i → IsLookoutOn n q s (take i rows) l → HasRoom place l
has_room n q s rows i place l lt few at on = record {
  next = omega (arith, lt, few, at);
  few = λ t.
      (let a = ap length (on.whole t) in
      let b = few_places (is_whole n q s t) 0 (take i rows) in
      let c = length-take-le i rows (omega (arith, lt)) in
      omega (arith, a, b, c, at));
}
