-- A program class by class, as a history's names stand in it.
use Rattle.std.proofs.Common.{◌≡◌, ◌∙◌, sym, refl, ap, subst, ℕ, zero, suc, ◌+◌, ◌<◌, ◌≤◌, Bool, true, false, List, [], ◌∷◌, Option, Some, None, length, map, take, slice_get, arith}
use Rattle.std.specs.Prelude.{if◌then◌else◌, is_none, option_and_then}
use Rattle.std.specs.Option.{option_map}
use Rattle.std.specs.Cmp.Lexicographic.{same_text, bytes_decides}
use Rattle.std.proofs.lemmas.Option.{slice_get_within}
use Rattle.program_rules.specs.Names.{Name, same}
use Rattle.program_rules.specs.Linked.{Linked}
use Rattle.program_rules.specs.Programs.{Look}
use Rattle.class_link.specs.Info.{Info, class_of}
use Rattle.class_table.specs.Table.{AreDistinct, class_at, look, name_at, name_or_none, names, number_of, place_from, place_in, IsProgram}
use Rattle.class_table.proofs.Places.{number_at}
use Rattle.history_file.specs.Rows.{Numbered}
use Rattle.history_index.specs.Standings.{AreStandings, IsPut, PutsClass, no_files, no_look}
use Rattle.record_rules.specs.Profiles.{Held}
use Rattle.run_records.specs.Asking.{bytes_of, held_by}
use Rattle.suite_workers.proofs.Lists.{take_map, take_whole}

pub same_itself : (n : Name) → same n n ≡ true
same_itself n = (bytes_decides n n).1 refl

turn_case : (a b : Name) (x : Bool) → x ≡ same b a → same a b ≡ false → x ≡ false
turn_case a b true is h =
    let e : same a b ≡ true = ap (same a) (same_text b a is) ∙ same_itself a in
    let no : true ≡ false = sym e ∙ h in
    no
turn_case a b false is h = refl

turn : (a b : Name) → same a b ≡ false → same b a ≡ false
turn a b h = turn_case a b (same b a) refl h

-- ---- places of names

later_case : (n m : Name) (k i : ℕ) (ms : List Name) (b : Bool) → (place_from n (suc k) ms ≡ Some i → suc k ≤ i) → (if b then Some k else place_from n (suc k) ms) ≡ Some i → k ≤ i
later_case n m k i ms true h e = let same : k ≡ i = cc in omega (arith, same)
later_case n m k i ms false h e = let le = h e in omega (arith, le)

later : (n : Name) (k i : ℕ) (ms : List Name) → place_from n k ms ≡ Some i → k ≤ i
later n k i [] e = absurd cc
later n k i (m ∷ ms) e = later_case n m k i ms (same m n) (later n (suc k) i ms) e

-- A name that stands at a place stands there among the names up to it.
first_case : (n m : Name) (k d : ℕ) (ms : List Name) (b : Bool) → ((d' : ℕ) → suc d' ≡ d → place_from n (suc k) ms ≡ Some (suc k + d') → place_from n (suc k) (take (suc d') ms) ≡ Some (suc k + d')) → (if b then Some k else place_from n (suc k) ms) ≡ Some (k + d) → (if b then Some k else place_from n (suc k) (take d ms)) ≡ Some (k + d)
first_case n m k d ms true h e = e
first_case n m k zero ms false h e =
    let le = later n (suc k) (k + 0) ms e in absurd (omega (arith, le))
first_case n m k (suc d) ms false h e =
    let same : k + suc d ≡ suc k + d = omega arith in
    h d refl (e ∙ ap Some same) ∙ ap Some (sym same)

first_at : (n : Name) (k d : ℕ) (ms : List Name) → place_from n k ms ≡ Some (k + d) → place_from n k (take (suc d) ms) ≡ Some (k + d)
first_at n k d [] e = absurd cc
first_at n k d (m ∷ ms) e = first_case n m k d ms (same m n) (λ d' is e'. first_at n (suc k) d' ms e') e

-- Another name than that at a place stands among the names before it where it stands up to it.
other_at : (n m : Name) (k d : ℕ) (ms : List Name) → slice_get ms d ≡ Some m → same m n ≡ false → place_from n k (take (suc d) ms) ≡ place_from n k (take d ms)
other_at n m k d [] e apart = absurd cc
other_at n m k zero (x ∷ ms) e apart = let is : x ≡ m = cc in ap (λ b. if b then Some k else None) (ap (λ y. same y n) is ∙ apart)
other_at n m k (suc d) (x ∷ ms) e apart = ap (λ o. if same x n then Some k else o) (other_at n m (suc k) d ms e apart)

get_taken : {X : Type 0} (xs : List X) (d k : ℕ) → k < d → slice_get (take d xs) k ≡ slice_get xs k
get_taken xs zero k lt = absurd (omega (arith, lt))
get_taken [] (suc d) k lt = refl
get_taken (x ∷ xs) (suc d) zero lt = refl
get_taken (x ∷ xs) (suc d) (suc k) lt = get_taken xs d k (omega (arith, lt))

get_map : {X Y : Type 0} (f : X → Y) (xs : List X) (k : ℕ) (x : X) → slice_get xs k ≡ Some x → slice_get (map f xs) k ≡ Some (f x)
get_map f [] k x e = absurd cc
get_map f (y ∷ xs) zero x e = let is : y ≡ x = cc in ap (λ z. Some (f z)) is
get_map f (y ∷ xs) (suc k) x e = get_map f xs k x e

-- A place among the first names is below their number.
below_case : (n m : Name) (k d i : ℕ) (ms : List Name) (b : Bool) → (place_from n (suc k) (take d ms) ≡ Some i → i < suc k + d) → (if b then Some k else place_from n (suc k) (take d ms)) ≡ Some i → i < k + suc d
below_case n m k d i ms true h e = let is : k ≡ i = cc in omega (arith, is)
below_case n m k d i ms false h e = let lt = h e in omega (arith, lt)

below : (n : Name) (k d i : ℕ) (ms : List Name) → place_from n k (take d ms) ≡ Some i → i < k + d
below n k zero i ms e = absurd cc
below n k (suc d) i [] e = absurd cc
below n k (suc d) i (m ∷ ms) e = below_case n m k d i ms (same m n) (below n (suc k) d i ms) e

-- ---- the program of the first classes

module _ (p : List Info) (program : IsProgram p) (k : ℕ) (x : Info) (at : slice_get p k ≡ Some x) where
  number_before : (n : Name) (i : ℕ) → number_of (take k p) n ≡ Some i → i < k
  number_before n i e =
      let lt = below n 0 k i (names p) (ap (λ ns. place_in ns n) (sym (take_map (λ (y : Info). y.name) k p)) ∙ e) in
      omega (arith, lt)

  number_other : (n : Name) → same x.name n ≡ false → number_of (take (suc k) p) n ≡ number_of (take k p) n
  number_other n apart =
      ap (λ ns. place_in ns n) (take_map (λ (y : Info). y.name) (suc k) p)
      ∙ other_at n x.name 0 k (names p) (get_map (λ (y : Info). y.name) p k x at) apart
      ∙ ap (λ ns. place_in ns n) (sym (take_map (λ (y : Info). y.name) k p))

  name_is : name_at p k ≡ x.name
  name_is = ap name_or_none (get_map (λ (y : Info). y.name) p k x at)

  number_own : number_of (take (suc k) p) x.name ≡ Some k
  number_own =
      let e : k ≡ 0 + k = omega arith in
      let here : place_in (names p) x.name ≡ Some (0 + k) = ap (number_of p) (sym name_is) ∙ number_at p k x program.distinct at ∙ ap Some e in
      ap (λ ns. place_in ns x.name) (take_map (λ (y : Info). y.name) (suc k) p) ∙ first_at x.name 0 k (names p) here ∙ ap Some (sym e)

  in_first : (i : ℕ) → i < k → slice_get (take (suc k) p) i ≡ slice_get (take k p) i
  in_first i lt = get_taken p (suc k) i (omega (arith, lt)) ∙ sym (get_taken p k i lt)

  module _ {Y : Type 0} (f : Info → Y) where
    same_case : (o : Option ℕ) → ((i : ℕ) → o ≡ Some i → i < k) → option_and_then (λ i. option_map f (slice_get (take (suc k) p) i)) o ≡ option_and_then (λ i. option_map f (slice_get (take k p) i)) o
    same_case None h = refl
    same_case (Some i) h = ap (option_map f) (in_first i (h i refl))

  held_case : (o : Option ℕ) → ((i : ℕ) → o ≡ Some i → i < k) → option_and_then (λ i. option_and_then bytes_of (slice_get (take (suc k) p) i)) o ≡ option_and_then (λ i. option_and_then bytes_of (slice_get (take k p) i)) o
  held_case None h = refl
  held_case (Some i) h = ap (option_and_then bytes_of) (in_first i (h i refl))

  last_is : slice_get (take (suc k) p) k ≡ Some x
  last_is = get_taken p (suc k) k (omega arith) ∙ at

  is_put : IsPut x.name (bytes_of x) (look (take k p)) (held_by (take k p)) (look (take (suc k) p)) (held_by (take (suc k) p))
  is_put = record {
    there = ap (λ o. is_none (option_and_then (class_at (take (suc k) p)) o)) number_own ∙ ap (λ o. is_none (option_map class_of o)) last_is;
    own = ap (option_and_then (λ i. option_and_then bytes_of (slice_get (take (suc k) p) i))) number_own ∙ ap (option_and_then bytes_of) last_is;
    classes = λ n apart. ap (λ (o : Option Linked). is_none o) (ap (option_and_then (class_at (take (suc k) p))) (number_other n (turn n x.name apart)) ∙ same_case class_of (number_of (take k p) n) (number_before n));
    files = λ n apart. ap (option_and_then (λ i. option_and_then bytes_of (slice_get (take (suc k) p) i))) (number_other n (turn n x.name apart)) ∙ held_case (number_of (take k p) n) (number_before n);
  }

  pub stand_more : (h : Numbered) (name : Name) (file : Option (List ℕ)) (old new : List (Option ℕ)) → name ≡ x.name → file ≡ bytes_of x → PutsClass h name file old new → AreStandings h (look (take k p)) (held_by (take k p)) old → AreStandings h (look (take (k + 1) p)) (held_by (take (k + 1) p)) new
  stand_more h name file old new name_of file_of puts stand =
      let e : suc k ≡ k + 1 = omega arith in
      let put : IsPut name file (look (take k p)) (held_by (take k p)) (look (take (suc k) p)) (held_by (take (suc k) p)) =
      subst (λ n. IsPut n file (look (take k p)) (held_by (take k p)) (look (take (suc k) p)) (held_by (take (suc k) p))) (sym name_of)
      (subst (λ f. IsPut x.name f (look (take k p)) (held_by (take k p)) (look (take (suc k) p)) (held_by (take (suc k) p))) (sym file_of) is_put) in
      subst (λ n. AreStandings h (look (take n p)) (held_by (take n p)) new) e
      (puts (look (take k p)) (held_by (take k p)) (look (take (suc k) p)) (held_by (take (suc k) p)) put stand)

-- Before the first class.
pub stand_first : (h : Numbered) (p : List Info) (s : List (Option ℕ)) → AreStandings h no_look no_files s → AreStandings h (look (take 0 p)) (held_by (take 0 p)) s
stand_first h p s stand = subst (λ (w : Look × Held). AreStandings h w.0 w.1 s) (λ i. (none_look i, none_held i)) stand
  where
    none_look : no_look ≡ look (take 0 p)
    none_look = λ i n. None

    none_held : no_files ≡ held_by (take 0 p)
    none_held = λ i n. None

pub stand_whole : (h : Numbered) (p : List Info) (n : ℕ) (s : List (Option ℕ)) → length p ≤ n → AreStandings h (look (take n p)) (held_by (take n p)) s → AreStandings h (look p) (held_by p) s
stand_whole h p n s le stand = subst (λ (q : List Info). AreStandings h (look q) (held_by q) s) (take_whole p n le) stand
