-- Slices by number, with one slice more.
use Rattle.std.proofs.Common.{◌≡◌, ◌∙◌, ℕ, ◌+◌, ◌<◌, Bor, Bool, get_or, true, false, List, [], ◌∷◌, ◌++◌, length, map, take, Option, Some, None, refl, sym, ap, subst, arith}
use Rattle.std.specs.Prelude.{is_some, if◌then◌else◌}
use Rattle.std.specs.Option.{option_or}
use Rattle.std.specs.BTreeMap as tree
use Rattle.std.specs.Cmp.Lexicographic.{slice_cmp}
use Rattle.std.specs.Ordering.{nat_cmp}
use Rattle.std.proofs.lemmas.List.{length-map, length-take-le, map-append, take_more}
use Rattle.std.proofs.lemmas.Map.Text.{btree_map_updates_str}
use Rattle.program_rules.specs.Names.{same}
use Rattle.history_rules.proofs.Pools.{bytes_are}
use Rattle.history_index.specs.declared.numbers.Numbers.{Numbers}
use Rattle.history_index.specs.Numbers.{NotesNumber, number_at, number_in}
use Rattle.history_index.proofs.Positions.{position_more}

or_none : (o : Option ℕ) → o ≡ option_or o None
or_none None = refl
or_none (Some x) = refl

-- what a slice sets
abbrev pub Sets : Numbers → Numbers → List ℕ → ℕ → Type 0
Sets old new bytes number =
    tree.UpdatesBy (λ x y. slice_cmp nat_cmp x.now y.now) (λ k. slice_cmp nat_cmp bytes k.now) old.numbers new.numbers (Some number)

set_is : (old new : Numbers) (bytes : List ℕ) (number : ℕ) → Sets old new bytes number → (q : List ℕ) → number_at new q ≡ (if same bytes q then Some number else number_at old q)
set_is old new bytes number sets q = btree_map_updates_str bytes old.numbers new.numbers (Some number) sets q

kept_or : (o p : Option ℕ) → is_some o ≡ true → o ≡ option_or o p
kept_or (Some x) p h = refl
kept_or None p h = absurd cc

new_or : (o p : Option ℕ) → is_some o ≡ false → p ≡ option_or o p
new_or None p h = refl
new_or (Some x) p h = absurd cc

pub noted_again : (bytes : List ℕ) (number : ℕ) (n : Numbers) → is_some (number_at n bytes) ≡ true → NotesNumber bytes number n n
noted_again bytes number n some q = by (same bytes q) refl
  where
    by : (b : Bool) → b ≡ same bytes q → number_at n q ≡ option_or (number_at n q) (if b then Some number else None)
    by true e = kept_or (number_at n q) (Some number) (subst (λ z. is_some (number_at n z) ≡ true) (bytes_are bytes q (sym e)) some)
    by false e = or_none (number_at n q)

pub noted_first : (bytes : List ℕ) (number : ℕ) (old new : Numbers) → is_some (number_at old bytes) ≡ false → Sets old new bytes number → NotesNumber bytes number old new
noted_first bytes number old new none sets q = set_is old new bytes number sets q ∙ by (same bytes q) refl
  where
    by : (b : Bool) → b ≡ same bytes q → (if b then Some number else number_at old q) ≡ option_or (number_at old q) (if b then Some number else None)
    by true e = new_or (number_at old q) (Some number) (subst (λ z. is_some (number_at old z) ≡ false) (bytes_are bytes q (sym e)) none)
    by false e = or_none (number_at old q)

-- one slice more among those that have numbers
pub number_more : (xs : List (List ℕ)) (x q : List ℕ) → number_in (xs ++ x ∷ []) q ≡ option_or (number_in xs q) (if same x q then Some (length xs) else None)
number_more xs x q =
    let from : 0 + length xs ≡ length xs = omega arith in
    position_more (λ s. same s q) 0 xs x ∙ ap (λ (j : ℕ). option_or (number_in xs q) (if same x q then Some j else None)) from

pub numbers_step : (xs : List (Bor (List ℕ))) (i before : ℕ) (d : Bor (List ℕ)) (old new : Numbers) → i < length xs → before ≡ i → ((q : List ℕ) → number_at old q ≡ number_in (map (λ s. s.now) (take i xs)) q) → NotesNumber (get_or xs i d).now before old new → (q : List ℕ) → number_at new q ≡ number_in (map (λ s. s.now) (take (i + 1) xs)) q
numbers_step xs i before d old new lt at known notes q =
    let front = map (λ (s : Bor (List ℕ)). s.now) (take i xs) in
    let x = (get_or xs i d).now in
    let many : length front ≡ i = length-map (take i xs) (λ s. s.now) ∙ length_take i xs lt in
    let is : map (λ (s : Bor (List ℕ)). s.now) (take (i + 1) xs) ≡ front ++ x ∷ [] = ap (map (λ (s : Bor (List ℕ)). s.now)) (take_more xs i d lt) ∙ map-append (λ s. s.now) (take i xs) (get_or xs i d ∷ []) in
    notes q ∙ ap (λ o. option_or o (if same x q then Some before else None)) (known q) ∙ ap (λ (j : ℕ). option_or (number_in front q) (if same x q then Some j else None)) (at ∙ sym many) ∙ sym (number_more front x q) ∙ ap (λ zs. number_in zs q) (sym is)
  where
    length_take : (n : ℕ) (ys : List (Bor (List ℕ))) → n < length ys → length (take n ys) ≡ n
    length_take n ys l = length-take-le n ys (omega (arith, l))
