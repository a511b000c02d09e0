-- What is set for a class that is put into a program.
use Rattle.std.proofs.Common.{◌≡◌, ◌∙◌, ℕ, zero, suc, ◌<◌, Bool, true, false, List, [], ◌∷◌, length, Option, Some, None, refl, sym, ap, subst, arith}
use Rattle.std.specs.Prelude.{is_none, nat_eq, slice_get, slice_set, option_map, option_and_then, if◌then◌else◌}
use Rattle.std.proofs.lemmas.Bool.{eqb-true, eq-eqb}
use Rattle.program_rules.specs.Names.{Name, same}
use Rattle.program_rules.specs.Programs.{Look}
use Rattle.record_rules.specs.Profiles.{Held}
use Rattle.history_file.specs.Rows.{Numbered, IsNumbered, name_of}
use Rattle.history_index.specs.declared.standings.Swap.{Swap}
use Rattle.history_index.specs.Numbers.{name_number, number_in}
use Rattle.history_index.specs.Standings.{AreAlike, AreStandings, IsPut, IsSwap, listed, no_files, no_look, PutsClass, set_at, Standing, standing_in, standing_of, standing_with, swap_by}
use Rattle.history_index.proofs.Named.{name_of_number, same_is_number}
use Rattle.history_index.proofs.Positions.{eq_suc, some_is, suc_apart, zero_apart}

-- ---- one name

-- where names differ it is as it was
other_name : (n : Numbered) (name : Name) (file : Option (List ℕ)) (p : Look) (held : Held) (p' : Look) (held' : Held) (k : ℕ) → IsPut name file p held p' held' → same (name_of n.texts k) name ≡ false → standing_in n p' held' k ≡ standing_in n p held k
other_name n name file p held p' held' k put apart =
    ap (λ b. standing_of n.classes b (held' (name_of n.texts k))) (put.classes (name_of n.texts k) apart) ∙ ap (standing_of n.classes (is_none (p (name_of n.texts k)))) (put.files (name_of n.texts k) apart)

own_name : (n : Numbered) (name : Name) (file : Option (List ℕ)) (p : Look) (held : Held) (p' : Look) (held' : Held) (k : ℕ) → IsPut name file p held p' held' → name_of n.texts k ≡ name → standing_in n p' held' k ≡ standing_of n.classes false file
own_name n name file p held p' held' k put is =
    ap (λ m. standing_of n.classes (is_none (p' m)) (held' m)) is ∙ ap (λ b. standing_of n.classes b (held' name)) put.there ∙ ap (standing_of n.classes false) put.own

no_number : (n : Numbered) (k : ℕ) (name : Name) (b : Bool) → IsNumbered n → k < length n.texts → name_number n.texts name ≡ None → b ≡ same (name_of n.texts k) name → b ≡ false
no_number n k name false numbered lt none is = refl
no_number n k name true numbered lt none is = absurd (let f : None ≡ Some k = sym none ∙ same_is_number n.texts k name numbered.texts lt (sym is) in cc)

other_number : (n : Numbered) (k j : ℕ) (name : Name) (b : Bool) → IsNumbered n → k < length n.texts → name_number n.texts name ≡ Some j → nat_eq k j ≡ false → b ≡ same (name_of n.texts k) name → b ≡ false
other_number n k j name false numbered lt some apart is = refl
other_number n k j name true numbered lt some apart is =
    let at : Some j ≡ Some k = sym some ∙ same_is_number n.texts k name numbered.texts lt (sym is) in
    sym (eq-eqb k j (sym (some_is j k at))) ∙ apart

-- ---- a name that the history has, and one that it doesn't

pub kept_none : (n : Numbered) (name : Name) (file : Option (List ℕ)) (p : Look) (held : Held) (p' : Look) (held' : Held) (s : Standing) → IsNumbered n → name_number n.texts name ≡ None → IsPut name file p held p' held' → AreAlike n (standing_in n p held) s → AreAlike n (standing_in n p' held') s
kept_none n name file p held p' held' s numbered none put alike k lt =
    other_name n name file p held p' held' k put (no_number n k name (same (name_of n.texts k) name) numbered lt none refl) ∙ alike k lt

pub set_some : (n : Numbered) (name : Name) (file : Option (List ℕ)) (j : ℕ) (p : Look) (held : Held) (p' : Look) (held' : Held) (s : Standing) → IsNumbered n → name_number n.texts name ≡ Some j → IsPut name file p held p' held' → AreAlike n (standing_in n p held) s → AreAlike n (standing_in n p' held') (standing_with s j (standing_of n.classes false file))
set_some n name file j p held p' held' s numbered some put alike k lt = by (nat_eq k j) refl
  where
    by : (b : Bool) → b ≡ nat_eq k j → standing_in n p' held' k ≡ (if b then standing_of n.classes false file else s k)
    by true e = own_name n name file p held p' held' k put (ap (name_of n.texts) (eqb-true k j (sym e)) ∙ name_of_number n.texts j name some)
    by false e = other_name n name file p held p' held' k put (other_number n k j name (same (name_of n.texts k) name) numbered lt some (sym e) refl) ∙ alike k lt

pub swap_none : (n : Numbered) (name : Name) (bytes : List ℕ) → IsNumbered n → name_number n.texts name ≡ None → IsSwap n name bytes None
swap_none n name bytes numbered none p held p' held' s put alike = kept_none n name (Some bytes) p held p' held' s numbered none put alike

pub swap_some : (n : Numbered) (name : Name) (bytes : List ℕ) (w : Swap) → IsNumbered n → name_number n.texts name ≡ Some w.name → w.class ≡ option_map suc (number_in n.classes bytes) → IsSwap n name bytes (Some w)
swap_some n name bytes w numbered some class p held p' held' s put alike k lt =
    set_some n name (Some bytes) w.name p held p' held' s numbered some put alike k lt ∙ ap (λ o. standing_with s w.name o k) (sym class)

pub swap_is : (n : Numbered) (name : Name) (bytes : List ℕ) (number : Option ℕ) (w : Option Swap) → IsNumbered n → number ≡ name_number n.texts name → w ≡ swap_by n.classes bytes number → IsSwap n name bytes w
swap_is n name bytes None w numbered e is = subst (IsSwap n name bytes) (sym is) (swap_none n name bytes numbered (sym e))
swap_is n name bytes (Some k) w numbered e is = subst (IsSwap n name bytes) (sym is) (swap_some n name bytes (record { name = k; class = option_map suc (number_in n.classes bytes) }) numbered (sym e) refl)

-- ---- in a list

set_len : {X : Type 0} (xs : List X) (i : ℕ) (x : X) → length (slice_set xs i x) ≡ length xs
set_len [] i x = refl
set_len (y ∷ ys) zero x = refl
set_len (y ∷ ys) (suc i) x = ap suc (set_len ys i x)

set_get : (xs : List (Option ℕ)) (i k : ℕ) (x : Option ℕ) → k < length xs → listed (slice_set xs i x) k ≡ (if nat_eq k i then x else listed xs k)
set_get [] i k x lt = absurd (omega (arith, lt))
set_get (y ∷ ys) zero zero x lt = refl
set_get (y ∷ ys) zero (suc k) x lt = ap (λ b. if b then x else listed ys k) (sym (suc_apart k))
set_get (y ∷ ys) (suc i) zero x lt = ap (λ b. if b then x else y) (sym (zero_apart i))
set_get (y ∷ ys) (suc i) (suc k) x lt = set_get ys i k x (omega (arith, lt)) ∙ ap (λ b. if b then x else listed ys k) (sym (eq_suc k i))

pub put_none : (n : Numbered) (name : Name) (file : Option (List ℕ)) (old : List (Option ℕ)) → IsNumbered n → name_number n.texts name ≡ None → PutsClass n name file old old
put_none n name file old numbered none p held p' held' put are = record {
  len = are.len;
  alike = kept_none n name file p held p' held' (listed old) numbered none put are.alike;
}

pub put_some : (n : Numbered) (name : Name) (file : Option (List ℕ)) (j : ℕ) (old new : List (Option ℕ)) → IsNumbered n → name_number n.texts name ≡ Some j → new ≡ slice_set old j (standing_of n.classes false file) → PutsClass n name file old new
put_some n name file j old new numbered some is p held p' held' put are = record {
  len = ap length is ∙ set_len old j (standing_of n.classes false file) ∙ are.len;
  alike = λ k lt.
      set_some n name file j p held p' held' (listed old) numbered some put are.alike k lt ∙ sym (set_get old j k (standing_of n.classes false file) (subst (λ m. k < m) (sym are.len) lt)) ∙ ap (λ xs. listed xs k) (sym is);
}

pub put_is : (n : Numbered) (name : Name) (file : Option (List ℕ)) (number class : Option ℕ) (old new : List (Option ℕ)) → IsNumbered n → number ≡ name_number n.texts name → class ≡ standing_of n.classes false file → new ≡ set_at old number class → PutsClass n name file old new
put_is n name file None class old new numbered e c is = subst (PutsClass n name file old) (sym is) (put_none n name file old numbered (sym e))
put_is n name file (Some k) class old new numbered e c is = put_some n name file k old new numbered (sym e) (is ∙ ap (slice_set old k) c)

-- at first no name has a class
pub none_are : (n : Numbered) (s : List (Option ℕ)) → length s ≡ length n.texts → ((k : ℕ) → k < length s → slice_get s k ≡ Some (Some 0)) → AreStandings n no_look no_files s
none_are n s len none = record {
  len = len;
  alike = λ k lt. sym (ap (λ o. option_and_then (λ x. x) o) (none k (subst (λ m. k < m) (sym len) lt)));
}
