-- Where a name stands among names, and what that says of a program.
use Rattle.std.proofs.Common.{◌≡◌, ◌∙◌, sym, refl, ap, ℕ, zero, suc, ◌+◌, ◌<◌, Bool, true, false, List, [], ◌∷◌, map, length, Option, None, Some, slice_get, slice_set, arith, IsSomeAnd}
use Rattle.std.specs.Prelude.{if◌then◌else◌, option_and_then}
use Rattle.std.specs.Arc.{arc_value}
use Rattle.std.specs.declared.sync.Arc.{Arc}
use Rattle.std.specs.List.{AllZip}
use Rattle.std.specs.Option.{option_map}
use Rattle.std.specs.Cmp.Lexicographic.{same_text}
use Rattle.std.proofs.lemmas.List.{length-map}
use Rattle.std.proofs.lemmas.Option.{slice_get-map, slice_get_within}
use Rattle.program_rules.specs.Names.{Name, same}
use Rattle.program_rules.specs.Linked.{method_in}
use Rattle.class_link.specs.declared.linked.LinkedMethod.{LinkedMethod}
use Rattle.class_link.specs.Info.{Info, class_of}
use Rattle.class_link.specs.View.{method_of, linked_of}
use Rattle.std.specs.BTreeMap.{BTreeMap}
use Rattle.class_table.specs.Numbers.{IsNumbering}
use Rattle.class_table.specs.Table.{place_from, place_in, name_or_none, names, number_of, class_at, name_at, look, entries_in, entries_at, methods_in, methods_at, AreDistinct, IsProgram, IsAlike, CanSwap}

-- ---- shared values

-- What is shared once more is the same.
pub clones_shared : {T Z : Type 0} (xs ys : List (Arc T Z)) → AllZip (λ c d. arc_value d ≡ arc_value c) xs ys → map (λ c. arc_value c) ys ≡ map (λ c. arc_value c) xs
clones_shared [] [] all = refl
clones_shared [] (y ∷ ys) all = absurd all
clones_shared (x ∷ xs) [] all = absurd all
clones_shared (x ∷ xs) (y ∷ ys) all = ap (λ v. v ∷ map (λ c. arc_value c) ys) all.0 ∙ ap (λ vs. arc_value x ∷ vs) (clones_shared xs ys all.1)

-- ---- names

abbrev Found : Name → ℕ → List Name → ℕ → Type 0
Found n k ms i = (j : ℕ) × (i ≡ k + j) × (slice_get ms j ≡ Some n)

found_case : (n : Name) (k i : ℕ) (m : Name) (ms : List Name) (b : Bool) → b ≡ same m n → (place_from n (suc k) ms ≡ Some i → Found n (suc k) ms i) → (if b then Some k else place_from n (suc k) ms) ≡ Some i → Found n k (m ∷ ms) i
found_case n k i m ms true e rest h = (0, (let p : i ≡ k = cc in omega (arith, p)), ap Some (same_text m n e))
found_case n k i m ms false e rest h = let r = rest h in (suc r.0, omega (arith, r.1), r.2)

found_from : (n : Name) (k i : ℕ) (ms : List Name) → place_from n k ms ≡ Some i → Found n k ms i
found_from n k i [] h = cc
found_from n k i (m ∷ ms) h = found_case n k i m ms (same m n) refl (found_from n (suc k) i ms) h

-- The name stands at its place.
pub name_at_place : (n : Name) (i : ℕ) (ms : List Name) → place_in ms n ≡ Some i → slice_get ms i ≡ Some n
name_at_place n i ms h = let r = found_from n 0 i ms h in let e : i ≡ r.0 = omega (arith, r.1) in ap (slice_get ms) e ∙ r.2

-- ---- programs

pub number_within : (p : List Info) (n : Name) (i : ℕ) → number_of p n ≡ Some i → i < length p
number_within p n i h = let lt = slice_get_within (names p) i n (name_at_place n i (names p) h) in omega (arith, lt, length-map p (λ x. x.name))

pub number_named : (p : List Info) (n : Name) (i : ℕ) → number_of p n ≡ Some i → name_at p i ≡ n
number_named p n i h = ap name_or_none (name_at_place n i (names p) h)

pub name_of_class : (p : List Info) (i : ℕ) (x : Info) → slice_get p i ≡ Some x → name_at p i ≡ x.name
name_of_class p i x h = ap name_or_none (slice_get-map (λ x. x.name) p i ∙ ap (option_map (λ x. x.name)) h)

pub number_at : (p : List Info) (i : ℕ) (x : Info) → AreDistinct (names p) → slice_get p i ≡ Some x → number_of p (name_at p i) ≡ Some i
number_at p i x distinct h = let lt = slice_get_within p i x h in distinct i (omega (arith, lt, length-map p (λ x. x.name)))

pub look_at : (p : List Info) (i : ℕ) (x : Info) → AreDistinct (names p) → slice_get p i ≡ Some x → look p (name_at p i) ≡ Some (class_of x)
look_at p i x distinct h = ap (option_and_then (class_at p)) (number_at p i x distinct h) ∙ ap (option_map class_of) h

-- ---- methods

pub none_past : {A : Type 0} (xs : List A) (i : ℕ) → slice_get xs i ≡ None → i < length xs → ⊥
none_past [] i e lt = omega (arith, lt)
none_past (x ∷ xs) zero e lt = absurd cc
none_past (x ∷ xs) (suc i) e lt = none_past xs i e (omega (arith, lt))

method_case : (p : List Info) (class method : ℕ) (o : Option Info) → slice_get p class ≡ o → IsProgram p → class < length p → option_map (method_of (entries_in o)) (slice_get (methods_in o) method) ≡ method_in (look p (name_at p class)) method
unfolding linked_of
method_case p class method None e ok lt = absurd (none_past p class e lt)
method_case p class method (Some x) e ok lt = rw (look_at p class x ok.distinct e) (sym (slice_get-map (method_of x.linked.entries) x.linked.methods method))

pub method_linked : (p : List Info) (class method : ℕ) (found : Option LinkedMethod) → IsProgram p → class < length p → found ≡ slice_get (methods_at p class) method → option_map (method_of (entries_at p class)) found ≡ method_in (look p (name_at p class)) method
method_linked p class method found ok lt same = ap (option_map (method_of (entries_at p class))) same ∙ method_case p class method (slice_get p class) refl ok lt

-- ---- one class in the place of another

pub names_kept : (p : List Info) (i : ℕ) (old new : Info) → slice_get p i ≡ Some old → new.name ≡ old.name → names (slice_set p i new) ≡ names p
names_kept [] i old new h e = refl
names_kept (x ∷ p) zero old new h e = let same : x ≡ old = cc in ap (λ n. n ∷ names p) (e ∙ ap (λ x. x.name) (sym same))
names_kept (x ∷ p) (suc i) old new h e = ap (λ ns. x.name ∷ ns) (names_kept p i old new h e)

swap_case : (p : List Info) (i : ℕ) (new : Info) (o : Option Info) → slice_get p i ≡ o → IsSomeAnd o (λ old. IsAlike old new) → names (slice_set p i new) ≡ names p
swap_case p i new None e h = absurd h
swap_case p i new (Some old) e h = names_kept p i old new e h.name

pub swap_names : (p : List Info) (i : ℕ) (new : Info) → CanSwap p i new → names (slice_set p i new) ≡ names p
swap_names p i new h = swap_case p i new (slice_get p i) refl h

pub numbers_kept : (m : BTreeMap Name ℕ) (p q : List Info) → names q ≡ names p → IsNumbering m p → IsNumbering m q
numbers_kept m p q e h = λ n. h n ∙ ap (λ ns. place_in ns n) (sym e)
