-- A class is found by its number exactly where its name is.
use Rattle.std.proofs.Common.{◌≡◌, ◌∙◌, sym, refl, ap, subst, ℕ, zero, suc, ◌<◌, nat_eq, Bool, true, false, List, [], ◌∷◌, ◌++◌, map, length, Option, None, Some, slice_get, arith}
use Rattle.std.specs.Prelude.{◌||◌, if◌then◌else◌}
use Rattle.std.specs.Cmp.Lexicographic.{same_text, bytes_decides}
use Rattle.std.proofs.lemmas.List.{length-map}
use Rattle.std.proofs.lemmas.Option.{slice_get_within}
use Rattle.program_rules.specs.Names.{Name, same, is_listed}
use Rattle.program_rules.specs.Programs.{Order, consult_one, consult_in}
use Rattle.class_order.proofs.Within.{same_itself}
use Rattle.class_link.specs.Info.{Info}
use Rattle.class_table.specs.Table.{names, place_in, name_at, number_of, AreDistinct, IsProgram}
use Rattle.class_table.specs.Seen.{AreKnown}
use Rattle.class_table.proofs.Walk.{Grows, grows_in, known_more}
use Rattle.jvm_marks.specs.Marks.{is_among, with_number}
use Rattle.class_family.specs.declared.seen.Seen.{Seen}
use Rattle.class_family.specs.Walks.{nobody, add_in, names_of, IsSeen, Finds, walk}
use Rattle.class_family.proofs.Levels.{map_both}

-- two classes of one name are one
number_same : (p : List Info) (a b : ℕ) → AreDistinct (names p) → a < length p → b < length p → name_at p a ≡ name_at p b → a ≡ b
number_same p a b distinct la lb e =
    let long = length-map p (λ i. i.name) in
    let one : place_in (names p) (name_at p a) ≡ Some a = distinct a (omega (arith, la, long)) in
    let two : place_in (names p) (name_at p b) ≡ Some b = distinct b (omega (arith, lb, long)) in
    let both : Some a ≡ Some b = sym one ∙ ap (place_in (names p)) e ∙ two in
    cc

same_case : (p : List Info) (a b : ℕ) (x y : Bool) → nat_eq a b ≡ x → same (name_at p a) (name_at p b) ≡ y → AreDistinct (names p) → a < length p → b < length p → x ≡ y
same_case p a b true true e h distinct la lb = refl
same_case p a b false false e h distinct la lb = refl
same_case p a b true false e h distinct la lb =
    let s : a ≡ b = grind arith in
    let t : same (name_at p a) (name_at p b) ≡ true = subst (λ c. same (name_at p a) (name_at p c) ≡ true) s (same_itself (name_at p a)) in
    absurd cc
same_case p a b false true e h distinct la lb =
    let s : a ≡ b = number_same p a b distinct la lb (same_text (name_at p a) (name_at p b) (sym h)) in
    let t : nat_eq a b ≡ true = grind (arith, s) in
    absurd cc

pub among_named : (p : List Info) (a : ℕ) (ns : List ℕ) → AreDistinct (names p) → a < length p → ((k b : ℕ) → slice_get ns k ≡ Some b → b < length p) → is_among a ns ≡ is_listed (name_at p a) (map (name_at p) ns)
among_named p a [] distinct la within = refl
among_named p a (n ∷ ns) distinct la within =
    ap (λ x. x || is_among a ns) (same_case p n a (nat_eq n a) (same (name_at p n) (name_at p a)) refl refl distinct (within 0 n refl) la)
    ∙ ap (λ x. same (name_at p n) (name_at p a) || x) (among_named p a ns distinct la (λ k b e. within (suc k) b e))

pub found_named : (p : List Info) (a : ℕ) (ns : List ℕ) → AreDistinct (names p) → a < length p → ((k b : ℕ) → slice_get ns k ≡ Some b → b < length p) → map (name_at p) (with_number a ns) ≡ add_in (name_at p a ∷ []) (map (name_at p) ns)
found_named p a ns distinct la within = by_test (is_among a ns) ∙ ap (λ b. if b then map (name_at p) ns else map (name_at p) ns ++ name_at p a ∷ []) (among_named p a ns distinct la within)
  where
    by_test : (b : Bool) → map (name_at p) (if b then ns else ns ++ a ∷ []) ≡ (if b then map (name_at p) ns else map (name_at p) ns ++ name_at p a ∷ [])
    by_test true = refl
    by_test false = map_both (name_at p) ns (a ∷ [])

end_within : (p : List Info) (a : ℕ) (ns : List ℕ) → a < length p → ((k b : ℕ) → slice_get ns k ≡ Some b → b < length p) → (k b : ℕ) → slice_get (ns ++ a ∷ []) k ≡ Some b → b < length p
end_within p a [] la within zero b e = let s : a ≡ b = cc in subst (λ c. c < length p) s la
end_within p a [] la within (suc k) b e = absurd cc
end_within p a (n ∷ ns) la within zero b e = within 0 b e
end_within p a (n ∷ ns) la within (suc k) b e = end_within p a ns la (λ j c h. within (suc j) c h) k b e

found_within : (p : List Info) (a : ℕ) (ns : List ℕ) (x : Bool) → a < length p → ((k b : ℕ) → slice_get ns k ≡ Some b → b < length p) → (k b : ℕ) → slice_get (if x then ns else ns ++ a ∷ []) k ≡ Some b → b < length p
found_within p a ns true la within k b e = within k b e
found_within p a ns false la within k b e = end_within p a ns la within k b e

-- what is there stays so
pub seen_grown : (order : Order) (p : List Info) (ms : List Name) (old new : Seen) → IsSeen order p old → new.closed ≡ old.closed → names_of p new ≡ add_in ms (names_of p old) → ((k b : ℕ) → slice_get new.found k ≡ Some b → b < length p) → IsSeen order p new
seen_grown order p ms old new h closed names within = record {
  within = within;
  closed = λ a e. known_more nobody (names_of p old) (names_of p new) (walk order p a) (subst (Grows nobody (names_of p old)) (sym names) (grows_in nobody ms (names_of p old))) (h.closed a (ap (is_among a) (sym closed) ∙ e));
}

pub finds_one : (order : Order) (p : List Info) (a : ℕ) (old new : Seen) → IsProgram p → a < length p → IsSeen order p old → new.found ≡ with_number a old.found → new.closed ≡ old.closed → Finds order p (name_at p a ∷ []) old new
finds_one order p a old new ok la h found closed = record {
  closed = closed;
  names = names;
  seen = seen_grown order p (name_at p a ∷ []) old new h closed names (λ k b e. found_within p a old.found (is_among a old.found) la h.within k b (subst (λ l. slice_get l k ≡ Some b) found e));
}
  where
    names : names_of p new ≡ add_in (name_at p a ∷ []) (names_of p old)
    names = ap (map (name_at p)) found ∙ found_named p a old.found ok.distinct la h.within

pub finds_none : (order : Order) (p : List Info) (s : Seen) → IsSeen order p s → Finds order p [] s s
finds_none order p s h = record { closed = refl; names = refl; seen = h }

among_end : (a n : ℕ) (ns : List ℕ) → is_among a (ns ++ n ∷ []) ≡ (is_among a ns || nat_eq n a)
among_end a n [] = by_test (nat_eq n a)
  where
    by_test : (b : Bool) → (b || false) ≡ b
    by_test true = refl
    by_test false = refl
among_end a n (x ∷ ns) = by_test (nat_eq x a) (among_end a n ns)
  where
    by_test : (b : Bool) → is_among a (ns ++ n ∷ []) ≡ (is_among a ns || nat_eq n a) → (b || is_among a (ns ++ n ∷ [])) ≡ ((b || is_among a ns) || nat_eq n a)
    by_test true rest = refl
    by_test false rest = rest

closed_end : (order : Order) (p : List Info) (a : ℕ) (s : Seen) (n : ℕ) (x y : Bool) → is_among n s.closed ≡ x → nat_eq a n ≡ y → IsSeen order p s → AreKnown nobody (names_of p s) (walk order p a) → (x || y) ≡ true → AreKnown nobody (names_of p s) (walk order p n)
closed_end order p a s n true y e f h there is = h.closed n e
closed_end order p a s n false true e f h there is = let same-number : a ≡ n = grind arith in subst (λ c. AreKnown nobody (names_of p s) (walk order p c)) same-number there
closed_end order p a s n false false e f h there is = absurd cc

closed_case : (order : Order) (p : List Info) (a : ℕ) (s : Seen) (n : ℕ) (x : Bool) → IsSeen order p s → AreKnown nobody (names_of p s) (walk order p a) → is_among n (if x then s.closed else s.closed ++ a ∷ []) ≡ true → AreKnown nobody (names_of p s) (walk order p n)
closed_case order p a s n true h there e = h.closed n e
closed_case order p a s n false h there e = closed_end order p a s n (is_among n s.closed) (nat_eq a n) refl refl h there (sym (among_end n a s.closed) ∙ e)

-- a class is closed
pub seen_closed : (order : Order) (p : List Info) (a : ℕ) (old new : Seen) → IsSeen order p old → new.found ≡ old.found → new.closed ≡ with_number a old.closed → AreKnown nobody (names_of p old) (walk order p a) → IsSeen order p new
seen_closed order p a old new h found closed there = record {
  within = λ k b e. h.within k b (subst (λ l. slice_get l k ≡ Some b) found e);
  closed = λ n e. subst (λ l. AreKnown nobody (map (name_at p) l) (walk order p n)) (sym found) (closed_case order p a old n (is_among a old.closed) h there (subst (λ l. is_among n l ≡ true) closed e));
}
