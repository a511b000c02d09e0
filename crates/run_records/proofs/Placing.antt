-- Consulted names, one after the other, and the places of their classes.
use Rattle.std.proofs.Common.{◌≡◌, ◌∙◌, ℕ, suc, ◌+◌, ◌<◌, Bool, true, false, cond, eqb, ltb, List, [], ◌∷◌, ◌++◌, map, length, Option, Some, None, Less, Equal, Greater, refl, sym, ap, subst, arith, length-append, append-nil}
use Rattle.std.specs.Prelude.{if◌then◌else◌, is_some, nat_eq}
use Rattle.std.specs.BTreeMap.{Updates, is_at}
use Rattle.std.specs.Cmp.Lexicographic.{same_text}
use Rattle.std.specs.Option.{option_or, unwrap_or}
use Rattle.std.specs.Ordering.{is_eq, nat_cmp}
use Rattle.std.proofs.lemmas.Bool.{eqb-true, eq-eqb, ltb-true, ne_eqb}
use Rattle.std.proofs.lemmas.Cmp.{nat_list_eq_equiv}
use Rattle.std.proofs.lemmas.List.{append_assoc, length-map, map-append}
use Rattle.program_rules.specs.Names.{Name, same}
use Rattle.class_link.specs.Info.{Info}
use Rattle.class_table.specs.Table.{AreDistinct, IsProgram, name_at, names, number_of, place_from, place_in}
use Rattle.record_rules.specs.Profiles.{Held}
use Rattle.record_rules.specs.Records.{with_bytes}
use Rattle.run_records.specs.declared.consulted.Consulted.{Consulted}
use Rattle.run_records.specs.Asking.{held_by}
use Rattle.run_records.specs.Places.{AddsName, HasPlaces, NotesName, Places, SetsPlace, names_in, place_at}

or_none : (o : Option ℕ) → o ≡ option_or o None
or_none None = refl
or_none (Some x) = refl

-- ---- the place of one class

kept_or : (o p : Option ℕ) → is_some o ≡ true → o ≡ option_or o p
kept_or (Some x) p h = refl
kept_or None p h = absurd cc

new_or : (o p : Option ℕ) → is_some o ≡ false → p ≡ option_or o p
new_or None p h = refl
new_or (Some x) p h = absurd cc

pub set_kept : (class place : ℕ) (old : Places) → is_some (place_at old class) ≡ true → SetsPlace class place old old
set_kept class place old is k = by (nat_eq class k) refl
  where
    by : (b : Bool) → b ≡ nat_eq class k → place_at old k ≡ option_or (place_at old k) (if b then Some place else None)
    by true e = kept_or (place_at old k) (Some place) (subst (λ j. is_some (place_at old j) ≡ true) (eqb-true class k (sym e)) is)
    by false e = or_none (place_at old k)

at_is : (m n : ℕ) → is_at (nat_cmp m) n ≡ eqb m n
at_is m n = by (ltb m n) (eqb m n) refl refl
  where
    by : (a b : Bool) → a ≡ ltb m n → b ≡ eqb m n → is_eq (cond a Less (cond b Equal Greater)) ≡ eqb m n
    by true b e f = sym (ne_eqb m n (λ same. let l : m < n = ltb-true m n (sym e) in let s = same in omega arith))
    by false true e f = f
    by false false e f = f

pub set_new : (class place : ℕ) (old new : Places) → is_some (place_at old class) ≡ false → Updates nat_cmp old new class (Some place) → SetsPlace class place old new
set_new class place old new none sets k =
    sets.0 k ∙ ap (λ t. cond t (Some place) (place_at old k)) (at_is class k) ∙ by (nat_eq class k) refl
  where
    by : (b : Bool) → b ≡ nat_eq class k → cond b (Some place) (place_at old k) ≡ option_or (place_at old k) (if b then Some place else None)
    by true e = new_or (place_at old k) (Some place) (subst (λ j. is_some (place_at old j) ≡ false) (eqb-true class k (sym e)) none)
    by false e = or_none (place_at old k)

-- ---- the place of one name

own_number : (p : List Info) (k : ℕ) → AreDistinct (names p) → k < length p → number_of p (name_at p k) ≡ Some k
own_number p k distinct lt = distinct k (subst (λ n. k < n) (sym (length-map p (λ i. i.name))) lt)

some_is : (a b : ℕ) → Some a ≡ Some b → a ≡ b
some_is a b e = ap (λ (o : Option ℕ). unwrap_or o a) e

no_some : {P : Type 0} (k : ℕ) (o : Option ℕ) → o ≡ None → o ≡ Some k → P
no_some k None e f = absurd cc
no_some k (Some j) e f = absurd cc

by_name : (p : List Info) (name : Name) (k : ℕ) → AreDistinct (names p) → k < length p → same name (name_at p k) ≡ true → number_of p name ≡ Some k
by_name p name k distinct lt h = ap (number_of p) (same_text name (name_at p k) (sym h)) ∙ own_number p k distinct lt

same_class : (p : List Info) (name : Name) (id k : ℕ) → AreDistinct (names p) → number_of p name ≡ Some id → name_at p id ≡ name → k < length p → nat_eq id k ≡ same name (name_at p k)
same_class p name id k distinct number named lt = by (nat_eq id k) (same name (name_at p k)) refl refl
  where
    by : (a b : Bool) → a ≡ nat_eq id k → b ≡ same name (name_at p k) → a ≡ b
    by true true e f = refl
    by false false e f = refl
    by true false e f =
        let is : name ≡ name_at p k = sym named ∙ ap (name_at p) (eqb-true id k (sym e)) in
        let own : same name (name_at p k) ≡ true = subst (λ (n : Name). same name n ≡ true) is (nat_list_eq_equiv.refl name) in
        sym (f ∙ own)
    by false true e f =
        let is : id ≡ k = some_is id k (sym number ∙ by_name p name k distinct lt (sym f)) in
        e ∙ eq-eqb id k is

pub noted : (p : List Info) (name : Name) (id place : ℕ) (old new : Places) → IsProgram p → number_of p name ≡ Some id → name_at p id ≡ name → SetsPlace id place old new → NotesName p name place old new
noted p name id place old new is number named sets k lt =
    sets k ∙ ap (λ b. option_or (place_at old k) (if b then Some place else None)) (same_class p name id k is.distinct number named lt)

pub not_noted : (p : List Info) (name : Name) (place : ℕ) (old : Places) → IsProgram p → number_of p name ≡ None → NotesName p name place old old
not_noted p name place old is none k lt = by (same name (name_at p k)) refl
  where
    by : (b : Bool) → b ≡ same name (name_at p k) → place_at old k ≡ option_or (place_at old k) (if b then Some place else None)
    by true e = no_some k (number_of p name) none (by_name p name k is.distinct lt (sym e))
    by false e = or_none (place_at old k)

-- ---- one more name

last_case : (b : Bool) (i : ℕ) (rest before o : Option ℕ) → rest ≡ option_or before o → (if b then Some i else rest) ≡ option_or (if b then Some i else before) o
last_case true i rest before o e = refl
last_case false i rest before o e = e

place_last : (n m : Name) (i : ℕ) (ns : List Name) → place_from n i (ns ++ m ∷ []) ≡ option_or (place_from n i ns) (if same m n then Some (i + length ns) else None)
place_last n m i [] = let e : i ≡ i + 0 = omega arith in ap (λ k. if same m n then Some k else None) e
place_last n m i (x ∷ ns) =
    let e : suc i + length ns ≡ i + length (x ∷ ns) = omega arith in
    last_case (same x n) i (place_from n (suc i) (ns ++ m ∷ [])) (place_from n (suc i) ns) (if same m n then Some (i + length (x ∷ ns)) else None)
    (place_last n m (suc i) ns ∙ ap (λ k. option_or (place_from n (suc i) ns) (if same m n then Some k else None)) e)

pub added : (p : List Info) (name : Name) (bytes : Option (List ℕ)) (old new : Consulted) → HasPlaces p old → new.entries.items ≡ old.entries.items ++ (name, bytes) ∷ [] → NotesName p name (length old.entries.items) old.places new.places → bytes ≡ held_by p name → AddsName p name old new
added p name bytes old new has grown notes held = record {
  entries = grown ∙ ap (λ b. old.entries.items ++ (name, b) ∷ []) held;
  places = λ k lt.
      let n = name_at p k in
      let count : length old.entries.items ≡ 0 + length (names_in old) = let l = length-map old.entries.items (λ e. e.0) in omega (arith, l) in
      let all : names_in new ≡ names_in old ++ name ∷ [] = ap (map (λ e. e.0)) grown ∙ map-append (λ e. e.0) old.entries.items ((name, bytes) ∷ []) in
      notes k lt
      ∙ ap (λ o. option_or o (if same name n then Some (length old.entries.items) else None)) (has k lt)
      ∙ ap (λ j. option_or (place_in (names_in old) n) (if same name n then Some j else None)) count
      ∙ sym (place_last n name 0 (names_in old))
      ∙ ap (λ ms. place_in ms n) (sym all);
}

-- ---- all names

pub one_more : (h : Held) (name : Name) (rest all : List Name) (old new : List (Name × Option (List ℕ))) → old ++ with_bytes h (name ∷ rest) ≡ with_bytes h all → new ≡ old ++ (name, h name) ∷ [] → new ++ with_bytes h rest ≡ with_bytes h all
one_more h name rest all old new told grown =
    ap (λ es. es ++ with_bytes h rest) grown ∙ append_assoc old ((name, h name) ∷ []) (with_bytes h rest) ∙ told

pub count_of : (h : Held) (rest all : List Name) (items : List (Name × Option (List ℕ))) → items ++ with_bytes h rest ≡ with_bytes h all → length items + length rest ≡ length all
count_of h rest all items told =
    let long : length (items ++ with_bytes h rest) ≡ length (with_bytes h all) = ap length told in
    let parts = length-append items (with_bytes h rest) in
    let one : length (with_bytes h rest) ≡ length rest = length-map rest (λ n. (n, h n)) in
    let two : length (with_bytes h all) ≡ length all = length-map all (λ n. (n, h n)) in
    omega (arith, long, parts, one, two)

pub all_kept : (h : Held) (rest all : List Name) (items : List (Name × Option (List ℕ))) → items ++ with_bytes h rest ≡ with_bytes h all → rest ≡ [] → items ≡ with_bytes h all
all_kept h rest all items told none =
    sym (append-nil items) ∙ ap (λ ns. items ++ with_bytes h ns) (sym none) ∙ told
