-- Files that are made of groups list each item once, under its key.
use Rattle.std.proofs.Common.{◌≡◌, ℕ, zero, suc, ◌+◌, Bool, true, false, cond, ◌||◌, List, [], ◌∷◌, ◌++◌, map, codes, Option, Some, None, option_map, Ordering, Less, Equal, Greater, is_eq, refl, sym, ap, subst, ◌∙◌, arith, append-nil}
use Rattle.std.specs.List.{AllByRecursion, filter, flat_map, list_any, slice_get, zip}
use Rattle.std.specs.List.Sorted.{IsStrictlySortedBy}
use Rattle.std.specs.Option.{option_to_list}
use Rattle.std.specs.Prelude.{option_and_then}
use Rattle.std.specs.Str.{bytes_eq}
use Rattle.std.proofs.lemmas.Map.Lookups.{exact_bytes}
use Rattle.std.proofs.lemmas.Map.Text.{is_eq-slice_cmp}
use Rattle.std.proofs.lemmas.Option.{slice_get-map}
use Rattle.serde_json.specs.Data.{Data, Members, no_members, member}
use Rattle.serde_json.specs.View.{items_of}
use Rattle.class_table.specs.declared.scripted.Test.{Test}
use Rattle.mutator_ops.specs.declared.mutant.Mutant.{Mutant}
use Rattle.mutator_ops.specs.declared.mutant.Verdict.{Verdict}
use Rattle.report_pieces.specs.declared.input.Group.{Group}
use Rattle.report_pieces.specs.declared.input.ReportInput.{ReportInput}
use Rattle.report_pieces.specs.Groups.{Key, places_from, group_of, groups_of}
use Rattle.report_schema.specs.Keyed.{different}
use Rattle.report_schema.specs.Report.{text_or_empty, mutant_entry, test_entry}
use Rattle.report_pieces.specs.Report.{mutant_of, mutants_of, file, files_from, tests_of, test_file, test_files_of, report}
use Rattle.report_schema.proofs.Different.{by_bytes, sorted_different, any_different}
use Rattle.report_pieces.proofs.Different.{all_different}
use Rattle.report_laws.specs.Laws.{list_of, array_at, object_at, keys_in, listed_at, under, IsText, AreTexts, ListsOnce, mutant_entries}

-- ---- keys as bytes

order_is : (o : Ordering) → is_eq o ≡ true → o ≡ Equal
order_is Less e = absurd cc
order_is Equal e = refl
order_is Greater e = absurd cc

same_bytes : (k q : Key) → bytes_eq k q ≡ true → k ≡ q
same_bytes k q e = exact_bytes k q (order_is (by_bytes k q) (is_eq-slice_cmp k q ∙ e))

not_below : (k q : Key) → by_bytes k q ≡ Less → bytes_eq k q ≡ false
not_below k q less = sym (is_eq-slice_cmp k q) ∙ ap is_eq less

-- ---- the items of some places

abbrev Entries : Type 0
Entries = ℕ → Option Data

abbrev of_places : Entries → List ℕ → List Data
of_places entry places = flat_map (λ n. option_to_list (entry n)) places

start : (k : ℕ) → 0 + k ≡ k
start k = omega arith

zeroth : (at : ℕ) → at ≡ at + 0
zeroth at = omega arith

next : (at j : ℕ) → (at + 1) + j ≡ at + suc j
next at j = omega arith

-- where there are none
none_at : (entry : Entries) (key : Key) (at : ℕ) (ks : List Key) → ((k : ℕ) → entry (at + k) ≡ None) → of_places entry (places_from at key ks) ≡ []
none_at entry key at [] none = refl
none_at entry key at (k ∷ ks) none = by (bytes_eq key k) (none_at entry key (at + 1) ks (λ j. ap entry (next at j) ∙ none (suc j)))
  where
    by : (b : Bool) → of_places entry (places_from (at + 1) key ks) ≡ [] → of_places entry (cond b (at ∷ places_from (at + 1) key ks) (places_from (at + 1) key ks)) ≡ []
    by true h = (λ i. option_to_list ((ap entry (zeroth at) ∙ none 0) i) ++ h i)
    by false h = h

-- the items at the places of a key are those beside it
at_places : (entry : Entries) (key : Key) (at : ℕ) (ks : List Key) (ds : List Data) → ((k : ℕ) → entry (at + k) ≡ slice_get ds k)
    → of_places entry (places_from at key ks) ≡ under key (zip ks ds)
at_places entry key at [] ds is = refl
at_places entry key at (k ∷ ks) [] is = none_at entry key at (k ∷ ks) is
at_places entry key at (k ∷ ks) (d ∷ ds) is = by (bytes_eq key k) (at_places entry key (at + 1) ks ds (λ j. ap entry (next at j) ∙ is (suc j)))
  where
    by : (b : Bool) → of_places entry (places_from (at + 1) key ks) ≡ under key (zip ks ds)
        → of_places entry (cond b (at ∷ places_from (at + 1) key ks) (places_from (at + 1) key ks)) ≡ map (λ (l : Key × Data). l.1) (cond b ((k, d) ∷ filter (λ (l : Key × Data). bytes_eq key l.0) (zip ks ds)) (filter (λ (l : Key × Data). bytes_eq key l.0) (zip ks ds)))
    by true h = (λ i. option_to_list ((ap entry (zeroth at) ∙ is 0) i) ++ h i)
    by false h = h

-- no place has a key that isn't there
no_place_by : (key : Key) (at : ℕ) (k : Key) (ks : List Key) (b : Bool) → (b || list_any (bytes_eq key) ks) ≡ false → (list_any (bytes_eq key) ks ≡ false → places_from (at + 1) key ks ≡ []) → cond b (at ∷ places_from (at + 1) key ks) (places_from (at + 1) key ks) ≡ []
no_place_by key at k ks true e rest = absurd cc
no_place_by key at k ks false e rest = rest e

no_place : (key : Key) (at : ℕ) (ks : List Key) → list_any (bytes_eq key) ks ≡ false → places_from at key ks ≡ []
no_place key at [] none = refl
no_place key at (k ∷ ks) none = no_place_by key at k ks (bytes_eq key k) none (no_place key (at + 1) ks)

-- ---- files in the order of their groups

abbrev Makes : Type 0
Makes = ℕ → Group → Data

abbrev files_by : Makes → ℕ → List Group → Members
files_by make index [] = no_members
files_by make index (group ∷ groups) = member (text_or_empty group.key) (make index group) (files_by make (index + 1) groups)

under_one : (key k : Key) (ds : List Data) (others : List (Key × Data)) → under key (map (λ d. (k, d)) ds ++ others) ≡ cond (bytes_eq key k) ds [] ++ under key others
under_one key k ds others = by (bytes_eq key k) refl ds
  where
    by : (b : Bool) → bytes_eq key k ≡ b → (ds : List Data) → under key (map (λ d. (k, d)) ds ++ others) ≡ cond b ds [] ++ under key others
    by true e [] = refl
    by true e (d ∷ ds) = ap (λ b. map (λ (l : Key × Data). l.1) (cond b ((k, d) ∷ filter (λ (l : Key × Data). bytes_eq key l.0) (map (λ (x : Data). (k, x)) ds ++ others)) (filter (λ (l : Key × Data). bytes_eq key l.0) (map (λ (x : Data). (k, x)) ds ++ others)))) e ∙ ap (λ t. d ∷ t) (by true e ds)
    by false e [] = refl
    by false e (d ∷ ds) = ap (λ b. map (λ (l : Key × Data). l.1) (cond b ((k, d) ∷ filter (λ (l : Key × Data). bytes_eq key l.0) (map (λ (x : Data). (k, x)) ds ++ others)) (filter (λ (l : Key × Data). bytes_eq key l.0) (map (λ (x : Data). (k, x)) ds ++ others)))) e ∙ by false e ds

abbrev one_of : Entries → List Key → Key → Key → List Data
one_of entry keys key k = cond (bytes_eq key k) (of_places entry (places_from 0 k keys)) []

listed_by : (name : List ℕ) (make : Makes) (entry : Entries) (keys : List Key) → ((index : ℕ) (group : Group) → array_at name (make index group) ≡ of_places entry group.numbers)
    → (key : Key) (index : ℕ) (ks : List Key) → AreTexts ks → under key (listed_at name (files_by make index (map (group_of keys) ks))) ≡ flat_map (one_of entry keys key) ks
listed_by name make entry keys is key index [] texts = refl
listed_by name make entry keys is key index (k ∷ ks) texts =
    (λ i. under key (map (λ d. (texts.0 i, d)) (is index (group_of keys k) i) ++ listed_at name (files_by make (index + 1) (map (group_of keys) ks))))
    ∙ under_one key k (of_places entry (places_from 0 k keys)) (listed_at name (files_by make (index + 1) (map (group_of keys) ks)))
    ∙ ap (λ t. one_of entry keys key k ++ t) (listed_by name make entry keys is key (index + 1) ks texts.1)

-- no more of a key behind the one that it is
none_behind : (entry : Entries) (keys : List Key) (k : Key) (ks : List Key) → AllByRecursion (λ y. by_bytes k y ≡ Less) ks → flat_map (one_of entry keys k) ks ≡ []
none_behind entry keys k [] above = refl
none_behind entry keys k (y ∷ ys) above =
    (λ i. cond (not_below k y above.0 i) (of_places entry (places_from 0 y keys)) [] ++ none_behind entry keys k ys above.1 i)

sorted_by : (entry : Entries) (keys : List Key) (key k : Key) (ks : List Key) → AllByRecursion (λ y. by_bytes k y ≡ Less) ks → (b : Bool) → bytes_eq key k ≡ b
    → flat_map (one_of entry keys key) ks ≡ cond (list_any (bytes_eq key) ks) (of_places entry (places_from 0 key keys)) []
    → cond b (of_places entry (places_from 0 k keys)) [] ++ flat_map (one_of entry keys key) ks ≡ cond (b || list_any (bytes_eq key) ks) (of_places entry (places_from 0 key keys)) []
sorted_by entry keys key k ks above true e rest =
    let is : key ≡ k = same_bytes key k e in
    (λ i. of_places entry (places_from 0 (sym is i) keys) ++ flat_map (one_of entry keys (is i)) ks)
    ∙ ap (λ t. of_places entry (places_from 0 key keys) ++ t) (none_behind entry keys k ks above)
    ∙ append-nil (of_places entry (places_from 0 key keys))
sorted_by entry keys key k ks above false e rest = rest

of_sorted : (entry : Entries) (keys : List Key) (key : Key) (ks : List Key) → IsStrictlySortedBy by_bytes ks
    → flat_map (one_of entry keys key) ks ≡ cond (list_any (bytes_eq key) ks) (of_places entry (places_from 0 key keys)) []
unfolding IsStrictlySortedBy
of_sorted entry keys key [] sorted = refl
of_sorted entry keys key (k ∷ ks) sorted = sorted_by entry keys key k ks sorted.0 (bytes_eq key k) refl (of_sorted entry keys key ks sorted.1)

keys_by : (make : Makes) (keys : List Key) (index : ℕ) (ks : List Key) → AreTexts ks → keys_in (files_by make index (map (group_of keys) ks)) ≡ ks
keys_by make keys index [] texts = refl
keys_by make keys index (k ∷ ks) texts = λ i. texts.0 i ∷ keys_by make keys (index + 1) ks texts.1 i

any_bytes : (key : Key) (ks : List Key) → list_any (bytes_eq key) ks ≡ list_any (λ k. is_eq (by_bytes key k)) ks
any_bytes key [] = refl
any_bytes key (k ∷ ks) = λ i. sym (is_eq-slice_cmp key k) i || any_bytes key ks i

any_same : (key : Key) (keys : List Key) → list_any (bytes_eq key) (different keys) ≡ list_any (bytes_eq key) keys
any_same key keys = any_bytes key (different keys) ∙ any_different (λ k. is_eq (by_bytes key k)) keys ∙ sym (any_bytes key keys)

pub lists_once : (name : List ℕ) (make : Makes) (entry : Entries) (keys : List Key) (ds : List Data) → ((index : ℕ) (group : Group) → array_at name (make index group) ≡ of_places entry group.numbers)
    → ((n : ℕ) → entry n ≡ slice_get ds n) → AreTexts keys → ListsOnce name keys ds (files_by make 0 (groups_of keys))
lists_once name make entry keys ds lists is texts =
    let all : AreTexts (different keys) = all_different IsText keys texts in
    let names = keys_by make keys 0 (different keys) all in
    record {
      ascending = subst (λ (ks : List Key). IsStrictlySortedBy by_bytes ks) (sym names) (sorted_different keys);
      same_keys = λ key. ap (list_any (bytes_eq key)) names ∙ any_same key keys;
      items_under = λ key.
          listed_by name make entry keys lists key 0 (different keys) all
          ∙ of_sorted entry keys key (different keys) (sorted_different keys)
          ∙ found key (list_any (bytes_eq key) (different keys)) refl;
    }
  where
    found : (key : Key) (b : Bool) → list_any (bytes_eq key) (different keys) ≡ b → cond b (of_places entry (places_from 0 key keys)) [] ≡ under key (zip keys ds)
    found key true e = at_places entry key 0 keys ds (λ k. ap entry (start k) ∙ is k)
    found key false e =
        ap (of_places entry) (sym (no_place key 0 keys (sym (any_same key keys) ∙ e)))
        ∙ at_places entry key 0 keys ds (λ k. ap entry (start k) ∙ is k)

-- ---- mutants

abbrev no_data : Option Data
no_data = None

none_of : (o : Option Mutant) → option_and_then (λ (mutant : Mutant). no_data) o ≡ no_data
none_of None = refl
none_of (Some x) = refl

mutant_at : (tests : List Test) (ms : List Mutant) (vs : List Verdict) (n : ℕ) → mutant_of tests ms vs n ≡ slice_get (map (λ (m : Mutant × Verdict). mutant_entry tests m.0 m.1) (zip ms vs)) n
mutant_at tests [] vs n = refl
mutant_at tests (m ∷ ms) [] zero = refl
mutant_at tests (m ∷ ms) [] (suc n) = none_of (slice_get ms n)
mutant_at tests (m ∷ ms) (v ∷ vs) zero = refl
mutant_at tests (m ∷ ms) (v ∷ vs) (suc n) = mutant_at tests ms vs n

items_back : (ds : List Data) → list_of (items_of ds) ≡ ds
items_back [] = refl
items_back (d ∷ ds) = ap (λ t. d ∷ t) (items_back ds)

files_are : (input : ReportInput) (index : ℕ) (groups : List Group) → files_from input index groups ≡ files_by (λ i group. file input i group.numbers) index groups
files_are input index [] = refl
files_are input index (group ∷ groups) = ap (member (text_or_empty group.key) (file input index group.numbers)) (files_are input (index + 1) groups)

pub mutants_once : (input : ReportInput) (keys : List Key) → AreTexts keys → input.files ≡ groups_of keys → ListsOnce (codes "mutants") keys (mutant_entries input) (object_at (codes "files") (report input))
mutants_once input keys texts is =
    let once = lists_once (codes "mutants") (λ i group. file input i group.numbers) (mutant_of input.tests input.mutants input.verdicts) keys (mutant_entries input)
    (λ index group. items_back (mutants_of input.tests input.mutants input.verdicts group.numbers)) (mutant_at input.tests input.mutants input.verdicts) texts in
    subst (λ (files : Members). ListsOnce (codes "mutants") keys (mutant_entries input) files) (sym (ap (files_from input 0) is ∙ files_are input 0 (groups_of keys))) once

-- ---- tests

test_files_are : (tests : List Test) (index : ℕ) (groups : List Group) → test_files_of tests groups ≡ files_by (λ i group. test_file tests group.numbers) index groups
test_files_are tests index [] = refl
test_files_are tests index (group ∷ groups) = ap (member (text_or_empty group.key) (test_file tests group.numbers)) (test_files_are tests (index + 1) groups)

pub tests_once : (input : ReportInput) (keys : List Key) → AreTexts keys → input.test_files ≡ groups_of keys → ListsOnce (codes "tests") keys (map test_entry input.tests) (object_at (codes "testFiles") (report input))
tests_once input keys texts is =
    let once = lists_once (codes "tests") (λ i group. test_file input.tests group.numbers) (λ n. option_map test_entry (slice_get input.tests n)) keys (map test_entry input.tests)
    (λ index group. items_back (tests_of input.tests group.numbers)) (λ n. sym (slice_get-map test_entry input.tests n)) texts in
    subst (λ (files : Members). ListsOnce (codes "tests") keys (map test_entry input.tests) files) (sym (ap (test_files_of input.tests) is ∙ test_files_are input.tests 0 (groups_of keys))) once
