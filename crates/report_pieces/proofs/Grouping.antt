-- A map that keeps at each key the places that have it is what `groups_of` says.
use Rattle.std.proofs.Common.{◌≡◌, ℕ, zero, suc, ◌+◌, ◌-◌, ◌<◌, ◌≤◌, Bool, true, false, cond, ◌||◌, List, [], ◌∷◌, ◌++◌, length, drop, get_or, map, Option, Some, None, option_map, String, string_bytes, string_cmp, Vec, BTreeMap, Global, Less, is_eq, refl, sym, ap, subst, ◌∙◌, arith, append_assoc, append-nil}
use Rattle.std.specs.BTreeMap.{IsOrdered, get_by_text}
use Rattle.std.specs.BTreeSet.{BTreeSet}
use Rattle.std.specs.List.{AllByRecursion, list_any, slice_get}
use Rattle.std.specs.List.Sorted.{IsStrictlySortedBy}
use Rattle.std.specs.Map.{keys_of}
use Rattle.std.specs.Option.{option_map_or}
use Rattle.std.specs.Str.{bytes_eq}
use Rattle.std.proofs.lemmas.Cmp.{nat_list_cmp_total, on_total}
use Rattle.std.proofs.lemmas.List.{get_or-drop, drop-drop, drop_all, length-drop}
use Rattle.std.proofs.lemmas.List.Elements.{recursion_from_All}
use Rattle.std.proofs.lemmas.Map.Lookups.{btree_set_from_contains, exact_bytes}
use Rattle.std.proofs.lemmas.Map.Made.{is_some-lookup}
use Rattle.std.proofs.lemmas.Map.Text.{is_eq-slice_cmp}
use Rattle.std.proofs.lemmas.Map.Views.{All-found}
use Rattle.std.proofs.lemmas.Option.{slice_get-map}
use Rattle.report_pieces.specs.declared.input.Group.{Group}
use Rattle.report_schema.specs.Keyed.{different}
use Rattle.report_pieces.specs.Groups.{Key, places_from, group_of, groups_of, key_at, keys_at, count_from, IsRun, kept_at, has_key, as_group, as_groups}
use Rattle.report_schema.proofs.Different.{by_bytes, sorted_different, any_different}

abbrev Kept : Type 0
Kept = String Global × Vec ℕ Global

abbrev key_of : Kept → Key
key_of kept = string_bytes kept.0

-- ---- the key of a number

pub key_is : (keys : List (String Global)) (number : ℕ) → key_at (map string_bytes keys) number ≡ option_map_or string_bytes (slice_get keys number) []
key_is keys number = ap (λ o. option_map_or (λ key. key) o []) (slice_get-map string_bytes keys number) ∙ by (slice_get keys number)
  where
    by : (o : Option (String Global)) → option_map_or (λ (key : Key). key) (option_map string_bytes o) [] ≡ option_map_or string_bytes o []
    by None = refl
    by (Some key) = refl

-- ---- a run of places with one key

none_of : (b : Bool) (ps : List ℕ) → ps ≡ cond b [] [] ++ ps
none_of true ps = refl
none_of false ps = refl

-- the first places that have one key, and the rest
places_run : (q : Key) (keys : List Key) (first n at : ℕ) (ns : List ℕ) → n ≤ length ns → ((k : ℕ) → k < n → get_or ns k 0 ≡ first)
    → places_from at q (keys_at keys ns) ≡ cond (bytes_eq q (key_at keys first)) (count_from at n) [] ++ places_from (at + n) q (keys_at keys (drop n ns))
places_run q keys first zero at ns le same =
    ap (λ a. places_from a q (keys_at keys ns)) (omega arith) ∙ none_of (bytes_eq q (key_at keys first)) (places_from (at + 0) q (keys_at keys ns))
places_run q keys first (suc n) at [] le same = absurd (omega (arith, le))
places_run q keys first (suc n) at (m ∷ ms) le same =
    let is : m ≡ first = same 0 (omega arith) in
    let more : (k : ℕ) → k < n → get_or ms k 0 ≡ first = λ k below. same (suc k) (omega (arith, below)) in
    let far : (at + 1) + n ≡ at + suc n = omega arith in
    ap (λ f. cond (bytes_eq q (key_at keys f)) (at ∷ places_from (at + 1) q (keys_at keys ms)) (places_from (at + 1) q (keys_at keys ms))) is
    ∙ by (bytes_eq q (key_at keys first)) (places_run q keys first n (at + 1) ms (omega (arith, le)) more ∙ ap (λ a. cond (bytes_eq q (key_at keys first)) (count_from (at + 1) n) [] ++ places_from a q (keys_at keys (drop n ms))) far)
  where
    by : (b : Bool) → places_from (at + 1) q (keys_at keys ms) ≡ cond b (count_from (at + 1) n) [] ++ places_from (at + suc n) q (keys_at keys (drop n ms))
        → cond b (at ∷ places_from (at + 1) q (keys_at keys ms)) (places_from (at + 1) q (keys_at keys ms)) ≡ cond b (at ∷ count_from (at + 1) n) [] ++ places_from (at + suc n) q (keys_at keys (drop n ms))
    by true h = ap (λ ps. at ∷ ps) h
    by false h = h

or_again : (a b : Bool) → (a || (a || b)) ≡ (a || b)
or_again true b = refl
or_again false b = refl

-- whether a key stands there: at the first of them, or in the rest
any_run : (q : Key) (keys : List Key) (first n : ℕ) (ns : List ℕ) → suc n ≤ length ns → ((k : ℕ) → k < suc n → get_or ns k 0 ≡ first)
    → list_any (bytes_eq q) (keys_at keys ns) ≡ (bytes_eq q (key_at keys first) || list_any (bytes_eq q) (keys_at keys (drop (suc n) ns)))
any_run q keys first n [] le same = absurd (omega (arith, le))
any_run q keys first zero (m ∷ ms) le same =
    ap (λ f. bytes_eq q (key_at keys f) || list_any (bytes_eq q) (keys_at keys ms)) (same 0 (omega arith))
any_run q keys first (suc n) (m ∷ ms) le same =
    let is : m ≡ first = same 0 (omega arith) in
    let more : (k : ℕ) → k < suc n → get_or ms k 0 ≡ first = λ k below. same (suc k) (omega (arith, below)) in
    (λ i. bytes_eq q (key_at keys (is i)) || any_run q keys first n ms (omega (arith, le)) more i)
    ∙ or_again (bytes_eq q (key_at keys first)) (list_any (bytes_eq q) (keys_at keys (drop (suc n) ms)))

-- the same of a list from a place on
here : (ns : List ℕ) (at end : ℕ) → IsRun ns at end → (k : ℕ) → k < end - at → get_or (drop at ns) k 0 ≡ get_or ns at 0
here ns at end run k below = get_or-drop at ns k 0 ∙ run.same (at + k) (omega arith) (omega (arith, below, run.some))

pub places_on : (q : Key) (keys : List Key) (ns : List ℕ) (at end : ℕ) → IsRun ns at end
    → places_from at q (keys_at keys (drop at ns)) ≡ cond (bytes_eq q (key_at keys (get_or ns at 0))) (count_from at (end - at)) [] ++ places_from end q (keys_at keys (drop end ns))
places_on q keys ns at end run =
    let far : at + (end - at) ≡ end = omega (arith, run.some) in
    let le : end - at ≤ length (drop at ns) = omega (arith, run.within, run.some, length-drop at ns) in
    places_run q keys (get_or ns at 0) (end - at) at (drop at ns) le (here ns at end run)
    ∙ ap (λ ms. cond (bytes_eq q (key_at keys (get_or ns at 0))) (count_from at (end - at)) [] ++ places_from (at + (end - at)) q (keys_at keys ms)) (drop-drop (end - at) at ns)
    ∙ ap (λ e. cond (bytes_eq q (key_at keys (get_or ns at 0))) (count_from at (end - at)) [] ++ places_from e q (keys_at keys (drop e ns))) far

pub any_on : (q : Key) (keys : List Key) (ns : List ℕ) (at end : ℕ) → IsRun ns at end
    → list_any (bytes_eq q) (keys_at keys (drop at ns)) ≡ (bytes_eq q (key_at keys (get_or ns at 0)) || list_any (bytes_eq q) (keys_at keys (drop end ns)))
any_on q keys ns at end run =
    let far : at + suc ((end - at) - 1) ≡ end = omega (arith, run.some) in
    let le : suc ((end - at) - 1) ≤ length (drop at ns) = omega (arith, run.within, run.some, length-drop at ns) in
    let same : (k : ℕ) → k < suc ((end - at) - 1) → get_or (drop at ns) k 0 ≡ get_or ns at 0 = λ k below. here ns at end run k (omega (arith, below, run.some)) in
    any_run q keys (get_or ns at 0) ((end - at) - 1) (drop at ns) le same
    ∙ ap (λ ms. bytes_eq q (key_at keys (get_or ns at 0)) || list_any (bytes_eq q) (keys_at keys ms)) (drop-drop (suc ((end - at) - 1)) at ns)
    ∙ ap (λ e. bytes_eq q (key_at keys (get_or ns at 0)) || list_any (bytes_eq q) (keys_at keys (drop e ns))) far

-- ---- the map

-- each entry of the map has its key's places
abbrev IsGroup : List Key → Kept → Type 0
IsGroup ks kept = kept.1.items ≡ places_from 0 (key_of kept) ks

each_group : (groups : BTreeMap (String Global) (Vec ℕ Global)) (ks : List Key) → ((q : Key) → kept_at q groups ≡ places_from 0 q ks)
    → (es : List Kept) → AllByRecursion (λ (e : Kept). get_by_text groups (key_of e) ≡ Some e.1) es → AllByRecursion (IsGroup ks) es
each_group groups ks lists [] h = tt
each_group groups ks lists (e ∷ es) h =
    let kept : kept_at (key_of e) groups ≡ e.1.items = ap (λ (o : Option (Vec ℕ Global)). option_map_or (λ list. list.items) o []) h.0 in
    (sym kept ∙ lists (key_of e), each_group groups ks lists es h.1)

-- so the map is made of its keys alone
made_of_keys : (ks : List Key) (es : List Kept) → AllByRecursion (IsGroup ks) es → as_groups es ≡ map (group_of ks) (map key_of es)
made_of_keys ks [] h = refl
made_of_keys ks (e ∷ es) h = λ i. (record { key = key_of e; numbers = h.0 i }) ∷ made_of_keys ks es h.1 i

-- its keys ascend, in bytes
all_viewed : (k : String Global) (es : List Kept) → AllByRecursion (λ y. string_cmp k y ≡ Less) (keys_of es) → AllByRecursion (λ y. by_bytes (string_bytes k) y ≡ Less) (map key_of es)
all_viewed k [] a = tt
all_viewed k (e ∷ es) a = (a.0, all_viewed k es a.1)

sorted_viewed : (es : List Kept) → IsStrictlySortedBy string_cmp (keys_of es) → IsStrictlySortedBy by_bytes (map key_of es)
unfolding IsStrictlySortedBy
sorted_viewed [] s = tt
sorted_viewed (e ∷ es) s = (all_viewed e.0 es s.0, sorted_viewed es s.1)

-- its keys are those of the list
any_kept : (test : Key → Bool) (es : List Kept) → list_any test (map key_of es) ≡ list_any (λ k. test (string_bytes k)) (keys_of es)
any_kept test [] = refl
any_kept test (e ∷ es) = ap (λ b. test (key_of e) || b) (any_kept test es)

any_given : (q : Key) (ks : List Key) → list_any (λ k. is_eq (by_bytes q k)) ks ≡ list_any (bytes_eq q) ks
any_given q [] = refl
any_given q (k ∷ ks) = λ i. is_eq-slice_cmp q k i || any_given q ks i

same_keys : (groups : BTreeMap (String Global) (Vec ℕ Global)) (ks : List Key) → IsOrdered string_cmp groups → ((q : Key) → has_key q groups ≡ list_any (bytes_eq q) ks)
    → map key_of groups.entries ≡ different ks
same_keys groups ks ordered keys =
    let kept : BTreeSet Key = record { keys = map key_of groups.entries } in
    let wanted : BTreeSet Key = record { keys = different ks } in
    btree_set_from_contains nat_list_cmp_total kept wanted (sorted_viewed groups.entries ordered) (sorted_different ks)
    (λ q. let test : Key → Bool = λ k. is_eq (by_bytes q k) in
    any_kept test groups.entries ∙ sym (is_some-lookup (λ k. test (string_bytes k)) groups.entries) ∙ keys q ∙ sym (any_given q ks) ∙ sym (any_different test ks))
    exact_bytes

pub groups_are : (groups : BTreeMap (String Global) (Vec ℕ Global)) (ks : List Key) → IsOrdered string_cmp groups → ((q : Key) → kept_at q groups ≡ places_from 0 q ks) → ((q : Key) → has_key q groups ≡ list_any (bytes_eq q) ks)
    → as_groups groups.entries ≡ groups_of ks
groups_are groups ks ordered lists keys =
    let found = recursion_from_All (λ (e : Kept). get_by_text groups (key_of e) ≡ Some e.1) groups.entries (All-found (on_total string_bytes nat_list_cmp_total) groups ordered) in
    made_of_keys ks groups.entries (each_group groups ks lists groups.entries found) ∙ ap (map (group_of ks)) (same_keys groups ks ordered keys)

or_false : (b : Bool) → (b || false) ≡ b
or_false true = refl
or_false false = refl

-- the same at the end of a loop, where no place is left
pub groups_are_all : (groups : BTreeMap (String Global) (Vec ℕ Global)) (keys : List Key) (ns : List ℕ) (at : ℕ) → length ns ≤ at → IsOrdered string_cmp groups
    → ((q : Key) → kept_at q groups ++ places_from at q (keys_at keys (drop at ns)) ≡ places_from 0 q (keys_at keys ns))
    → ((q : Key) → (has_key q groups || list_any (bytes_eq q) (keys_at keys (drop at ns))) ≡ list_any (bytes_eq q) (keys_at keys ns))
    → as_groups groups.entries ≡ groups_of (keys_at keys ns)
groups_are_all groups keys ns at past ordered lists has =
    let none : drop at ns ≡ [] = drop_all at ns past in
    groups_are groups (keys_at keys ns) ordered
    (λ q. sym (append-nil (kept_at q groups)) ∙ ap (λ r. kept_at q groups ++ places_from at q (keys_at keys r)) (sym none) ∙ lists q)
    (λ q. sym (or_false (has_key q groups)) ∙ ap (λ r. has_key q groups || list_any (bytes_eq q) (keys_at keys r)) (sym none) ∙ has q)

-- ---- a run of places more

pub lists_more : (q : Key) (keys : List Key) (ns : List ℕ) (at end : ℕ) (key : Key) (places : List ℕ) (old new : BTreeMap (String Global) (Vec ℕ Global)) → IsRun ns at end → key ≡ key_at keys (get_or ns at 0) → places ≡ count_from at (end - at)
    → kept_at q new ≡ kept_at q old ++ cond (bytes_eq q key) places []
    → kept_at q old ++ places_from at q (keys_at keys (drop at ns)) ≡ places_from 0 q (keys_at keys ns)
    → kept_at q new ++ places_from end q (keys_at keys (drop end ns)) ≡ places_from 0 q (keys_at keys ns)
lists_more q keys ns at end key places old new run is counted added sofar =
    let rest = places_from end q (keys_at keys (drop end ns)) in
    ap (λ ps. ps ++ rest) added
    ∙ append_assoc (kept_at q old) (cond (bytes_eq q key) places []) rest
    ∙ (λ i. kept_at q old ++ (cond (bytes_eq q (is i)) (counted i) [] ++ rest))
    ∙ ap (λ ps. kept_at q old ++ ps) (sym (places_on q keys ns at end run))
    ∙ sofar

or_assoc : (a b c : Bool) → ((a || b) || c) ≡ (a || (b || c))
or_assoc true b c = refl
or_assoc false b c = refl

pub keys_more : (q : Key) (keys : List Key) (ns : List ℕ) (at end : ℕ) (key : Key) (old new : BTreeMap (String Global) (Vec ℕ Global)) → IsRun ns at end → key ≡ key_at keys (get_or ns at 0)
    → has_key q new ≡ (has_key q old || bytes_eq q key)
    → (has_key q old || list_any (bytes_eq q) (keys_at keys (drop at ns))) ≡ list_any (bytes_eq q) (keys_at keys ns)
    → (has_key q new || list_any (bytes_eq q) (keys_at keys (drop end ns))) ≡ list_any (bytes_eq q) (keys_at keys ns)
keys_more q keys ns at end key old new run is added sofar =
    let rest = list_any (bytes_eq q) (keys_at keys (drop end ns)) in
    ap (λ b. b || rest) added
    ∙ or_assoc (has_key q old) (bytes_eq q key) rest
    ∙ ap (λ k. has_key q old || (bytes_eq q k || rest)) is
    ∙ ap (λ b. has_key q old || b) (sym (any_on q keys ns at end run))
    ∙ sofar
