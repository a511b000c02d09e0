-- A tree in memory as a map of byte lists.
use Rattle.std.proofs.Common.{◌≡◌, ℕ, Bool, true, false, cond, T, List, [], ◌∷◌, map, ◌&&◌, refl, sym, ap, ◌∙◌, subst, drop, Bor}
use Rattle.std.specs.Prelude.{string_bytes, Some, slice_index_or}
use Rattle.std.specs.Ordering.{nat_cmp, eq_by_cmp, is_lt}
use Rattle.std.specs.Cmp.Lexicographic.{slice_cmp, nat_list_cmp_total}
use Rattle.std.specs.String.{string_cmp}
use Rattle.std.specs.Map.{lookup}
use Rattle.std.specs.BTreeMap.{is_at, insert_entry}
use Rattle.std.specs.List.Sorted.{IsStrictlySortedBy}
use Rattle.std.specs.List.{AllByRecursion}
use Rattle.std.specs.declared.string.String.{String}
use Rattle.std.specs.declared.alloc.Global.{Global}
use Rattle.std.specs.declared.cmp.Ordering.{Ordering}
use Rattle.std.specs.declared.cmp.Ordering.TheVariants.{Less, Equal, Greater}
use Rattle.std.specs.FinMap.{get, insert, find, put, keys, entries, is_sorted, from_entries, from_sorted, same_map, slice_cmp-IsAntisymmetric, nat_cmp-IsAntisymmetric, get-from_entries, get-insert, get-from_sorted, entries-from_sorted}
use Rattle.std.specs.FinMap.Entries.{find-put, below_all}
use Rattle.mt_edge.specs.Files.{Files}
use Rattle.mt_edge.specs.Held.{path_and_bytes}

abbrev pub R : List ℕ → List ℕ → Ordering
R = slice_cmp nat_cmp

both : (a b : Bool) → T a → T b → T (a && b)
both true b p q = q
both false b p q = p

abbrev pub paths_in : List (String Global × List ℕ) → List (List ℕ)
paths_in files = map (λ file. string_bytes file.0) files

abbrev pub Held : Type 0
Held = List (String Global × List ℕ)

abbrev pub files : Held → Files
files es = from_entries (map path_and_bytes es)

-- the files of a list, with one more put
abbrev pub put_file : Files → String Global × List ℕ → Files
put_file held file = insert held (string_bytes file.0) file.1

find_lookup : (q : List ℕ) (es : Held) → find R q (map path_and_bytes es) ≡ lookup (is_at (λ k. R q (string_bytes k))) es
find_lookup q [] = refl
find_lookup q (e ∷ es) = ap (cond (eq_by_cmp R q (string_bytes e.0)) (Some e.1)) (find_lookup q es)

pub get_held : (q : List ℕ) (es : Held) → get (files es) q ≡ lookup (is_at (λ k. R q (string_bytes k))) es
get_held q es = get-from_entries nat_list_cmp_total (map path_and_bytes es) q ∙ find_lookup q es

put_held : (k : String Global) (v : List ℕ) (es : Held) → map path_and_bytes (insert_entry string_cmp es k v) ≡ put R (string_bytes k) v (map path_and_bytes es)
put_held k v [] = refl
put_held k v (e ∷ es) = by_case (put_held k v es) (string_cmp k e.0) refl
  where
    by_case : map path_and_bytes (insert_entry string_cmp es k v) ≡ put R (string_bytes k) v (map path_and_bytes es) → (r : Ordering) → string_cmp k e.0 ≡ r → map path_and_bytes (insert_entry string_cmp (e ∷ es) k v) ≡ put R (string_bytes k) v (map path_and_bytes (e ∷ es))
    by_case ih Less is = rw is refl
    by_case ih Equal is = rw is refl
    by_case ih Greater is = rw is (ap (λ t. path_and_bytes e ∷ t) ih)

alike : (x y : List ℕ) → R x y ≡ Equal → x ≡ y
alike = slice_cmp-IsAntisymmetric nat_cmp-IsAntisymmetric

pub insert_held : (k : String Global) (v : List ℕ) (es : Held) → files (insert_entry string_cmp es k v) ≡ insert (files es) (string_bytes k) v
insert_held k v es =
    ap (λ (l : List (List ℕ × List ℕ)). from_entries {R = R} l) (put_held k v es)
    ∙ same_map nat_list_cmp_total alike _ _
    (λ q. get-from_entries nat_list_cmp_total (put R (string_bytes k) v (map path_and_bytes es)) q
    ∙ find-put R nat_list_cmp_total q (string_bytes k) v (map path_and_bytes es)
    ∙ ap (cond (eq_by_cmp R q (string_bytes k)) (Some v)) (sym (get-from_entries nat_list_cmp_total (map path_and_bytes es) q))
    ∙ sym (get-insert nat_list_cmp_total (files es) (string_bytes k) v q))

from_sorted_entries : (es : List (List ℕ × List ℕ)) → T (is_sorted R es) → entries (from_entries {R = R} es) ≡ es
from_sorted_entries es h =
    ap entries (same_map nat_list_cmp_total alike (from_entries es) (from_sorted es) (λ q. get-from_entries nat_list_cmp_total es q ∙ sym (get-from_sorted R es q h)))
    ∙ entries-from_sorted R es h

below_held : (k : String Global) (es : Held) → AllByRecursion (λ y. string_cmp k y ≡ Less) (map (λ e. e.0) es) → T (below_all R (string_bytes k) (map path_and_bytes es))
below_held k [] h = tt
below_held k (e ∷ es) h = both _ _ (subst (λ r. T (is_lt r)) (sym h.0) tt) (below_held k es h.1)

sorted_held : (es : Held) → IsStrictlySortedBy string_cmp (map (λ e. e.0) es) → T (is_sorted R (map path_and_bytes es))
unfolding IsStrictlySortedBy
sorted_held [] h = tt
sorted_held (e ∷ es) h = both _ _ (below_held e.0 es h.0) (sorted_held es h.1)

text_keys : (es : Held) → map (λ e. e.0) (map path_and_bytes es) ≡ paths_in es
text_keys [] = refl
text_keys (e ∷ es) = ap (λ t. string_bytes e.0 ∷ t) (text_keys es)

pub keys_held : (es : Held) → IsStrictlySortedBy string_cmp (map (λ e. e.0) es) → keys (files es) ≡ paths_in es
keys_held es h = ap (λ (l : List (List ℕ × List ℕ)). map (λ e. e.0) l) (from_sorted_entries (map path_and_bytes es) (sorted_held es h)) ∙ text_keys es

pub shown_keys : (ks : List (Bor (String Global))) (es : Held) → map (λ k. k.now) ks ≡ map (λ e. e.0) es → map (λ k. string_bytes k.now) ks ≡ paths_in es
shown_keys [] [] e = refl
shown_keys [] (x ∷ es) e = absurd cc
shown_keys (k ∷ ks) [] e = absurd cc
shown_keys (k ∷ ks) (x ∷ es) e = λ i. string_bytes (slice_index_or (e i) 0 k.now) ∷ shown_keys ks es (ap (drop 1) e) i
