-- The place that a look-out tells is that of the first record that matches.
use Rattle.std.proofs.Common.{◌≡◌, ◌∙◌, ℕ, Bool, true, false, List, [], ◌∷◌, length, Option, Some, None, refl, sym, ap}
use Rattle.std.specs.Prelude.{◌&&◌, ◌||◌, not, nat_eq, slice_get, option_and_then, All, if◌then◌else◌}
use Rattle.std.specs.List.{position_from, AllByRecursion}
use Rattle.std.proofs.lemmas.Bool.{eqb-true}
use Rattle.std.proofs.lemmas.List.Elements.{All-head, All-tail}
use Rattle.record_rules.specs.Records.{Asked}
use Rattle.record_rules.specs.Matching.{matches}
use Rattle.history_file.specs.declared.row.Row.{Row}
use Rattle.history_file.specs.Rows.{IsRow, record_of}
use Rattle.history_index.specs.declared.lookout.Lookout.{Lookout}
use Rattle.history_index.specs.declared.standings.Swap.{Swap}
use Rattle.history_index.specs.Firsts.{first_at, run_at, whole_at}
use Rattle.history_index.specs.Numbers.{Indexed, IsIndexed, HasPair, record_at, test_number}
use Rattle.history_index.specs.Standings.{Standing, AreAlike, listed, standing_in, standing_with}
use Rattle.history_index.specs.Lookouts.{all_hold, earlier, is_apart, is_open, is_same, is_whole, IsAskedBy, FindsFirst, IsLookout, names, place_swapped, place_told, places_from, Question}
use Rattle.history_index.proofs.Holding.{both_hold, none_more, parted, parted_none}
use Rattle.history_index.proofs.Matched.{found, none_found, none_matches, row_matches}
use Rattle.history_index.proofs.Places.{behind_run, first_place}
use Rattle.history_index.proofs.Positions.{position_either, position_never, position_on, position_same}

-- ---- each record

all_match : (n : Indexed) (q : Question) (s : Standing) (t : ℕ) (x : Asked) → IsIndexed n → test_number n x.test.class x.test.method ≡ Some t → x.limits ≡ q.limits → slice_get q.bounds t ≡ Some x.limit → AreAlike n.history (standing_in n.history x.look x.held) s → (rows : List Row) → All (IsRow (length n.history.texts) (length n.history.classes)) rows → AllByRecursion (λ r. matches (record_of n.history.texts n.history.classes r) x ≡ is_open n q t r && all_hold s r) rows
all_match n q s t x indexed test limits limit alike [] all = tt
all_match n q s t x indexed test limits limit alike (r ∷ rows) all =
    (row_matches n q s t x r indexed.history (All-head (IsRow (length n.history.texts) (length n.history.classes)) r rows all) test limits limit alike, all_match n q s t x indexed test limits limit alike rows (All-tail (IsRow (length n.history.texts) (length n.history.classes)) r rows all))

no_match : (n : Indexed) (x : Asked) → IsIndexed n → test_number n x.test.class x.test.method ≡ None → (rows : List Row) → All (IsRow (length n.history.texts) (length n.history.classes)) rows → All (HasPair n.tests) rows → AllByRecursion (λ r. matches (record_of n.history.texts n.history.classes r) x ≡ false) rows
no_match n x indexed test [] all pairs = tt
no_match n x indexed test (r ∷ rows) all pairs =
    (none_matches n x r indexed.history (All-head (IsRow (length n.history.texts) (length n.history.classes)) r rows all) (All-head (HasPair n.tests) r rows pairs) test, no_match n x indexed test rows (All-tail (IsRow (length n.history.texts) (length n.history.classes)) r rows all) (All-tail (HasPair n.tests) r rows pairs))

pub found_none : (n : Indexed) (x : Asked) → IsIndexed n → test_number n x.test.class x.test.method ≡ None → FindsFirst n.history x None
found_none n x indexed test =
    let none = no_match n x indexed test n.history.rows indexed.history.rows indexed.tests in
    record {
      at = position_never (λ r. matches (record_of n.history.texts n.history.classes r) x) 0 n.history.rows none;
      first = none_found (record_of n.history.texts n.history.classes) x n.history.rows none;
    }

found_at : (n : Indexed) (q : Question) (s : Standing) (t : ℕ) (x : Asked) (place : Option ℕ) → IsIndexed n → test_number n x.test.class x.test.method ≡ Some t → x.limits ≡ q.limits → slice_get q.bounds t ≡ Some x.limit → AreAlike n.history (standing_in n.history x.look x.held) s → place ≡ position_from (λ r. is_open n q t r && all_hold s r) 0 n.history.rows → FindsFirst n.history x place
found_at n q s t x place indexed test limits limit alike is =
    let p : Row → Bool = λ r. is_open n q t r && all_hold s r in
    let all = all_match n q s t x indexed test limits limit alike n.history.rows indexed.history.rows in
    record {
      at = is ∙ sym (position_on (λ r. matches (record_of n.history.texts n.history.classes r) x) p 0 n.history.rows all);
      first = ap (option_and_then (record_at n.history)) is ∙ found n.history x p all;
    }

-- ---- on the program itself

pub found_whole : (n : Indexed) (q : Question) (s : List (Option ℕ)) (t : ℕ) (l : Lookout) (x : Asked) → IsLookout n q s l → IsAskedBy n q s (Some t) None x → FindsFirst n.history x (slice_get (whole_at l t) 0)
found_whole n q s t l x out asked =
    found_at n q (listed s) t x (slice_get (whole_at l t) 0) out.indexed asked.number asked.limits asked.limit asked.program
    (ap (λ ps. slice_get ps 0) (out.on.whole t) ∙ first_place (is_whole n q (listed s) t) 0 n.history.rows)

-- ---- on one with another class file

none_after : (o : Option ℕ) → o ≡ earlier o None
none_after None = refl
none_after (Some k) = refl

place_is : (n : Indexed) (q : Question) (s : Standing) (t name : ℕ) (class : Option ℕ) (rows : List Row) → is_same (s name) class ≡ false → earlier (position_from (λ r. is_whole n q s t r && not (names name r)) 0 rows) (option_and_then (λ c. position_from (is_apart n q s t name c) 0 rows) class) ≡ position_from (λ r. is_open n q t r && all_hold (standing_with s name class) r) 0 rows
place_is n q s t name None rows apart =
    sym (none_after (position_from (λ r. is_whole n q s t r && not (names name r)) 0 rows))
    ∙ position_same (λ r. is_whole n q s t r && not (names name r)) (λ r. is_open n q t r && all_hold (standing_with s name None) r) 0 rows
    (λ r. sym (parted_none (is_open n q t r) (all_hold s r) (all_hold (standing_with s name None) r) (names name r) (both_hold s name None r.consulted apart) (none_more s name r.consulted)))
place_is n q s t name (Some c) rows apart =
    sym (position_either (λ r. is_whole n q s t r && not (names name r)) (is_apart n q s t name c) 0 rows)
    ∙ position_same (λ r. (is_whole n q s t r && not (names name r)) || is_apart n q s t name c r) (λ r. is_open n q t r && all_hold (standing_with s name (Some c)) r) 0 rows
    (λ r. sym (parted (is_open n q t r) (all_hold s r) (all_hold (standing_with s name (Some c)) r) (names name r) (both_hold s name (Some c) r.consulted apart)))

kept_first : (n : Indexed) (q : Question) (s : Standing) (t name : ℕ) (class : Option ℕ) (l : Lookout) → ((c : ℕ) → first_at l.firsts t name c ≡ position_from (is_apart n q s t name c) 0 n.history.rows) → option_and_then (first_at l.firsts t name) class ≡ option_and_then (λ c. position_from (is_apart n q s t name c) 0 n.history.rows) class
kept_first n q s t name None l h = refl
kept_first n q s t name (Some c) l h = h c

same_standing : (a b : Option ℕ) → is_same a b ≡ true → b ≡ a
same_standing None None e = refl
same_standing (Some a) (Some b) e = ap (λ (k : ℕ). Some k) (sym (eqb-true a b e))
same_standing None (Some b) e = absurd cc
same_standing (Some a) None e = absurd cc

unswapped : (s : Standing) (w : Swap) (k : ℕ) (b : Bool) → b ≡ nat_eq k w.name → is_same (s w.name) w.class ≡ true → (if b then w.class else s k) ≡ s k
unswapped s w k true e same = same_standing (s w.name) w.class same ∙ ap s (sym (eqb-true k w.name (sym e)))
unswapped s w k false e same = refl

swapped_at : (n : Indexed) (q : Question) (s : List (Option ℕ)) (t : ℕ) (w : Swap) (l : Lookout) (x : Asked) (b : Bool) → b ≡ is_same (listed s w.name) w.class → IsLookout n q s l → IsAskedBy n q s (Some t) (Some w) x → FindsFirst n.history x (if b then slice_get (whole_at l t) 0 else earlier (slice_get (whole_at l t) (run_at l.runs t w.name)) (option_and_then (first_at l.firsts t w.name) w.class))
swapped_at n q s t w l x true e out asked =
    found_at n q (listed s) t x (slice_get (whole_at l t) 0) out.indexed asked.number asked.limits asked.limit
    (λ k lt. asked.program k lt ∙ unswapped (listed s) w k (nat_eq k w.name) refl (sym e))
    (ap (λ ps. slice_get ps 0) (out.on.whole t) ∙ first_place (is_whole n q (listed s) t) 0 n.history.rows)
swapped_at n q s t w l x false e out asked =
    found_at n q (standing_with (listed s) w.name w.class) t x (earlier (slice_get (whole_at l t) (run_at l.runs t w.name)) (option_and_then (first_at l.firsts t w.name) w.class)) out.indexed asked.number asked.limits asked.limit asked.program
    (ap (λ ps. earlier (slice_get ps (run_at l.runs t w.name)) (option_and_then (first_at l.firsts t w.name) w.class)) (out.on.whole t)
    ∙ ap (λ j. earlier (slice_get (places_from (is_whole n q (listed s) t) 0 n.history.rows) j) (option_and_then (first_at l.firsts t w.name) w.class)) (out.on.runs t w.name)
    ∙ ap (λ o. earlier o (option_and_then (first_at l.firsts t w.name) w.class)) (behind_run (is_whole n q (listed s) t) (names w.name) 0 n.history.rows)
    ∙ ap (earlier (position_from (λ r. is_whole n q (listed s) t r && not (names w.name r)) 0 n.history.rows)) (kept_first n q (listed s) t w.name w.class l (out.on.firsts t w.name))
    ∙ place_is n q (listed s) t w.name w.class n.history.rows (sym e))

pub found_swapped : (n : Indexed) (q : Question) (s : List (Option ℕ)) (t : ℕ) (w : Swap) (l : Lookout) (x : Asked) → IsLookout n q s l → IsAskedBy n q s (Some t) (Some w) x → FindsFirst n.history x (place_swapped l t w)
found_swapped n q s t w l x out asked = swapped_at n q s t w l x (is_same (listed l.standings w.name) w.class) (ap (λ z. is_same (listed z w.name) w.class) out.standings) out asked

pub found_told : (n : Indexed) (q : Question) (s : List (Option ℕ)) (test : Option ℕ) (swap : Option Swap) (l : Lookout) (x : Asked) → IsLookout n q s l → IsAskedBy n q s test swap x → FindsFirst n.history x (place_told l test swap)
found_told n q s None swap l x out asked = found_none n x out.indexed asked.number
found_told n q s (Some t) None l x out asked = found_whole n q s t l x out asked
found_told n q s (Some t) (Some w) l x out asked = found_swapped n q s t w l x out asked
