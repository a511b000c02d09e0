-- What a look-out has of one record more.
use Rattle.std.proofs.Common.{◌≡◌, ◌∙◌, ℕ, suc, ◌+◌, ◌<◌, Bool, true, false, cond, List, [], ◌∷◌, ◌++◌, get_or, length, take, Option, Some, None, refl, sym, ap, subst, arith, append-nil}
use Rattle.std.specs.Prelude.{◌&&◌, not, filter, find, nat_eq, option_and_then, slice_get, if◌then◌else◌}
use Rattle.std.specs.List.{list_all, position_from, prefix_len}
use Rattle.std.specs.Option.{option_or}
use Rattle.std.proofs.lemmas.Bool.{eqb-true}
use Rattle.std.proofs.lemmas.List.{length-take-le, take_more}
use Rattle.history_file.specs.declared.row.Entry.{Entry}
use Rattle.history_file.specs.declared.row.Row.{Row}
use Rattle.history_index.specs.declared.lookout.Lookout.{Lookout}
use Rattle.history_index.specs.Firsts.{first_at, list_at, run_at, whole_at}
use Rattle.history_index.specs.Numbers.{Indexed, IsIndexed, is_pair, pair_number, pair_of}
use Rattle.history_index.specs.Standings.{Standing, listed, standing_with}
use Rattle.history_index.specs.Lookouts.{AddsApart, AddsOpen, AddsRow, AddsWhole, all_hold, holds, is_apart, is_fit_under, is_name_in, is_number, is_open, is_whole, IsEmptyLookout, IsLookout, IsLookoutOn, names, open_here, open_test, places_from, Question}
use Rattle.history_index.proofs.Positions.{position_more, position_within, some_is}
use Rattle.history_index.proofs.Places.{as_many, filter_more, if_passed, places_more, run_more}
use Rattle.history_index.proofs.Holding.{all_held, miss_is, missed, only_own}

-- ---- whether it is open to a test

abbrev pub IsClosed : Indexed → Question → Row → Type 0
IsClosed n q r = (t : ℕ) → is_open n q t r ≡ false

pub no_pair : (n : Indexed) (q : Question) (r : Row) → pair_number n.tests (pair_of r) ≡ None → IsClosed n q r
no_pair n q r pair t = ap (λ o. is_number o t && is_fit_under q.limits r (slice_get q.bounds t)) pair

closed_case : (n : Indexed) (q : Question) (test t : ℕ) (r : Row) (b : Bool) → b ≡ nat_eq test t → is_fit_under q.limits r (slice_get q.bounds test) ≡ false → b && is_fit_under q.limits r (slice_get q.bounds t) ≡ false
closed_case n q test t r false e none = refl
closed_case n q test t r true e none = ap (λ k. is_fit_under q.limits r (slice_get q.bounds k)) (sym (eqb-true test t (sym e))) ∙ none

unfit : (n : Indexed) (q : Question) (test : ℕ) (r : Row) → pair_number n.tests (pair_of r) ≡ Some test → is_fit_under q.limits r (slice_get q.bounds test) ≡ false → IsClosed n q r
unfit n q test r pair none t = ap (λ o. is_number o t && is_fit_under q.limits r (slice_get q.bounds t)) pair ∙ closed_case n q test t r (nat_eq test t) refl none

-- ---- one that is open to none

closed_places : {X : Type 0} (ps : List X) (x : X) (b : Bool) → b ≡ false → ps ≡ ps ++ if_passed b x
closed_places ps x true e = absurd cc
closed_places ps x false e = sym (append-nil ps)

closed_first : (o : Option ℕ) (k : ℕ) (b : Bool) → b ≡ false → o ≡ option_or o (cond b (Some k) None)
closed_first o k true e = absurd cc
closed_first None k false e = refl
closed_first (Some j) k false e = refl

pub closed_on : (n : Indexed) (q : Question) (s : Standing) (r : Row) (l : Lookout) (rows : List Row) → IsClosed n q r → IsLookoutOn n q s rows l → IsLookoutOn n q s (rows ++ r ∷ []) l
closed_on n q s r l rows closed on = record {
  tests = on.tests;
  whole = λ t. on.whole t ∙ closed_places (places_from (is_whole n q s t) 0 rows) (0 + length rows) (is_whole n q s t r) (shut t (all_hold s r)) ∙ sym (places_more (is_whole n q s t) 0 rows r);
  runs = λ t k. on.runs t k ∙ ap (prefix_len (names k)) (closed_places (filter (is_whole n q s t) rows) r (is_whole n q s t r) (shut t (all_hold s r)) ∙ sym (filter_more (is_whole n q s t) rows r));
  firsts = λ t k c. on.firsts t k c ∙ closed_first (position_from (is_apart n q s t k c) 0 rows) (0 + length rows) (is_apart n q s t k c r) (shut t (not (all_hold s r) && all_hold (standing_with s k (Some c)) r)) ∙ sym (position_more (is_apart n q s t k c) 0 rows r);
}
  where
    shut : (t : ℕ) (b : Bool) → is_open n q t r && b ≡ false
    shut t b = ap (λ z. z && b) (closed t)

-- ---- one that is open

open_places : (a : Bool) (ps qs : List ℕ) (place k : ℕ) (b : Bool) → ps ≡ qs → k ≡ place → b ≡ a → (if a then ps ++ place ∷ [] else ps) ≡ qs ++ if_passed b k
open_places true ps qs place k true same at e = ap (λ zs. zs ++ place ∷ []) same ∙ ap (λ j. qs ++ j ∷ []) (sym at)
open_places false ps qs place k false same at e = same ∙ sym (append-nil qs)
open_places true ps qs place k false same at e = absurd cc
open_places false ps qs place k true same at e = absurd cc

assoc : (a b z : Bool) → a && (b && z) ≡ (a && b) && z
assoc true b z = refl
assoc false b z = refl

-- how long a run is, where a record more is one of a test's or isn't
run_case : (test t : ℕ) (all named : Bool) (old : Lookout) (m len : ℕ) (f : Row → Bool) (ws : List Row) (r : Row) (b c : Bool) → c ≡ nat_eq test t → b ≡ c && all → f r ≡ named → m ≡ prefix_len f ws → length (whole_at old t) ≡ length ws → (if c && (all && (named && nat_eq m (length (whole_at old test)))) then suc (length (whole_at old test)) else m) ≡ prefix_len f (ws ++ if_passed b r)
run_case test t all named old m len f ws r true false at is named_is is_run many = absurd cc
run_case test t false named old m len f ws r true true at is named_is is_run many = absurd cc
run_case test t true named old m len f ws r false true at is named_is is_run many = absurd cc
run_case test t all named old m len f ws r false false at is named_is is_run many = is_run ∙ ap (prefix_len f) (sym (append-nil ws))
run_case test t false named old m len f ws r false true at is named_is is_run many = is_run ∙ ap (prefix_len f) (sym (append-nil ws))
run_case test t true named old m len f ws r true true at is named_is is_run many =
    let same : length (whole_at old test) ≡ length ws = ap (λ k. length (whole_at old k)) (eqb-true test t (sym at)) ∙ many in
    ap (λ n. cond (named && nat_eq m n) (suc n) m) same ∙ ap (λ j. cond (named && nat_eq j (length ws)) (suc (length ws)) j) is_run ∙ ap (λ z. cond (z && nat_eq (prefix_len f ws) (length ws)) (suc (length ws)) (prefix_len f ws)) (sym named_is) ∙ sym (run_more f ws r)

pub open_on : (n : Indexed) (q : Question) (test place : ℕ) (r : Row) (old new : Lookout) (rows : List Row) → ((t : ℕ) → is_open n q t r ≡ nat_eq test t) → length rows ≡ place → AddsOpen test place r.consulted old new → IsLookoutOn n q (listed old.standings) rows old → IsLookoutOn n q (listed old.standings) (rows ++ r ∷ []) new
open_on n q test place r old new rows opens at adds on =
    let s = listed old.standings in
    let from : 0 + length rows ≡ place = (let zero_more : 0 + length rows ≡ length rows = omega arith in zero_more ∙ at) in
    record {
      tests = adds.tests ∙ on.tests;
      whole = λ t. adds.whole t ∙ open_places (nat_eq test t && all_hold s r) (whole_at old t) (places_from (is_whole n q s t) 0 rows) place (0 + length rows) (is_whole n q s t r) (on.whole t) from (ap (λ z. z && all_hold s r) (opens t)) ∙ sym (places_more (is_whole n q s t) 0 rows r);
      runs = λ t k. adds.runs t k ∙ run_case test t (all_hold s r) (is_name_in k r.consulted) old (run_at old.runs t k) 0 (names k) (filter (is_whole n q s t) rows) r (is_whole n q s t r) (nat_eq test t) refl (ap (λ z. z && all_hold s r) (opens t)) refl (on.runs t k) (ap length (on.whole t) ∙ as_many (is_whole n q s t) 0 rows) ∙ ap (prefix_len (names k)) (sym (filter_more (is_whole n q s t) rows r));
      firsts = λ t k c. adds.firsts t k c ∙ ap (λ o. option_or o (if nat_eq test t && (not (all_hold s r) && all_hold (standing_with s k (Some c)) r) then Some place else None)) (on.firsts t k c) ∙ ap (λ z. option_or (position_from (is_apart n q s t k c) 0 rows) (if z && (not (all_hold s r) && all_hold (standing_with s k (Some c)) r) then Some place else None)) (sym (opens t)) ∙ ap (λ j. option_or (position_from (is_apart n q s t k c) 0 rows) (cond (is_apart n q s t k c r) (Some j) None)) (sym from) ∙ sym (position_more (is_apart n q s t k c) 0 rows r);
    }

-- ---- one that matches, and one that doesn't

and_true : (a b : Bool) → b ≡ true → a ≡ a && b
and_true true b e = sym e
and_true false b e = refl

pub whole_adds : (test place : ℕ) (es : List Entry) (old new : Lookout) → list_all (holds (listed old.standings)) es ≡ true → AddsWhole test place es old new → AddsOpen test place es old new
whole_adds test place es old new all adds = record {
  standings = adds.standings;
  tests = adds.tests;
  whole = λ t. adds.whole t ∙ ap (λ b. if b then whole_at old t ++ place ∷ [] else whole_at old t) (and_true (nat_eq test t) (list_all (holds (listed old.standings)) es) all);
  runs = λ t k. adds.runs t k ∙ ap (λ b. if nat_eq test t && b then suc (length (whole_at old test)) else run_at old.runs t k) (sym (ap (λ z. z && (is_name_in k es && nat_eq (run_at old.runs t k) (length (whole_at old test)))) all));
  firsts = λ t k c. ap (λ f. first_at f t k c) adds.firsts ∙ or_none (first_at old.firsts t k c) ∙ ap (λ b. option_or (first_at old.firsts t k c) (if b then Some place else None)) (sym (never (nat_eq test t) (list_all (holds (listed old.standings)) es) (list_all (holds (standing_with (listed old.standings) k (Some c))) es) all));
}
  where
    or_none : (o : Option ℕ) → o ≡ option_or o (if false then Some place else None)
    or_none None = refl
    or_none (Some x) = refl

    never : (a b c : Bool) → b ≡ true → a && (not b && c) ≡ false
    never a false c e = absurd cc
    never true true c e = refl
    never false true c e = refl

pub apart_adds : (test place : ℕ) (miss : Entry) (es : List Entry) (old new : Lookout) → list_all (holds (listed old.standings)) es ≡ false → ((k c : ℕ) → list_all (holds (standing_with (listed old.standings) k (Some c))) es ≡ (nat_eq miss.name k && nat_eq miss.class c) && list_all (holds (standing_with (listed old.standings) miss.name (Some miss.class))) es) → AddsApart test place miss es old new → AddsOpen test place es old new
apart_adds test place miss es old new all own adds = record {
  standings = adds.standings;
  tests = ap (λ w. length w.items) adds.whole;
  whole = λ t. ap (λ w. list_at w.items t) adds.whole ∙ ap (λ b. if b then whole_at old t ++ place ∷ [] else whole_at old t) (sym (ap (λ z. nat_eq test t && z) all ∙ and_false (nat_eq test t)));
  runs = λ t k. ap (λ r. run_at r t k) adds.runs ∙ ap (λ b. if b then suc (length (whole_at old test)) else run_at old.runs t k) (sym (ap (λ z. nat_eq test t && (z && (is_name_in k es && nat_eq (run_at old.runs t k) (length (whole_at old test))))) all ∙ and_false (nat_eq test t)));
  firsts = λ t k c. adds.firsts t k c ∙ ap (λ b. option_or (first_at old.firsts t k c) (if b then Some place else None)) (moved (nat_eq test t) (nat_eq miss.name k && nat_eq miss.class c) (list_all (holds (standing_with (listed old.standings) miss.name (Some miss.class))) es) (list_all (holds (listed old.standings)) es) (list_all (holds (standing_with (listed old.standings) k (Some c))) es) all (own k c));
}
  where
    and_false : (a : Bool) → a && false ≡ false
    and_false true = refl
    and_false false = refl

    moved : (t m a h w : Bool) → h ≡ false → w ≡ m && a → (t && m) && a ≡ t && (not h && w)
    moved t m a true w e f = absurd cc
    moved true m a false w e f = sym f
    moved false m a false w e f = refl

-- ---- at first

pub empty_on : (n : Indexed) (q : Question) (s : Standing) (l : Lookout) (tests : ℕ) (listed_s : List (Option ℕ)) → tests ≡ length n.tests → IsEmptyLookout tests listed_s l → IsLookoutOn n q s [] l
empty_on n q s l tests listed_s many empty = record { tests = empty.tests ∙ many; whole = empty.whole; runs = empty.runs; firsts = empty.firsts }

-- ---- all

pub all_more : (n : Indexed) (q : Question) (place : ℕ) (r : Row) (s : List (Option ℕ)) (old new : Lookout) (rows : List Row) → AddsRow n q place r old new → length rows ≡ place → old.standings ≡ s → IsLookoutOn n q (listed s) rows old → IsLookoutOn n q (listed s) (rows ++ r ∷ []) new
all_more n q place r s old new rows adds at is on = subst (λ z. IsLookoutOn n q (listed z) (rows ++ r ∷ []) new) is (adds.on rows at (subst (λ z. IsLookoutOn n q (listed z) rows old) (sym is) on))

pub made : (n : Indexed) (q : Question) (s : List (Option ℕ)) (rows : List Row) (old new : Lookout) → IsIndexed n → old.standings ≡ s → new.standings ≡ old.standings → rows ≡ n.history.rows → IsLookoutOn n q (listed old.standings) rows new → IsLookout n q s new
made n q s rows old new indexed was is all on = record {
  indexed = indexed;
  standings = is ∙ was;
  on = subst (λ z. IsLookoutOn n q (listed z) n.history.rows new) was (subst (λ rs. IsLookoutOn n q (listed old.standings) rs new) all on);
}

-- ---- one record more, as it is found

closed_adds : (n : Indexed) (q : Question) (place : ℕ) (r : Row) (l : Lookout) → IsClosed n q r → AddsRow n q place r l l
closed_adds n q place r l closed = record {
  standings = refl;
  on = λ rows at on. closed_on n q (listed l.standings) r l rows closed on;
}

pair_within : (tests : List (ℕ × ℕ)) (p : ℕ × ℕ) (t : ℕ) → pair_number tests p ≡ Some t → t < length tests
pair_within tests p t e = position_within (λ z. is_pair z p) t tests e

no_test : (n : Indexed) (q : Question) (r : Row) (o : Option ℕ) → pair_number n.tests (pair_of r) ≡ o → None ≡ option_and_then (open_here q r) o → IsClosed n q r
no_test n q r None pair none = no_pair n q r pair
no_test n q r (Some test) pair none = by (is_fit_under q.limits r (slice_get q.bounds test)) refl none
  where
    by : (b : Bool) → b ≡ is_fit_under q.limits r (slice_get q.bounds test) → None ≡ (if b then Some test else None) → IsClosed n q r
    by true e f = absurd cc
    by false e f = unfit n q test r pair (sym e)

pub add_none : (n : Indexed) (q : Question) (place : ℕ) (r : Row) (l : Lookout) → None ≡ open_test n q r → AddsRow n q place r l l
add_none n q place r l none = closed_adds n q place r l (no_test n q r (pair_number n.tests (pair_of r)) refl none)

-- what is known of the test to which a record is open
record IsOpenTo (n : Indexed) (q : Question) (r : Row) (test : ℕ) : Type 0 where
  pair : pair_number n.tests (pair_of r) ≡ Some test
  fit : is_fit_under q.limits r (slice_get q.bounds test) ≡ true

open_to : (n : Indexed) (q : Question) (r : Row) (test : ℕ) (o : Option ℕ) → pair_number n.tests (pair_of r) ≡ o → Some test ≡ option_and_then (open_here q r) o → IsOpenTo n q r test
open_to n q r test None pair some = absurd cc
open_to n q r test (Some t) pair some = by (is_fit_under q.limits r (slice_get q.bounds t)) refl some
  where
    by : (b : Bool) → b ≡ is_fit_under q.limits r (slice_get q.bounds t) → Some test ≡ (if b then Some t else None) → IsOpenTo n q r test
    by false e f = absurd cc
    by true e f =
        let same : t ≡ test = some_is t test (sym f) in
        subst (IsOpenTo n q r) same (record { pair = pair; fit = sym e })

here_case : (q : Question) (test t : ℕ) (r : Row) (b : Bool) → b ≡ nat_eq test t → is_fit_under q.limits r (slice_get q.bounds test) ≡ true → b && is_fit_under q.limits r (slice_get q.bounds t) ≡ b
here_case q test t r false e fit = refl
here_case q test t r true e fit = ap (λ k. is_fit_under q.limits r (slice_get q.bounds k)) (sym (eqb-true test t (sym e))) ∙ fit

opens_to : (n : Indexed) (q : Question) (test : ℕ) (r : Row) → IsOpenTo n q r test → (t : ℕ) → is_open n q t r ≡ nat_eq test t
opens_to n q test r is t = ap (λ o. is_number o t && is_fit_under q.limits r (slice_get q.bounds t)) is.pair ∙ here_case q test t r (nat_eq test t) refl is.fit

pub add_some : (n : Indexed) (q : Question) (place test : ℕ) (r : Row) (old new : Lookout) → Some test ≡ open_test n q r → AddsOpen test place r.consulted old new → AddsRow n q place r old new
add_some n q place test r old new some adds = record {
  standings = adds.standings;
  on = λ rows at on. open_on n q test place r old new rows (opens_to n q test r (open_to n q r test (pair_number n.tests (pair_of r)) refl some)) at adds on;
}

pub open_within : (n : Indexed) (q : Question) (test : ℕ) (r : Row) → Some test ≡ open_test n q r → test < length n.tests
open_within n q test r some = pair_within n.tests (pair_of r) test (open_to n q r test (pair_number n.tests (pair_of r)) refl some).pair

pub none_adds : (test place : ℕ) (es : List Entry) (old new : Lookout) → None ≡ find (λ e. not (holds (listed old.standings) e)) es → AddsWhole test place es old new → AddsOpen test place es old new
none_adds test place es old new none adds = whole_adds test place es old new (all_held (listed old.standings) es (sym none)) adds

pub miss_adds : (test place : ℕ) (miss : Entry) (es : List Entry) (old new : Lookout) → Some miss ≡ find (λ e. not (holds (listed old.standings) e)) es → AddsApart test place miss es old new → AddsOpen test place es old new
miss_adds test place miss es old new some adds =
    let s = listed old.standings in
    apart_adds test place miss es old new (missed s (holds s) miss es (miss_is s miss es (sym some)) (sym some)) (λ k c. only_own s miss es k c (sym some)) adds

pub all_step : (n : Indexed) (q : Question) (rows : List Row) (i place : ℕ) (r : Row) (s : List (Option ℕ)) (old new : Lookout) → i < length rows → r ≡ get_or rows i r → place ≡ i → old.standings ≡ s → IsLookoutOn n q (listed s) (take i rows) old → AddsRow n q place r old new → IsLookoutOn n q (listed s) (take (i + 1) rows) new
all_step n q rows i place r s old new lt item at is on adds =
    subst (λ rs. IsLookoutOn n q (listed s) rs new) (ap (λ x. take i rows ++ x ∷ []) item ∙ sym (take_more rows i r lt)) (all_more n q place r s old new (take i rows) adds (length-take-le i rows (omega (arith, lt)) ∙ sym at) is on)
