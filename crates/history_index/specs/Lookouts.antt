-- What a look-up goes by (this project's own).
use Rattle.std.specs.Prelude.{◌≡◌, ◌≤◌, ◌<◌, ◌^◌, ◌+◌, ℕ, suc, Bool, true, false, not, ◌&&◌, nat_eq, nat_le}
use Rattle.std.specs.Prelude.{nat_lt, List, [], ◌∷◌, ◌++◌, filter, length, Option, Some, None}
use Rattle.std.specs.Prelude.{slice_get, option_and_then, if◌then◌else◌, IfSome}
use Rattle.std.specs.List.{list_all, list_any, position_from, prefix_len}
use Rattle.std.specs.Option.{option_or}
use Rattle.machine_rules.specs.declared.machine.Limits.{Limits}
use Rattle.record_rules.specs.Records.{Asked}
use Rattle.record_rules.specs.Matching.{first_match, matches}
use Rattle.history_file.specs.declared.row.End.{End}
use Rattle.history_file.specs.declared.row.End.TheVariants as end
use Rattle.history_file.specs.declared.row.Entry.{Entry}
use Rattle.history_file.specs.declared.row.Row.{Row}
use Rattle.history_file.specs.Rows.{Numbered, record_of, records_of}
use Rattle.history_index.specs.declared.standings.Swap.{Swap}
use Rattle.history_index.specs.declared.runs.Runs.{Runs}
use Rattle.history_index.specs.declared.lookout.Lookout.{Lookout}
use Rattle.history_index.specs.Firsts.{first_at, run_at, whole_at}
use Rattle.history_index.specs.Numbers.{Indexed, IsIndexed, pair_of, pair_number, test_number}
use Rattle.history_index.specs.Numbers.{record_at}
use Rattle.history_index.specs.Standings.{Standing, standing_in, listed, AreAlike, standing_with}
use Rattle.history_index.specs.Standings.{swapped}

-- ---- records in numbers

abbrev pub is_number : Option ℕ → ℕ → Bool
is_number None k = false
is_number (Some n) k = nat_eq n k

-- A program has what an entry says.
abbrev pub holds : Standing → Entry → Bool
holds s e = is_number (s e.name) e.class

abbrev pub all_hold : Standing → Row → Bool
all_hold s r = list_all (holds s) r.consulted

abbrev pub is_late : End → Bool
is_late end.TimedOut = true
is_late other = false

-- The limits are the record's, and the steps fit: one that is timed out is known under its very
-- limit alone.
abbrev pub is_fit : Limits → ℕ → Row → Bool
is_fit q limit r =
    nat_eq r.heap q.heap
    && (nat_eq r.depth q.depth
    && (if is_late r.end then nat_eq r.limit limit else nat_le r.steps limit))

-- ---- what is asked

-- Limits of all runs, and for each test of a history its steps, by number.
pub record Question : Type 0 where
  pub limits : Limits
  pub bounds : List ℕ

abbrev pub question_of : Limits → List ℕ → Question
question_of limits bounds = record { limits = limits; bounds = bounds }

abbrev pub is_fit_under : Limits → Row → Option ℕ → Bool
is_fit_under q r None = false
is_fit_under q r (Some limit) = is_fit q limit r

-- The record is of the test, and has its limits.
abbrev pub is_open : Indexed → Question → ℕ → Row → Bool
is_open n q test r =
    is_number (pair_number n.tests (pair_of r)) test
    && is_fit_under q.limits r (slice_get q.bounds test)

-- The test to which a record is open, if there is one.
abbrev pub open_here : Question → Row → ℕ → Option ℕ
open_here q r test =
    if is_fit_under q.limits r (slice_get q.bounds test) then Some test else None

abbrev pub open_test : Indexed → Question → Row → Option ℕ
open_test n q r = option_and_then (open_here q r) (pair_number n.tests (pair_of r))

-- It matches the test's run on the program.
abbrev pub is_whole : Indexed → Question → Standing → ℕ → Row → Bool
is_whole n q s test r = is_open n q test r && all_hold s r

-- It doesn't, and would if the class of one name were another.
abbrev pub is_apart : Indexed → Question → Standing → ℕ → ℕ → ℕ → Row → Bool
is_apart n q s test name class r =
    is_open n q test r && (not (all_hold s r) && all_hold (standing_with s name (Some class)) r)

abbrev pub is_name_in : ℕ → List Entry → Bool
is_name_in name es = list_any (λ (e : Entry). nat_eq e.name name) es

abbrev pub names : ℕ → Row → Bool
names name r = is_name_in name r.consulted

-- The places of the records that pass a test, from a place on.
abbrev pub places_from : (Row → Bool) → ℕ → List Row → List ℕ
places_from test k [] = []
places_from test k (r ∷ rs) =
    if test r then k ∷ places_from test (k + 1) rs else places_from test (k + 1) rs

-- ---- the look-out

-- For these records of a history it has: the places of the records of each test that match; how
-- many of these, from the first on, name a name; and the first record that would match if the class
-- of a name were another.
pub record IsLookoutOn
    (n : Indexed) (q : Question) (s : Standing) (rows : List Row) (l : Lookout) : Type 0 where
  pub tests : length l.whole.items ≡ length n.tests
  pub whole : (t : ℕ) → whole_at l t ≡ places_from (is_whole n q s t) 0 rows
  pub runs :
      (t k : ℕ) → run_at l.runs t k ≡ prefix_len (names k) (filter (is_whole n q s t) rows)
  pub firsts :
      (t k c : ℕ) → first_at l.firsts t k c ≡ position_from (is_apart n q s t k c) 0 rows

pub record IsLookout (n : Indexed) (q : Question) (s : List (Option ℕ)) (l : Lookout)
    : Type 0 where
  pub indexed : IsIndexed n
  pub standings : l.standings ≡ s
  pub on : IsLookoutOn n q (listed s) n.history.rows l

-- One of no records.
pub record IsEmptyLookout (count : ℕ) (s : List (Option ℕ)) (l : Lookout) : Type 0 where
  pub standings : l.standings ≡ s
  pub tests : length l.whole.items ≡ count
  pub whole : (t : ℕ) → whole_at l t ≡ []
  pub runs : (t k : ℕ) → run_at l.runs t k ≡ 0
  pub firsts : (t k c : ℕ) → first_at l.firsts t k c ≡ None

-- ---- one record more

-- Of no test are there more places than records before this one, whose place isn't the last that a
-- number of four bytes can tell.
pub record HasRoom (place : ℕ) (l : Lookout) : Type 0 where
  pub next : place + 1 < 2 ^ 32
  pub few : (t : ℕ) → length (whole_at l t) ≤ place

-- One that is open to a test, with these entries.
pub record AddsOpen (test place : ℕ) (es : List Entry) (old new : Lookout) : Type 0 where
  pub standings : new.standings ≡ old.standings
  pub tests : length new.whole.items ≡ length old.whole.items
  pub whole :
      (t : ℕ) →
      whole_at new t
      ≡ (if nat_eq test t && list_all (holds (listed old.standings)) es
      then whole_at old t ++ place ∷ [] else whole_at old t)
  pub runs :
      (t k : ℕ) →
      run_at new.runs t k
      ≡ (if nat_eq test t
      && (list_all (holds (listed old.standings)) es
      && (is_name_in k es && nat_eq (run_at old.runs t k) (length (whole_at old test))))
      then suc (length (whole_at old test)) else run_at old.runs t k)
  pub firsts :
      (t k c : ℕ) →
      first_at new.firsts t k c
      ≡ option_or (first_at old.firsts t k c)
      (if nat_eq test t
      && (not (list_all (holds (listed old.standings)) es)
      && list_all (holds (standing_with (listed old.standings) k (Some c))) es)
      then Some place else None)

-- One behind those that are there.
pub record AddsRow (n : Indexed) (q : Question) (place : ℕ) (r : Row) (old new : Lookout)
    : Type 0 where
  pub standings : new.standings ≡ old.standings
  pub on :
      (rows : List Row) → length rows ≡ place → IsLookoutOn n q (listed old.standings) rows old →
      IsLookoutOn n q (listed old.standings) (rows ++ r ∷ []) new

-- A length that one record more makes, behind so many: of a name that it names.
abbrev pub LengthensOne : ℕ → ℕ → ℕ → ℕ → Runs → Runs → Type 0
LengthensOne test before after name old new =
    (t k : ℕ) →
    run_at new t k
    ≡ (if nat_eq test t && (nat_eq name k && nat_eq (run_at old t k) before)
    then after else run_at old t k)

-- Lengths that one record more makes, behind so many: of the names that it names.
abbrev pub Lengthens : ℕ → ℕ → List Entry → Runs → Runs → Type 0
Lengthens test before es old new =
    (t k : ℕ) →
    run_at new t k
    ≡ (if nat_eq test t && (is_name_in k es && nat_eq (run_at old t k) before)
    then suc before else run_at old t k)

-- One that matches.
pub record AddsWhole (test place : ℕ) (es : List Entry) (old new : Lookout) : Type 0 where
  pub standings : new.standings ≡ old.standings
  pub tests : length new.whole.items ≡ length old.whole.items
  pub whole :
      (t : ℕ) →
      whole_at new t
      ≡ (if nat_eq test t then whole_at old t ++ place ∷ [] else whole_at old t)
  pub runs : Lengthens test (length (whole_at old test)) es old.runs new.runs
  pub firsts : new.firsts ≡ old.firsts

-- One that doesn't, for this entry first.
pub record AddsApart (test place : ℕ) (miss : Entry) (es : List Entry) (old new : Lookout)
    : Type 0 where
  pub standings : new.standings ≡ old.standings
  pub whole : new.whole ≡ old.whole
  pub runs : new.runs ≡ old.runs
  pub firsts :
      (t k c : ℕ) →
      first_at new.firsts t k c
      ≡ option_or (first_at old.firsts t k c)
      (if (nat_eq test t && (nat_eq miss.name k && nat_eq miss.class c))
      && list_all
      (holds (standing_with (listed old.standings) miss.name (Some miss.class))) es
      then Some place else None)

-- ---- look-ups

-- The smaller of two places.
abbrev pub earlier : Option ℕ → Option ℕ → Option ℕ
earlier None place = place
earlier (Some a) None = Some a
earlier (Some a) (Some b) = Some (if nat_lt b a then b else a)

abbrev pub is_same : Option ℕ → Option ℕ → Bool
is_same None None = true
is_same (Some a) (Some b) = nat_eq a b
is_same a b = false

-- The place that a look-out tells where one class file is another.
abbrev pub place_swapped : Lookout → ℕ → Swap → Option ℕ
place_swapped l test w =
    if is_same (listed l.standings w.name) w.class then slice_get (whole_at l test) 0
    else
    earlier (slice_get (whole_at l test) (run_at l.runs test w.name))
    (option_and_then (first_at l.firsts test w.name) w.class)

abbrev pub place_of_test : Lookout → ℕ → Option Swap → Option ℕ
place_of_test l test None = slice_get (whole_at l test) 0
place_of_test l test (Some w) = place_swapped l test w

abbrev pub place_told : Lookout → Option ℕ → Option Swap → Option ℕ
place_told l None swap = None
place_told l (Some test) swap = place_of_test l test swap

-- ---- what is asked for

-- The run of a test, by its number if it has one, on the program for which the look-out was made,
-- but for a class file that is another one.
pub record IsAskedBy
    (n : Indexed) (q : Question) (s : List (Option ℕ)) (test : Option ℕ) (swap : Option Swap)
    (x : Asked) : Type 0 where
  pub number : test_number n x.test.class x.test.method ≡ test
  pub limits : x.limits ≡ q.limits
  pub limit : IfSome test (λ t. slice_get q.bounds t ≡ Some x.limit)
  pub program : AreAlike n.history (standing_in n.history x.look x.held) (swapped (listed s) swap)

-- The place of the first record of a history that matches a run.
abbrev pub first_place : Numbered → Asked → Option ℕ
first_place n x = position_from (λ r. matches (record_of n.texts n.classes r) x) 0 n.rows

-- It is this place, and so the record there is the first that matches.
pub record FindsFirst (n : Numbered) (x : Asked) (place : Option ℕ) : Type 0 where
  pub at : place ≡ first_place n x
  pub first : option_and_then (record_at n) place ≡ first_match (records_of n) x
