-- What is known of runs, as new records take it, one run more after the other.
use Rattle.std.proofs.Common.{◌≡◌, ◌∙◌, ℕ, zero, suc, ◌+◌, ◌<◌, ◌^◌, Bool, true, List, [], ◌∷◌, ◌++◌, length, map, take, get_or, Option, Some, None, slice_get, refl, sym, ap, ap₂, subst, arith, append_assoc}
use Rattle.std.specs.Prelude.{All, Contains, option_map}
use Rattle.std.specs.Option.{unwrap_or}
use Rattle.std.specs.List.{AllByRecursion}
use Rattle.std.proofs.lemmas.List.{append-nil, get_or-map, length-map, map-append, take_more}
use Rattle.std.proofs.lemmas.List.Elements.{All-from_recursion, All-nil, All-push, Contains-get_or, recursion_from_All}
use Rattle.record_rules.specs.Histories.{Kept}
use Rattle.record_rules.specs.declared.record.RunRecord.{RunRecord}
use Rattle.record_rules.specs.Jobs.{with_limit}
use Rattle.history_rules.specs.Entries.{Entry, IsPair, with_pair}
use Rattle.history_rules.specs.Fitting.{FitsEntry, FitsFields, FitsPair}
use Rattle.history_rules.specs.Items.{AllBy}
use Rattle.history_rules.specs.Laws.{IsFormed, IsNewEntry, with_name}
use Rattle.program_rules.specs.Names.{Name}
use Rattle.history_file.specs.declared.row.Row.{Row}
use Rattle.history_file.specs.Rows.{Numbered, IsNumbered, IsRow, record_of, records_of}
use Rattle.new_history.specs.Needed.{kept_by, IsNeeded}
use Rattle.new_history.specs.declared.needed.Needed.{Needed}
use Rattle.new_history.specs.declared.needed.Needed.TheVariants as needed
use Rattle.suite_workers.specs.Old.{found_record, no_record}
use Rattle.suite_workers.specs.declared.old_records.FoundRun.{FoundRun}
use Rattle.suite_workers.specs.declared.said.KnownRun.{KnownRun}
use Rattle.suite_workers.specs.declared.said.KnownRun.TheVariants as run
use Rattle.suite_workers.specs.Said.{known_record}
use Rattle.suite_runs.specs.Ending.{HasUnfit}
use Rattle.suite_runs.specs.Keeping.{AddsKept, AreKeptAs, IsKeptAs, IsOf, IsUnfit, kept_as}

-- ---- a record that was found

pub found_is : (h : Numbered) (f : FoundRun) (row : Row) → f.index.now.history ≡ h → Some row ≡ slice_get f.index.now.history.rows f.place → with_limit f.limit (record_of h.texts h.classes row) ≡ found_record f
found_is h f row same is =
    ap (λ (n : Numbered). with_limit f.limit (record_of n.texts n.classes row)) (sym same)
    ∙ ap (λ (o : Option Row). with_limit f.limit (unwrap_or (option_map (record_of f.index.now.history.texts f.index.now.history.classes) o) no_record)) is

row_there : (P : Row → Type 0) (rows : List Row) (k : ℕ) (row : Row) → All P rows → Some row ≡ slice_get rows k → P row
row_there P [] k row all is = absurd cc
row_there P (x ∷ rows) zero row all is = let same : row ≡ x = cc in subst P (sym same) (all zero x (omega arith))
row_there P (x ∷ rows) (suc k) row all is = row_there P rows k row (λ i d lt. all (suc i) d (omega (arith, lt))) is

pub found_row : (h : Numbered) (f : FoundRun) (row : Row) → IsNumbered f.index.now.history → f.index.now.history ≡ h → Some row ≡ slice_get f.index.now.history.rows f.place → IsRow (length h.texts) (length h.classes) row
found_row h f row numbered same is =
    let n = f.index.now.history in
    subst (λ (m : Numbered). IsRow (length m.texts) (length m.classes) row) same
    (row_there (IsRow (length n.texts) (length n.classes)) n.rows f.place row numbered.rows is)

pub none_there : (rows : List Row) (k : ℕ) → None ≡ slice_get rows k → k < length rows → ⊥
none_there [] k is lt = omega (arith, lt)
none_there (x ∷ rows) zero is lt = cc
none_there (x ∷ rows) (suc k) is lt = none_there rows k is (omega (arith, lt))

-- ---- what has the form of a history fits its fields

entries_fit : (names : List Name) (es : List Entry) → AllBy IsNewEntry with_name names es → AllByRecursion FitsEntry es
entries_fit names [] h = tt
entries_fit names (e ∷ es) h = let one = h.0 in ((one.0, one.2), entries_fit (with_name names e) es h.1)

pairs_fit : (es : List Entry) (last : Option (ℕ × ℕ)) (xs : List (ℕ × ℕ)) → AllBy (IsPair es) with_pair last xs → AllByRecursion FitsPair xs
pairs_fit es last [] h = tt
pairs_fit es last (x ∷ xs) h = let one = h.0 in (one.line_fits, pairs_fit es (with_pair last x) xs h.1)

fits_with : (r : RunRecord) (limit : ℕ) → IsFormed r → limit < 2 ^ 64 → FitsFields (with_limit limit r)
fits_with r limit f lt = record {
  class = f.class;
  method = f.method;
  heap = f.heap;
  depth = f.depth;
  limit = lt;
  outcome = f.outcome;
  few_names = f.few_names;
  names = All-from_recursion FitsEntry r.consulted (entries_fit [] r.consulted f.names);
  few_lines = f.few_lines;
  lines = All-from_recursion FitsPair r.reached (pairs_fit r.consulted None r.reached f.lines);
}

rows_formed : (texts classes : List (List ℕ)) (rows : List Row) → AllByRecursion IsFormed (map (record_of texts classes) rows) → AllByRecursion (λ (x : Row). IsFormed (record_of texts classes x)) rows
rows_formed texts classes [] q = tt
rows_formed texts classes (x ∷ rows) q = (q.0, rows_formed texts classes rows q.1)

row_formed : (texts classes : List (List ℕ)) (rows : List Row) (k : ℕ) (row : Row) → All IsFormed (map (record_of texts classes) rows) → Some row ≡ slice_get rows k → IsFormed (record_of texts classes row)
row_formed texts classes rows k row all is =
    row_there (λ (x : Row). IsFormed (record_of texts classes x)) rows k row
    (All-from_recursion (λ (x : Row). IsFormed (record_of texts classes x)) rows (rows_formed texts classes rows (recursion_from_All IsFormed (map (record_of texts classes) rows) all))) is

-- ---- a run that was found

abbrev pub old_one : RunRecord → Kept
old_one r = record { entry = r; is_old = true }

pub found_fits : (h : Numbered) (f : FoundRun) (row : Row) → f.index.now.history ≡ h → Some row ≡ slice_get f.index.now.history.rows f.place → f.limit < 2 ^ 64 → All IsFormed (records_of h) → FitsFields (known_record (run.Found f))
found_fits h f row same is lt formed =
    let n = f.index.now.history in
    let own : All IsFormed (records_of n) = subst (λ (m : Numbered). All IsFormed (records_of m)) (sym same) formed in
    subst FitsFields (found_is n f row refl is) (fits_with (record_of n.texts n.classes row) f.limit (row_formed n.texts n.classes n.rows f.place row own is) lt)

pub found_kept : (h : Numbered) (f : FoundRun) (row : Row) (x : Needed) → IsNumbered f.index.now.history → IsOf h (run.Found f) → Some row ≡ slice_get f.index.now.history.rows f.place → f.limit < 2 ^ 64 → kept_by h x ≡ old_one (with_limit f.limit (record_of h.texts h.classes row)) → (IsRow (length h.texts) (length h.classes) row → IsNeeded h x) → IsKeptAs h (run.Found f) x
found_kept h f row x numbered of is lt kept needed = record {
  kept = kept ∙ ap old_one (found_is h f row of.0 is);
  needed = needed (found_row h f row numbered of.0 is);
  fits = found_fits h f row of.0 is lt;
}

-- ---- one run more

pub adds_none : (h : Numbered) (all : List Needed) → AddsKept h [] all all
adds_none h all = record { more = []; added = sym (append-nil all); are = record { kept = refl; needed = All-nil (IsNeeded h); fit = λ formed. All-nil FitsFields } }

pub adds_more : (h : Numbered) (ks : List KnownRun) (i : ℕ) (k : KnownRun) (x : Needed) (old mid new : List Needed) → i < length ks → k ≡ get_or ks i k → AddsKept h (take i ks) old mid → IsKeptAs h k x → new ≡ mid ++ x ∷ [] → AddsKept h (take (i + 1) ks) old new
adds_more h ks i k x old mid new lt is a one push = record {
  more = a.more ++ x ∷ [];
  added = push ∙ ap (λ (m : List Needed). m ++ x ∷ []) a.added ∙ append_assoc old a.more (x ∷ []);
  are = record {
    kept =
        map-append (kept_by h) a.more (x ∷ []) ∙ ap₂ (λ (xs : List Kept) (y : Kept). xs ++ y ∷ []) a.are.kept (one.kept ∙ ap kept_as is)
        ∙ sym (map-append kept_as (take i ks) (get_or ks i k ∷ [])) ∙ ap (map kept_as) (sym (take_more ks i k lt));
    needed = All-push (IsNeeded h) a.more x a.are.needed one.needed;
    fit = λ formed.
        subst (λ (rs : List RunRecord). All FitsFields rs)
        (ap (λ (y : KnownRun). map known_record (take i ks) ++ known_record y ∷ []) is ∙ sym (map-append known_record (take i ks) (get_or ks i k ∷ [])) ∙ ap (map known_record) (sym (take_more ks i k lt)))
        (All-push FitsFields (map known_record (take i ks)) (known_record k) (a.are.fit formed) (one.fits formed));
  };
}

pub has_unfit : (ks : List KnownRun) (i : ℕ) (k : KnownRun) → i < length ks → k ≡ get_or ks i k → IsUnfit k → HasUnfit (map known_record ks)
has_unfit ks i k lt is unfit =
    let there : Contains (map known_record ks) (known_record k) =
    subst (Contains (map known_record ks)) (get_or-map known_record ks i k (known_record k) lt ∙ ap known_record (sym is)) (Contains-get_or (map known_record ks) i (known_record k) (omega (arith, lt, length-map ks known_record))) in
    record { entry = known_record k; there = there; unfit = unfit }
