-- New records by number, of what is known of runs.
use Rattle.std.proofs.Common.{◌≡◌, ◌∙◌, inl, inr, ℕ, suc, ◌+◌, ◌<◌, ◌≤◌, ◌^◌, Bool, List, [], ◌∷◌, ◌++◌, length, map, get_or, Option, Some, None, refl, sym, ap, ap₂, subst, arith, append_assoc}
use Rattle.std.specs.Prelude.{All, Result, Ok, Err, max, sum_by}
use Rattle.std.proofs.lemmas.List.{length-map, map-append}
use Rattle.std.proofs.lemmas.List.Elements.{All-append, All-nil, Contains-append_left, Contains-append_right}
use Rattle.std.proofs.lemmas.List.Sums.{sum_by-cons}
use Rattle.record_rules.specs.Histories.{Kept}
use Rattle.record_rules.specs.declared.record.RunRecord.{RunRecord}
use Rattle.history_rules.specs.Fitting.{FitsFields}
use Rattle.history_rules.specs.Laws.{IsFormed}
use Rattle.history_file.specs.Rows.{Numbered, records_of}
use Rattle.new_history.specs.Left.{Left}
use Rattle.new_history.specs.Needed.{IsNeeded, kept_by, names_in}
use Rattle.new_history.specs.New.{AreTooMany, IsNewOf}
use Rattle.new_history.specs.declared.needed.Needed.{Needed}
use Rattle.new_history.specs.declared.needed.Needed.TheVariants as needed
use Rattle.suite_workers.specs.Old.{history_in, records_in}
use Rattle.suite_workers.specs.Said.{IsKnownIn, known_record}
use Rattle.suite_workers.specs.declared.old_records.OldRecords.{OldRecords}
use Rattle.suite_workers.specs.declared.old_records.OldRecords.TheVariants as old
use Rattle.suite_workers.specs.declared.said.KnownRun.{KnownRun}
use Rattle.suite_workers.specs.declared.said.KnownRun.TheVariants as run
use Rattle.suite_runs.specs.declared.fault.JobFault.{JobFault}
use Rattle.suite_runs.specs.declared.fault.JobFault.TheVariants as fault
use Rattle.suite_runs.specs.Ending.{HasUnfit, numbered_in}
use Rattle.suite_runs.specs.Keeping.{AddsKept, AreKept, AreKeptAs, CannotKeep, IsOf, KeepEnds, KeepTooMany, NewEnds, PutEnds, kept_as, names_kept}

-- ---- of one history

pub is_of : (o : OldRecords) (k : KnownRun) → IsKnownIn (history_in o) k → IsOf (numbered_in o) k
is_of o (run.Made made) h = tt
is_of old.None (run.Found f) h = let e : None ≡ Some f.index.now.history = h.history_is in absurd cc
is_of (old.Of index) (run.Found f) h =
    let e : Some index.now.history ≡ Some f.index.now.history = h.history_is in
    let same : index.now.history ≡ f.index.now.history = cc in
    (sym same, subst (λ (n : Numbered). f.place < length n.rows) (sym same) h.there)

pub all_of : (o : OldRecords) (ks : List KnownRun) → All (IsKnownIn (history_in o)) ks → All (IsOf (numbered_in o)) ks
all_of o ks all i d lt = is_of o (get_or ks i d) (all i d lt)

formed_in : (o : OldRecords) → All IsFormed (records_in o) → All IsFormed (records_of (numbered_in o))
formed_in old.None all = All-nil IsFormed
formed_in (old.Of index) all = all

-- ---- how many names

names_of : (h : Numbered) (x : Needed) → names_in x ≡ names_kept (kept_by h x)
names_of h (needed.Old row limit) = refl
names_of h (needed.Made r) = refl

names_alike : (h : Numbered) (xs : List Needed) → sum_by names_in xs ≡ sum_by names_kept (map (kept_by h) xs)
names_alike h [] = refl
names_alike h (x ∷ xs) =
    sum_by-cons names_in x xs ∙ ap₂ (λ (m n : ℕ). m + n) (names_of h x) (names_alike h xs)
    ∙ sym (sum_by-cons names_kept (kept_by h x) (map (kept_by h) xs))

pub too_many : (h : Numbered) (xs : List Needed) → AreTooMany (length h.texts) (length h.classes) xs → KeepTooMany h (map (kept_by h) xs)
too_many h xs many =
    subst (λ (n : ℕ). 2 ^ 32 ≤ max (length (map (kept_by h) xs)) (max (length h.texts) (length h.classes) + n)) (names_alike h xs)
    (subst (λ (n : ℕ). 2 ^ 32 ≤ max n (max (length h.texts) (length h.classes) + sum_by names_in xs)) (sym (length-map xs (kept_by h))) many)

-- ---- both lists

pub adds_both : (h : Numbered) (ks ls : List KnownRun) (mid new : List Needed) → AddsKept h ks [] mid → AddsKept h ls mid new → AreKeptAs h (ks ++ ls) new
adds_both h ks ls mid new a b =
    let whole : new ≡ a.more ++ b.more = b.added ∙ ap (λ (xs : List Needed). xs ++ b.more) a.added in
    subst (AreKeptAs h (ks ++ ls)) (sym whole) (record {
      kept = map-append (kept_by h) a.more b.more ∙ ap₂ (λ (xs ys : List Kept). xs ++ ys) a.are.kept b.are.kept ∙ sym (map-append kept_as ks ls);
      needed = All-append (IsNeeded h) a.more b.more a.are.needed b.are.needed;
      fit = λ formed. subst (λ (rs : List RunRecord). All FitsFields rs) (sym (map-append known_record ks ls)) (All-append FitsFields (map known_record ks) (map known_record ls) (a.are.fit formed) (b.are.fit formed));
    })

pub are_kept : (o : OldRecords) (ks : List KnownRun) (xs : List Needed) (new : Left) → AreKeptAs (numbered_in o) ks xs → IsNewOf (map (kept_by (numbered_in o)) xs) new → AreKept o ks new
are_kept o ks xs new are is = record {
  records = subst (λ (kept : List Kept). IsNewOf kept new) are.kept is;
  fit = λ formed. are.fit (formed_in o formed);
}

pub cannot_keep : (o : OldRecords) (ks : List KnownRun) (xs : List Needed) → AreKeptAs (numbered_in o) ks xs → KeepTooMany (numbered_in o) (map (kept_by (numbered_in o)) xs) → CannotKeep o ks
cannot_keep o ks xs are many = inr (subst (KeepTooMany (numbered_in o)) are.kept many)

-- ---- a record that doesn't fit

pub unfit_first : (o : OldRecords) (ks ls : List KnownRun) → HasUnfit (map known_record ks) → CannotKeep o (ks ++ ls)
unfit_first o ks ls h = inl (subst HasUnfit (sym (map-append known_record ks ls)) (record { entry = h.entry; there = Contains-append_left (map known_record ks) (map known_record ls) h.entry h.there; unfit = h.unfit }))

pub unfit_second : (o : OldRecords) (ks ls : List KnownRun) → HasUnfit (map known_record ls) → CannotKeep o (ks ++ ls)
unfit_second o ks ls h = inl (subst HasUnfit (sym (map-append known_record ks ls)) (record { entry = h.entry; there = Contains-append_right (map known_record ks) (map known_record ls) h.entry h.there; unfit = h.unfit }))

-- ---- how keeping ends early

pub puts_first : (o : OldRecords) (ks ls : List KnownRun) (new : List Needed) (f : JobFault) → PutEnds (numbered_in o) ks [] new (Err f) → KeepEnds o (ks ++ ls) (Err f)
puts_first o ks ls new (fault.Refused r) h = h
puts_first o ks ls new fault.Unwritable h = unfit_first o ks ls h
puts_first o ks ls new fault.Memory h = tt

pub puts_second : (o : OldRecords) (ks ls : List KnownRun) (mid new : List Needed) (f : JobFault) → PutEnds (numbered_in o) ls mid new (Err f) → KeepEnds o (ks ++ ls) (Err f)
puts_second o ks ls mid new (fault.Refused r) h = h
puts_second o ks ls mid new fault.Unwritable h = unfit_second o ks ls h
puts_second o ks ls mid new fault.Memory h = tt

pub no_history : (o : OldRecords) (ks : List KnownRun) (xs : List Needed) (f : JobFault) → AreKeptAs (numbered_in o) ks xs → NewEnds (numbered_in o) xs (Err f) → KeepEnds o ks (Err f)
no_history o ks xs (fault.Refused r) are h = h
no_history o ks xs fault.Unwritable are h = cannot_keep o ks xs are h
no_history o ks xs fault.Memory are h = tt
