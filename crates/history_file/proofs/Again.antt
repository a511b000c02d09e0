-- What is read of a history is written as it was.
use Rattle.std.proofs.Common.{◌≡◌, ◌∙◌, ℕ, zero, suc, ◌+◌, ◌<◌, ◌≤◌, ◌^◌, Bool, true, false, List, [], ◌∷◌, ◌++◌, length, Option, Some, None, Result, Ok, Err, refl, sym, ap, subst, arith}
use Rattle.std.specs.Prelude.{◌==◌, ◌||◌, filter, not, nat_lt, nat_le, slice_get, if◌then◌else◌}
use Rattle.std.specs.List.{list_any}
use Rattle.std.proofs.lemmas.Bool.{leb-true, le-ltb, eq-eqb, eqb-true}
use Rattle.std.proofs.lemmas.Option.{same_Some}
use Rattle.codec_rules.specs.Input.{IsBytes}
use Rattle.codec_rules.specs.Sequence.{◌>>=◌}
use Rattle.class_model.specs.declared.outcome.Outcome.{Outcome}
use Rattle.class_model.specs.declared.outcome.Outcome.TheVariants.{Passed, Failed, TimedOut, MemoryOut}
use Rattle.record_rules.specs.declared.record.RunRecord.{RunRecord}
use Rattle.record_rules.specs.Histories.{same_record}
use Rattle.history_rules.specs.declared.fault.HistoryFault.{HistoryFault}
use Rattle.history_rules.specs.declared.fault.HistoryFault.TheVariants.{TooLong}
use Rattle.history_rules.specs.Items.{AllBy}
use Rattle.history_rules.specs.Classes.{IsClassBehind, with_class, number_of, place_of}
use Rattle.history_rules.specs.Entries.{Entry, Used, IsEntry, with_entry, is_number}
use Rattle.history_rules.specs.Spelling.{IsOutcome, IsRecord}
use Rattle.history_rules.specs.Histories.{Contents, contents_of, contents_bytes, contents_with, records_under, told_length, most, Past, IsNextRecord, with_record, no_past, is_failed, is_other, is_version, IsHistory, HistoryText}
use Rattle.history_rules.specs.Laws.{AreDifferent, AreWritable, IsOther, before_next, IsFormed, IsNewEntry, with_name, HasShortClass}
use Rattle.history_rules.proofs.Pools.{at_place}
use Rattle.history_rules.proofs.Parts.{and_both}
use Rattle.history_rules.proofs.Wholes.{histories}
use Rattle.history_file.specs.Laws.{ReadIsWritten}

short_at : (before pool : List (List ℕ)) (k : ℕ) (x : List ℕ) → AllBy IsClassBehind with_class before pool → slice_get pool k ≡ Some x → length x < 2 ^ 32
short_at before [] k x all e = absurd cc
short_at before (c ∷ cs) zero x all e = subst (λ (z : List ℕ). length z < 2 ^ 32) (same_Some c x e) all.0.0
short_at before (c ∷ cs) (suc k) x all e = short_at (before ++ c ∷ []) cs k x all.1 e

short_class : (pool : List (List ℕ)) (used : ℕ) (o : Option (List ℕ)) → AreDifferent pool → is_number pool used (number_of pool o) ≡ true → HasShortClass o
short_class pool used None different h = tt
short_class pool used (Some x) different h =
    let within : suc (place_of pool x) ≤ length pool = leb-true (suc (place_of pool x)) (length pool) (and_both (nat_le (suc (place_of pool x)) (length pool)) _ h).0 in
    short_at [] pool (place_of pool x) x different (at_place pool x (omega (arith, within)))

entries_formed : (pool : List (List ℕ)) (used : Used) (es : List Entry) → AreDifferent pool → AllBy (IsEntry pool) (with_entry pool) used es → AllBy IsNewEntry with_name used.names es
entries_formed pool used [] different all = tt
entries_formed pool used (e ∷ es) different all = ((all.0.name, all.0.fresh, short_class pool used.classes e.1 different all.0.number), entries_formed pool (with_entry pool used e) es different all.1)

record_formed : (pool : List (List ℕ)) (used : ℕ) (r : RunRecord) → AreDifferent pool → IsRecord 2 pool used r → IsFormed r
record_formed pool used r different q = record {
  class = q.class;
  method = q.method;
  heap = q.heap;
  depth = q.depth;
  limit = q.limit;
  outcome = q.outcome;
  steps = q.steps;
  within = q.within;
  few_names = q.few_names;
  names = entries_formed pool (record { classes = used; names = [] }) r.consulted different q.names;
  few_lines = q.few_lines;
  lines = q.lines;
}

records_formed : (pool : List (List ℕ)) (past : Past) (rs : List RunRecord) → AreDifferent pool → AllBy (IsNextRecord 2 pool) (with_record pool) past rs → AllBy IsOther before_next past.records rs
records_formed pool past [] different all = tt
records_formed pool past (r ∷ rs) different all = ((record_formed pool past.classes r different all.0.0, all.0.1), records_formed pool (with_record pool past r) rs different all.1)

under_own : (a b : Bool) (xs ys : List RunRecord) → a ≡ true → b ≡ false → (if a then (if b then xs else ys) else []) ≡ ys
under_own true true xs ys e f = absurd cc
under_own true false xs ys e f = refl
under_own false b xs ys e f = absurd cc

not_long : (b : Bool) (text : List ℕ) (fault : HistoryFault) → b ≡ false → (if b then Err fault else Ok text) ≡ Ok text
not_long true text fault e = absurd cc
not_long false text fault e = refl

pub read_is_written : ReadIsWritten
read_is_written bytes c isb e v =
    let t = histories.takes bytes c isb e in
    let own : c ≡ contents_with 2 c.profile c.records = histories.classes c t.0 ∙ ap (λ (n : ℕ). contents_with n c.profile c.records) v in
    let text : HistoryText c.profile c.records ≡ bytes = sym (t.1 ∙ ap contents_bytes own) in
    let short : length (HistoryText c.profile c.records) ≤ most = subst (λ (n : ℕ). n ≤ most) (ap (λ (d : Contents). length (contents_bytes d)) own) t.0.short in
    record {
      read = ap (λ (x : Result Contents HistoryFault). x >>= λ (d : Contents). Ok (records_under c.profile d)) e
          ∙ ap (λ (rs : List RunRecord). Ok rs) (under_own (c.profile == c.profile) (c.version == 1) (filter (λ r. not (is_failed r.outcome)) c.records) c.records (eq-eqb c.profile c.profile refl) (subst (λ (n : ℕ). n == 1 ≡ false) (sym v) refl));
      form = records_formed c.classes no_past c.records t.0.form.classes (subst (λ (n : ℕ). AllBy (IsNextRecord n c.classes) (with_record c.classes) no_past c.records) v t.0.form.records);
      again =
          not_long (nat_lt most (length (HistoryText c.profile c.records))) (HistoryText c.profile c.records) (TooLong (told_length (length (HistoryText c.profile c.records)))) (le-ltb most (length (HistoryText c.profile c.records)) short)
          ∙ ap (λ (x : List ℕ). Ok x) text;
    }

-- ---- what is read can be written

failed_or : (v : ℕ) (o : Outcome) → is_failed o ≡ false → IsOutcome v o → IsOutcome 2 o
failed_or v Passed e q = tt
failed_or v (Failed cause) e q = absurd cc
failed_or v TimedOut e q = tt
failed_or v MemoryOut e q = tt

kept_formed : (v : ℕ) (pool : List (List ℕ)) (used : ℕ) (r : RunRecord) → is_failed r.outcome ≡ false → AreDifferent pool → IsRecord v pool used r → IsFormed r
kept_formed v pool used r e different q = record {
  class = q.class;
  method = q.method;
  heap = q.heap;
  depth = q.depth;
  limit = q.limit;
  outcome = failed_or v r.outcome e q.outcome;
  steps = q.steps;
  within = q.within;
  few_names = q.few_names;
  names = entries_formed pool (record { classes = used; names = [] }) r.consulted different q.names;
  few_lines = q.few_lines;
  lines = q.lines;
}

-- what is none of these is none of those
abbrev Fewer : List RunRecord → List RunRecord → Type 0
Fewer more fewer = (x : RunRecord) → is_other more x ≡ true → is_other fewer x ≡ true

or_later : (a b : Bool) → not (a || b) ≡ true → (not a ≡ true) × (not b ≡ true)
or_later true b e = absurd cc
or_later false b e = (refl, e)

or_both : (a b : Bool) → not a ≡ true → not b ≡ true → not (a || b) ≡ true
or_both true b e f = absurd cc
or_both false b e f = f

fewer_drops : (r : RunRecord) (more fewer : List RunRecord) → Fewer more fewer → Fewer (r ∷ more) fewer
fewer_drops r more fewer h x e = h x (or_later (same_record x r) (list_any (same_record x) more) e).1

fewer_keeps : (r : RunRecord) (more fewer : List RunRecord) → Fewer more fewer → Fewer (r ∷ more) (r ∷ fewer)
fewer_keeps r more fewer h x e =
    let p = or_later (same_record x r) (list_any (same_record x) more) e in
    or_both (same_record x r) (list_any (same_record x) fewer) p.0 (h x p.1)

kept_all : (v : ℕ) (pool : List (List ℕ)) (past : Past) (before : List RunRecord) (rs : List RunRecord) → Fewer past.records before → AreDifferent pool → AllBy (IsNextRecord v pool) (with_record pool) past rs → AllBy IsOther before_next before (filter (λ r. not (is_failed r.outcome)) rs)
kept_all v pool past before [] h different all = tt
kept_all v pool past before (r ∷ rs) h different all = by (is_failed r.outcome) refl (λ others fewer. kept_all v pool (with_record pool past r) others rs fewer different all.1)
  where
    by : (b : Bool) → is_failed r.outcome ≡ b → ((others : List RunRecord) → Fewer (r ∷ past.records) others → AllBy IsOther before_next others (filter (λ x. not (is_failed x.outcome)) rs)) → AllBy IsOther before_next before (if not b then r ∷ filter (λ x. not (is_failed x.outcome)) rs else filter (λ x. not (is_failed x.outcome)) rs)
    by true e rest = rest before (fewer_drops r past.records before h)
    by false e rest = ((kept_formed v pool past.classes r e different all.0.0, h r all.0.1), rest (r ∷ before) (fewer_keeps r past.records before h))

second_version : (v : ℕ) → is_version v ≡ true → v == 1 ≡ false → v ≡ 2
second_version v e f = by (v == 1) (v == 2) refl e f
  where
    by : (a b : Bool) → v == 2 ≡ b → a || b ≡ true → a ≡ false → v ≡ 2
    by true b e h f = absurd cc
    by false true e h f = eqb-true v 2 e
    by false false e h f = absurd cc

kept_version : (c : Contents) (b : Bool) → c.version == 1 ≡ b → IsHistory c → AreWritable (if b then filter (λ r. not (is_failed r.outcome)) c.records else c.records)
kept_version c true e h = kept_all c.version c.classes no_past [] c.records (λ x q. refl) h.form.classes h.form.records
kept_version c false e h =
    records_formed c.classes no_past c.records h.form.classes (subst (λ (n : ℕ). AllBy (IsNextRecord n c.classes) (with_record c.classes) no_past c.records) (second_version c.version h.form.version e) h.form.records)

kept_profile : (c : Contents) (b : Bool) → IsHistory c → AreWritable (if b then (if c.version == 1 then filter (λ r. not (is_failed r.outcome)) c.records else c.records) else [])
kept_profile c true h = kept_version c (c.version == 1) refl h
kept_profile c false h = tt

pub read_is_writable : (bytes : List ℕ) (profile : ℕ) (c : Contents) → IsBytes bytes → contents_of bytes ≡ Ok c → AreWritable (records_under profile c)
read_is_writable bytes profile c isb e = kept_profile c (c.profile == profile) (histories.takes bytes c isb e).0
