-- What is written of a history that can be written.
use Rattle.std.proofs.Common.{◌≡◌, ◌∙◌, ℕ, suc, ◌<◌, ◌≤◌, ◌^◌, Bool, true, false, List, [], ◌∷◌, ◌++◌, length, map, Ok, Err, refl, sym, ap, subst, arith}
use Rattle.std.specs.Prelude.{All, nat_le, nat_lt, if◌then◌else◌}
use Rattle.std.proofs.lemmas.Bool.{leb-true, le-ltb, lt-ltb}
use Rattle.std.proofs.lemmas.List.{length-map}
use Rattle.std.proofs.lemmas.List.Elements.{All-cons, All-head, All-nil, All-tail, All-weaker}
use Rattle.record_rules.specs.declared.record.RunRecord.{RunRecord}
use Rattle.history_rules.specs.declared.fault.HistoryFault.TheVariants.{TooLong}
use Rattle.history_rules.specs.Items.{AllBy}
use Rattle.history_rules.specs.Classes.{IsClassBehind, with_class, class_of, number_of}
use Rattle.history_rules.specs.Entries as history
use Rattle.history_rules.specs.Entries.{Used, with_entry}
use Rattle.history_rules.specs.Histories.{Past, IsNextRecord, with_record, no_past, most, classes_behind, contents_bytes, HistoryText, told_length, written}
use Rattle.history_rules.specs.Laws.{AreWritable}
use Rattle.history_rules.proofs.Parts.{and_both}
use Rattle.history_rules.proofs.Written.{written_is_read}
use Rattle.history_file.specs.declared.order.Order.{Order}
use Rattle.history_file.specs.declared.row.Entry.{Entry}
use Rattle.history_file.specs.declared.row.Row.{Row}
use Rattle.history_file.specs.Rows.{Numbered, IsNumbered, IsEntry, IsRow, entry_of, record_of, records_of}
use Rattle.history_file.specs.Writing.{classes_of, used_by, AreEntries, AreRows, AreShort, IsWrittenEntry, IsWrittenRow, contents_under, records_in}

-- ---- what rows ask

pub rows_numbered : (texts classes : ℕ) (rows : List Row) → All (IsRow texts classes) rows → AreRows classes rows
rows_numbered texts classes rows all =
    All-weaker (IsRow texts classes) (λ (r : Row). AreEntries classes r.consulted) (λ r q. All-weaker (IsEntry texts classes) (λ (e : Entry). e.class ≤ classes) (λ e p. p.1) r.consulted q.names) rows all

pub entries_written : (texts : List (List ℕ)) (o : Order) (used : Used) (es : List Entry) → All (IsEntry (length texts) (length (classes_of o))) es → AllBy (history.IsEntry (used_by o)) (with_entry (used_by o)) used (map (entry_of texts (classes_of o)) es) → All (IsWrittenEntry texts o) es
entries_written texts o used [] all form = All-nil (IsWrittenEntry texts o)
entries_written texts o used (e ∷ es) all form =
    let q = All-head (IsEntry (length texts) (length (classes_of o))) e es all in
    let n = number_of (used_by o) (class_of (classes_of o) e.class) in
    let le = and_both (nat_le n (length (used_by o))) (nat_le n (suc used.classes)) form.0.number in
    All-cons (IsWrittenEntry texts o) e es
    (record { name = (q.0, form.0.name); class = q.1; number = leb-true n (length (used_by o)) le.0 })
    (entries_written texts o (with_entry (used_by o) used (entry_of texts (classes_of o) e)) es (All-tail (IsEntry (length texts) (length (classes_of o))) e es all) form.1)

rows_written : (texts : List (List ℕ)) (o : Order) (past : Past) (rows : List Row) → All (IsRow (length texts) (length (classes_of o))) rows → AllBy (IsNextRecord 2 (used_by o)) (with_record (used_by o)) past (records_in texts (classes_of o) rows) → All (IsWrittenRow texts o) rows
rows_written texts o past [] all form = All-nil (IsWrittenRow texts o)
rows_written texts o past (r ∷ rows) all form =
    All-cons (IsWrittenRow texts o) r rows
    (record { row = All-head (IsRow (length texts) (length (classes_of o))) r rows all; used = past.classes; form = form.0.0 })
    (rows_written texts o (with_record (used_by o) past (record_of texts (classes_of o) r)) rows (All-tail (IsRow (length texts) (length (classes_of o))) r rows all) form.1)

short_classes : (before cs : List (List ℕ)) → AllBy IsClassBehind with_class before cs → AreShort cs
short_classes before [] all = All-nil (λ (c : List ℕ). length c < 2 ^ 32)
short_classes before (c ∷ cs) all = All-cons (λ (c : List ℕ). length c < 2 ^ 32) c cs all.0.0 (short_classes (before ++ c ∷ []) cs all.1)

-- What writing asks, once the text isn't too long.
pub record CanWrite (texts : List (List ℕ)) (o : Order) (rs : List Row) : Type 0 where
  pub few : length rs < 2 ^ 32
  pub short : AreShort (used_by o)
  pub rows : All (IsWrittenRow texts o) rs

pub can_write : (profile : ℕ) (texts : List (List ℕ)) (o : Order) (rows : List Row) → profile < 2 ^ 16 → All (IsRow (length texts) (length (classes_of o))) rows → AreWritable (records_in texts (classes_of o) rows) → used_by o ≡ classes_behind [] (records_in texts (classes_of o) rows)
    → length (HistoryText profile (records_in texts (classes_of o) rows)) ≤ most → CanWrite texts o rows
can_write profile texts o rows fits all form used short =
    let rs = records_in texts (classes_of o) rows in
    let h = (written_is_read profile rs fits form short).0 in
    record {
      few = subst (λ (n : ℕ). n < 2 ^ 32) (length-map rows (record_of texts (classes_of o))) h.form.few_records;
      short = subst AreShort (sym used) (short_classes [] (classes_behind [] rs) h.form.classes);
      rows = rows_written texts o no_past rows all (subst (λ (pool : List (List ℕ)). AllBy (IsNextRecord 2 pool) (with_record pool) no_past rs) (sym used) h.form.records);
    }

-- ---- the text

text_is : (profile : ℕ) (texts : List (List ℕ)) (o : Order) (rows : List Row) → used_by o ≡ classes_behind [] (records_in texts (classes_of o) rows) → contents_bytes (contents_under profile (used_by o) (records_in texts (classes_of o) rows)) ≡ HistoryText profile (records_in texts (classes_of o) rows)
text_is profile texts o rows used = ap (λ (pool : List (List ℕ)). contents_bytes (contents_under profile pool (records_in texts (classes_of o) rows))) used

cond_true : {A : Type 0} (b : Bool) (x y : A) → b ≡ true → (if b then x else y) ≡ x
cond_true true x y e = refl
cond_true false x y e = absurd cc

cond_false : {A : Type 0} (b : Bool) (x y : A) → b ≡ false → (if b then x else y) ≡ y
cond_false true x y e = absurd cc
cond_false false x y e = refl

pub text_too_long : (profile len : ℕ) (rs : List RunRecord) → len ≡ told_length (length (HistoryText profile rs)) → most < len → written profile rs ≡ Err (TooLong len)
text_too_long profile len rs e lt =
    let n = length (HistoryText profile rs) in
    let long : most < n = omega (arith, e, lt) in
    cond_true (nat_lt most n) (Err (TooLong (told_length n))) (Ok (HistoryText profile rs)) (lt-ltb most n long) ∙ ap (λ (k : ℕ). Err (TooLong k)) (sym e)

pub text_fits : (profile len : ℕ) (rs : List RunRecord) → len ≡ told_length (length (HistoryText profile rs)) → len ≤ most → (length (HistoryText profile rs) ≤ most) × (written profile rs ≡ Ok (HistoryText profile rs))
text_fits profile len rs e le =
    let n = length (HistoryText profile rs) in
    let short : n ≤ most = omega (arith, e, le) in
    (short, cond_false (nat_lt most n) (Err (TooLong (told_length n))) (Ok (HistoryText profile rs)) (le-ltb most n short))

-- the length of the text of records by number
pub len_is : (profile len : ℕ) (texts : List (List ℕ)) (o : Order) (rows : List Row) → used_by o ≡ classes_behind [] (records_in texts (classes_of o) rows) → len ≡ told_length (length (contents_bytes (contents_under profile (used_by o) (records_in texts (classes_of o) rows)))) → len ≡ told_length (length (HistoryText profile (records_in texts (classes_of o) rows)))
len_is profile len texts o rows used e = e ∙ ap (λ (bytes : List ℕ). told_length (length bytes)) (text_is profile texts o rows used)

-- ---- a history

-- The parts of a history that can be written, and the order of its classes.
pub record Ready (n : Numbered) (ts : List (List ℕ)) (o : Order) (rows : List Row) : Type 0 where
  pub numbered : All (IsRow (length ts) (length (classes_of o))) rows
  pub form : AreWritable (records_in ts (classes_of o) rows)
  pub used : used_by o ≡ classes_behind [] (records_in ts (classes_of o) rows)
  pub same : records_in ts (classes_of o) rows ≡ records_of n

pub ready : (n : Numbered) (ts cs : List (List ℕ)) (o : Order) (rows : List Row) → ts ≡ n.texts → cs ≡ n.classes → rows ≡ n.rows → IsNumbered n → AreWritable (records_of n) → classes_of o ≡ cs → ((texts : List (List ℕ)) → used_by o ≡ classes_behind [] (records_in texts cs rows)) → Ready n ts o rows
ready n ts cs o rows t c r known form classes used =
    let own : Numbered = record { texts = ts; classes = classes_of o; rows = rows } in
    let cs_is : classes_of o ≡ n.classes = classes ∙ c in
    let same : own ≡ n = λ i. record { texts = t i; classes = cs_is i; rows = r i } in
    let k : IsNumbered own = subst IsNumbered (sym same) known in
    record {
      numbered = k.rows;
      form = subst (λ (m : Numbered). AreWritable (records_of m)) (sym same) form;
      used = used ts ∙ ap (λ (p : List (List ℕ)). classes_behind [] (records_in ts p rows)) (sym classes);
      same = ap records_of same;
    }

abbrev pub TextLen : ℕ → ℕ → List (List ℕ) → Order → List Row → Type 0
TextLen profile len ts o rows = len ≡ told_length (length (contents_bytes (contents_under profile (used_by o) (records_in ts (classes_of o) rows))))

pub too_long_of : (profile len : ℕ) (n : Numbered) (ts : List (List ℕ)) (o : Order) (rows : List Row) → Ready n ts o rows → TextLen profile len ts o rows → most < len → written profile (records_of n) ≡ Err (TooLong len)
too_long_of profile len n ts o rows h e lt = ap (written profile) (sym h.same) ∙ text_too_long profile len (records_in ts (classes_of o) rows) (len_is profile len ts o rows h.used e) lt

pub can_write_of : (profile len : ℕ) (n : Numbered) (ts : List (List ℕ)) (o : Order) (rows : List Row) → Ready n ts o rows → TextLen profile len ts o rows → len ≤ most → profile < 2 ^ 16 → CanWrite ts o rows
can_write_of profile len n ts o rows h e le fits = can_write profile ts o rows fits h.numbered h.form h.used (text_fits profile len (records_in ts (classes_of o) rows) (len_is profile len ts o rows h.used e) le).0

pub written_of : (profile len : ℕ) (n : Numbered) (ts : List (List ℕ)) (o : Order) (rows : List Row) (out : List ℕ) → Ready n ts o rows → TextLen profile len ts o rows → len ≤ most → out ≡ contents_bytes (contents_under profile (used_by o) (records_in ts (classes_of o) rows)) → written profile (records_of n) ≡ Ok out
written_of profile len n ts o rows out h e le is =
    ap (written profile) (sym h.same)
    ∙ (text_fits profile len (records_in ts (classes_of o) rows) (len_is profile len ts o rows h.used e) le).1
    ∙ ap (λ (x : List ℕ). Ok x) (sym (text_is profile ts o rows h.used) ∙ sym is)
