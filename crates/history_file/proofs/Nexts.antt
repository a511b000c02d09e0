-- Records one after the other, with their bytes in the file.
use Rattle.std.proofs.Common.{◌≡◌, ◌∙◌, ℕ, ◌+◌, ◌-◌, ◌≤◌, Bool, true, false, List, [], ◌∷◌, ◌++◌, length, map, take, drop, not, Result, Ok, Err, refl, sym, ap, subst, arith}
use Rattle.std.specs.Prelude.{All, if◌then◌else◌}
use Rattle.std.proofs.lemmas.List.{length-append, length-drop, map-append, drop-take, drop-drop, take_at, drop_at}
use Rattle.std.proofs.lemmas.List.Elements.{All-push, All-cons, All-head, All-tail, All-weaker}
use Rattle.codec_rules.specs.Input.{Input, IsBytes}
use Rattle.codec_rules.specs.Sequence.{◌>>=◌}
use Rattle.codec_rules.specs.Spelling.{Takes}
use Rattle.codec_rules.specs.Meets.{Fails}
use Rattle.program_rules.specs.Names.{is_listed}
use Rattle.record_rules.specs.declared.record.RunRecord.{RunRecord}
use Rattle.history_rules.specs.declared.fault.HistoryFault.{HistoryFault}
use Rattle.history_rules.specs.declared.fault.HistoryFault.TheVariants.{HistoryBad, Memory}
use Rattle.history_rules.specs.Reading.{record_at}
use Rattle.history_rules.specs.Spelling.{record_bytes, IsRecord}
use Rattle.history_rules.specs.Histories.{Past, is_other, next_record_at, used_behind}
use Rattle.history_rules.specs.Laws.{AreDifferent}
use Rattle.history_rules.proofs.Records.{record_codec}
use Rattle.history_file.specs.declared.row.Row.{Row}
use Rattle.history_file.specs.declared.records.Found.{Found}
use Rattle.history_file.specs.declared.texts.Texts.{Texts}
use Rattle.history_file.specs.declared.slices.Slices.{Slices}
use Rattle.history_file.specs.Rows.{record_of, IsRow, IsEntry}
use Rattle.history_file.specs.Texts.{texts_of, Grown, HasRoom, HasSlices}
use Rattle.history_file.specs.Reading.{RecordTold}
use Rattle.history_file.specs.Files.{IsIn, HasFound, NextFound}
use Rattle.history_file.proofs.Equal.{other_by_bytes}
use Rattle.history_file.proofs.Counted.{used_within}
use Rattle.history_file.proofs.Halfway.{not_fewer, entries_later}
use Rattle.history_file.proofs.Parts.{name_later, outcome_later, end_within}

-- what was taken of a file stands between two places of it
pub taken_in : (file taken : List ℕ) (from to : Input) → IsIn file from → Takes from taken to → IsIn file to × (drop from.at (take to.at file) ≡ taken)
taken_in file taken from to h t =
    let place : to.at ≡ from.at + length taken = t.place in
    let parts : from.bytes ≡ taken ++ to.bytes = t.parts in
    let left : length from.bytes ≡ length file - from.at = ap length h.rest ∙ length-drop from.at file in
    let sum : length from.bytes ≡ length taken + length to.bytes = ap length parts ∙ length-append taken to.bytes in
    let w = h.within in (
      record {
        within = omega (arith, place, left, sum, w);
        rest =
            sym (drop_at taken to.bytes (length taken) refl)
            ∙ ap (drop (length taken)) (sym parts ∙ h.rest)
            ∙ drop-drop (length taken) from.at file
            ∙ ap (λ (n : ℕ). drop n file) (sym place);
      },
      ap (λ (n : ℕ). drop from.at (take n file)) place
          ∙ drop-take from.at (length taken) file
          ∙ ap (take (length taken)) (sym h.rest ∙ parts)
          ∙ take_at taken to.bytes (length taken) refl,
    )

-- ---- rows under names that grow

pub row_later : (pool : List (List ℕ)) (a b : Texts) (r : Row) → Grown a b → IsRow (length (texts_of a)) (length pool) r → record_of (texts_of b) pool r ≡ record_of (texts_of a) pool r
row_later pool a b r g w =
    let c = name_later a b r.test_class g w.class in
    let m = name_later a b r.test_method g w.method in
    let o = outcome_later a b r.end g w.thrown in
    let es = entries_later pool a b r.consulted g w.names in
    λ i. record { test_class = c i; test_method = m i; heap = r.heap; depth = r.depth; limit = r.limit; outcome = o i; steps = r.steps; consulted = es i; reached = r.reached }

pub rows_later : (pool : List (List ℕ)) (a b : Texts) (rs : List Row) → Grown a b → All (IsRow (length (texts_of a)) (length pool)) rs → map (record_of (texts_of b) pool) rs ≡ map (record_of (texts_of a) pool) rs
rows_later pool a b [] g all = refl
rows_later pool a b (r ∷ rs) g all =
    let x = row_later pool a b r g (All-head (IsRow (length (texts_of a)) (length pool)) r rs all) in
    let xs = rows_later pool a b rs g (All-tail (IsRow (length (texts_of a)) (length pool)) r rs all) in
    λ i. x i ∷ xs i

pub row_within : (pool : List (List ℕ)) (a b : Texts) → Grown a b → (r : Row) → IsRow (length (texts_of a)) (length pool) r → IsRow (length (texts_of b)) (length pool) r
row_within pool a b g r w =
    let le = not_fewer a b g in
    let c = w.class in
    let m = w.method in
    record {
      class = omega (arith, c, le);
      method = omega (arith, m, le);
      thrown = end_within (length (texts_of a)) (length (texts_of b)) r.end le w.thrown;
      names = All-weaker (IsEntry (length (texts_of a)) (length pool)) (IsEntry (length (texts_of b)) (length pool)) (λ e q. (let lt = q.0 in omega (arith, lt, le), q.1)) r.consulted w.names;
    }

-- ---- one record more

passed : {A : Type 0} (b : Bool) (x : A) (fault : HistoryFault) → b ≡ true → (if b then Ok x else Err fault) ≡ Ok x
passed true x fault e = refl
passed false x fault e = absurd cc

refused : {A : Type 0} (b : Bool) (x : A) (fault : HistoryFault) → b ≡ false → (if b then Ok x else Err fault) ≡ Err fault
refused true x fault e = absurd cc
refused false x fault e = refl

pub next_found : (version : ℕ) (pool : List (List ℕ)) (stamp : ℕ) (past : Past) (old new : Found) (file : List ℕ) (from to : Input) (row : Row) (before : ℕ) → AreDifferent pool → IsBytes from.bytes → IsIn file from → HasFound version pool before past old
    → record_at version pool old.used from ≡ Ok (record_of (texts_of new.texts) pool row, to) → RecordTold pool old.used new.used stamp old.texts new.texts row
    → ((xs : List (List ℕ)) → HasSlices old.seen xs → (true ≡ not (is_listed (drop from.at (take to.at file)) xs)) × HasSlices new.seen (drop from.at (take to.at file) ∷ xs))
    → new.rows ≡ old.rows ++ row ∷ [] → HasRoom new.texts to → NextFound version pool stamp past old new file from to
next_found version pool stamp past old new file from to row before different bytes place h read told seen rows room =
    let r : RunRecord = record_of (texts_of new.texts) pool row in
    let read2 : record_at version pool past.classes from ≡ Ok (r, to) = ap (λ (used : ℕ). record_at version pool used from) h.used ∙ read in
    let t = (record_codec version pool past.classes different).takes from r to bytes read2 in
    let in_file = taken_in file (record_bytes version pool r) from to place t.0 in
    let s = seen (map (record_bytes version pool) past.records) h.seen in
    let other : is_other past.records r ≡ true =
    other_by_bytes version pool r past.records different (past.classes, t.1) h.form
    ∙ ap (λ (x : List ℕ). not (is_listed x (map (record_bytes version pool) past.records))) (sym in_file.1) ∙ sym s.0 in
    record {
      next = r;
      read = ap (λ (x : Result (RunRecord × Input) HistoryFault). x >>= λ (y : RunRecord × Input). if is_other past.records y.0 then Ok y else Err (HistoryBad from.at)) read2 ∙ passed (is_other past.records r) (r, to) (HistoryBad from.at) other;
      rows =
          ap (map (record_of (texts_of new.texts) pool)) rows
          ∙ map-append (record_of (texts_of new.texts) pool) old.rows (row ∷ [])
          ∙ ap (λ (xs : List RunRecord). xs ++ r ∷ []) (rows_later pool old.texts new.texts old.rows told.grown h.rows);
      found = record {
        used = ap (λ (u : ℕ). used_behind pool u r.consulted) h.used ∙ sym told.used;
        within = subst (λ (n : ℕ). n ≤ length pool) (sym told.used) (used_within pool (texts_of new.texts) old.used row.consulted different h.within told.row.names);
        seen = subst (λ (x : List ℕ). HasSlices new.seen (x ∷ map (record_bytes version pool) past.records)) in_file.1 s.1;
        form = All-cons (λ (r2 : RunRecord). (used : ℕ) × IsRecord version pool used r2) r past.records (past.classes, t.1) h.form;
        texts = told.grown.known;
        numbers = told.numbers;
        marked = told.marked;
        rows =
            subst (λ (rs : List Row). All (IsRow (length (texts_of new.texts)) (length pool)) rs) (sym rows)
            (All-push (IsRow (length (texts_of new.texts)) (length pool)) old.rows row (All-weaker (IsRow (length (texts_of old.texts)) (length pool)) (IsRow (length (texts_of new.texts)) (length pool)) (row_within pool old.texts new.texts told.grown) old.rows h.rows) told.row);
      };
      place = in_file.0;
      room = room;
    }

-- the record has a fault
pub record_fails : (version : ℕ) (pool : List (List ℕ)) (past : Past) (used : ℕ) (from : Input) (fault : HistoryFault) → past.classes ≡ used → Fails Memory fault (record_at version pool used from) → Fails Memory fault (next_record_at version pool past from)
record_fails version pool past used from fault e fails = λ known.
    ap (λ (x : Result (RunRecord × Input) HistoryFault). x >>= λ (y : RunRecord × Input). if is_other past.records y.0 then Ok y else Err (HistoryBad from.at)) (ap (λ (u : ℕ). record_at version pool u from) e ∙ fails known)

-- it is one of those before
pub record_repeats : (version : ℕ) (pool : List (List ℕ)) (past : Past) (old : Found) (new_seen : Slices) (file : List ℕ) (from to : Input) (r : RunRecord) (stamp : ℕ) → AreDifferent pool → IsBytes from.bytes → IsIn file from → HasFound version pool stamp past old
    → record_at version pool old.used from ≡ Ok (r, to)
    → ((xs : List (List ℕ)) → HasSlices old.seen xs → (false ≡ not (is_listed (drop from.at (take to.at file)) xs)) × HasSlices new_seen (drop from.at (take to.at file) ∷ xs))
    → Fails Memory (HistoryBad from.at) (next_record_at version pool past from)
record_repeats version pool past old new_seen file from to r stamp different bytes place h read seen = λ known.
    let read2 : record_at version pool past.classes from ≡ Ok (r, to) = ap (λ (used : ℕ). record_at version pool used from) h.used ∙ read in
    let t = (record_codec version pool past.classes different).takes from r to bytes read2 in
    let in_file = taken_in file (record_bytes version pool r) from to place t.0 in
    let s = seen (map (record_bytes version pool) past.records) h.seen in
    let other : is_other past.records r ≡ false =
    other_by_bytes version pool r past.records different (past.classes, t.1) h.form
    ∙ ap (λ (x : List ℕ). not (is_listed x (map (record_bytes version pool) past.records))) (sym in_file.1) ∙ sym s.0 in
    ap (λ (x : Result (RunRecord × Input) HistoryFault). x >>= λ (y : RunRecord × Input). if is_other past.records y.0 then Ok y else Err (HistoryBad from.at)) read2 ∙ refused (is_other past.records r) (r, to) (HistoryBad from.at) other

-- where a record ends in its file
pub record_within : (version : ℕ) (pool : List (List ℕ)) (used : ℕ) (file : List ℕ) (from to : Input) (r : RunRecord) → AreDifferent pool → IsBytes from.bytes → IsIn file from → record_at version pool used from ≡ Ok (r, to) → (from.at ≤ to.at) × (to.at ≤ length file)
record_within version pool used file from to r different bytes place read =
    let t = (record_codec version pool used different).takes from r to bytes read in
    let in_file = taken_in file (record_bytes version pool r) from to place t.0 in
    let p = t.0.place in
    (omega (arith, p), in_file.0.within)

-- what a set says of a slice
pub seen_slice : (old new : Slices) (x y : List ℕ) (fresh b : Bool) → x ≡ y → fresh ≡ b → ((xs : List (List ℕ)) → HasSlices old xs → (fresh ≡ not (is_listed x xs)) × HasSlices new (x ∷ xs)) → (xs : List (List ℕ)) → HasSlices old xs → (b ≡ not (is_listed y xs)) × HasSlices new (y ∷ xs)
seen_slice old new x y fresh b e f h xs has =
    subst (λ (z : List ℕ). (b ≡ not (is_listed z xs)) × HasSlices new (z ∷ xs)) e
    (subst (λ (c : Bool). (c ≡ not (is_listed x xs)) × HasSlices new (x ∷ xs)) f (h xs has))
