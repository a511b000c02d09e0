-- Classes and records, read one after the other.
use Rattle.std.proofs.Common.{◌≡◌, ◌∙◌, ℕ, suc, ◌+◌, ◌-◌, ◌<◌, ◌≤◌, ◌^◌, Bor, Bool, true, false, List, [], ◌∷◌, ◌++◌, length, map, max, Result, Ok, Err, refl, sym, ap, ap₂, subst, append_assoc, append-nil, arith}
use Rattle.std.specs.Prelude.{◌||◌, All, slice_index, if◌then◌else◌}
use Rattle.std.specs.List.{flat_map}
use Rattle.std.specs.Int.{w32, byte_len, to_be_bytes}
use Rattle.std.proofs.lemmas.List.{length-append, length-map, map-append}
use Rattle.std.proofs.lemmas.List.Elements.{All-nil, All-head, All-tail}
use Rattle.std.proofs.lemmas.Grind.{flat_map-append}
use Rattle.codec_rules.specs.Input.{Input}
use Rattle.codec_rules.specs.Reading.{number_at, bytes_at, with_front}
use Rattle.codec_rules.specs.Sequence.{or_fault}
use Rattle.codec_rules.specs.Meets.{Fails}
use Rattle.codec_rules.proofs.Numbers.{wide32}
use Rattle.codec_rules.proofs.Sequence.{bind_ok, ok_is}
use Rattle.program_rules.specs.Names.{same, is_listed}
use Rattle.record_rules.specs.declared.record.RunRecord.{RunRecord}
use Rattle.history_rules.specs.declared.fault.HistoryFault.{HistoryFault}
use Rattle.history_rules.specs.declared.fault.HistoryFault.TheVariants.{HistoryBad, Memory}
use Rattle.history_rules.specs.Items.{u4_at, take_at, where_at, many_by, known_by, AllBy}
use Rattle.history_rules.specs.Classes.{class_at, class_bytes, is_other_class, with_class, class_of, number_of, IsClassBehind}
use Rattle.history_rules.specs.Histories.{Past, next_record_at, with_record, no_past, used_behind}
use Rattle.history_rules.specs.Laws.{AreDifferent}
use Rattle.history_rules.proofs.Pools.{number_class}
use Rattle.history_file.specs.declared.row.Entry.{Entry}
use Rattle.history_file.specs.declared.records.Found.{Found}
use Rattle.history_file.specs.declared.slices.Slices.{Slices}
use Rattle.history_file.specs.declared.texts.Texts.{Texts}
use Rattle.history_file.specs.declared.row.Row.{Row}
use Rattle.history_file.specs.Rows.{IsEntry, IsRow, record_of}
use Rattle.history_rules.specs.Spelling.{IsRecord}
use Rattle.history_file.specs.Reading.{entries_of}
use Rattle.history_file.specs.Texts.{AreTexts, HasRoom, HasSlices, Marked, texts_of}
use Rattle.history_file.specs.Files.{IsIn, HasFound, NextFound, AreFound, AreClasses, found_records}
use Rattle.history_file.proofs.Loops.{goes_by, ends_by, is_done_by}
use Rattle.history_file.proofs.Halfway.{front_none}
use Rattle.history_file.proofs.Marks.{marked_next}
use Rattle.history_file.proofs.Room.{number_moves, bytes_taken, told_number}

-- ---- classes

-- a class that was read takes its bytes from the front
class_moves : (before : List (List ℕ)) (i j : Input) (c : List ℕ) → class_at before i ≡ Ok (c, j) → length (class_bytes c) + length j.bytes ≡ length i.bytes
unfolding class_at
class_moves before i j c e =
    let a = bind_ok (u4_at i) (λ len. where_at (take_at len.0) (is_other_class before) len.1) (c, j) e in
    let b = bind_ok (take_at a.0.0 a.0.1) (λ x. if is_other_class before x.0 then Ok x else Err (HistoryBad a.0.1.at)) (c, j) a.2 in
    let same_pair : b.0 ≡ (c, j) = passed_test (is_other_class before b.0.0) b.0 (c, j) (HistoryBad a.0.1.at) b.2 in
    let taken : bytes_at a.0.0 a.0.1 ≡ Ok (c, j) = told_bytes a.0.0 a.0.1 j c (b.1 ∙ ap (λ (x : List ℕ × Input). Ok x) same_pair) in
    let m = number_moves w32 i a.0.1 a.0.0 (told_number w32 i a.0.1 a.0.0 a.1) in
    let n = bytes_taken a.0.0 a.0.1 j c taken in
    let w : byte_len w32 ≡ 4 = refl in
    let h = m.1 in
    let k = m.0.end in
    let l = n.0 in
    let o = n.1 in
    let p = length-append (to_be_bytes w32 (length c)) c in
    let q = wide32.len (length c) in
    omega (arith, w, h, k, l, o, p, q)
  where
    passed_test : {A : Type 0} (b : Bool) (x y : A) (fault : HistoryFault) → (if b then Ok x else Err fault) ≡ Ok y → x ≡ y
    passed_test true x y fault e = ok_is {F = HistoryFault} x y e
    passed_test false x y fault e = absurd cc

    told_bytes : (n : ℕ) (i j : Input) (xs : List ℕ) → or_fault HistoryBad (bytes_at n i) ≡ Ok (xs, j) → bytes_at n i ≡ Ok (xs, j)
    told_bytes n i j xs e = by (bytes_at n i) e
      where
        by : (r : Result (List ℕ × Input) ℕ) → or_fault HistoryBad r ≡ Ok (xs, j) → r ≡ Ok (xs, j)
        by (Ok x) e = ap (λ (y : List ℕ × Input). Ok y) (ok_is {F = HistoryFault} x (xs, j) e)
        by (Err at) e = absurd cc

listed_turned : (q x : List ℕ) (xs : List (List ℕ)) → (same x q || is_listed q xs) ≡ is_listed q (xs ++ x ∷ [])
listed_turned q x [] = refl
listed_turned q x (y ∷ ys) = turn (same x q) (same y q) (is_listed q ys) ∙ ap (λ (b : Bool). same y q || b) (listed_turned q x ys)
  where
    turn : (a b c : Bool) → (a || (b || c)) ≡ (b || (a || c))
    turn true true c = refl
    turn true false c = refl
    turn false b c = refl

pub pushed_behind : (P : List (List ℕ) → List ℕ → Type 0) (before ts : List (List ℕ)) (x : List ℕ) → AllBy P with_class before ts → P (before ++ ts) x → AllBy P with_class before (ts ++ x ∷ [])
pushed_behind P before [] x all q = (subst (λ (l : List (List ℕ)). P l x) (append-nil before) q, tt)
pushed_behind P before (t ∷ ts) x all q = (all.0, pushed_behind P (before ++ t ∷ []) ts x all.1 (subst (λ (l : List (List ℕ)). P l x) (sym (append_assoc before (t ∷ []) ts)) q))

abbrev pub slices_of : List (Bor (List ℕ)) → List (List ℕ)
slices_of xs = map (λ s. s.now) xs

-- So many classes are read.
pub record HalfClasses (count i : ℕ) (from to : Input) (seen : Slices) (classes : List (Bor (List ℕ))) : Type 0 where
  pub total : with_front (slices_of classes) (many_by class_at with_class (slices_of classes) (count - i) to) ≡ many_by class_at with_class [] count from
  pub has : HasSlices seen (slices_of classes)
  pub different : AreDifferent (slices_of classes)
  pub many : length (slices_of classes) ≡ i
  pub within : i ≤ count
  pub long : length (flat_map class_bytes (slices_of classes)) + length to.bytes ≡ length from.bytes

none_before : (n : ℕ) → 0 + n ≡ n
none_before n = omega arith

pub classes_begin : (count : ℕ) (from : Input) (seen : Slices) → HasSlices seen [] → HalfClasses count 0 from from seen []
classes_begin count from seen h = record {
  total =
      (let z : count - 0 ≡ count = omega arith in
      ap (λ (n : ℕ). with_front {A = List ℕ} [] (many_by class_at with_class [] n from)) z ∙ front_none (many_by class_at with_class [] count from));
  has = h;
  different = tt;
  many = refl;
  within = omega arith;
  long = none_before (length from.bytes);
}

pub class_read : (count i : ℕ) (from to after : Input) (seen new : Slices) (classes more : List (Bor (List ℕ))) (c : Bor (List ℕ)) → HalfClasses count i from to seen classes → i < count → more ≡ classes ++ c ∷ [] → class_at (slices_of classes) to ≡ Ok (c.now, after)
    → IsClassBehind (slices_of classes) c.now → HasSlices new (c.now ∷ slices_of classes) → HalfClasses count (i + 1) from after new more
class_read count i from to after seen new classes more c h lt pushed read other has =
    let now : slices_of more ≡ slices_of classes ++ c.now ∷ [] = ap slices_of pushed ∙ map-append (λ (s : Bor (List ℕ)). s.now) classes (c ∷ []) in
    let flat : flat_map class_bytes (slices_of more) ≡ flat_map class_bytes (slices_of classes) ++ class_bytes c.now =
    ap (flat_map class_bytes) now ∙ flat_map-append class_bytes (slices_of classes) (c.now ∷ []) ∙ ap (λ (x : List ℕ). flat_map class_bytes (slices_of classes) ++ x) (append-nil (class_bytes c.now)) in
    record {
      total =
          ap₂ (λ (xs ys : List (List ℕ)). with_front xs (many_by class_at with_class ys (count - (i + 1)) after)) now now
          ∙ goes_by class_at with_class (slices_of classes) count i (slices_of classes) to c.now after (many_by class_at with_class [] count from) lt read h.total;
      has = λ q. has q ∙ listed_turned q c.now (slices_of classes) ∙ ap (is_listed q) (sym now);
      different = subst AreDifferent (sym now) (pushed_behind IsClassBehind [] (slices_of classes) c.now h.different other);
      many = ap length now ∙ length-append (slices_of classes) (c.now ∷ []) ∙ ap (λ (n : ℕ). n + 1) h.many;
      within = omega (arith, lt);
      long =
          (let m = class_moves (slices_of classes) to after c.now read in
          let l = h.long in
          let f = ap length flat ∙ length-append (flat_map class_bytes (slices_of classes)) (class_bytes c.now) in
          omega (arith, m, l, f));
    }

pub class_fails : (count i : ℕ) (from to : Input) (seen : Slices) (classes : List (Bor (List ℕ))) (fault : HistoryFault) → HalfClasses count i from to seen classes → i < count → Fails Memory fault (class_at (slices_of classes) to) → Fails Memory fault (many_by class_at with_class [] count from)
class_fails count i from to seen classes fault h lt fails =
    ends_by Memory fault class_at with_class (slices_of classes) count i (slices_of classes) to (many_by class_at with_class [] count from) lt fails h.total

pub classes_read : (count i : ℕ) (from to : Input) (seen : Slices) (classes : List (Bor (List ℕ))) → HalfClasses count i from to seen classes → count ≤ i → count < 2 ^ 32 → (many_by class_at with_class [] count from ≡ Ok (slices_of classes, to)) × AreClasses from to (slices_of classes)
classes_read count i from to seen classes h le fits = (
  is_done_by class_at with_class (slices_of classes) count i (slices_of classes) to (many_by class_at with_class [] count from) le h.total,
  record {
    different = h.different;
    few = (let n = h.many in let w = h.within in omega (arith, n, w, fits));
    long = (let l = h.long in omega (arith, l));
  },
)

-- a count was read before them
pub counted_long : (from to after : Input) (n : ℕ) (classes : List (List ℕ)) → number_at w32 from ≡ Ok (n, to) → AreClasses to after classes → AreClasses from after classes
counted_long from to after n classes e h = record {
  different = h.different;
  few = h.few;
  long =
      (let m = number_moves w32 from to n e in
      let a = m.1 in
      let b = m.0.end in
      let w : byte_len w32 ≡ 4 = refl in
      let l = h.long in
      omega (arith, a, b, w, l));
}

-- ---- records

known_push : (pool : List (List ℕ)) (past : Past) (rs : List RunRecord) (r : RunRecord) → known_by (with_record pool) past (rs ++ r ∷ []) ≡ with_record pool (known_by (with_record pool) past rs) r
known_push pool past [] r = refl
known_push pool past (x ∷ rs) r = known_push pool (with_record pool past x) rs r

-- So many records are read.
pub record HalfFound (version : ℕ) (pool : List (List ℕ)) (count i : ℕ) (file : List ℕ) (from to : Input) (f : Found) : Type 0 where
  pub total :
      with_front (found_records pool f) (many_by (next_record_at version pool) (with_record pool) (known_by (with_record pool) no_past (found_records pool f)) (count - i) to)
      ≡ many_by (next_record_at version pool) (with_record pool) no_past count from
  pub found : HasFound version pool i (known_by (with_record pool) no_past (found_records pool f)) f
  pub place : IsIn file to
  pub room : HasRoom f.texts to
  pub many : length f.rows ≡ i
  pub within : i ≤ count

none_marked : (ms : List ℕ) (k : ℕ) → length ms ≡ 0 → slice_index ms k ≡ 0
none_marked [] k e = refl
none_marked (m ∷ ms) k e = absurd (omega (arith, e))

pub marked_none : (t : Texts) → AreTexts t → texts_of t ≡ [] → Marked t 0 []
marked_none t h e =
    let none : length t.marks.items ≡ 0 = h.marks ∙ ap length e in
    let long : length (texts_of t) ≡ 0 = ap length e in
    record {
      low = λ k. (let z = none_marked t.marks.items k none in omega (arith, z));
      marked = λ k lt. absurd (omega (arith, lt, long));
      within = All-nil (λ (k : ℕ). k < length (texts_of t));
    }

pub found_begin : (version : ℕ) (pool : List (List ℕ)) (count : ℕ) (file : List ℕ) (from : Input) (f : Found) → AreTexts f.texts → texts_of f.texts ≡ [] → f.used ≡ 0 → HasSlices f.seen [] → f.rows ≡ [] → IsIn file from → from.at + length from.bytes < 2 ^ 32 → HalfFound version pool count 0 file from from f
found_begin version pool count file from f texts none used seen rows place short =
    let nothing : found_records pool f ≡ [] = ap (map (record_of (texts_of f.texts) pool)) rows in
    let past : known_by (with_record pool) no_past (found_records pool f) ≡ no_past = ap (known_by (with_record pool) no_past) nothing in
    let long : length (texts_of f.texts) ≡ 0 = ap length none in
    record {
      total =
          (let z : count - 0 ≡ count = omega arith in
          ap₂ (λ (rs : List RunRecord) (n : ℕ). with_front rs (many_by (next_record_at version pool) (with_record pool) (known_by (with_record pool) no_past rs) n from)) nothing z
          ∙ front_none (many_by (next_record_at version pool) (with_record pool) no_past count from));
      found = subst (λ (p : Past). HasFound version pool 0 p f) (sym past) (record {
        used = sym used;
        within = omega (arith, used);
        seen = seen;
        form = All-nil (λ (r : RunRecord). (used : ℕ) × IsRecord version pool used r);
        texts = texts;
        numbers = [];
        marked = marked_none f.texts texts none;
        rows = subst (λ (rs : List Row). All (IsRow (length (texts_of f.texts)) (length pool)) rs) (sym rows) (All-nil (IsRow (length (texts_of f.texts)) (length pool)));
      });
      place = place;
      room = record { texts = omega (arith, long); short = short };
      many = ap length rows;
      within = omega arith;
    }

pub found_more : (version : ℕ) (pool : List (List ℕ)) (count i : ℕ) (file : List ℕ) (from to after : Input) (old new : Found) → HalfFound version pool count i file from to old → i < count → NextFound version pool (i + 1) (known_by (with_record pool) no_past (found_records pool old)) old new file to after → HalfFound version pool count (i + 1) file from after new
found_more version pool count i file from to after old new h lt n =
    let past = known_by (with_record pool) no_past (found_records pool old) in
    let now : known_by (with_record pool) no_past (found_records pool new) ≡ with_record pool past n.next = ap (known_by (with_record pool) no_past) n.rows ∙ known_push pool no_past (found_records pool old) n.next in
    record {
      total =
          ap₂ (λ (rs : List RunRecord) (p : Past). with_front rs (many_by (next_record_at version pool) (with_record pool) p (count - (i + 1)) after)) n.rows now
          ∙ goes_by (next_record_at version pool) (with_record pool) (found_records pool old) count i past to n.next after (many_by (next_record_at version pool) (with_record pool) no_past count from) lt n.read h.total;
      found = subst (λ (p : Past). HasFound version pool (i + 1) p new) (sym now) n.found;
      place = n.place;
      room = n.room;
      many =
          (let a = length-map new.rows (record_of (texts_of new.texts) pool) in
          let b = length-map old.rows (record_of (texts_of old.texts) pool) in
          let c : length (found_records pool new) ≡ length (found_records pool old) + 1 = ap length n.rows ∙ length-append (found_records pool old) (n.next ∷ []) in
          let d = h.many in
          omega (arith, a, b, c, d));
      within = omega (arith, lt);
    }

pub found_fails : (version : ℕ) (pool : List (List ℕ)) (count i : ℕ) (file : List ℕ) (from to : Input) (f : Found) (fault : HistoryFault) → HalfFound version pool count i file from to f → i < count → Fails Memory fault (next_record_at version pool (known_by (with_record pool) no_past (found_records pool f)) to) → Fails Memory fault (many_by (next_record_at version pool) (with_record pool) no_past count from)
found_fails version pool count i file from to f fault h lt fails =
    ends_by Memory fault (next_record_at version pool) (with_record pool) (found_records pool f) count i (known_by (with_record pool) no_past (found_records pool f)) to (many_by (next_record_at version pool) (with_record pool) no_past count from) lt fails h.total

pub found_all : (version : ℕ) (pool : List (List ℕ)) (count i : ℕ) (file : List ℕ) (from to : Input) (f : Found) → HalfFound version pool count i file from to f → count ≤ i → count < 2 ^ 32 → (many_by (next_record_at version pool) (with_record pool) no_past count from ≡ Ok (found_records pool f, to)) × AreFound version pool f
found_all version pool count i file from to f h le fits = (
  is_done_by (next_record_at version pool) (with_record pool) (found_records pool f) count i (known_by (with_record pool) no_past (found_records pool f)) to (many_by (next_record_at version pool) (with_record pool) no_past count from) le h.total,
  record {
    texts = h.found.texts;
    few = (let a = h.room.texts in let b = h.room.short in omega (arith, a, b));
    few_rows = (let a = h.many in let b = h.within in omega (arith, a, b, fits));
    rows = h.found.rows;
    within = h.found.within;
    used = sym h.found.used;
  },
)

-- no more classes count as used than there are
pub used_within : (pool texts : List (List ℕ)) (used : ℕ) (es : List Entry) → AreDifferent pool → used ≤ length pool → All (IsEntry (length texts) (length pool)) es → used_behind pool used (entries_of pool texts es) ≤ length pool
used_within pool texts used [] different le all = le
used_within pool texts used (e ∷ es) different le all =
    let q = (All-head (IsEntry (length texts) (length pool)) e es all).1 in
    let n = number_class pool e.class different q in
    used_within pool texts (max used (number_of pool (class_of pool e.class))) es different (omega (arith, n, q, le)) (All-tail (IsEntry (length texts) (length pool)) e es all)

-- nothing is marked of the record that comes next
pub none_of_next : (t : Texts) (stamp : ℕ) (numbers : List ℕ) → Marked t stamp numbers → Marked t (stamp + 1) []
none_of_next t stamp numbers h = let next : suc stamp ≡ stamp + 1 = omega arith in subst (λ (n : ℕ). Marked t n []) next (marked_next t stamp numbers h)
