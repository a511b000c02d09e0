-- What is written of classes and records is read again, whatever classes stand in a journal.
use Rattle.std.proofs.Common.{◌≡◌, ◌∙◌, ℕ, suc, ◌+◌, ◌<◌, ◌≤◌, ◌^◌, max, Bool, true, false, List, [], ◌∷◌, ◌++◌, length, Option, Some, None, Result, Ok, refl, sym, ap, append_assoc, append-nil, arith}
use Rattle.std.specs.Prelude.{◌&&◌, nat_le}
use Rattle.std.specs.List.{flat_map, AllByRecursion}
use Rattle.std.specs.Int.{w8, w32, w64, to_be_bytes}
use Rattle.codec_rules.specs.Input.{Input}
use Rattle.codec_rules.specs.Sequence.{◌>>=◌}
use Rattle.codec_rules.specs.Spelling.{input_at}
use Rattle.codec_rules.proofs.Numbers.{bytes_codec}
use Rattle.codec_rules.proofs.Sequence.{done}
use Rattle.program_rules.specs.Names.{Name}
use Rattle.class_model.specs.declared.outcome.Outcome.{Outcome}
use Rattle.record_rules.specs.declared.record.RunRecord.{RunRecord}
use Rattle.history_rules.specs.declared.fault.HistoryFault.{HistoryFault}
use Rattle.history_rules.specs.declared.fault.HistoryFault.TheVariants.{HistoryBad}
use Rattle.history_rules.specs.Items.{FileReader, u1_at, u4_at, u8_at, take_at, where_at, text_at, text_where, text_bytes, IsText, counted_bytes, many_by, AllBy}
use Rattle.history_rules.specs.Classes.{class_bytes, number_of, class_of}
use Rattle.history_rules.specs.Entries.{Entry, is_number, is_new, entry_at, with_entry, entry_bytes, pair_bytes}
use Rattle.history_rules.specs.Reading.{outcome_at, are_steps, entries_at, pairs_at, record_at}
use Rattle.history_rules.specs.Spelling.{outcome_bytes, record_bytes}
use Rattle.history_rules.specs.Histories.{at_front}
use Rattle.history_rules.specs.Laws.{IsNewEntry, with_name, IsFormed}
use Rattle.history_rules.proofs.Codecs.{u1_codec, u4_codec, u8_codec, where_codec, text_codec, text_where_codec}
use Rattle.history_rules.proofs.Parts.{outcome_codec, pairs_codec}
use Rattle.history_rules.proofs.Pools.{class_number}
use Rattle.run_journal.specs.Contents.{Item, ClassFile, Run, class_file_at, class_item_at, run_item_at, item_at, item_of, class_content}
use Rattle.run_journal.specs.Seen.{used_all}
use Rattle.job_journal.specs.Adding.{HasNumber, HasNumbers, RecordIsRead, WrittenTellsRecords}

-- one item, and behind it what goes on
again_then : {A B : Type 0} (first : FileReader A) (a : A) (bytes more rest : List ℕ) (at p : ℕ) (next : A × Input → Result B HistoryFault) → first (input_at at (bytes ++ (more ++ rest))) ≡ Ok (a, input_at p (more ++ rest))
    → (first (input_at at ((bytes ++ more) ++ rest)) >>= next) ≡ next (a, input_at p (more ++ rest))
again_then {A} {B} first a bytes more rest at p next h =
    ap (λ (t : List ℕ). first (input_at at t) >>= next) (append_assoc bytes more rest) ∙ ap (λ (z : Result (A × Input) HistoryFault). z >>= next) h

-- ---- consulted names

low_number : (n m : ℕ) → n ≤ m → nat_le n m && nat_le n (suc m) ≡ true
low_number n m le =
    let a : nat_le n m ≡ true = grind (arith, le) in
    let more : n ≤ suc m = omega (arith, le) in
    let b : nat_le n (suc m) ≡ true = grind (arith, more) in
    both (nat_le n m) (nat_le n (suc m)) a b
  where
    both : (a b : Bool) → a ≡ true → b ≡ true → a && b ≡ true
    both true b e f = f
    both false b e f = e

entry_again : (pool : List (List ℕ)) (names : List Name) (e : Entry) (at : ℕ) (rest : List ℕ) → length pool < 2 ^ 32 → IsText e.0 → is_new names e.0 ≡ true → HasNumber pool e
    → (p : ℕ) × (entry_at pool (used_all pool names) (input_at at (entry_bytes pool e ++ rest)) ≡ Ok (e, input_at p rest))
unfolding entry_at
entry_again pool names e at rest few text new low =
    let n = number_of pool e.1 in
    let p = at + length (text_bytes e.0) in
    let q = p + length (to_be_bytes w32 n) in
    let next : Name × Input → Result (Entry × Input) HistoryFault = λ name. where_at u4_at (is_number pool (length pool)) name.1 >>= λ number. Ok ((name.0, class_of pool number.0), number.1) in
    let number = (where_codec u4_at (λ at. to_be_bytes w32) (λ n. n < 2 ^ 32) (is_number pool (length pool)) u4_codec).again n p rest (omega (arith, few, low), low_number n (length pool) low) in
    let all =
    again_then (text_where (is_new names)) e.0 (text_bytes e.0) (to_be_bytes w32 n) rest at p next ((text_where_codec (is_new names)).again e.0 at (to_be_bytes w32 n ++ rest) (text, new))
    ∙ ap (λ (z : Result (ℕ × Input) HistoryFault). z >>= λ number. Ok ((e.0, class_of pool number.0), number.1)) number
    ∙ ap (λ (o : Option (List ℕ)). done {F = HistoryFault} {A = Entry × Input} ((e.0, o), input_at q rest)) (class_number pool e.1 low) in
    (q, all)

entries_again : (pool : List (List ℕ)) (names : List Name) (es : List Entry) (at : ℕ) (rest : List ℕ) → length pool < 2 ^ 32 → AllBy IsNewEntry with_name names es → AllByRecursion (HasNumber pool) es
    → (p : ℕ) × (many_by (entry_at pool) (with_entry pool) (used_all pool names) (length es) (input_at at (flat_map (entry_bytes pool) es ++ rest)) ≡ Ok (es, input_at p rest))
unfolding many_by
entries_again pool names [] at rest few form low = (at, refl)
entries_again pool names (e ∷ es) at rest few form low =
    let back = flat_map (entry_bytes pool) es in
    let one = entry_again pool names e at (back ++ rest) few form.0.0 form.0.1 low.0 in
    let more = entries_again pool (e.0 ∷ names) es one.0 rest few form.1 low.1 in
    let next : Entry × Input → Result (List Entry × Input) HistoryFault = λ first. many_by (entry_at pool) (with_entry pool) (with_entry pool (used_all pool names) first.0) (length es) first.1 >>= λ others. Ok (first.0 ∷ others.0, others.1) in
    let fits = low.0 in
    let counts : max (length pool) (number_of pool e.1) ≡ length pool = omega (arith, fits) in
    let all =
    again_then (entry_at pool (used_all pool names)) e (entry_bytes pool e) back rest at one.0 next one.1
    ∙ ap (λ (n : ℕ). many_by (entry_at pool) (with_entry pool) (record { classes = n; names = e.0 ∷ names }) (length es) (input_at one.0 (back ++ rest)) >>= λ others. Ok (e ∷ others.0, others.1)) counts
    ∙ ap (λ (z : Result (List Entry × Input) HistoryFault). z >>= λ others. Ok (e ∷ others.0, others.1)) more.1 in
    (more.0, all)

counted_again : (pool : List (List ℕ)) (es : List Entry) (at : ℕ) (rest : List ℕ) → length pool < 2 ^ 32 → length es < 2 ^ 32 → AllBy IsNewEntry with_name [] es → AllByRecursion (HasNumber pool) es
    → (p : ℕ) × (entries_at pool (length pool) (input_at at (counted_bytes (entry_bytes pool) es ++ rest)) ≡ Ok (es, input_at p rest))
counted_again pool es at rest few many form low =
    let p = at + length (to_be_bytes w32 (length es)) in
    let back = flat_map (entry_bytes pool) es in
    let more = entries_again pool [] es p rest few form low in
    let next : ℕ × Input → Result (List Entry × Input) HistoryFault = λ n. many_by (entry_at pool) (with_entry pool) (used_all pool []) n.0 n.1 in
    (more.0, again_then u4_at (length es) (to_be_bytes w32 (length es)) back rest at p next (u4_codec.again (length es) at (back ++ rest) many) ∙ more.1)

-- ---- a record

abbrev with_all : Name → Name → ℕ → ℕ → ℕ → Outcome → ℕ → List Entry → List (ℕ × ℕ) → RunRecord
with_all class method heap depth limit outcome steps entries pairs = record {
  test_class = class;
  test_method = method;
  heap = heap;
  depth = depth;
  limit = limit;
  outcome = outcome;
  steps = steps;
  consulted = entries;
  reached = pairs;
}

module _ (pool : List (List ℕ)) where
  abbrev r9 : Name → Name → ℕ → ℕ → ℕ → Outcome → ℕ → List Entry × Input → Result (RunRecord × Input) HistoryFault
  r9 class method heap depth limit outcome steps es = pairs_at es.0 es.1 >>= λ x. Ok (with_all class method heap depth limit outcome steps es.0 x.0, x.1)

  abbrev r8 : Name → Name → ℕ → ℕ → ℕ → Outcome → ℕ × Input → Result (RunRecord × Input) HistoryFault
  r8 class method heap depth limit outcome j = entries_at pool (length pool) j.1 >>= r9 class method heap depth limit outcome j.0

  abbrev r7 : Name → Name → ℕ → ℕ → ℕ → Outcome × Input → Result (RunRecord × Input) HistoryFault
  r7 class method heap depth limit j = where_at u8_at (are_steps limit j.0) j.1 >>= r8 class method heap depth limit j.0

  abbrev r6 : Name → Name → ℕ → ℕ → ℕ × Input → Result (RunRecord × Input) HistoryFault
  r6 class method heap depth j = outcome_at 2 j.1 >>= r7 class method heap depth j.0

  abbrev r5 : Name → Name → ℕ → ℕ × Input → Result (RunRecord × Input) HistoryFault
  r5 class method heap j = u8_at j.1 >>= r6 class method heap j.0

  abbrev r4 : Name → Name → ℕ × Input → Result (RunRecord × Input) HistoryFault
  r4 class method j = u4_at j.1 >>= r5 class method j.0

  abbrev r3 : Name → Name × Input → Result (RunRecord × Input) HistoryFault
  r3 class j = u4_at j.1 >>= r4 class j.0

  abbrev r2 : Name × Input → Result (RunRecord × Input) HistoryFault
  r2 j = text_at j.1 >>= r3 j.0

  abbrev s9 : RunRecord → List ℕ
  s9 r = counted_bytes pair_bytes r.reached

  abbrev s8 : RunRecord → List ℕ
  s8 r = counted_bytes (entry_bytes pool) r.consulted ++ s9 r

  abbrev s7 : RunRecord → List ℕ
  s7 r = to_be_bytes w64 r.steps ++ s8 r

  abbrev s6 : RunRecord → List ℕ
  s6 r = outcome_bytes 2 r.outcome ++ s7 r

  abbrev s5 : RunRecord → List ℕ
  s5 r = to_be_bytes w64 r.limit ++ s6 r

  abbrev s4 : RunRecord → List ℕ
  s4 r = to_be_bytes w32 r.depth ++ s5 r

  abbrev s3 : RunRecord → List ℕ
  s3 r = to_be_bytes w32 r.heap ++ s4 r

  abbrev s2 : RunRecord → List ℕ
  s2 r = text_bytes r.test_method ++ s3 r

  record_again : (r : RunRecord) (at : ℕ) (rest : List ℕ) → length pool < 2 ^ 32 → IsFormed r → HasNumbers pool r → (p : ℕ) × (record_at 2 pool (length pool) (input_at at (record_bytes 2 pool r ++ rest)) ≡ Ok (r, input_at p rest))
  unfolding record_at
  record_again r at rest few form low =
      let a = r.test_class in
      let b = r.test_method in
      let p1 = at + length (text_bytes a) in
      let p2 = p1 + length (text_bytes b) in
      let p3 = p2 + length (to_be_bytes w32 r.heap) in
      let p4 = p3 + length (to_be_bytes w32 r.depth) in
      let p5 = p4 + length (to_be_bytes w64 r.limit) in
      let p6 = p5 + length (outcome_bytes 2 r.outcome) in
      let p7 = p6 + length (to_be_bytes w64 r.steps) in
      let es = counted_again pool r.consulted p7 (s9 r ++ rest) few form.few_names form.names low in
      let p9 = es.0 + length (s9 r) in
      let steps = (where_codec u8_at (λ at. to_be_bytes w64) (λ n. n < 2 ^ 64) (are_steps r.limit r.outcome) u8_codec).again r.steps p6 (s8 r ++ rest) (form.steps, form.within) in
      let all =
      again_then text_at a (text_bytes a) (s2 r) rest at p1 r2 (text_codec.again a at (s2 r ++ rest) form.class)
      ∙ again_then text_at b (text_bytes b) (s3 r) rest p1 p2 (r3 a) (text_codec.again b p1 (s3 r ++ rest) form.method)
      ∙ again_then u4_at r.heap (to_be_bytes w32 r.heap) (s4 r) rest p2 p3 (r4 a b) (u4_codec.again r.heap p2 (s4 r ++ rest) form.heap)
      ∙ again_then u4_at r.depth (to_be_bytes w32 r.depth) (s5 r) rest p3 p4 (r5 a b r.heap) (u4_codec.again r.depth p3 (s5 r ++ rest) form.depth)
      ∙ again_then u8_at r.limit (to_be_bytes w64 r.limit) (s6 r) rest p4 p5 (r6 a b r.heap r.depth) (u8_codec.again r.limit p4 (s6 r ++ rest) form.limit)
      ∙ again_then (outcome_at 2) r.outcome (outcome_bytes 2 r.outcome) (s7 r) rest p5 p6 (r7 a b r.heap r.depth r.limit) ((outcome_codec 2).again r.outcome p5 (s7 r ++ rest) form.outcome)
      ∙ again_then (where_at u8_at (are_steps r.limit r.outcome)) r.steps (to_be_bytes w64 r.steps) (s8 r) rest p6 p7 (r8 a b r.heap r.depth r.limit r.outcome) steps
      ∙ again_then (entries_at pool (length pool)) r.consulted (counted_bytes (entry_bytes pool) r.consulted) (s9 r) rest p7 es.0 (r9 a b r.heap r.depth r.limit r.outcome r.steps) es.1
      ∙ ap (λ (z : Result (List (ℕ × ℕ) × Input) HistoryFault). z >>= λ x. Ok (with_all a b r.heap r.depth r.limit r.outcome r.steps r.consulted x.0, x.1)) ((pairs_codec r.consulted).again r.reached es.0 rest (form.few_lines, form.lines)) in
      (p9, all)

-- ---- contents

run_again : (classes : List (List ℕ)) (r : RunRecord) (at : ℕ) → length classes < 2 ^ 32 → IsFormed r → HasNumbers classes r → (p : ℕ) × (run_item_at 2 classes (input_at at (record_bytes 2 classes r)) ≡ Ok (Run 2 r, input_at p []))
unfolding run_item_at
run_again classes r at few form low =
    let one = record_again classes r at [] few form low in (
      one.0,
      ap (λ (t : List ℕ). record_at 2 classes (length classes) (input_at at t) >>= λ x. Ok (Run 2 x.0, x.1)) (sym (append-nil (record_bytes 2 classes r)))
          ∙ ap (λ (z : Result (RunRecord × Input) HistoryFault). z >>= λ x. Ok (Run 2 x.0, x.1)) one.1,
    )

kind_again : (kind : ℕ) (bytes : List ℕ) → kind < 2 ^ 8 → to_be_bytes w8 kind ≡ kind ∷ [] → u1_at (at_front (kind ∷ bytes)) ≡ Ok (kind, input_at (0 + length (to_be_bytes w8 kind)) bytes)
kind_again kind bytes small one = ap (λ (t : List ℕ). u1_at (at_front (t ++ bytes))) (sym one) ∙ u1_codec.again kind 0 bytes small

pub record_is_read : RecordIsRead
unfolding item_at
record_is_read classes r few form low =
    let bytes = record_bytes 2 classes r in
    let one = kind_again 3 bytes (omega arith) refl in
    let run = run_again classes r (0 + length (to_be_bytes w8 3)) few form low in
    rw (one, run.1) refl

class_again : (classes : List (List ℕ)) (class : List ℕ) (at : ℕ) → length class < 2 ^ 32 → (p : ℕ) × (class_item_at (input_at at (class_bytes class)) ≡ Ok (ClassFile class, input_at p []))
unfolding class_item_at class_file_at
class_again classes class at short =
    let len = to_be_bytes w32 (length class) in
    let p = at + length len in
    let q = p + length class in
    let next : ℕ × Input → Result (List ℕ × Input) HistoryFault = λ n. take_at n.0 n.1 in
    let read : (u4_at (input_at at ((len ++ class) ++ [])) >>= next) ≡ Ok (class, input_at q []) =
    again_then u4_at (length class) len class [] at p next (u4_codec.again (length class) at (class ++ []) short) ∙ (bytes_codec HistoryBad (length class)).again class p [] refl in (
      q,
      ap (λ (t : List ℕ). (u4_at (input_at at t) >>= next) >>= λ c. Ok (ClassFile c.0, c.1)) (sym (append-nil (len ++ class)))
          ∙ ap (λ (z : Result (List ℕ × Input) HistoryFault). z >>= λ c. Ok (ClassFile c.0, c.1)) read,
    )

pub class_is_read : (classes : List (List ℕ)) (class : List ℕ) → length class < 2 ^ 32 → item_of classes (class_content class) ≡ Some (ClassFile class)
unfolding item_at
class_is_read classes class short =
    let one = kind_again 1 (class_bytes class) (omega arith) refl in
    let read = class_again classes class (0 + length (to_be_bytes w8 1)) short in
    rw (one, read.1) refl

abbrev run_in : Option Item → Option RunRecord
run_in None = None
run_in (Some (ClassFile c)) = None
run_in (Some (Run v r)) = Some r

pub written_tells_records : WrittenTellsRecords
written_tells_records classes a b few fa fb la lb e =
    let one : Some a ≡ Some b = ap run_in (sym (record_is_read classes a few fa la) ∙ ap (item_of classes) e ∙ record_is_read classes b few fb lb) in
    cc
