-- What the value under the lock keeps, where a record is added.
use Rattle.std.proofs.Common.{◌≡◌, append-nil, get_or, ◌∙◌, ℕ, zero, suc, ◌+◌, ◌<◌, ◌≤◌, ◌^◌, Bool, true, false, List, [], ◌∷◌, ◌++◌, length, take, drop, Option, Some, None, Result, Ok, Err, refl, sym, ap, subst, append_assoc, length-append, arith}
use Rattle.std.proofs.lemmas.List.Elements.{All-weaker, All-more}
use Rattle.std.specs.Prelude.{All, IfSome, IsSomeAnd, OnOk, OnErr, option_map, slice_get}
use Rattle.mt_edge.specs.Pieces.{Grows, GrowsBy}
use Rattle.std.specs.List.{AllByRecursion}
use Rattle.std.proofs.lemmas.List.{take-append-drop, take-append-le, drop-append-le}
use mathlib.Core.List.{IsPrefix}
use Rattle.record_rules.specs.declared.record.RunRecord.{RunRecord}
use Rattle.history_rules.specs.Histories.{classes_used}
use Rattle.history_rules.specs.Laws.{IsFormed}
use Rattle.run_journal.specs.Contents.{Known}
use Rattle.codec_rules.proofs.Sequence.{ok_is}
use Rattle.history_rules.specs.declared.fault.HistoryFault.{HistoryFault}
use Rattle.run_journal.specs.Reading.{Stage, Head, Open, Chunk, Ended, Bad, Progress, Parts, parts_in, journal_in, closing_of, start, reading_of, is_bad, IsRead, IsWhole}
use Rattle.job_journal.specs.Opening.{Opens}
use Rattle.run_journal.specs.Laws.{SaysFirst}
use Rattle.job_journal.specs.Adding.{added_bytes, known_with}
use Rattle.job_journal.specs.Tables.{StandsAmong, IsTables, Adds}
use Rattle.job_journal.specs.Keeping.{IsBeginning, records_in, added_in, Stands, Keeps, IsAdded, GainsOnce, HasGrown, HasLoaded, IsAcknowledged, RecordsAll, IsSafe, StopsLoseNothing}
use Rattle.job_journal.specs.declared.tables.Tables.{Tables}
use Rattle.run_journal.proofs.Chunks.{take_whole}
use Rattle.run_journal.proofs.Steps.{on_append, says_first}
use Rattle.run_journal.proofs.Spelt.{beginnings_are_read, closing_is_read}
use Rattle.job_journal.proofs.Added.{added_is_read}

-- ---- lists

all_front : (P : RunRecord → Type 0) (xs ys : List RunRecord) → AllByRecursion P (xs ++ ys) → AllByRecursion P xs
all_front P [] ys all = tt
all_front P (x ∷ xs) ys all = (all.0, all_front P xs ys all.1)

all_more : (P : RunRecord → Type 0) (xs : List RunRecord) (x : RunRecord) → AllByRecursion P xs → P x → AllByRecursion P (xs ++ x ∷ [])
all_more P [] x all p = (p, tt)
all_more P (y ∷ ys) x all p = (all.0, all_more P ys x all.1 p)

among_drop : (n : ℕ) (rs : List RunRecord) (r : RunRecord) → StandsAmong r (drop n rs) → StandsAmong r rs
among_drop zero rs r a = a
among_drop (suc n) [] r a = absurd (let e = a.stands in cc)
among_drop (suc n) (x ∷ xs) r a = let b = among_drop n xs r a in record { place = suc b.place; stands = b.stands }

among_last : (rs : List RunRecord) (r : RunRecord) → StandsAmong r (rs ++ r ∷ [])
among_last [] r = record { place = 0; stands = refl }
among_last (x ∷ xs) r = let b = among_last xs r in record { place = suc b.place; stands = b.stands }

whole_read : (p : Progress) → IsWhole p → IsRead p
whole_read p e = ap is_bad e

grown_first : (profile : ℕ) (bytes more : List ℕ) → SaysFirst (reading_of profile bytes) (reading_of profile (bytes ++ more))
grown_first profile bytes more =
    let p = reading_of profile bytes in
    subst (λ (q : Progress). SaysFirst p q) (sym (on_append (start profile) bytes more)) (says_first p more)

-- ---- a call fails, or nothing is appended

pub stopped : (Holds : RunRecord → Type 0) (profile : ℕ) (kept : Option (List ℕ)) (durable writing after : ℕ) (t u : Tables) (loaded : ℕ) (failed : Bool) (marked more : ℕ) → Keeps Holds profile kept durable writing t loaded failed marked → more ≤ after → Keeps Holds profile kept durable after u loaded true more
stopped Holds profile kept durable writing after t u loaded failed marked more h le = record {
  text = h.text;
  made = h.made;
  marks = le;
  unmarked = λ e. absurd cc;
  backed = h.backed;
  current = λ e. absurd cc;
}

found_stands : (profile durable loaded : ℕ) (kept : Option (List ℕ)) (t u : Tables) (r : RunRecord) → IfSome kept (Stands profile durable loaded t) → Adds r t u None → IfSome kept (Stands profile durable loaded u) × IfSome kept (IsAcknowledged profile durable r)
found_stands profile durable loaded None t u r h a = (tt, tt)
found_stands profile durable loaded (Some bytes) t u r h a =
    let f = a (added_in profile loaded bytes) h.tables in (
      record { whole = h.whole; classes = h.classes ∙ sym f.2; loaded_are = h.loaded_are; tables = f.1; is_durable = h.is_durable },
      record { whole = h.whole; among = among_drop loaded (reading_of profile bytes).known.records r f.0; is_durable = h.is_durable },
    )

pub found_keeps : (Holds : RunRecord → Type 0) (profile : ℕ) (kept : Option (List ℕ)) (durable writing : ℕ) (t u : Tables) (loaded marked : ℕ) (r : RunRecord) → Keeps Holds profile kept durable writing t loaded false marked → Adds r t u None → Keeps Holds profile kept durable writing u loaded false marked × IfSome kept (IsAcknowledged profile durable r)
found_keeps Holds profile kept durable writing t u loaded marked r h a =
    let f = found_stands profile durable loaded kept t u r (h.current refl) a in
    (record { text = h.text; made = h.made; marks = h.marks; unmarked = h.unmarked; backed = h.backed; current = λ e. f.0 }, f.1)

-- ---- a record is appended

-- what a journal says with a record more
more_said : (profile durable loaded : ℕ) (bytes piece : List ℕ) (t u : Tables) (r : RunRecord) → IsFormed r → Stands profile durable loaded t bytes → Adds r t u (Some piece)
    → IsWhole (reading_of profile (bytes ++ piece)) × ((reading_of profile (bytes ++ piece)).known ≡ known_with (reading_of profile bytes).known r)
more_said profile durable loaded bytes piece t u r form h a =
    let k = (reading_of profile bytes).known in
    let few = subst (λ (n : ℕ). n < 2 ^ 32) (ap (λ (cs : List (List ℕ)). length cs) (a.1 ∙ ap (λ (cs : List (List ℕ)). classes_used cs r.consulted) (sym h.classes))) a.2 in
    let same : piece ≡ added_bytes k.classes r = a.0 ∙ ap (λ (cs : List (List ℕ)). added_bytes cs r) (sym h.classes) in
    let law = added_is_read profile bytes r form few h.whole in
    subst (λ (x : List ℕ). IsWhole (reading_of profile (bytes ++ x)) × ((reading_of profile (bytes ++ x)).known ≡ known_with k r)) (sym same) law

added_more : (profile loaded : ℕ) (bytes piece : List ℕ) (r : RunRecord) → loaded ≤ length (reading_of profile bytes).known.records → (reading_of profile (bytes ++ piece)).known ≡ known_with (reading_of profile bytes).known r → added_in profile loaded (bytes ++ piece) ≡ added_in profile loaded bytes ++ r ∷ []
added_more profile loaded bytes piece r le e = ap (λ (k : Known). drop loaded k.records) e ∙ drop-append-le loaded (reading_of profile bytes).known.records (r ∷ []) le

pub grown_keeps : (Holds : RunRecord → Type 0) (profile : ℕ) (kept new : Option (List ℕ)) (durable later writing after : ℕ) (t u : Tables) (loaded marked : ℕ) (piece : List ℕ) (r : RunRecord) → IsFormed r → Holds r → Keeps Holds profile kept durable writing t loaded false marked → Adds r t u (Some piece)
    → new ≡ option_map (λ bytes. bytes ++ piece) kept → IfSome new (λ all. later ≡ length all) → writing ≤ after → Keeps Holds profile new later after u loaded false marked × IfSome new (IsAcknowledged profile later r)
grown_keeps Holds profile None new durable later writing after t u loaded marked piece r form holds h a grows synced le =
    let marks = h.marks in
    subst (λ (k : Option (List ℕ)). Keeps Holds profile k later after u loaded false marked × IfSome k (IsAcknowledged profile later r)) (sym grows)
    (record { text = tt; made = tt; marks = omega (arith, marks, le); unmarked = h.unmarked; backed = tt; current = λ e. tt }, tt)
grown_keeps Holds profile (Some bytes) new durable later writing after t u loaded marked piece r form holds h a grows synced le =
    let s = h.current refl in
    let all = bytes ++ piece in
    let m = more_said profile durable loaded bytes piece t u r form s a in
    let marks = h.marks in
    let is_durable : later ≡ length all = subst (λ (k : Option (List ℕ)). IfSome k (λ x. later ≡ length x)) grows synced in
    let more = added_more profile loaded bytes piece r s.loaded_are m.1 in
    let longer = length-append (reading_of profile bytes).known.records (r ∷ []) in
    let count = ap (λ (k : Known). length k.records) m.1 in
    let fits = s.loaded_are in
    let stands : Stands profile later loaded u all = record {
      whole = m.0;
      classes = ap (λ (k : Known). k.classes) m.1 ∙ ap (λ (cs : List (List ℕ)). classes_used cs r.consulted) s.classes ∙ sym a.1;
      loaded_are = omega (arith, longer, count, fits);
      tables = subst (λ (rs : List RunRecord). IsTables u rs) (sym more) (a.3 (added_in profile loaded bytes) s.tables).1;
      is_durable = omega (arith, is_durable);
    } in
    let keeps : Keeps Holds profile (Some all) later after u loaded false marked = record {
      text = whole_read (reading_of profile all) m.0;
      made = subst (λ (rs : List RunRecord). AllByRecursion Holds rs) (sym more) (all_more Holds (added_in profile loaded bytes) r h.made holds);
      marks = omega (arith, marks, le);
      unmarked = h.unmarked;
      backed = record { acked = length all; within = omega arith; is_durable = omega (arith, is_durable); whole = subst (λ (x : List ℕ). IsWhole (reading_of profile x)) (sym (take_whole all)) m.0 };
      current = λ e. stands;
    } in
    let ack : IsAcknowledged profile later r all = record {
      whole = m.0;
      among = subst (λ (k : Known). StandsAmong r k.records) (sym m.1) (among_last (reading_of profile bytes).known.records r);
      is_durable = omega (arith, is_durable);
    } in
    subst (λ (k : Option (List ℕ)). Keeps Holds profile k later after u loaded false marked × IfSome k (IsAcknowledged profile later r)) (sym grows) (keeps, ack)

-- ---- a part of it is appended

pub broken_keeps : (Holds : RunRecord → Type 0) (profile : ℕ) (kept new : Option (List ℕ)) (durable later writing after : ℕ) (t u : Tables) (loaded marked more : ℕ) (piece part : List ℕ) (r : RunRecord) → IsFormed r → Holds r → Keeps Holds profile kept durable writing t loaded false marked → Adds r t u (Some piece)
    → IsPrefix part piece → new ≡ option_map (λ bytes. bytes ++ part) kept → durable ≤ later → more ≤ after → Keeps Holds profile new later after u loaded true more
broken_keeps Holds profile None new durable later writing after t u loaded marked more piece part r form holds h a prefix grows rises le =
    subst (λ (k : Option (List ℕ)). Keeps Holds profile k later after u loaded true more) (sym grows) (record { text = tt; made = tt; marks = le; unmarked = λ e. absurd cc; backed = tt; current = λ e. absurd cc })
broken_keeps Holds profile (Some bytes) new durable later writing after t u loaded marked more piece part r form holds h a prefix grows rises le =
    let s = h.current refl in
    let torn = bytes ++ part in
    let m = more_said profile durable loaded bytes piece t u r form s a in
    let cut : bytes ++ piece ≡ torn ++ prefix.0 = ap (λ (x : List ℕ). bytes ++ x) (sym prefix.1) ∙ sym (append_assoc bytes part prefix.0) in
    let read : IsRead (reading_of profile (torn ++ prefix.0)) = subst (λ (x : List ℕ). IsRead (reading_of profile x)) cut (whole_read (reading_of profile (bytes ++ piece)) m.0) in
    let first = beginnings_are_read profile torn prefix.0 read in
    let before = beginnings_are_read profile bytes part first.0 in
    let recs = (reading_of profile torn).known.records in
    let all : recs ++ first.1.records.more ≡ (reading_of profile bytes).known.records ++ r ∷ [] = sym first.1.records.is ∙ ap (λ (x : List ℕ). (reading_of profile x).known.records) (sym cut) ∙ ap (λ (k : Known). k.records) m.1 in
    let l1 = ap (λ (rs : List RunRecord). length rs) before.1.records.is in
    let l2 = length-append (reading_of profile bytes).known.records before.1.records.more in
    let fits = s.loaded_are in
    let low : loaded ≤ length recs = omega (arith, l1, l2, fits) in
    let cutting : drop loaded recs ++ first.1.records.more ≡ added_in profile loaded bytes ++ r ∷ [] =
    sym (drop-append-le loaded recs first.1.records.more low) ∙ ap (λ (rs : List RunRecord). drop loaded rs) all ∙ drop-append-le loaded (reading_of profile bytes).known.records (r ∷ []) fits in
    let b = h.backed in
    let within = b.within in
    let longer = length-append bytes part in
    let is_durable = b.is_durable in
    let keeps : Keeps Holds profile (Some torn) later after u loaded true more = record {
      text = first.0;
      made = all_front Holds (drop loaded recs) first.1.records.more (subst (λ (rs : List RunRecord). AllByRecursion Holds rs) (sym cutting) (all_more Holds (added_in profile loaded bytes) r h.made holds));
      marks = le;
      unmarked = λ e. absurd cc;
      backed = record { acked = b.acked; within = omega (arith, within, longer); is_durable = omega (arith, is_durable, rises); whole = subst (λ (x : List ℕ). IsWhole (reading_of profile x)) (sym (take-append-le b.acked bytes part within)) b.whole };
      current = λ e. absurd cc;
    } in
    subst (λ (k : Option (List ℕ)). Keeps Holds profile k later after u loaded true more) (sym grows) keeps

-- ---- what stands there stays

among_front : (xs ys : List RunRecord) (r : RunRecord) → StandsAmong r xs → StandsAmong r (xs ++ ys)
among_front [] ys r a = absurd (let e = a.stands in cc)
among_front (x ∷ xs) ys r a = by a.place a.stands (among_front xs ys r)
  where
    by : (k : ℕ) → slice_get (x ∷ xs) k ≡ Some r → (StandsAmong r xs → StandsAmong r (xs ++ ys)) → StandsAmong r (x ∷ (xs ++ ys))
    by zero e h = record { place = 0; stands = e }
    by (suc k) e h = let b = h (record { place = k; stands = e }) in record { place = suc b.place; stands = b.stands }

pub one_more_stands : {D : Type 0} (profile durable : ℕ) (entry : D → RunRecord) (due : List D) (i : ℕ) (d : D) (kept new : Option (List ℕ)) → i < length due → HasGrown kept new → IfSome kept (RecordsAll profile entry (take i due)) → IfSome new (IsAcknowledged profile durable (entry (get_or due i d))) → IfSome new (RecordsAll profile entry (take (i + 1) due))
one_more_stands profile durable entry due i d None new lt g h a = subst (λ (k : Option (List ℕ)). IfSome k (RecordsAll profile entry (take (i + 1) due))) (sym g.is) tt
one_more_stands {D} profile durable entry due i d (Some bytes) new lt g h a =
    let all = bytes ++ g.more in
    let first = grown_first profile bytes g.more in
    let ack : IsAcknowledged profile durable (entry (get_or due i d)) all = subst (λ (k : Option (List ℕ)). IfSome k (IsAcknowledged profile durable (entry (get_or due i d)))) g.is a in
    let P : D → Type 0 = λ x. StandsAmong (entry x) (records_in profile bytes) in
    let Q : D → Type 0 = λ x. StandsAmong (entry x) (records_in profile all) in
    let grown : (x : D) → P x → Q x = λ x p. subst (λ (rs : List RunRecord). StandsAmong (entry x) rs) (sym first.records.is) (among_front (records_in profile bytes) first.records.more (entry x) p) in
    let before : All Q (take i due) = All-weaker P Q grown (take i due) h in
    subst (λ (k : Option (List ℕ)). IfSome k (RecordsAll profile entry (take (i + 1) due))) (sym g.is) (All-more Q due i d lt before ack.among)

pub still_loaded : (profile count : ℕ) (rs : List RunRecord) (kept new : Option (List ℕ)) → HasGrown kept new → IfSome kept (HasLoaded profile count rs) → IfSome new (HasLoaded profile count rs)
still_loaded profile count rs None new g h = subst (λ (k : Option (List ℕ)). IfSome k (HasLoaded profile count rs)) (sym g.is) tt
still_loaded profile count rs (Some bytes) new g h =
    let first = grown_first profile bytes g.more in
    let b = h.begins in
    subst (λ (k : Option (List ℕ)). IfSome k (HasLoaded profile count rs)) (sym g.is)
    (record {
      count_is = h.count_is;
      begins = record { more = b.more ++ first.records.more; is = first.records.is ∙ ap (λ (x : List RunRecord). x ++ first.records.more) b.is ∙ append_assoc rs b.more first.records.more };
    })

pub same_grown : (kept : Option (List ℕ)) → HasGrown kept kept
same_grown None = record { more = []; is = refl }
same_grown (Some bytes) = record { more = []; is = ap (λ (x : List ℕ). Some x) (sym (append-nil bytes)) }

-- ---- what adding a record gives

pub gains : (profile durable loaded : ℕ) (kept new : Option (List ℕ)) (t u : Tables) (piece : List ℕ) (r : RunRecord) → IfSome kept (Stands profile durable loaded t) → Adds r t u (Some piece) → new ≡ option_map (λ bytes. bytes ++ piece) kept → IfSome kept (GainsOnce profile loaded r new)
gains profile durable loaded None new t u piece r h a grows = tt
gains profile durable loaded (Some bytes) new t u piece r h a grows = λ other. grows ∙ ap (λ (x : List ℕ). Some (bytes ++ x)) (a.0 ∙ ap (λ (cs : List (List ℕ)). added_bytes cs r) (sym h.classes))

pub found_gains : (profile durable loaded : ℕ) (kept new : Option (List ℕ)) (t u : Tables) (r : RunRecord) → IfSome kept (Stands profile durable loaded t) → Adds r t u None → IfSome kept (GainsOnce profile loaded r new)
found_gains profile durable loaded None new t u r h a = tt
found_gains profile durable loaded (Some bytes) new t u r h a = λ other. absurd (other (a (added_in profile loaded bytes) h.tables).0)

pub not_again : (profile durable loaded : ℕ) (kept : Option (List ℕ)) (t u : Tables) (piece : List ℕ) (r : RunRecord) → IfSome kept (Stands profile durable loaded t) → Adds r t u (Some piece) → IsSomeAnd kept (IsAdded profile loaded r) → ⊥
not_again profile durable loaded None t u piece r h a is = is
not_again profile durable loaded (Some bytes) t u piece r h a is = (a.3 (added_in profile loaded bytes) h.tables).0 is

pub safe_stands : (profile durable loaded : ℕ) (t : Tables) (kept : Option (List ℕ)) → IfSome kept (Stands profile durable loaded t) → IfSome kept (IsSafe profile durable)
safe_stands profile durable loaded t None h = tt
safe_stands profile durable loaded t (Some bytes) h = record { whole = h.whole; is_durable = h.is_durable }

-- ---- what a stop leaves

take_behind : (n : ℕ) (xs ys : List ℕ) → length xs ≤ n → (rest : List ℕ) × (take n (xs ++ ys) ≡ xs ++ rest)
take_behind n [] ys le = (take n ys, refl)
take_behind zero (x ∷ xs) ys le = absurd (omega (arith, le))
take_behind (suc n) (x ∷ xs) ys le =
    let h = take_behind n xs ys (omega (arith, le)) in
    (h.0, ap (λ (zs : List ℕ). x ∷ zs) h.1)

pub stops_lose_nothing : StopsLoseNothing
stops_lose_nothing profile durable count r bytes more ack read le =
    let all = bytes ++ more in
    let left = take count all in
    let split : left ++ drop count all ≡ all = take-append-drop count all in
    let first = beginnings_are_read profile left (drop count all) (subst (λ (x : List ℕ). IsRead (reading_of profile x)) (sym split) read) in
    let d = ack.is_durable in
    let behind = take_behind count bytes more (omega (arith, d, le)) in
    let grown = grown_first profile bytes behind.0 in
    let there : StandsAmong r (records_in profile (bytes ++ behind.0)) = subst (λ (rs : List RunRecord). StandsAmong r rs) (sym grown.records.is) (among_front (records_in profile bytes) grown.records.more r ack.among) in (
      first.0,
      subst (λ (x : List ℕ). StandsAmong r (records_in profile x)) (sym behind.1) there,
      subst (λ (x : List ℕ). SaysFirst (reading_of profile left) (reading_of profile x)) split first.1,
    )

-- ---- the opening

abbrev ends_parts : Known → Stage → Parts
ends_parts k s = record { known = k; closing = closing_of s }

stage_parts : (k : Known) (s : Stage) (parts : Parts) → parts_in k s ≡ Ok parts → (is_bad s ≡ false) × (ends_parts k s ≡ parts)
stage_parts k (Head h hs) parts e = (refl, ok_is {F = HistoryFault} (ends_parts k (Head h hs)) parts e)
stage_parts k (Open content) parts e = (refl, ok_is {F = HistoryFault} (ends_parts k (Open content)) parts e)
stage_parts k (Chunk n content) parts e = (refl, ok_is {F = HistoryFault} (ends_parts k (Chunk n content)) parts e)
stage_parts k (Ended content) parts e = (refl, ok_is {F = HistoryFault} (ends_parts k (Ended content)) parts e)
stage_parts k (Bad at) parts e = absurd cc

drop_length : (rs : List RunRecord) → drop (length rs) rs ≡ []
drop_length [] = refl
drop_length (r ∷ rs) = drop_length rs

pub opened : (Holds : RunRecord → Type 0) (profile : ℕ) (kept new : Option (List ℕ)) (durable writing : ℕ) (t : Tables) (loaded : ℕ) (parts : Parts) → IfSome kept (λ bytes. journal_in profile bytes ≡ Ok parts) → new ≡ option_map (λ bytes. bytes ++ parts.closing) kept → IfSome new (λ all. durable ≡ length all)
    → t.numbers ≡ parts.known.classes → IsTables t [] → loaded ≡ length parts.known.records → Keeps Holds profile new durable writing t loaded false 0 × IfSome kept (Opens profile new parts.known.records)
opened Holds profile None new durable writing t loaded parts read grows synced numbers none count =
    (subst (λ (k : Option (List ℕ)). Keeps Holds profile k durable writing t loaded false 0) (sym grows) (record { text = tt; made = tt; marks = omega arith; unmarked = λ e. refl; backed = tt; current = λ e. tt }), tt)
opened Holds profile (Some bytes) new durable writing t loaded parts read grows synced numbers none count =
    let p = reading_of profile bytes in
    let s = stage_parts p.known p.stage parts read in
    let all = bytes ++ closing_of p.stage in
    let law = closing_is_read profile bytes s.0 in
    let is : new ≡ Some all = grows ∙ ap (λ (x : Parts). Some (bytes ++ x.closing)) (sym s.1) in
    let records : (reading_of profile all).known.records ≡ parts.known.records = ap (λ (k : Known). k.records) law.1 ∙ ap (λ (x : Parts). x.known.records) s.1 in
    let classes : (reading_of profile all).known.classes ≡ t.numbers = ap (λ (k : Known). k.classes) law.1 ∙ ap (λ (x : Parts). x.known.classes) s.1 ∙ sym numbers in
    let many = ap (λ (rs : List RunRecord). length rs) records in
    let no_more : added_in profile loaded all ≡ [] = ap (λ (rs : List RunRecord). drop loaded rs) records ∙ ap (λ (n : ℕ). drop n parts.known.records) count ∙ drop_length parts.known.records in
    let safe : durable ≡ length all = subst (λ (k : Option (List ℕ)). IfSome k (λ x. durable ≡ length x)) is synced in
    let stands : Stands profile durable loaded t all = record {
      whole = law.0;
      classes = classes;
      loaded_are = omega (arith, many, count);
      tables = subst (λ (rs : List RunRecord). IsTables t rs) (sym no_more) none;
      is_durable = omega (arith, safe);
    } in
    let keeps : Keeps Holds profile (Some all) durable writing t loaded false 0 = record {
      text = whole_read (reading_of profile all) law.0;
      made = subst (λ (rs : List RunRecord). AllByRecursion Holds rs) (sym no_more) tt;
      marks = omega arith;
      unmarked = λ e. refl;
      backed = record { acked = length all; within = omega arith; is_durable = omega (arith, safe); whole = subst (λ (x : List ℕ). IsWhole (reading_of profile x)) (sym (take_whole all)) law.0 };
      current = λ e. stands;
    } in (
      subst (λ (k : Option (List ℕ)). Keeps Holds profile k durable writing t loaded false 0) (sym is) keeps,
      record { read = s.0; said = ap (λ (x : Parts). x.known.records) (sym s.1); completed = is },
    )

pub opened_loaded : (profile : ℕ) (kept new : Option (List ℕ)) (loaded : ℕ) (parts : Parts) → IfSome kept (λ bytes. journal_in profile bytes ≡ Ok parts) → new ≡ option_map (λ bytes. bytes ++ parts.closing) kept → loaded ≡ length parts.known.records → IfSome new (HasLoaded profile loaded parts.known.records)
opened_loaded profile None new loaded parts read grows count = subst (λ (k : Option (List ℕ)). IfSome k (HasLoaded profile loaded parts.known.records)) (sym grows) tt
opened_loaded profile (Some bytes) new loaded parts read grows count =
    let p = reading_of profile bytes in
    let s = stage_parts p.known p.stage parts read in
    let law = closing_is_read profile bytes s.0 in
    let closing : closing_of p.stage ≡ parts.closing = ap (λ (x : Parts). x.closing) s.1 in
    let records : records_in profile (bytes ++ parts.closing) ≡ parts.known.records =
    ap (λ (x : List ℕ). records_in profile (bytes ++ x)) (sym closing) ∙ ap (λ (k : Known). k.records) law.1 ∙ ap (λ (x : Parts). x.known.records) s.1 in
    subst (λ (k : Option (List ℕ)). IfSome k (HasLoaded profile loaded parts.known.records)) (sym grows)
    (record { count_is = count; begins = record { more = []; is = records ∙ sym (append-nil parts.known.records) } })

-- what a closing that fails leaves begins a journal
pub torn_begins : (profile : ℕ) (kept new : Option (List ℕ)) (parts : Parts) → IfSome kept (λ bytes. journal_in profile bytes ≡ Ok parts) → GrowsBy kept new parts.closing → IsBeginning profile kept × IsBeginning profile new
torn_begins profile None new parts read g = (tt, subst (λ (k : Option (List ℕ)). IsBeginning profile k) (sym g.2) tt)
torn_begins profile (Some bytes) new parts read g =
    let p = reading_of profile bytes in
    let s = stage_parts p.known p.stage parts read in
    let law = closing_is_read profile bytes s.0 in
    let closing : closing_of p.stage ≡ parts.closing = ap (λ (x : Parts). x.closing) s.1 in
    let cut : bytes ++ closing_of p.stage ≡ (bytes ++ g.0) ++ g.1.0 = ap (λ (x : List ℕ). bytes ++ x) (closing ∙ sym g.1.1) ∙ sym (append_assoc bytes g.0 g.1.0) in
    let read_all : IsRead (reading_of profile ((bytes ++ g.0) ++ g.1.0)) = subst (λ (x : List ℕ). IsRead (reading_of profile x)) cut (whole_read (reading_of profile (bytes ++ closing_of p.stage)) law.0) in
    (s.0, subst (λ (k : Option (List ℕ)). IsBeginning profile k) (sym g.2) (beginnings_are_read profile (bytes ++ g.0) g.1.0 read_all).0)

-- ---- by what a call answered

pub on_ok : {T E : Type 0} {P Q R : Type 0} (r : Result T E) → (P → Q → R) → OnOk r P → OnOk r Q → OnOk r R
on_ok (Ok x) f p q = f p q
on_ok (Err e) f p q = tt

pub on_err : {T E : Type 0} {P R : Type 0} (r : Result T E) → (P → R) → OnErr r P → OnErr r R
on_err (Ok x) f p = tt
on_err (Err e) f p = f p

pub by_err : {T E : Type 0} {P : Type 0} (r : Result T E) → P → OnErr r P
by_err (Ok x) p = tt
by_err (Err e) p = p

pub grown_either : {T E : Type 0} (r : Result T E) (kept new : Option (List ℕ)) (piece : List ℕ) → OnOk r (Grows kept new piece) → OnErr r (GrowsBy kept new piece) → HasGrown kept new
grown_either (Ok x) kept new piece p q = record { more = piece; is = p }
grown_either (Err e) kept new piece p q = record { more = q.0; is = q.2 }
