-- A record that was read part by part while names were found.
use Rattle.std.proofs.Common.{◌≡◌, ◌∙◌, ℕ, zero, suc, ◌<◌, ◌≤◌, List, [], ◌∷◌, length, nat_lt, is_some, Result, Ok, Err, refl, sym, ap, subst, arith}
use Rattle.std.proofs.lemmas.Bool.{lt-ltb}
use Rattle.std.specs.Prelude.{All, Bool, true, false, if◌then◌else◌}
use Rattle.std.proofs.lemmas.List.Elements.{All-head, All-tail}
use Rattle.codec_rules.specs.Input.{Input}
use Rattle.codec_rules.specs.Sequence.{◌>>=◌, or_fault}
use Rattle.codec_rules.specs.Reading.{number_at}
use Rattle.codec_rules.specs.Meets.{Fails}
use Rattle.std.specs.Int.{w64}
use Rattle.history_rules.specs.declared.fault.HistoryFault.TheVariants.{HistoryBad, Memory}
use Rattle.program_rules.specs.Names.{Name}
use Rattle.class_model.specs.declared.outcome.Outcome.{Outcome}
use Rattle.class_model.specs.declared.outcome.Outcome.TheVariants.{Failed}
use Rattle.class_model.specs.declared.outcome.Cause.TheVariants.{Thrown}
use Rattle.history_rules.specs.declared.fault.HistoryFault.{HistoryFault}
use Rattle.history_rules.specs.Items.{u4_at, u8_at, where_at, text_at}
use Rattle.history_rules.specs.Classes.{class_of}
use Rattle.history_rules.specs.Entries as history
use Rattle.history_rules.specs.Reading.{outcome_at, are_steps, entries_at, pairs_at, record_at}
use Rattle.history_rules.proofs.Pools.{there}
use Rattle.history_file.specs.declared.row.End.{End}
use Rattle.history_file.specs.declared.row.End.TheVariants as end
use Rattle.history_file.specs.declared.row.Entry.{Entry}
use Rattle.history_file.specs.declared.row.Row.{Row}
use Rattle.history_file.specs.declared.texts.Texts.{Texts}
use Rattle.history_file.specs.Rows.{name_of, outcome_of, record_of, IsEnd, IsEntry}
use Rattle.history_file.specs.Texts.{texts_of, Grown}
use Rattle.history_file.specs.Reading.{Told, EntriesTold, RecordTold, entries_of, ArePresent}
use Rattle.history_file.proofs.Numbers.{name_kept}
use Rattle.history_file.proofs.Halfway.{grown_on, not_fewer}

pub name_later : (a b : Texts) (k : ℕ) → Grown a b → k < length (texts_of a) → name_of (texts_of b) k ≡ name_of (texts_of a) k
name_later a b k g lt = ap (λ (ts : List (List ℕ)). name_of ts k) g.texts ∙ name_kept (texts_of a) g.more k lt

pub outcome_later : (a b : Texts) (e : End) → Grown a b → IsEnd (length (texts_of a)) e → outcome_of (texts_of b) e ≡ outcome_of (texts_of a) e
outcome_later a b end.Passed g within = refl
outcome_later a b end.Returned g within = refl
outcome_later a b (end.Thrown k) g within = ap (λ (n : Name). Failed (Thrown n)) (name_later a b k g within)
outcome_later a b end.TimedOut g within = refl
outcome_later a b end.MemoryOut g within = refl

pub end_within : (m n : ℕ) (e : End) → m ≤ n → IsEnd m e → IsEnd n e
end_within m n end.Passed le h = tt
end_within m n end.Returned le h = tt
end_within m n (end.Thrown k) le h = omega (arith, h, le)
end_within m n end.TimedOut le h = tt
end_within m n end.MemoryOut le h = tt

-- ---- entries with classes

class_there : (pool : List (List ℕ)) (n : ℕ) → n ≤ length pool → is_some (class_of pool n) ≡ nat_lt 0 n
class_there pool zero le = refl
class_there pool (suc k) le = let x = there pool k (omega (arith, le)) in ap is_some x.1 ∙ sym (lt-ltb 0 (suc k) (omega arith))

pub are_present : (pool texts : List (List ℕ)) (es : List Entry) → All (IsEntry (length texts) (length pool)) es → ArePresent (entries_of pool texts es) es
are_present pool texts [] within k = refl
are_present pool texts (e ∷ es) within zero = class_there pool e.class (All-head (IsEntry (length texts) (length pool)) e es within).1
are_present pool texts (e ∷ es) within (suc k) = are_present pool texts es (All-tail (IsEntry (length texts) (length pool)) e es within) k

-- ---- the record

whole : (version : ℕ) (pool : List (List ℕ)) (used : ℕ) (c m : Name) (h d l : ℕ) (o : Outcome) (s : ℕ) (es : List history.Entry) (ps : List (ℕ × ℕ)) (i0 i1 i2 i3 i4 i5 i6 i7 i8 i9 : Input)
    → text_at i0 ≡ Ok (c, i1) → text_at i1 ≡ Ok (m, i2) → u4_at i2 ≡ Ok (h, i3) → u4_at i3 ≡ Ok (d, i4) → u8_at i4 ≡ Ok (l, i5) → outcome_at version i5 ≡ Ok (o, i6)
    → where_at u8_at (are_steps l o) i6 ≡ Ok (s, i7) → entries_at pool used i7 ≡ Ok (es, i8) → pairs_at es i8 ≡ Ok (ps, i9)
    → record_at version pool used i0 ≡ Ok (record { test_class = c; test_method = m; heap = h; depth = d; limit = l; outcome = o; steps = s; consulted = es; reached = ps }, i9)
unfolding record_at
whole version pool used c m h d l o s es ps i0 i1 i2 i3 i4 i5 i6 i7 i8 i9 e1 e2 e3 e4 e5 e6 e7 e8 e9 = rw (e1, e2, e3, e4, e5, e6, e7, e8, e9) refl

pub record_is : (version : ℕ) (pool : List (List ℕ)) (used later stamp : ℕ) (r : Row) (t0 t1 t2 t3 t4 : Texts) (i0 i1 i2 i3 i4 i5 i6 i7 i8 i9 : Input)
    → text_at i0 ≡ Ok (name_of (texts_of t1) r.test_class, i1) → Told t0 t1 (λ n. r.test_class < n)
    → text_at i1 ≡ Ok (name_of (texts_of t2) r.test_method, i2) → Told t1 t2 (λ n. r.test_method < n)
    → u4_at i2 ≡ Ok (r.heap, i3) → u4_at i3 ≡ Ok (r.depth, i4) → u8_at i4 ≡ Ok (r.limit, i5)
    → outcome_at version i5 ≡ Ok (outcome_of (texts_of t3) r.end, i6) → Told t2 t3 (λ n. IsEnd n r.end)
    → where_at u8_at (are_steps r.limit (outcome_of (texts_of t3) r.end)) i6 ≡ Ok (r.steps, i7)
    → entries_at pool used i7 ≡ Ok (entries_of pool (texts_of t4) r.consulted, i8) → EntriesTold pool used later stamp t3 t4 r.consulted
    → pairs_at (entries_of pool (texts_of t4) r.consulted) i8 ≡ Ok (r.reached, i9)
    → (record_at version pool used i0 ≡ Ok (record_of (texts_of t4) pool r, i9)) × RecordTold pool used later stamp t0 t4 r
record_is version pool used later stamp r t0 t1 t2 t3 t4 i0 i1 i2 i3 i4 i5 i6 i7 i8 i9 e1 a e2 b e3 e4 e5 e6 c e7 e8 d e9 =
    let g3 = d.grown in
    let g2 = grown_on t2 t3 t4 c.grown g3 in
    let g1 = grown_on t1 t2 t4 b.grown g2 in
    let n1 : name_of (texts_of t1) r.test_class ≡ name_of (texts_of t4) r.test_class = sym (name_later t1 t4 r.test_class g1 a.within) in
    let n2 : name_of (texts_of t2) r.test_method ≡ name_of (texts_of t4) r.test_method = sym (name_later t2 t4 r.test_method g2 b.within) in
    let n3 : outcome_of (texts_of t3) r.end ≡ outcome_of (texts_of t4) r.end = sym (outcome_later t3 t4 r.end g3 c.within) in
    let le1 = not_fewer t1 t4 g1 in
    let le2 = not_fewer t2 t4 g2 in
    let w1 = a.within in
    let w2 = b.within in (
      whole version pool used (name_of (texts_of t4) r.test_class) (name_of (texts_of t4) r.test_method) r.heap r.depth r.limit (outcome_of (texts_of t4) r.end) r.steps (entries_of pool (texts_of t4) r.consulted) r.reached i0 i1 i2 i3 i4 i5 i6 i7 i8 i9
          (subst (λ (n : Name). text_at i0 ≡ Ok (n, i1)) n1 e1) (subst (λ (n : Name). text_at i1 ≡ Ok (n, i2)) n2 e2) e3 e4 e5 (subst (λ (o : Outcome). outcome_at version i5 ≡ Ok (o, i6)) n3 e6)
          (subst (λ (o : Outcome). where_at u8_at (are_steps r.limit o) i6 ≡ Ok (r.steps, i7)) n3 e7) e8 e9,
      record {
        row = record { class = omega (arith, w1, le1); method = omega (arith, w2, le2); thrown = end_within (length (texts_of t3)) (length (texts_of t4)) r.end (not_fewer t3 t4 g3) c.within; names = d.entries };
        grown = grown_on t0 t1 t4 a.grown g1;
        numbers = d.numbers;
        marked = d.marked;
        used = d.used;
      },
    )

-- the last part has a fault
pub lines_fail : (version : ℕ) (pool : List (List ℕ)) (used : ℕ) (c m : Name) (h d l : ℕ) (o : Outcome) (s : ℕ) (es : List history.Entry) (i0 i1 i2 i3 i4 i5 i6 i7 i8 : Input) (fault : HistoryFault)
    → text_at i0 ≡ Ok (c, i1) → text_at i1 ≡ Ok (m, i2) → u4_at i2 ≡ Ok (h, i3) → u4_at i3 ≡ Ok (d, i4) → u8_at i4 ≡ Ok (l, i5) → outcome_at version i5 ≡ Ok (o, i6)
    → where_at u8_at (are_steps l o) i6 ≡ Ok (s, i7) → entries_at pool used i7 ≡ Ok (es, i8) → Fails Memory fault (pairs_at es i8) → Fails Memory fault (record_at version pool used i0)
unfolding record_at
lines_fail version pool used c m h d l o s es i0 i1 i2 i3 i4 i5 i6 i7 i8 fault e1 e2 e3 e4 e5 e6 e7 e8 fails = λ known. rw (e1, e2, e3, e4, e5, e6, e7, e8, fails known) refl

kept : {A : Type 0} (b : Bool) (x : A) (fault : HistoryFault) → b ≡ true → (if b then Ok x else Err fault) ≡ Ok x
kept true x fault e = refl
kept false x fault e = absurd cc

pub steps_pass : (test : ℕ → Bool) (i j : Input) (n : ℕ) → number_at w64 i ≡ Ok (n, j) → test n ≡ true → where_at u8_at test i ≡ Ok (n, j)
steps_pass test i j n e is =
    ap (λ (x : Result (ℕ × Input) ℕ). or_fault HistoryBad x >>= λ y. if test y.0 then Ok y else Err (HistoryBad i.at)) e ∙ kept (test n) (n, j) (HistoryBad i.at) is
