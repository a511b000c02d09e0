-- Entries, read one after the other while names are found.
use Rattle.std.proofs.Common.{◌≡◌, ◌∙◌, ℕ, ◌-◌, ◌+◌, ◌<◌, ◌≤◌, max, List, [], ◌∷◌, ◌++◌, length, Result, Ok, Err, refl, sym, ap, ap₂, append_assoc, append-nil, arith}
use Rattle.std.specs.Prelude.{All}
use Rattle.std.proofs.lemmas.List.{map-append, length-append}
use Rattle.std.proofs.lemmas.List.Elements.{All-push, All-weaker, All-nil}
use Rattle.codec_rules.specs.Input.{Input}
use Rattle.codec_rules.specs.Reading.{with_front}
use Rattle.codec_rules.specs.Meets.{Fails}
use Rattle.program_rules.specs.Names.{Name}
use Rattle.history_rules.specs.declared.fault.HistoryFault.{HistoryFault}
use Rattle.history_rules.specs.declared.fault.HistoryFault.TheVariants.{Memory}
use Rattle.history_rules.specs.Items.{many_by}
use Rattle.history_rules.specs.Classes.{number_of, class_of}
use Rattle.history_rules.specs.Entries as history
use Rattle.history_rules.specs.Entries.{Used, entry_at, with_entry}
use Rattle.history_rules.specs.Histories.{used_behind}
use Rattle.history_rules.specs.Laws.{AreDifferent}
use Rattle.history_rules.proofs.Pools.{number_class}
use Rattle.history_file.specs.declared.row.Entry.{Entry}
use Rattle.history_file.specs.declared.texts.Texts.{Texts}
use Rattle.history_file.specs.Rows.{name_of, entry_of, IsEntry}
use Rattle.history_file.specs.Texts.{AreTexts, texts_of, Grown, Marked}
use Rattle.history_file.specs.Reading.{names_of, used_with, entries_of, EntryTold, EntriesTold}
use Rattle.history_file.proofs.Loops.{goes_by, ends_by, is_done_by}
use Rattle.history_file.proofs.Numbers.{names_kept, entries_kept}

pub front_none : {F A : Type 0} (r : Result (List A × Input) F) → with_front [] r ≡ r
front_none (Ok x) = refl
front_none (Err fault) = refl

-- ---- texts that grow

pub grown_same : (t : Texts) → AreTexts t → Grown t t
grown_same t h = record { known = h; more = []; texts = sym (append-nil (texts_of t)) }

pub grown_on : (a b c : Texts) → Grown a b → Grown b c → Grown a c
grown_on a b c g h = record {
  known = h.known;
  more = g.more ++ h.more;
  texts = h.texts ∙ ap (λ (ts : List (List ℕ)). ts ++ h.more) g.texts ∙ append_assoc (texts_of a) g.more h.more;
}

pub not_fewer : (a b : Texts) → Grown a b → length (texts_of a) ≤ length (texts_of b)
not_fewer a b g = let e : length (texts_of b) ≡ length (texts_of a) + length g.more = ap length g.texts ∙ length-append (texts_of a) g.more in omega (arith, e)

pub names_later : (a b : Texts) (ns : List ℕ) → Grown a b → All (λ n. n < length (texts_of a)) ns → names_of (texts_of b) ns ≡ names_of (texts_of a) ns
names_later a b ns g within = ap (λ (ts : List (List ℕ)). names_of ts ns) g.texts ∙ names_kept (texts_of a) g.more ns within

pub entries_later : (pool : List (List ℕ)) (a b : Texts) (es : List Entry) → Grown a b → All (IsEntry (length (texts_of a)) (length pool)) es → entries_of pool (texts_of b) es ≡ entries_of pool (texts_of a) es
entries_later pool a b es g within = ap (λ (ts : List (List ℕ)). entries_of pool ts es) g.texts ∙ entries_kept pool (texts_of a) g.more es within

-- ---- the loop

used_more : (pool : List (List ℕ)) (used : ℕ) (xs : List history.Entry) (x : history.Entry) → used_behind pool used (xs ++ x ∷ []) ≡ max (used_behind pool used xs) (number_of pool x.1)
used_more pool used [] x = refl
used_more pool used (y ∷ ys) x = used_more pool (max used (number_of pool y.1)) ys x

-- So many entries are read.
pub record Halfway (pool : List (List ℕ)) (earlier stamp count i : ℕ) (old now : Texts) (from to : Input) (later : ℕ) (es : List Entry) : Type 0 where
  pub numbers : List ℕ
  pub total :
      with_front (entries_of pool (texts_of now) es) (many_by (entry_at pool) (with_entry pool) (used_with (texts_of now) later numbers) (count - i) to)
      ≡ many_by (entry_at pool) (with_entry pool) (used_with [] earlier []) count from
  pub marked : Marked now stamp numbers
  pub entries : All (IsEntry (length (texts_of now)) (length pool)) es
  pub grown : Grown old now
  pub used : later ≡ used_behind pool earlier (entries_of pool (texts_of now) es)

pub begins : (pool : List (List ℕ)) (used stamp count : ℕ) (t : Texts) (from : Input) → AreTexts t → Marked t stamp [] → Halfway pool used stamp count 0 t t from from used []
begins pool used stamp count t from h m = record {
  numbers = [];
  total =
      (let z : count - 0 ≡ count = omega arith in
      ap (λ (n : ℕ). with_front {A = history.Entry} [] (many_by (entry_at pool) (with_entry pool) (used_with [] used []) n from)) z
      ∙ front_none (many_by (entry_at pool) (with_entry pool) (used_with [] used []) count from));
  marked = m;
  entries = All-nil (IsEntry (length (texts_of t)) (length pool));
  grown = grown_same t h;
  used = refl;
}

abbrev used_by : ℕ → List Name → Used
used_by classes names = record { classes = classes; names = names }

pub one_more : (pool : List (List ℕ)) (used stamp count i : ℕ) (old now new : Texts) (from to after : Input) (later : ℕ) (es : List Entry) (e : Entry) (h : Halfway pool used stamp count i old now from to later es) → AreDifferent pool → i < count
    → entry_at pool (used_with (texts_of now) later h.numbers) to ≡ Ok (entry_of (texts_of new) pool e, after) → EntryTold pool stamp h.numbers now new e
    → Halfway pool used stamp count (i + 1) old new from after (max later e.class) (es ++ e ∷ [])
one_more pool used stamp count i old now new from to after later es e h different lt read told =
    let number : number_of pool (class_of pool e.class) ≡ e.class = number_class pool e.class different told.entry.1 in
    let x = entry_of (texts_of new) pool e in
    let front : entries_of pool (texts_of new) (es ++ e ∷ []) ≡ entries_of pool (texts_of now) es ++ x ∷ [] =
    map-append (entry_of (texts_of new) pool) es (e ∷ []) ∙ ap (λ (xs : List history.Entry). xs ++ x ∷ []) (entries_later pool now new es told.grown h.entries) in
    let state : used_with (texts_of new) (max later e.class) (e.name ∷ h.numbers) ≡ with_entry pool (used_with (texts_of now) later h.numbers) x =
    ap₂ (λ (n : ℕ) (names : List Name). used_by (max later n) (name_of (texts_of new) e.name ∷ names)) (sym number) (names_later now new h.numbers told.grown h.marked.within) in
    record {
      numbers = e.name ∷ h.numbers;
      total =
          ap₂ (λ (xs : List history.Entry) (s : Used). with_front xs (many_by (entry_at pool) (with_entry pool) s (count - (i + 1)) after)) front state
          ∙ goes_by (entry_at pool) (with_entry pool) (entries_of pool (texts_of now) es) count i (used_with (texts_of now) later h.numbers) to x after (many_by (entry_at pool) (with_entry pool) (used_with [] used []) count from) lt read h.total;
      marked = told.marked;
      entries = All-push (IsEntry (length (texts_of new)) (length pool)) es e (All-weaker (IsEntry (length (texts_of now)) (length pool)) (IsEntry (length (texts_of new)) (length pool)) (λ f q. (let le = not_fewer now new told.grown in let lt2 = q.0 in omega (arith, lt2, le), q.1)) es h.entries) told.entry;
      grown = grown_on old now new h.grown told.grown;
      used =
          ap₂ max h.used (sym number)
          ∙ sym (used_more pool used (entries_of pool (texts_of now) es) x)
          ∙ ap (used_behind pool used) (sym front);
    }

pub entry_fails : (pool : List (List ℕ)) (used stamp count i : ℕ) (old now : Texts) (from to : Input) (later : ℕ) (es : List Entry) (fault : HistoryFault) (h : Halfway pool used stamp count i old now from to later es) → i < count
    → Fails Memory fault (entry_at pool (used_with (texts_of now) later h.numbers) to) → Fails Memory fault (many_by (entry_at pool) (with_entry pool) (used_with [] used []) count from)
entry_fails pool used stamp count i old now from to later es fault h lt fails =
    ends_by Memory fault (entry_at pool) (with_entry pool) (entries_of pool (texts_of now) es) count i (used_with (texts_of now) later h.numbers) to (many_by (entry_at pool) (with_entry pool) (used_with [] used []) count from) lt fails h.total

pub all_read : (pool : List (List ℕ)) (used stamp count i : ℕ) (old now : Texts) (from to : Input) (later : ℕ) (es : List Entry) (h : Halfway pool used stamp count i old now from to later es) → count ≤ i
    → many_by (entry_at pool) (with_entry pool) (used_with [] used []) count from ≡ Ok (entries_of pool (texts_of now) es, to)
all_read pool used stamp count i old now from to later es h le =
    is_done_by (entry_at pool) (with_entry pool) (entries_of pool (texts_of now) es) count i (used_with (texts_of now) later h.numbers) to (many_by (entry_at pool) (with_entry pool) (used_with [] used []) count from) le h.total

pub all_told : (pool : List (List ℕ)) (used stamp count i : ℕ) (old now : Texts) (from to : Input) (later : ℕ) (es : List Entry) → Halfway pool used stamp count i old now from to later es → EntriesTold pool used later stamp old now es
all_told pool used stamp count i old now from to later es h = record { entries = h.entries; grown = h.grown; numbers = h.numbers; marked = h.marked; used = h.used }
