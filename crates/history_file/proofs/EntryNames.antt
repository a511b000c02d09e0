-- The name of an entry is new where its number isn't marked.
use Rattle.std.proofs.Common.{◌≡◌, ◌∙◌, ℕ, ◌+◌, ◌<◌, Bool, true, false, List, not, nat_eq, length, Result, Ok, Err, refl, sym, ap, arith}
use Rattle.std.specs.Prelude.{All, if◌then◌else◌}
use Rattle.std.specs.List.{list_any}
use Rattle.std.proofs.lemmas.List.Elements.{All-weaker}
use Rattle.codec_rules.specs.Input.{Input}
use Rattle.codec_rules.specs.Sequence.{◌>>=◌}
use Rattle.program_rules.specs.Names.{Name}
use Rattle.history_rules.specs.declared.fault.HistoryFault.{HistoryFault}
use Rattle.history_rules.specs.declared.fault.HistoryFault.TheVariants.{HistoryBad, Memory}
use Rattle.history_rules.specs.Items.{u4_at, where_at, text_at, text_where}
use Rattle.history_rules.specs.Entries.{Used, is_new, is_number, entry_at}
use Rattle.history_rules.specs.Classes.{class_of}
use Rattle.codec_rules.specs.Meets.{Fails}
use Rattle.history_file.specs.declared.texts.Texts.{Texts}
use Rattle.history_file.specs.Rows.{name_of}
use Rattle.history_file.specs.Texts.{texts_of}
use Rattle.history_file.specs.Reading.{Told, names_of}
use Rattle.history_file.proofs.Numbers.{listed_by_number}
use Rattle.history_file.proofs.Halfway.{names_later, not_fewer}

new_by_number : (t0 t1 : Texts) (k : ℕ) (numbers : List ℕ) → Told t0 t1 (λ n. k < n) → All (λ n. n < length (texts_of t0)) numbers → is_new (names_of (texts_of t0) numbers) (name_of (texts_of t1) k) ≡ not (list_any (nat_eq k) numbers)
new_by_number t0 t1 k numbers told within =
    let le = not_fewer t0 t1 told.grown in
    ap (λ (names : List Name). is_new names (name_of (texts_of t1) k)) (sym (names_later t0 t1 numbers told.grown within))
    ∙ ap not (listed_by_number (texts_of t1) k numbers told.grown.known.valid told.within (All-weaker (λ (n : ℕ). n < length (texts_of t0)) (λ (n : ℕ). n < length (texts_of t1)) (λ n lt. omega (arith, lt, le)) numbers within))

passed : {A : Type 0} (b : Bool) (x : A) (fault : HistoryFault) → b ≡ true → (if b then Ok x else Err fault) ≡ Ok x
passed true x fault e = refl
passed false x fault e = absurd cc

refused : {A : Type 0} (b : Bool) (x : A) (fault : HistoryFault) → b ≡ false → (if b then Ok x else Err fault) ≡ Err fault
refused true x fault e = absurd cc
refused false x fault e = refl

abbrev judged : (Name → Bool) → Input → Result (Name × Input) HistoryFault → Result (Name × Input) HistoryFault
judged test i read = read >>= λ x. if test x.0 then Ok x else Err (HistoryBad (i.at + 2))

pub name_passes : (t0 t1 : Texts) (k : ℕ) (numbers : List ℕ) (i j : Input) (fresh : Bool) → Told t0 t1 (λ n. k < n) → All (λ n. n < length (texts_of t0)) numbers → text_at i ≡ Ok (name_of (texts_of t1) k, j) → fresh ≡ not (list_any (nat_eq k) numbers) → fresh ≡ true
    → text_where (is_new (names_of (texts_of t0) numbers)) i ≡ Ok (name_of (texts_of t1) k, j)
name_passes t0 t1 k numbers i j fresh told within read is yes_is =
    let test = is_new (names_of (texts_of t0) numbers) in
    ap (judged test i) read
    ∙ passed (test (name_of (texts_of t1) k)) (name_of (texts_of t1) k, j) (HistoryBad (i.at + 2)) (new_by_number t0 t1 k numbers told within ∙ sym is ∙ yes_is)

pub name_fails : (t0 t1 : Texts) (k : ℕ) (numbers : List ℕ) (i j : Input) (fresh : Bool) → Told t0 t1 (λ n. k < n) → All (λ n. n < length (texts_of t0)) numbers → text_at i ≡ Ok (name_of (texts_of t1) k, j) → fresh ≡ not (list_any (nat_eq k) numbers) → fresh ≡ false
    → text_where (is_new (names_of (texts_of t0) numbers)) i ≡ Err (HistoryBad (i.at + 2))
name_fails t0 t1 k numbers i j fresh told within read is no_is =
    let test = is_new (names_of (texts_of t0) numbers) in
    ap (judged test i) read
    ∙ refused (test (name_of (texts_of t1) k)) (name_of (texts_of t1) k, j) (HistoryBad (i.at + 2)) (new_by_number t0 t1 k numbers told within ∙ sym is ∙ no_is)

-- ---- entries

pub entry_passes : (pool : List (List ℕ)) (u : Used) (i j l : Input) (name : Name) (n : ℕ) → text_where (is_new u.names) i ≡ Ok (name, j) → where_at u4_at (is_number pool u.classes) j ≡ Ok (n, l) → entry_at pool u i ≡ Ok ((name, class_of pool n), l)
unfolding entry_at
entry_passes pool u i j l name n e f = rw (e, f) refl

pub no_name : (pool : List (List ℕ)) (u : Used) (i : Input) (fault : HistoryFault) → Fails Memory fault (text_where (is_new u.names) i) → Fails Memory fault (entry_at pool u i)
unfolding entry_at
no_name pool u i fault h = λ known. rw (h known) refl

pub no_class : (pool : List (List ℕ)) (u : Used) (i j : Input) (name : Name) (fault : HistoryFault) → text_where (is_new u.names) i ≡ Ok (name, j) → Fails Memory fault (where_at u4_at (is_number pool u.classes) j) → Fails Memory fault (entry_at pool u i)
unfolding entry_at
no_class pool u i j name fault e h = λ known. rw (e, h known) refl
