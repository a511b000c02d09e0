-- Names of a record by their texts, and classes of a journal by their numbers.
use Rattle.std.proofs.Common.{◌≡◌, ◌≢◌, ◌∙◌, ℕ, zero, suc, ◌+◌, ◌-◌, ◌<◌, ◌≤◌, max, Bool, true, false, not, List, [], ◌∷◌, ◌++◌, length, map, take, Option, Some, None, Result, Ok, Err, refl, sym, ap, subst, arith}
use Rattle.std.specs.Prelude.{◌||◌, nat_lt, slice_get, if◌then◌else◌}
use Rattle.std.specs.Int.{w16, byte_len, from_be_bytes}
use Rattle.std.specs.List.{AllByRecursion}
use Rattle.class_model.specs.Text.{IsUnits, text, units_of}
use Rattle.class_model.proofs.TextReading.{units_of-text, units_of-takes}
use Rattle.codec_rules.specs.Input.{Input, behind}
use Rattle.codec_rules.specs.Meets.{Fails}
use Rattle.codec_rules.specs.Reading.{with_front, number_at, bytes_at}
use Rattle.codec_rules.specs.Sequence.{◌>>=◌}
use Rattle.codec_rules.proofs.Sequence.{ok_is}
use Rattle.program_rules.specs.Names.{Name, same, is_listed}
use Rattle.history_rules.specs.declared.fault.HistoryFault.{HistoryFault}
use Rattle.history_rules.specs.declared.fault.HistoryFault.TheVariants.{HistoryBad, Memory}
use Rattle.history_rules.specs.Items.{many_by, name_or, text_at, text_where}
use Rattle.history_rules.specs.Classes.{place_of, number_of, class_of}
use Rattle.history_rules.specs.Entries.{Entry, Used, is_new, entry_at, with_entry}
use Rattle.history_rules.proofs.Pools.{bytes_are, same_self}
use Rattle.history_file.specs.declared.slices.Slices.{Slices}
use Rattle.history_file.specs.Texts.{HasSlices}
use Rattle.history_file.proofs.Loops.{goes_by, ends_by, is_done_by}
use Rattle.run_journal.specs.Seen.{HasTexts, used_all, HalfEntries}

-- ---- texts

text_tells : (a b : Name) → IsUnits a → IsUnits b → text a ≡ text b → a ≡ b
text_tells a b p q e =
    let one : Some a ≡ Some b = sym (units_of-text a p) ∙ ap units_of e ∙ units_of-text b q in
    cc

bool_same : (a b : Bool) → (a ≡ true → b ≡ true) → (b ≡ true → a ≡ true) → a ≡ b
bool_same true true f g = refl
bool_same true false f g = sym (f refl)
bool_same false true f g = g refl
bool_same false false f g = refl

same_texts : (a b : Name) → IsUnits a → IsUnits b → same a b ≡ same (text a) (text b)
same_texts a b p q =
    bool_same (same a b) (same (text a) (text b))
    (λ h. subst (λ (z : Name). same (text a) (text z) ≡ true) (bytes_are a b h) (same_self (text a)))
    (λ h. subst (λ (z : Name). same a z ≡ true) (text_tells a b p q (bytes_are (text a) (text b) h)) (same_self a))

listed_texts : (name : Name) (names : List Name) → IsUnits name → AllByRecursion IsUnits names → is_listed name names ≡ is_listed (text name) (map text names)
listed_texts name [] p all = refl
listed_texts name (n ∷ ns) p all =
    ap (λ (b : Bool). b || is_listed name ns) (same_texts n name all.0 p) ∙ ap (λ (b : Bool). same (text n) (text name) || b) (listed_texts name ns p all.1)

-- ---- a text that is read

name_is : (at : ℕ) (o : Option Name) (name : Name) → name_or at o ≡ Ok name → o ≡ Some name
name_is at None name e = absurd cc
name_is at (Some x) name e = let same : x ≡ name = ok_is {F = HistoryFault} x name e in ap (λ (n : Name). Some n) same

pub text_read : (i j k : Input) (len : ℕ) (bytes : List ℕ) (name : Name) (at : ℕ) → number_at w16 i ≡ Ok (len, j) → at ≡ j.at → bytes_at len j ≡ Ok (bytes, k) → name_or at (units_of bytes) ≡ Ok name → (text_at i ≡ Ok (name, k)) × (units_of bytes ≡ Some name)
unfolding text_at
text_read i j k len bytes name at e is f g =
    let h : name_or j.at (units_of bytes) ≡ Ok name = ap (λ (a : ℕ). name_or a (units_of bytes)) (sym is) ∙ g in
    (rw (e, f, h) refl, name_is at (units_of bytes) name g)

place_by : (b : Bool) (at : ℕ) (x y : ℕ × Input) → (if b then Err at else Ok x) ≡ Ok y → x ≡ y
place_by true at x y e = absurd cc
place_by false at x y e = ok_is {F = ℕ} x y e

pub number_place : (i j : Input) (len at : ℕ) → number_at w16 i ≡ Ok (len, j) → at ≡ j.at → at ≡ i.at + 2
number_place i j len at e is =
    let same = place_by (nat_lt (length i.bytes) (byte_len w16)) i.at (from_be_bytes w16 (take (byte_len w16) i.bytes), behind (byte_len w16) i) (len, j) e in
    is ∙ ap (λ (x : ℕ × Input). x.1.at) (sym same)

passed : {A : Type 0} (b : Bool) (x : A) (fault : HistoryFault) → b ≡ true → (if b then Ok x else Err fault) ≡ Ok x
passed true x fault e = refl
passed false x fault e = absurd cc

refused : {A : Type 0} (b : Bool) (x : A) (fault : HistoryFault) → b ≡ false → (if b then Ok x else Err fault) ≡ Err fault
refused true x fault e = absurd cc
refused false x fault e = refl

abbrev judged : (Name → Bool) → Input → Result (Name × Input) HistoryFault → Result (Name × Input) HistoryFault
judged test i read = read >>= λ x. if test x.0 then Ok x else Err (HistoryBad (i.at + 2))

pub name_passes : (test : Name → Bool) (i k : Input) (name : Name) → text_at i ≡ Ok (name, k) → test name ≡ true → text_where test i ≡ Ok (name, k)
name_passes test i k name read is = ap (judged test i) read ∙ passed (test name) (name, k) (HistoryBad (i.at + 2)) is

pub name_fails : (test : Name → Bool) (i k : Input) (name : Name) (at : ℕ) → text_at i ≡ Ok (name, k) → test name ≡ false → at ≡ i.at + 2 → text_where test i ≡ Err (HistoryBad at)
name_fails test i k name at read is place = ap (judged test i) read ∙ refused (test name) (name, k) (HistoryBad (i.at + 2)) is ∙ ap (λ (a : ℕ). Err (HistoryBad a)) (sym place)

-- the name is new where its text was put as a new one
pub name_is_new : (old new : Slices) (bytes : List ℕ) (name : Name) (names : List Name) (fresh : Bool) → units_of bytes ≡ Some name → ((xs : List (List ℕ)) → HasSlices old xs → (fresh ≡ not (is_listed bytes xs)) × HasSlices new (bytes ∷ xs)) → HasTexts old names → fresh ≡ is_new names name
name_is_new old new bytes name names fresh spelled put has =
    let t = units_of-takes bytes name spelled in
    (put (map text names) has.texts).0 ∙ ap (λ (bs : List ℕ). not (is_listed bs (map text names))) (sym t.1) ∙ ap not (sym (listed_texts name names t.0 has.units))

pub name_is_seen : (old new : Slices) (bytes : List ℕ) (name : Name) (names : List Name) (fresh : Bool) → units_of bytes ≡ Some name → ((xs : List (List ℕ)) → HasSlices old xs → (fresh ≡ not (is_listed bytes xs)) × HasSlices new (bytes ∷ xs)) → HasTexts old names → HasTexts new (name ∷ names)
name_is_seen old new bytes name names fresh spelled put has =
    let t = units_of-takes bytes name spelled in
    record { units = (t.0, has.units); texts = subst (λ (bs : List ℕ). HasSlices new (bs ∷ map text names)) (sym t.1) (put (map text names) has.texts).1 }

-- ---- numbers

place_low : (pool : List (List ℕ)) (k : ℕ) (x : List ℕ) → slice_get pool k ≡ Some x → place_of pool x ≤ k
place_low [] k x e = absurd cc
place_low (c ∷ cs) zero x e = let is : c ≡ x = cc in by (same c x) (subst (λ (z : List ℕ). same c z ≡ true) is (same_self c))
  where
    by : (b : Bool) → b ≡ true → (if b then 0 else suc (place_of cs x)) ≤ 0
    by true e = omega arith
    by false e = absurd cc
place_low (c ∷ cs) (suc k) x e = by (same c x) (place_low cs k x e)
  where
    by : (b : Bool) → place_of cs x ≤ k → (if b then 0 else suc (place_of cs x)) ≤ suc k
    by true le = omega arith
    by false le = omega (arith, le)

below_end : (pool : List (List ℕ)) (k : ℕ) (x : List ℕ) → slice_get pool k ≡ Some x → k < length pool
below_end [] k x e = absurd cc
below_end (c ∷ cs) zero x e = omega arith
below_end (c ∷ cs) (suc k) x e = let lt = below_end cs k x e in omega (arith, lt)

number_low : (pool : List (List ℕ)) (n : ℕ) → number_of pool (class_of pool n) ≤ length pool
number_low pool zero = omega arith
number_low pool (suc k) = by (slice_get pool k) refl
  where
    by : (o : Option (List ℕ)) → slice_get pool k ≡ o → number_of pool o ≤ length pool
    by None e = omega arith
    by (Some x) e = let a = place_low pool k x e in let b = below_end pool k x e in omega (arith, a, b)

pub entry_counts : (pool : List (List ℕ)) (names : List Name) (name : Name) (n : ℕ) → with_entry pool (used_all pool names) (name, class_of pool n) ≡ used_all pool (name ∷ names)
entry_counts pool names name n =
    let low = number_low pool n in
    let e : max (length pool) (number_of pool (class_of pool n)) ≡ length pool = omega (arith, low) in
    λ i. record { classes = e i; names = name ∷ names }

-- ---- the loop

abbrev total : List (List ℕ) → ℕ → Input → Result (List Entry × Input) HistoryFault
total pool count from = many_by (entry_at pool) (with_entry pool) (used_all pool []) count from

pub entries_begin : (pool : List (List ℕ)) (count : ℕ) (from : Input) (seen : Slices) → HasSlices seen [] → HalfEntries pool count 0 from from seen []
entries_begin pool count from seen none = record {
  names = [];
  has = record { units = tt; texts = none };
  total = (let z : count - 0 ≡ count = omega arith in ap (λ (n : ℕ). with_front {A = Entry} [] (many_by (entry_at pool) (with_entry pool) (used_all pool []) n from)) z ∙ front_none (total pool count from));
}
  where
    front_none : (r : Result (List Entry × Input) HistoryFault) → with_front [] r ≡ r
    front_none (Ok x) = refl
    front_none (Err fault) = refl

pub entries_go_on : (pool : List (List ℕ)) (count i : ℕ) (from to after : Input) (seen new : Slices) (entries more : List Entry) (e : Entry) (n : ℕ) → HalfEntries pool count i from to seen entries → i < count → more ≡ entries ++ e ∷ [] → e.1 ≡ class_of pool n
    → ((names : List Name) → HasTexts seen names → entry_at pool (used_all pool names) to ≡ Ok (e, after)) → ((names : List Name) → HasTexts seen names → HasTexts new (e.0 ∷ names)) → HalfEntries pool count (i + 1) from after new more
entries_go_on pool count i from to after seen new entries more e n h lt pushed class read told = record {
  names = e.0 ∷ h.names;
  has = told h.names h.has;
  total =
      (let known : with_entry pool (used_all pool h.names) e ≡ used_all pool (e.0 ∷ h.names) = ap (λ (o : Option (List ℕ)). with_entry pool (used_all pool h.names) (e.0, o)) class ∙ entry_counts pool h.names e.0 n in
      ap (λ (es : List Entry). with_front es (many_by (entry_at pool) (with_entry pool) (used_all pool (e.0 ∷ h.names)) (count - (i + 1)) after)) pushed
      ∙ ap (λ (u : Used). with_front (entries ++ e ∷ []) (many_by (entry_at pool) (with_entry pool) u (count - (i + 1)) after)) (sym known)
      ∙ goes_by (entry_at pool) (with_entry pool) entries count i (used_all pool h.names) to e after (total pool count from) lt (read h.names h.has) h.total);
}

pub entry_ends : (pool : List (List ℕ)) (count i : ℕ) (from to : Input) (seen : Slices) (entries : List Entry) (fault : HistoryFault) → HalfEntries pool count i from to seen entries → i < count → ((names : List Name) → HasTexts seen names → Fails Memory fault (entry_at pool (used_all pool names) to)) → Fails Memory fault (total pool count from)
entry_ends pool count i from to seen entries fault h lt fails =
    ends_by Memory fault (entry_at pool) (with_entry pool) entries count i (used_all pool h.names) to (total pool count from) lt (fails h.names h.has) h.total

pub entries_done : (pool : List (List ℕ)) (count i : ℕ) (from to : Input) (seen : Slices) (entries : List Entry) → HalfEntries pool count i from to seen entries → count ≤ i → total pool count from ≡ Ok (entries, to)
entries_done pool count i from to seen entries h le =
    is_done_by (entry_at pool) (with_entry pool) entries count i (used_all pool h.names) to (total pool count from) le h.total
