-- The new records of a job by number are those by its runs.
use Rattle.std.proofs.Common.{◌≡◌, ◌∙◌, suc, Bool, true, false, List, [], ◌∷◌, length, map, is_some, refl, sym, ap, ap₂, subst}
use Rattle.std.specs.Prelude.{◌||◌, filter, if◌then◌else◌}
use Rattle.std.specs.List as lists
use Rattle.std.specs.List.{list_any}
use Rattle.record_rules.specs.declared.record.RunRecord.{RunRecord}
use Rattle.record_rules.specs.Histories.{same_record, Kept, once_behind}
use Rattle.history_file.proofs.Equal.{records_equal, record_self}
use Rattle.job_rules.specs.Tried.{Tried, known, knowns, is_among, firsts_after, records_once, reused_among}

abbrev Runs : Type 0
Runs = List (Tried RunRecord)

-- what is known of a run, with whether an old record is it
abbrev pub kept : Tried RunRecord → Kept
kept t = record { entry = known t; is_old = is_some t.found }

one_of : (x y : Bool) → (x ≡ true → y ≡ true) → (y ≡ true → x ≡ true) → x ≡ y
one_of true true f g = refl
one_of true false f g = sym (f refl)
one_of false true f g = g refl
one_of false false f g = refl

turned : (a b : RunRecord) → same_record a b ≡ true → same_record b a ≡ true
turned a b e = subst (λ (x : RunRecord). same_record x a ≡ true) (records_equal a b e) (record_self a)

symmetric : (a b : RunRecord) → same_record a b ≡ same_record b a
symmetric a b = one_of (same_record a b) (same_record b a) (turned a b) (turned b a)

-- a record is among those of runs just where its run is
pub among : (seen : Runs) (t : Tried RunRecord) → list_any (same_record (known t)) (map known seen) ≡ is_among same_record seen t
among [] t = refl
among (u ∷ us) t = ap₂ (λ (x y : Bool). x || y) (symmetric (known t) (known u)) (among us t)

once_case : (b : Bool) (t : Tried RunRecord) (xs ys : List Kept) (us vs : Runs) → xs ≡ map kept us → ys ≡ map kept vs → (if b then xs else kept t ∷ ys) ≡ map kept (if b then us else t ∷ vs)
once_case true t xs ys us vs e f = e
once_case false t xs ys us vs e f = ap (λ (ks : List Kept). kept t ∷ ks) f

once_from : (seen ts : Runs) → once_behind (map known seen) (map kept ts) ≡ map kept (firsts_after same_record seen ts)
once_from seen [] = refl
once_from seen (t ∷ ts) =
    ap (λ (b : Bool). if b then once_behind (map known seen) (map kept ts) else kept t ∷ once_behind (known t ∷ map known seen) (map kept ts)) (among seen t)
    ∙ once_case (is_among same_record seen t) t (once_behind (map known seen) (map kept ts)) (once_behind (known t ∷ map known seen) (map kept ts)) (firsts_after same_record seen ts) (firsts_after same_record (t ∷ seen) ts) (once_from seen ts) (once_from (t ∷ seen) ts)

entries_are : (ts : Runs) → map (λ (k : Kept). k.entry) (map kept ts) ≡ knowns ts
entries_are [] = refl
entries_are (t ∷ ts) = ap (λ (rs : List RunRecord). known t ∷ rs) (entries_are ts)

old_case : (b : Bool) (t : Tried RunRecord) (ts : Runs) → length (filter (λ (k : Kept). k.is_old) (map kept ts)) ≡ length (lists.filter (λ (u : Tried RunRecord). is_some u.found) ts) → is_some t.found ≡ b
    → length (if b then kept t ∷ filter (λ (k : Kept). k.is_old) (map kept ts) else filter (λ (k : Kept). k.is_old) (map kept ts))
    ≡ length (if b then t ∷ lists.filter (λ (u : Tried RunRecord). is_some u.found) ts else lists.filter (λ (u : Tried RunRecord). is_some u.found) ts)
old_case true t ts e f = ap suc e
old_case false t ts e f = e

old_are : (ts : Runs) → length (filter (λ (k : Kept). k.is_old) (map kept ts)) ≡ length (lists.filter (λ (u : Tried RunRecord). is_some u.found) ts)
old_are [] = refl
old_are (t ∷ ts) = old_case (is_some t.found) t ts (old_are ts) refl

-- the records, and how many of them old records have
pub records_are : (ts : Runs) → map (λ (k : Kept). k.entry) (once_behind [] (map kept ts)) ≡ records_once same_record ts
records_are ts = ap (map (λ (k : Kept). k.entry)) (once_from [] ts) ∙ entries_are (firsts_after same_record [] ts)

pub reused_are : (ts : Runs) → length (filter (λ (k : Kept). k.is_old) (once_behind [] (map kept ts))) ≡ reused_among same_record ts
reused_are ts = ap (λ (ks : List Kept). length (filter (λ (k : Kept). k.is_old) ks)) (once_from [] ts) ∙ old_are (firsts_after same_record [] ts)
