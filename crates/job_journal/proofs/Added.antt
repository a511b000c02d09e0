-- What is added to a whole journal is read.
use Rattle.std.proofs.Common.{◌≡◌, ◌∙◌, ℕ, suc, ◌+◌, ◌<◌, ◌≤◌, ◌^◌, Bool, true, false, List, [], ◌∷◌, ◌++◌, length, take, get_or, Option, Some, None, refl, sym, ap, subst, append_assoc, append-nil, arith}
use Rattle.std.specs.Prelude.{◌||◌, if◌then◌else◌}
use Rattle.std.specs.List.{AllByRecursion}
use Rattle.program_rules.specs.Names.{same, is_listed}
use Rattle.record_rules.specs.declared.record.RunRecord.{RunRecord}
use Rattle.history_rules.specs.Items.{AllBy}
use Rattle.history_rules.specs.Classes.{place_of, number_of}
use Rattle.history_rules.specs.Entries.{Entry}
use Rattle.history_rules.specs.Histories.{class_put, classes_used}
use Rattle.history_rules.specs.Laws.{HasShortClass, IsNewEntry, with_name, IsFormed}
use Rattle.history_rules.proofs.Pools.{same_self}
use Rattle.run_journal.specs.Entries.{entry_bytes, content_of, good_entry}
use Rattle.run_journal.specs.Contents.{Item, ClassFile, Run, Known, item_of, with_item, class_content, record_content}
use Rattle.run_journal.specs.Reading.{Progress, start, read_on, reading_of, IsWhole}
use Rattle.run_journal.specs.Laws.{SaysSomething, with_said, with_entry}
use Rattle.job_journal.specs.Adding.{class_entry, class_entries, added_bytes, known_with, HasNumber, AddedIsRead}
use Rattle.job_journal.specs.Tables.{PutsClasses}
use Rattle.std.proofs.lemmas.List.{take_more}
use Rattle.run_journal.proofs.Steps.{on_append}
use Rattle.run_journal.proofs.Spelt.{entry_read, cut_flat, cut_chunks}
use Rattle.job_journal.proofs.Again.{record_is_read, class_is_read}

abbrev Whole : Known → Progress → Type 0
Whole k p = IsWhole p × (p.known ≡ k)

-- ---- numbers

or_right : (a b : Bool) → b ≡ true → a || b ≡ true
or_right true b e = refl
or_right false b e = e

listed_number : (pool : List (List ℕ)) (c : List ℕ) → is_listed c pool ≡ true → suc (place_of pool c) ≤ length pool
listed_number [] c e = absurd cc
listed_number (d ∷ ds) c e = by (same d c) (listed_number ds c) e
  where
    by : (b : Bool) → (is_listed c ds ≡ true → suc (place_of ds c) ≤ length ds) → b || is_listed c ds ≡ true → suc (if b then 0 else suc (place_of ds c)) ≤ suc (length ds)
    by true h e = omega arith
    by false h e = let le = h e in omega (arith, le)

listed_front : (xs ys : List (List ℕ)) (c : List ℕ) → is_listed c xs ≡ true → is_listed c (xs ++ ys) ≡ true
listed_front [] ys c e = absurd cc
listed_front (x ∷ xs) ys c e = by (same x c) (listed_front xs ys c) e
  where
    by : (b : Bool) → (is_listed c xs ≡ true → is_listed c (xs ++ ys) ≡ true) → b || is_listed c xs ≡ true → b || is_listed c (xs ++ ys) ≡ true
    by true h e = refl
    by false h e = h e

listed_last : (xs : List (List ℕ)) (c : List ℕ) → is_listed c (xs ++ c ∷ []) ≡ true
listed_last [] c = ap (λ (b : Bool). b || false) (same_self c)
listed_last (x ∷ xs) c = or_right (same x c) (is_listed c (xs ++ c ∷ [])) (listed_last xs c)

put_keeps : (cs : List (List ℕ)) (o : Option (List ℕ)) (q : List ℕ) → is_listed q cs ≡ true → is_listed q (class_put cs o) ≡ true
put_keeps cs None q e = e
put_keeps cs (Some c) q e = by (is_listed c cs)
  where
    by : (b : Bool) → is_listed q (if b then cs else cs ++ c ∷ []) ≡ true
    by true = e
    by false = listed_front cs (c ∷ []) q e

put_lists : (cs : List (List ℕ)) (c : List ℕ) → is_listed c (class_put cs (Some c)) ≡ true
put_lists cs c = by (is_listed c cs) refl
  where
    by : (b : Bool) → is_listed c cs ≡ b → is_listed c (if b then cs else cs ++ c ∷ []) ≡ true
    by true e = e
    by false e = listed_last cs c

used_keeps : (cs : List (List ℕ)) (es : List Entry) (q : List ℕ) → is_listed q cs ≡ true → is_listed q (classes_used cs es) ≡ true
used_keeps cs [] q e = e
used_keeps cs (d ∷ ds) q e = used_keeps (class_put cs d.1) ds q (put_keeps cs d.1 q e)

put_number : (cs : List (List ℕ)) (es : List Entry) (o : Option (List ℕ)) → number_of (classes_used (class_put cs o) es) o ≤ length (classes_used (class_put cs o) es)
put_number cs es None = omega arith
put_number cs es (Some c) = listed_number (classes_used (class_put cs (Some c)) es) c (used_keeps (class_put cs (Some c)) es c (put_lists cs c))

pub all_numbers : (cs : List (List ℕ)) (es : List Entry) → AllByRecursion (HasNumber (classes_used cs es)) es
all_numbers cs [] = tt
all_numbers cs (e ∷ es) = (put_number cs es e.1, all_numbers (class_put cs e.1) es)

-- ---- entries

pub written_on : (p : Progress) (k : Known) (content : List ℕ) (item : Item) → Whole k p → item_of k.classes content ≡ Some item → Whole (with_item k item) (read_on p (entry_bytes (good_entry content)))
written_on p k content item whole says =
    let e = good_entry content in
    let flat : content_of e ≡ content = cut_flat (length content) content (omega arith) in
    let said : item_of p.known.classes (content_of e) ≡ Some item = ap (λ (l : Known). item_of l.classes (content_of e)) whole.1 ∙ ap (λ (c : List ℕ). item_of k.classes c) flat ∙ says in
    let r = entry_read p e whole.0 (cut_chunks (length content) content, subst (λ (o : Option Item). SaysSomething true o) (sym said) tt) in
    let l : with_entry p.known e ≡ with_item k item = ap (λ (o : Option Item). with_said p.known true o) said ∙ ap (λ (m : Known). with_item m item) whole.1 in
    (r.0, r.1 ∙ l)

one_class : (p : Progress) (k : Known) (o : Option (List ℕ)) → Whole k p → HasShortClass o → Whole (record k { classes = class_put k.classes o }) (read_on p (class_entry k.classes o))
one_class p k None whole short = whole
one_class p k (Some c) whole short = by (is_listed c k.classes)
  where
    by : (b : Bool) → Whole (record k { classes = if b then k.classes else k.classes ++ c ∷ [] }) (read_on p (if b then [] else entry_bytes (good_entry (class_content c))))
    by true = whole
    by false = written_on p k (class_content c) (ClassFile c) whole (class_is_read k.classes c short)

classes_added : (p : Progress) (k : Known) (es : List Entry) → Whole k p → AllByRecursion (λ (e : Entry). HasShortClass e.1) es → Whole (record k { classes = classes_used k.classes es }) (read_on p (class_entries k.classes es))
classes_added p k [] whole short = whole
classes_added p k (e ∷ es) whole short =
    let front = class_entry k.classes e.1 in
    let l : Known = record k { classes = class_put k.classes e.1 } in
    let back = class_entries l.classes es in
    let one = one_class p k e.1 whole short.0 in
    subst (λ (q : Progress). Whole (record k { classes = classes_used l.classes es }) q) (sym (on_append p front back)) (classes_added (read_on p front) l es one short.1)

short_classes : (names : _) (es : List Entry) → AllBy IsNewEntry with_name names es → AllByRecursion (λ (e : Entry). HasShortClass e.1) es
short_classes names [] form = tt
short_classes names (e ∷ es) form = (form.0.2, short_classes (with_name names e) es form.1)

pub added_on : (p : Progress) (k : Known) (r : RunRecord) → Whole k p → IsFormed r → length (classes_used k.classes r.consulted) < 2 ^ 32 → Whole (known_with k r) (read_on p (added_bytes k.classes r))
added_on p k r whole form few =
    let front = class_entries k.classes r.consulted in
    let l : Known = record k { classes = classes_used k.classes r.consulted } in
    let content = record_content l.classes r in
    let classes = classes_added p k r.consulted whole (short_classes [] r.consulted form.names) in
    let item = record_is_read l.classes r few form (all_numbers k.classes r.consulted) in
    subst (λ (q : Progress). Whole (known_with k r) q) (sym (on_append p front (entry_bytes (good_entry content)))) (written_on (read_on p front) l content (Run 2 r) classes item)

pub added_is_read : AddedIsRead
added_is_read profile bytes r form few whole =
    let p = reading_of profile bytes in
    let all = added_on p p.known r (whole, refl) form few in
    subst (λ (q : Progress). Whole (known_with p.known r) q) (sym (on_append (start profile) bytes (added_bytes p.known.classes r))) all

-- ---- one entry more

used_snoc : (cs : List (List ℕ)) (es : List Entry) (e : Entry) → classes_used cs (es ++ e ∷ []) ≡ class_put (classes_used cs es) e.1
used_snoc cs [] e = refl
used_snoc cs (d ∷ ds) e = used_snoc (class_put cs d.1) ds e

entries_snoc : (cs : List (List ℕ)) (es : List Entry) (e : Entry) → class_entries cs (es ++ e ∷ []) ≡ class_entries cs es ++ class_entry (classes_used cs es) e.1
entries_snoc cs [] e = append-nil (class_entry cs e.1)
entries_snoc cs (d ∷ ds) e = ap (λ (x : List ℕ). class_entry cs d.1 ++ x) (entries_snoc (class_put cs d.1) ds e) ∙ sym (append_assoc (class_entry cs d.1) (class_entries (class_put cs d.1) ds) (class_entry (classes_used (class_put cs d.1) ds) e.1))

pub one_put : (es : List Entry) (i : ℕ) (e : Entry) (old now new : List (List ℕ)) (before out after : List ℕ) → i < length es → e ≡ get_or es i e → PutsClasses (take i es) old now before out → new ≡ class_put now e.1 → after ≡ out ++ class_entry now e.1 → PutsClasses (take (i + 1) es) old new before after
one_put es i e old now new before out after lt is h n o =
    let more : take (i + 1) es ≡ take i es ++ e ∷ [] = take_more es i e lt ∙ ap (λ (x : Entry). take i es ++ x ∷ []) (sym is) in
    let used : new ≡ classes_used old (take i es ++ e ∷ []) = n ∙ ap (λ (cs : List (List ℕ)). class_put cs e.1) h.0 ∙ sym (used_snoc old (take i es) e) in
    let bytes : after ≡ before ++ class_entries old (take i es ++ e ∷ []) =
    o ∙ ap (λ (cs : List (List ℕ)). out ++ class_entry cs e.1) h.0 ∙ ap (λ (x : List ℕ). x ++ class_entry (classes_used old (take i es)) e.1) h.1
    ∙ append_assoc before (class_entries old (take i es)) (class_entry (classes_used old (take i es)) e.1)
    ∙ ap (λ (x : List ℕ). before ++ x) (sym (entries_snoc old (take i es) e)) in
    subst (λ (xs : List Entry). PutsClasses xs old new before after) (sym more) (used, bytes)
