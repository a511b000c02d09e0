-- The class files that a run consulted are a program.
use Rattle.std.proofs.Common.{◌≡◌, ◌∙◌, ℕ, Bool, true, false, List, [], ◌∷◌, Option, Some, None, map, length, refl, sym, ap, subst, ◌⊎◌, ⊎_elim}
use Rattle.std.specs.Prelude.{◌&&◌, ◌||◌, not, is_none, option_and_then, if◌then◌else◌}
use Rattle.program_rules.specs.Names.{Name, same, is_listed}
use Rattle.program_rules.specs.Linked.{Linked, is_library}
use Rattle.program_rules.specs.Programs.{Look}
use Rattle.program_rules.specs.Library.{class_among, first_of}
use Rattle.class_order.specs.Supers.{is_super_missing, is_super_of_wrong_kind}
use Rattle.machine_laws.specs.Consulted.{Seen}
use Rattle.lib_table.specs.Library.{library_meant}
use Rattle.record_rules.specs.declared.record.RunRecord.{RunRecord}
use Rattle.record_rules.specs.Profiles.{Held, class_by}
use Rattle.record_rules.specs.Records.{Asked, run, with_bytes}
use Rattle.record_rules.specs.Truth.{held_in, files_with, files_in}
use Rattle.reuse_laws.specs.Asking.{AreApart}
use Rattle.reuse_laws.specs.Reuse.{RecordsOfRunsAreTrue}
use Rattle.reuse_laws.specs.Closing.{AreDifferentNames, OwnProgramsAreAlike}
use Rattle.reuse_laws.proofs.Tests.{or_either, or_first, or_second, names_are}
use Rattle.reuse_laws.proofs.Reused.{has_outcome}
use Rattle.record_forms.specs.Building.{is_above, HasNoFaultOfSupers, OwnProgramsBuild}
use Rattle.class_records.specs.Profile.{class_meant, look_held, are_different, held_files, are_apart, names_with, has_super_fault, are_right_supers, is_program, profile}
use Rattle.class_records.proofs.Lists.{listed_either, all_of}
use Rattle.class_records.specs.Laws.{ClassFilesAreAProfile, OrderedWalksAreClosed, ConsultedFilesBuild, RecordsOfFilesAreTrue}

abbrev Entries : Type 0
Entries = List (Name × Option (List ℕ))

abbrev entry_names : Entries → List Name
entry_names cs = map (λ c. c.0) cs

abbrev file_names : List (Name × List ℕ) → List Name
file_names fs = map (λ f. f.0) fs

-- ---- names

named_case : (n m : Name) (o : Option (List ℕ)) (fs : List (Name × List ℕ)) (ns : List Name) → (is_listed n (file_names fs) ≡ true → is_listed n ns ≡ true) → is_listed n (file_names (files_with m o fs)) ≡ true → is_listed n (m ∷ ns) ≡ true
named_case n m None fs ns h l = or_second (same m n) (is_listed n ns) (h l)
named_case n m (Some b) fs ns h l =
    ⊎_elim (λ (e : same m n ≡ true). or_first (same m n) (is_listed n ns) e) (λ (e : is_listed n (file_names fs) ≡ true). or_second (same m n) (is_listed n ns) (h e))
    (or_either (same m n) (is_listed n (file_names fs)) l)

pub named : (cs : Entries) (n : Name) → is_listed n (file_names (files_in cs)) ≡ true → is_listed n (entry_names cs) ≡ true
named [] n h = h
named (c ∷ cs) n h = named_case n c.0 c.1 (files_in cs) (entry_names cs) (named cs n) h

not_case : (a b : Bool) → (a ≡ true → b ≡ true) → b ≡ false → a ≡ false
not_case true b h e = let t : true ≡ false = sym (h refl) ∙ e in absurd cc
not_case false b h e = refl

unnamed : (cs : Entries) (n : Name) → is_listed n (entry_names cs) ≡ false → is_listed n (file_names (files_in cs)) ≡ false
unnamed cs n h = not_case (is_listed n (file_names (files_in cs))) (is_listed n (entry_names cs)) (named cs n) h

both_true : (a b : Bool) → a ≡ false → b ≡ true → (not a && b) ≡ true
both_true true b e h = absurd cc
both_true false b e h = h

different_case : (m : Name) (o : Option (List ℕ)) (fs : List (Name × List ℕ)) → is_listed m (file_names fs) ≡ false → are_different (file_names fs) ≡ true → are_different (file_names (files_with m o fs)) ≡ true
different_case m None fs h d = d
different_case m (Some b) fs h d = both_true (is_listed m (file_names fs)) (are_different (file_names fs)) h d

different : (cs : Entries) → AreDifferentNames (entry_names cs) → are_different (file_names (files_in cs)) ≡ true
different [] d = refl
different (c ∷ cs) d = different_case c.0 c.1 (files_in cs) (unnamed cs c.0 d.0) (different cs d.1)

-- ---- apart

none_and : (o : Option Linked) (b : Bool) → o ≡ None → b ≡ true → (is_none o && b) ≡ true
none_and None b e h = h
none_and (Some c) b e h = absurd cc

apart_case : (n : Name) (o : Option (List ℕ)) (fs : List (Name × List ℕ)) → ((bytes : List ℕ) → o ≡ Some bytes → class_among library_meant n ≡ None) → are_apart fs ≡ true → are_apart (files_with n o fs) ≡ true
apart_case n None fs h d = d
apart_case n (Some b) fs h d = none_and (class_among library_meant n) (are_apart fs) (h b refl) d

apart_from : (held : Held) → AreApart profile held → (ns : List Name) → are_apart (files_in (with_bytes held ns)) ≡ true
apart_from held apart [] = refl
apart_from held apart (n ∷ ns) = apart_case n (held n) (files_in (with_bytes held ns)) (apart n) (apart_from held apart ns)

-- ---- what is held

missed_case : (c n : Name) (b : List ℕ) (rest : Option (List ℕ)) (t l : Bool) → t ≡ same c n → t || l ≡ false → (l ≡ false → rest ≡ None) → (if t then Some b else rest) ≡ None
missed_case c n b rest true l e h r = absurd cc
missed_case c n b rest false l e h r = r h

missed : (fs : List (Name × List ℕ)) (n : Name) → is_listed n (file_names fs) ≡ false → held_files fs n ≡ None
missed [] n h = refl
missed (f ∷ fs) n h = missed_case f.0 n f.1 (held_files fs n) (same f.0 n) (is_listed n (file_names fs)) refl h (missed fs n)

absent_case : (c n : Name) (held rest : Option (List ℕ)) (t : Bool) → t ≡ same c n → (c ≡ n → held ≡ None) → held ≡ rest → held ≡ (if t then None else rest)
absent_case c n held rest true e none h = none (names_are c n (sym e))
absent_case c n held rest false e none h = h

entry_case : (c n : Name) (o : Option (List ℕ)) (fs : List (Name × List ℕ)) (rest : Option (List ℕ)) → (c ≡ n → held_files fs n ≡ None) → held_files fs n ≡ rest → held_files (files_with c o fs) n ≡ (if same c n then o else rest)
entry_case c n None fs rest none h = absent_case c n (held_files fs n) rest (same c n) refl none h
entry_case c n (Some b) fs rest none h = ap (λ (z : Option (List ℕ)). if same c n then Some b else z) h

held_same : (cs : Entries) → AreDifferentNames (entry_names cs) → (n : Name) → held_files (files_in cs) n ≡ held_in cs n
held_same [] d n = refl
held_same (c ∷ cs) d n =
    entry_case c.0 n c.1 (files_in cs) (held_in cs n)
    (λ e. subst (λ (k : Name). held_files (files_in cs) k ≡ None) e (missed (files_in cs) c.0 (unnamed cs c.0 d.0)))
    (held_same cs d.1 n)

-- ---- names of the library

among_case : (n : Name) (c : Name × Linked) (rest : Option Linked) (t l : Bool) → t || l ≡ true → (l ≡ true → (k : Linked) × (rest ≡ Some k)) → (k : Linked) × ((if t then Some c.1 else rest) ≡ Some k)
among_case n c rest true l h r = (c.1, refl)
among_case n c rest false l h r = r h

among : (cs : List (Name × Linked)) (n : Name) → is_listed n (map (λ c. c.0) cs) ≡ true → (k : Linked) × (class_among cs n ≡ Some k)
among [] n h = absurd cc
among (c ∷ cs) n h = among_case n c (class_among cs n) (same c.0 n) (is_listed n (map (λ c. c.0) cs)) h (among cs n)

library_case : (n : Name) (o : Option (List ℕ)) (k : Linked) → class_among library_meant n ≡ Some k → k.library ≡ true → ((bytes : List ℕ) → o ≡ Some bytes → class_among library_meant n ≡ None) → is_library (first_of (option_and_then (class_meant n) o) (class_among library_meant n)) ≡ true
library_case n None k e l apart = subst (λ (z : Option Linked). is_library z ≡ true) (sym e) l
library_case n (Some b) k e l apart = let both : None ≡ Some k = sym (apart b refl) ∙ e in absurd cc

library_there : ClassFilesAreAProfile → (held : Held) → AreApart profile held → (n : Name) → is_listed n (map (λ c. c.0) library_meant) ≡ true → is_library (class_by profile held n) ≡ true
library_there ok held apart n h =
    let k = among library_meant n h in
    library_case n (held n) k.0 k.1 (ok.alone n k.0 k.1) (apart n)

-- ---- supers

no_fault : (a b c : Bool) → a ≡ false → b ≡ false → c ≡ false → not (a || (b || c)) ≡ true
no_fault false false false p q r = refl
no_fault true b c p q r = absurd cc
no_fault false true c p q r = absurd cc
no_fault false false true p q r = absurd cc

module _ (x : Asked) (cs : Entries) (known : (n : Name) → is_listed n (map (λ c. c.0) library_meant) ≡ true → is_library (x.look n) ≡ true) (differ : AreDifferentNames (entry_names cs)) (right : HasNoFaultOfSupers x.look (class_by profile (held_in cs)) (entry_names cs)) where
  seen : (n : Name) → is_listed n (names_with (files_in cs)) ≡ true → Seen x.look (entry_names cs) n
  seen n h =
      ⊎_elim (λ (l : is_listed n (file_names (files_in cs)) ≡ true). or_second (is_library (x.look n)) (is_listed n (entry_names cs)) (named cs n l))
      (λ (l : is_listed n (map (λ c. c.0) library_meant) ≡ true). or_first (is_library (x.look n)) (is_listed n (entry_names cs)) (known n l))
      (listed_either n (file_names (files_in cs)) (map (λ c. c.0) library_meant) h)

  supers_own : (ns : List Name) → ((n : Name) → is_listed n ns ≡ true → Seen x.look (entry_names cs) n) → are_right_supers (class_by profile (held_in cs)) ns ≡ true
  supers_own ns h =
      all_of (λ n. not (has_super_fault (class_by profile (held_in cs)) ns n)) ns
      (λ n l.
      no_fault (is_super_missing (class_by profile (held_in cs)) n) (is_above (class_by profile (held_in cs)) (length ns) n n) (is_super_of_wrong_kind (class_by profile (held_in cs)) n) (right.present n (h n l)) (right.lower n (length ns) (h n l))
      (right.kinds n (h n l)))

  look_same : look_held (held_files (files_in cs)) ≡ class_by profile (held_in cs)
  look_same = λ i n. first_of (option_and_then (class_meant n) (held_same cs differ n i)) (class_among library_meant n)

  right_supers : are_right_supers (look_held (held_files (files_in cs))) (names_with (files_in cs)) ≡ true
  right_supers =
      subst (λ (p : Look). are_right_supers p (names_with (files_in cs)) ≡ true) (sym look_same) (supers_own (names_with (files_in cs)) seen)

three : (a b c : Bool) → a ≡ true → b ≡ true → c ≡ true → a && (b && c) ≡ true
three true true true p q r = refl
three false b c p q r = absurd cc
three true false c p q r = absurd cc
three true true false p q r = absurd cc

pub consulted_build : ClassFilesAreAProfile → OrderedWalksAreClosed → OwnProgramsBuild → OwnProgramsAreAlike → ConsultedFilesBuild
unfolding is_program
consulted_build ok walks build alike x r asked ordered e =
    let closed = walks x.look ordered.ranks in
    let has = has_outcome profile x r e in
    let files = files_in r.consulted in
    let differ = (alike profile x r ok asked closed e).differ in
    three (are_different (file_names files)) (are_apart files) (are_right_supers (look_held (held_files files)) (names_with files)) (different r.consulted differ)
    (subst (λ (z : RunRecord). are_apart (files_in z.consulted) ≡ true) has.made (apart_from x.held asked.apart (run x).consulted))
    (right_supers x r.consulted (λ n l. subst (λ (p : Look). is_library (p n) ≡ true) (sym asked.program) (library_there ok x.held asked.apart n l)) differ (build profile x r ok asked ordered closed e))

pub records_true : ClassFilesAreAProfile → ConsultedFilesBuild → RecordsOfRunsAreTrue → RecordsOfFilesAreTrue
records_true ok build law x r asked spelled ordered e =
    law profile x r ok asked spelled e (build x r asked ordered e)
