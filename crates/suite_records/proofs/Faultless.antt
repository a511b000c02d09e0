-- Class files are a program by the words of records exactly where they are one by those of a suite.
use Rattle.std.proofs.Common.{◌≡◌, ◌∙◌, ℕ, zero, suc, Bool, true, false, List, [], ◌∷◌, ◌++◌, map, length, Option, Some, None, refl, sym, ap, ap₂}
use Rattle.std.specs.Prelude.{◌&&◌, ◌||◌, not, All, filter, is_none, if◌then◌else◌, option_and_then}
use Rattle.std.specs.List.{list_any, list_all}
use Rattle.std.specs.Option.{option_map, option_or}
use Rattle.std.specs.Cmp.Lexicographic.{same_text, bytes_decides}
use Rattle.std.proofs.lemmas.Bool.{and_parts}
use Rattle.std.proofs.lemmas.List.Elements.{recursion_from_All}
use Rattle.class_model.specs.declared.class.Class.{Class}
use Rattle.class_reader.specs.Spells.{Spells}
use Rattle.program_rules.specs.Names.{Name, same, is_listed}
use Rattle.program_rules.specs.Linked.{Linked, parents_of}
use Rattle.program_rules.specs.Programs.{Look}
use Rattle.program_rules.specs.Library.{class_among, first_of}
use Rattle.class_order.specs.Supers.{is_super_missing, is_super_of_wrong_kind}
use Rattle.class_link.specs.declared.loaded.Loaded.{Loaded}
use Rattle.class_link.specs.declared.loaded.LibClass.{LibClass}
use Rattle.class_link.specs.Info.{own_name}
use Rattle.lib_table.specs.Library.{library, library_meant}
use Rattle.lib_table.specs.Library as table
use Rattle.lib_table.specs.Whole.{are_distinct, signature}
use Rattle.lib_table.proofs.Tested.{distinct}
use Rattle.library_laws.specs.Beside.{named, program_of}
use Rattle.suite_laws.specs.Below.{again, least, duplicate_in, is_above, is_own_super, least_with, duplicate_of, super_fault, classes_in, names_in, ProgramFault, Duplicate, SuperMissing, SuperCycle, SuperKind}
use Rattle.record_forms.specs.Building as building
use Rattle.class_records.specs.Profile.{class_meant, are_different, are_apart, held_files, look_held, names_with, are_right_supers, is_program}
use Rattle.suite_records.specs.Suites.{bytes_of}
use Rattle.suite_records.specs.Laws.{named_files, first_fault_of, ProgramsAreFaultless, TrueRecordsAreFaultless}
use Rattle.suite_records.proofs.Files.{fit, meant_case, among_are}

-- ---- tests

both_ways : (a b : Bool) → (a ≡ true → b ≡ true) → (b ≡ true → a ≡ true) → a ≡ b
both_ways true b f g = sym (f refl)
both_ways false true f g = g refl
both_ways false false f g = refl

same_turned : (a b : Name) → same a b ≡ same b a
same_turned a b =
    both_ways (same a b) (same b a) (λ h. (bytes_decides b a).1 (sym (same_text a b (sym h)))) (λ h. (bytes_decides a b).1 (sym (same_text b a (sym h))))

any_turned : (n : Name) (ns : List Name) → list_any (same n) ns ≡ is_listed n ns
any_turned n [] = refl
any_turned n (m ∷ ms) = ap₂ (λ a b. a || b) (same_turned n m) (any_turned n ms)

none_of_two : {X : Type 0} (a b : Option X) → is_none (option_or a b) ≡ (is_none a && is_none b)
none_of_two None b = refl
none_of_two (Some x) b = refl

none_mapped : {X Y : Type 0} (f : X → Y) (o : Option X) → is_none (option_map f o) ≡ is_none o
none_mapped f None = refl
none_mapped f (Some x) = refl

none_of_three : {X : Type 0} (a b c : Option X) → is_none (option_or a (option_or b c)) ≡ (is_none a && (is_none b && is_none c))
none_of_three a b c = none_of_two a (option_or b c) ∙ ap (λ (t : Bool). is_none a && t) (none_of_two b c)

-- ---- no name stands twice

again_case : (n : Name) (ns xs : List Name) (b d : Bool) → is_none (least xs) ≡ d → is_none (least (if b then n ∷ xs else xs)) ≡ (not b && d)
again_case n ns xs true d h = refl
again_case n ns xs false d h = h

none_twice : (ns : List Name) → is_none (duplicate_in ns) ≡ are_different ns
none_twice [] = refl
none_twice (n ∷ ns) =
    again_case n ns (again ns) (list_any (same n) ns) (are_different ns) (none_twice ns)
    ∙ ap (λ (b : Bool). not b && are_different ns) (any_turned n ns)

listed_in_both : (n : Name) (xs ys : List Name) → is_listed n (xs ++ ys) ≡ (is_listed n xs || is_listed n ys)
listed_in_both n [] ys = refl
listed_in_both n (x ∷ xs) ys = or_case (same x n) (is_listed n xs) (is_listed n ys) (is_listed n (xs ++ ys)) (listed_in_both n xs ys)
  where
    or_case : (a b c d : Bool) → d ≡ (b || c) → (a || d) ≡ ((a || b) || c)
    or_case true b c d h = refl
    or_case false b c d h = h

abbrev are_none_of : List Name → List Name → Bool
are_none_of xs ys = list_all (λ n. not (is_listed n ys)) xs

parts_case : (a b d e f : Bool) → (not (a || b) && (d && (e && f))) ≡ ((not a && d) && ((not b && e) && f))
parts_case true b d e f = refl
parts_case false true true e f = refl
parts_case false true false e f = refl
parts_case false false d e f = refl

different_parts : (xs ys : List Name) → are_different (xs ++ ys) ≡ (are_different xs && (are_none_of xs ys && are_different ys))
different_parts [] ys = refl
different_parts (x ∷ xs) ys =
    ap₂ (λ (b d : Bool). not b && d) (listed_in_both x xs ys) (different_parts xs ys)
    ∙ parts_case (is_listed x xs) (is_listed x ys) (are_different xs) (are_none_of xs ys) (are_different ys)

-- ---- the library's names

abbrev library_names : List Name
library_names = map (λ (c : Name × Linked). c.0) library_meant

distinct_are : (ns : List Name) → are_distinct ns ≡ are_different ns
distinct_are [] = refl
distinct_are (n ∷ ns) = ap₂ (λ (b d : Bool). not b && d) (any_turned n ns) (distinct_are ns)

names_kept : (cs : List LibClass) → map (λ (c : Name × Linked). c.0) (map table.class_meant cs) ≡ map (λ (c : LibClass). c.name) cs
names_kept [] = refl
names_kept (c ∷ cs) = ap (λ (ns : List Name). c.name ∷ ns) (names_kept cs)

library_different : are_different library_names ≡ true
unfolding library_meant
library_different =
    ap are_different (names_kept library)
    ∙ sym (distinct_are (map (λ (c : LibClass). c.name) library))
    ∙ (and_parts (are_distinct (map (λ (c : LibClass). c.name) library)) (list_all (λ (c : LibClass). are_distinct (map signature c.methods)) library) distinct).0

absent_case : (b : Bool) (x : Linked) (o : Option Linked) (l : Bool) → is_none o ≡ not l → is_none (if b then Some x else o) ≡ not (b || l)
absent_case true x o l h = refl
absent_case false x o l h = h

absent_is : (xs : List (Name × Linked)) (n : Name) → is_none (class_among xs n) ≡ not (is_listed n (map (λ (c : Name × Linked). c.0) xs))
absent_is [] n = refl
absent_is (x ∷ xs) n =
    absent_case (same x.0 n) x.1 (class_among xs n) (is_listed n (map (λ (c : Name × Linked). c.0) xs)) (absent_is xs n)

apart_are : (files : List Loaded) → are_apart (named_files files) ≡ are_none_of (map own_name (classes_in files)) library_names
apart_are [] = refl
apart_are (l ∷ files) = ap₂ (λ (a b : Bool). a && b) (absent_is library_meant (own_name l.class)) (apart_are files)

own_names : (files : List Loaded) → map (λ (f : Name × List ℕ). f.0) (named_files files) ≡ map own_name (classes_in files)
own_names [] = refl
own_names (l ∷ files) = ap (λ (ns : List Name). own_name l.class ∷ ns) (own_names files)

all_different : (files : List Loaded) → is_none (duplicate_of (names_in (classes_in files))) ≡ (are_different (map (λ (f : Name × List ℕ). f.0) (named_files files)) && are_apart (named_files files))
all_different files =
    none_mapped Duplicate (duplicate_in (names_in (classes_in files)))
    ∙ none_twice (names_in (classes_in files))
    ∙ different_parts (map own_name (classes_in files)) library_names
    ∙ ap (λ (b : Bool). are_different (map own_name (classes_in files)) && (are_none_of (map own_name (classes_in files)) library_names && b)) library_different
    ∙ without (are_different (map own_name (classes_in files))) (are_none_of (map own_name (classes_in files)) library_names)
    ∙ ap₂ (λ (a b : Bool). a && b) (ap are_different (sym (own_names files))) (sym (apart_are files))
  where
    without : (a b : Bool) → (a && (b && true)) ≡ (a && b)
    without true true = refl
    without true false = refl
    without false b = refl

-- ---- no class has a fault of supers

kept_case : (n : Name) (xs : List Name) (b d : Bool) → is_none (least xs) ≡ d → is_none (least (if b then n ∷ xs else xs)) ≡ (not b && d)
kept_case n xs true d h = refl
kept_case n xs false d h = h

none_has : (has : Name → Bool) (ns : List Name) → is_none (least_with has ns) ≡ list_all (λ n. not (has n)) ns
none_has has [] = refl
none_has has (n ∷ ns) = kept_case n (filter has ns) (has n) (list_all (λ m. not (has m)) ns) (none_has has ns)

three_case : (a b c d e f : Bool) → ((not a && d) && ((not b && e) && (not c && f))) ≡ (not (a || (b || c)) && (d && (e && f)))
three_case true b c d e f = refl
three_case false true c true e f = refl
three_case false true c false e f = refl
three_case false false true true true f = refl
three_case false false true true false f = refl
three_case false false true false e f = refl
three_case false false false d e f = refl

each_of_three : (f g h : Name → Bool) (ns : List Name) → (list_all (λ n. not (f n)) ns && (list_all (λ n. not (g n)) ns && list_all (λ n. not (h n)) ns)) ≡ list_all (λ n. not (f n || (g n || h n))) ns
each_of_three f g h [] = refl
each_of_three f g h (n ∷ ns) =
    three_case (f n) (g n) (h n) (list_all (λ m. not (f m)) ns) (list_all (λ m. not (g m)) ns) (list_all (λ m. not (h m)) ns)
    ∙ ap (λ (b : Bool). not (f n || (g n || h n)) && b) (each_of_three f g h ns)

same_above : (p : Look) (levels : ℕ) (m n : Name) → is_above p levels m n ≡ building.is_above p levels m n
unfolding is_above building.is_above
same_above p zero m n = refl
same_above p (suc levels) m n = ap (λ (f : Name → Bool). list_any f (parents_of (p n))) (λ i k. same k m || same_above p levels m k i)

supers_right : (p : Look) (ns : List Name) → is_none (super_fault p ns) ≡ are_right_supers p ns
supers_right p ns =
    none_of_three (option_map SuperMissing (least_with (is_super_missing p) ns)) (option_map SuperCycle (least_with (is_own_super p ns) ns)) (option_map SuperKind (least_with (is_super_of_wrong_kind p) ns))
    ∙ (λ i. told SuperMissing (is_super_missing p) i && (told SuperCycle (is_own_super p ns) i && told SuperKind (is_super_of_wrong_kind p) i))
    ∙ each_of_three (is_super_missing p) (is_own_super p ns) (is_super_of_wrong_kind p) ns
    ∙ ap (λ (f : Name → Bool). list_all (λ n. not (is_super_missing p n || (f n || is_super_of_wrong_kind p n))) ns) (λ i n. same_above p (length ns) n n i)
  where
    told : (fault : Name → ProgramFault) (has : Name → Bool) → is_none (option_map fault (least_with has ns)) ≡ list_all (λ n. not (has n)) ns
    told fault has = none_mapped fault (least_with has ns) ∙ none_has has ns

-- ---- the program

held_is : (files : List Loaded) (n : Name) → held_files (named_files files) n ≡ bytes_of files n
held_is [] n = refl
held_is (l ∷ files) n = ap (λ (o : Option (List ℕ)). if same (own_name l.class) n then Some l.bytes else o) (held_is files n)

module _ (files : List Loaded) (read : All (λ (l : Loaded). Spells l.bytes l.class) files) where
  linked_is : (n : Name) → option_and_then (class_meant n) (bytes_of files n) ≡ class_among (map named (classes_in files)) n
  linked_is n =
      meant_case n _ _ (fit files (recursion_from_All (λ (l : Loaded). Spells l.bytes l.class) files read) n) ∙ among_are (classes_in files) n

  look_is : look_held (held_files (named_files files)) ≡ program_of (classes_in files)
  unfolding program_of
  look_is = λ i n. first_of ((ap (option_and_then (class_meant n)) (held_is files n) ∙ linked_is n) i) (class_among library_meant n)

  names_are : names_with (named_files files) ≡ names_in (classes_in files)
  names_are = ap (λ (ns : List Name). ns ++ library_names) (own_names files)

  pub same_program : is_program (named_files files) ≡ is_none (first_fault_of files)
  unfolding is_program
  same_program =
      assoc (are_different (map (λ (f : Name × List ℕ). f.0) (named_files files))) (are_apart (named_files files)) (are_right_supers (look_held (held_files (named_files files))) (names_with (named_files files)))
      ∙ ap₂ (λ (a b : Bool). a && b) (sym (all_different files)) (ap₂ are_right_supers look_is names_are ∙ sym (supers_right (program_of (classes_in files)) (names_in (classes_in files))))
      ∙ sym (none_of_two (duplicate_of (names_in (classes_in files))) (super_fault (program_of (classes_in files)) (names_in (classes_in files))))
    where
      assoc : (a b c : Bool) → (a && (b && c)) ≡ ((a && b) && c)
      assoc true b c = refl
      assoc false b c = refl

pub faultless : ProgramsAreFaultless
faultless files read = same_program files read

none_is : {X : Type 0} (o : Option X) → is_none o ≡ true → o ≡ None
none_is None e = refl
none_is (Some x) e = absurd cc

pub true_faultless : TrueRecordsAreFaultless
true_faultless r files true_is read named =
    none_is (first_fault_of files) (sym (same_program files read) ∙ ap is_program named ∙ true_is.program)
