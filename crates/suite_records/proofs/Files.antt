-- The class files of a suite by their names.
use Rattle.std.proofs.Common.{◌≡◌, ◌∙◌, ℕ, Bool, true, false, List, [], ◌∷◌, map, Option, Some, None, Result, refl, sym, ap, subst}
use Rattle.std.specs.Prelude.{IsTrue, is_some, if◌then◌else◌, option_and_then}
use Rattle.std.specs.List.{AllByRecursion}
use Rattle.std.specs.Option.{option_map}
use Rattle.std.specs.Result.{result_ok}
use Rattle.std.specs.Cmp.Lexicographic.{same_text, bytes_decides}
use Rattle.std.proofs.lemmas.List.Elements.{recursion_from_All}
use Rattle.class_model.specs.declared.class.Class.{Class}
use Rattle.class_model.specs.declared.fault.ClassFault.{ClassFault}
use Rattle.class_reader.specs.Spells.{Spells}
use Rattle.program_rules.specs.Names.{Name, same}
use Rattle.program_rules.specs.Linked.{Linked}
use Rattle.program_rules.specs.Library.{class_among, first_of}
use Rattle.class_link.specs.declared.loaded.Loaded.{Loaded}
use Rattle.class_link.specs.Info.{Info, own_name}
use Rattle.class_link.specs.Linking.{link}
use Rattle.class_table.specs.Table.{AreDistinct, look}
use Rattle.lib_table.specs.Library.{library_meant}
use Rattle.library_laws.specs.Beside.{named, program_of}
use Rattle.suite_laws.specs.Below.{classes_in, class_file, names_in}
use Rattle.suite_laws.proofs.Below.{are_apart}
use Rattle.record_rules.specs.Profiles.{class_by}
use Rattle.reuse_laws.specs.Asking.{AreApart, AreSpelled}
use Rattle.class_records.specs.Profile.{with_name, file_of, class_meant, files_held, profile}
use Rattle.suite_records.specs.Suites.{bytes_of, IsSuite}
use Rattle.suite_records.specs.Laws.{OriginalsAreReusable}
use Rattle.suite_records.proofs.Spelled.{spelled_is_read}

pub same_itself : (n : Name) → same n n ≡ true
same_itself n = (bytes_decides n n).1 refl

-- ---- bytes and classes under one name

abbrev pub Fit : Name → Option (List ℕ) → Option Class → Type 0
Fit n None None = Unit {0}
Fit n None (Some c) = ⊥
Fit n (Some b) None = ⊥
Fit n (Some b) (Some c) = Spells b c × (own_name c ≡ n)

fit_case : (n : Name) (l : Loaded) (o : Option (List ℕ)) (k : Option Class) (b : Bool) → same (own_name l.class) n ≡ b → Spells l.bytes l.class → Fit n o k → Fit n (if b then Some l.bytes else o) (if b then Some l.class else k)
fit_case n l o k true e f h = (f, same_text (own_name l.class) n (sym e))
fit_case n l o k false e f h = h

pub fit : (files : List Loaded) → AllByRecursion (λ (l : Loaded). Spells l.bytes l.class) files → (n : Name) → Fit n (bytes_of files n) (class_file (classes_in files) n)
fit [] all n = tt
fit (l ∷ files) all n = fit_case n l (bytes_of files n) (class_file (classes_in files) n) (same (own_name l.class) n) refl all.0 (fit files all.1 n)

-- A class file under its name.
pub record IsUnder (n : Name) (b : List ℕ) (c : Class) : Type 0 where
  pub file : Spells b c
  pub name : own_name c ≡ n

pub by_bytes : (n : Name) (o : Option (List ℕ)) (k : Option Class) → Fit n o k → (b : List ℕ) → o ≡ Some b → (c : Class) × (k ≡ Some c) × IsUnder n b c
by_bytes n None k q b e = absurd cc
by_bytes n (Some a) None q b e = absurd q
by_bytes n (Some a) (Some c) q b e = let s : a ≡ b = cc in (c, refl, subst (λ (z : List ℕ). IsUnder n z c) s (record { file = q.0; name = q.1 }))

pub by_class : (n : Name) (o : Option (List ℕ)) (k : Option Class) → Fit n o k → (c : Class) → k ≡ Some c → (b : List ℕ) × (o ≡ Some b) × IsUnder n b c
by_class n o None q c e = absurd cc
by_class n None (Some d) q c e = absurd q
by_class n (Some b) (Some d) q c e = let s : d ≡ c = cc in (b, refl, subst (λ (z : Class). IsUnder n b z) s (record { file = q.0; name = q.1 }))

-- ---- what bytes spell under a name

file_is : (n : Name) (b : List ℕ) (c : Class) → Spells b c → file_of n b ≡ with_name n c
unfolding file_of
file_is n b c f = ap (λ (r : Result Class ClassFault). option_and_then (with_name n) (result_ok r)) (spelled_is_read b c f)

pub file_here : (n : Name) (b : List ℕ) (c : Class) → IsUnder n b c → file_of n b ≡ Some c
file_here n b c u = file_is n b c u.file ∙ ap (λ (t : Bool). if t then Some c else None) (subst (λ (m : Name). same (own_name c) m ≡ true) u.name (same_itself (own_name c)))

pub meant_here : (n : Name) (b : List ℕ) (c : Class) → IsUnder n b c → class_meant n b ≡ Some (link c)
meant_here n b c u = ap (option_map link) (file_here n b c u)

held_case : (n : Name) (o : Option (List ℕ)) (k : Option Class) → Fit n o k → option_and_then (file_of n) o ≡ k
held_case n None None q = refl
held_case n None (Some c) q = absurd q
held_case n (Some b) None q = absurd q
held_case n (Some b) (Some c) q = file_here n b c (record { file = q.0; name = q.1 })

pub meant_case : (n : Name) (o : Option (List ℕ)) (k : Option Class) → Fit n o k → option_and_then (class_meant n) o ≡ option_map link k
meant_case n None None q = refl
meant_case n None (Some c) q = absurd q
meant_case n (Some b) None q = absurd q
meant_case n (Some b) (Some c) q = meant_here n b c (record { file = q.0; name = q.1 })

among_case : (c : Class) (k : Option Class) (o : Option Linked) (b : Bool) → option_map link k ≡ o → option_map link (if b then Some c else k) ≡ (if b then Some (link c) else o)
among_case c k o true h = refl
among_case c k o false h = h

pub among_are : (cs : List Class) (n : Name) → option_map link (class_file cs n) ≡ class_among (map named cs) n
among_are [] n = refl
among_are (c ∷ cs) n = among_case c (class_file cs n) (class_among (map named cs) n) (same (own_name c) n) (among_are cs n)

module _ (files : List Loaded) (p : List Info) (s : IsSuite files p) where
  pub all_fit : (n : Name) → Fit n (bytes_of files n) (class_file (classes_in files) n)
  all_fit = fit files (recursion_from_All (λ (l : Loaded). Spells l.bytes l.class) files s.read)

  pub files_are : (n : Name) → files_held (bytes_of files) n ≡ class_file (classes_in files) n
  files_are n = held_case n (bytes_of files n) (class_file (classes_in files) n) (all_fit n)

  linked_are : (n : Name) → option_and_then (class_meant n) (bytes_of files n) ≡ class_among (map named (classes_in files)) n
  linked_are n = meant_case n (bytes_of files n) (class_file (classes_in files) n) (all_fit n) ∙ among_are (classes_in files) n

  held_look : program_of (classes_in files) ≡ class_by profile (bytes_of files)
  unfolding program_of
  held_look = λ i n. first_of (sym (linked_are n) i) (class_among library_meant n)

  pub program : look p ≡ class_by profile (bytes_of files)
  program = s.of.look ∙ held_look

  apart_names : AreDistinct (names_in (classes_in files))
  apart_names = let program = s.of.program in subst AreDistinct s.of.names program.distinct

  pub apart : AreApart profile (bytes_of files)
  apart n b e =
      let u = by_bytes n (bytes_of files n) (class_file (classes_in files) n) (all_fit n) b e in
      let others = are_apart (classes_in files) apart_names in
      others.each n (link u.0) (sym (among_are (classes_in files) n) ∙ ap (option_map link) u.1)

  pub spelled : AreSpelled profile (bytes_of files)
  spelled n b e =
      let u = by_bytes n (bytes_of files n) (class_file (classes_in files) n) (all_fit n) b e in
      subst (λ (o : Option Linked). IsTrue (is_some o)) (sym (meant_here n b u.0 u.2)) refl

pub originals : OriginalsAreReusable
originals files p t q limit s own =
    let ready = s.of.ready in
    let built = s.of.program in
    record {
      asked = record { program = program files p s; apart = apart files p s; found = own };
      spelled = spelled files p s;
      ordered = record { present = built.present; kinds = ready.kinds; ranks = built.ranks };
    }
