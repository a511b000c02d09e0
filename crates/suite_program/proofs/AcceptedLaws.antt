-- The first fault of names and supers, by the one that the table of classes finds.
use Rattle.std.proofs.Common.{◌≡◌, ◌∙◌, List, map, Option, None, Some, refl, sym, ap, subst}
use Rattle.std.specs.Option.{option_map, option_or}
use Rattle.program_rules.specs.Names.{Name}
use Rattle.lib_table.specs.Library.{library_meant, class_meant}
use Rattle.class_link.specs.declared.loaded.Loaded.{Loaded}
use Rattle.class_link.specs.declared.loaded.LibClass.{LibClass}
use Rattle.class_table.specs.Faults.{look_of, AreProgram, IsFirstMissing, IsFirstCycle, IsFirstWrongKind}
use Rattle.class_table.specs.Table.{AreDistinct, IsLeastDuplicate, bodies_of, names_of}
use Rattle.class_table.specs.declared.fault.TableFault.{TableFault}
use Rattle.class_table.specs.declared.fault.TableFault.TheVariants as fault
use Rattle.suite_program.specs.Building.{table_fault, end_of}
use Rattle.suite_program.specs.Faults.{super_fault}
use Rattle.library_laws.specs.Beside.{program_of}
use Rattle.suite_program.specs.Programs.{classes_in, names_in}
use Rattle.suite_program.specs.declared.fault.ProgramFault.{ProgramFault}
use Rattle.suite_program.specs.declared.fault.ProgramFault.TheVariants.{Duplicate, SuperMissing, SuperCycle, SuperKind}
use Rattle.suite_program.specs.declared.fault.ProgramEnd.TheVariants.{Refused}
use Rattle.suite_program.proofs.DuplicateLaws.{no_duplicate, is_duplicate}
use Rattle.suite_program.proofs.ProgramLaws.{names_are, look_is}
use Rattle.suite_program.proofs.SuperLaws.{all_right, one_missing, one_cycle, one_wrong}

-- The library's classes are those of the definition.
abbrev pub IsLibrary : List LibClass → Type 0
IsLibrary library = map class_meant library ≡ library_meant

module _ (classes : List Loaded) (library : List LibClass) (lib : IsLibrary library) where
  -- By the bodies and names of the table, and by those of the definition.
  supers_are : super_fault (look_of (bodies_of classes library)) (names_of classes library) ≡ super_fault (program_of (classes_in classes)) (names_in (classes_in classes))
  supers_are =
      ap (λ p. super_fault p (names_of classes library)) (look_is classes library lib) ∙ ap (super_fault (program_of (classes_in classes))) (names_are classes library lib)

  apart_then : (r : Option ProgramFault) → AreDistinct (names_of classes library) → super_fault (look_of (bodies_of classes library)) (names_of classes library) ≡ r → table_fault (classes_in classes) ≡ r
  apart_then r distinct rest =
      ap (λ o. option_or (option_map Duplicate o) (super_fault (program_of (classes_in classes)) (names_in (classes_in classes)))) (no_duplicate (names_in (classes_in classes)) (subst AreDistinct (names_are classes library lib) distinct))
      ∙ sym supers_are ∙ rest

  pub faultless : AreProgram (bodies_of classes library) → table_fault (classes_in classes) ≡ None
  faultless is =
      apart_then None is.apart (all_right (look_of (bodies_of classes library)) (names_of classes library) is.present is.acyclic is.kinds)

  twice : (n : Name) → IsLeastDuplicate (names_of classes library) n → table_fault (classes_in classes) ≡ Some (Duplicate n)
  twice n is =
      ap (λ o. option_or (option_map Duplicate o) (super_fault (program_of (classes_in classes)) (names_in (classes_in classes))))
      (is_duplicate (names_in (classes_in classes)) n (subst (λ (ns : List Name). IsLeastDuplicate ns n) (names_are classes library lib) is))

  missing : (n : Name) → IsFirstMissing (bodies_of classes library) n → table_fault (classes_in classes) ≡ Some (SuperMissing n)
  missing n is =
      apart_then (Some (SuperMissing n)) is.apart (one_missing (look_of (bodies_of classes library)) (names_of classes library) n is.least)

  cycle : (n : Name) → IsFirstCycle (bodies_of classes library) n → table_fault (classes_in classes) ≡ Some (SuperCycle n)
  cycle n is =
      apart_then (Some (SuperCycle n)) is.apart (one_cycle (bodies_of classes library) n is.present is.least)

  wrong : (n : Name) → IsFirstWrongKind (bodies_of classes library) n → table_fault (classes_in classes) ≡ Some (SuperKind n)
  wrong n is =
      apart_then (Some (SuperKind n)) is.apart (one_wrong (look_of (bodies_of classes library)) (names_of classes library) n is.present is.acyclic is.least)

  -- The refusal of a fault of the table.
  pub refused_as : (f : TableFault) → ((n : Name) → f ≡ fault.Duplicate n → IsLeastDuplicate (names_of classes library) n)
      → ((n : Name) → f ≡ fault.SuperMissing n → IsFirstMissing (bodies_of classes library) n) → ((n : Name) → f ≡ fault.SuperCycle n → IsFirstCycle (bodies_of classes library) n)
      → ((n : Name) → f ≡ fault.SuperKind n → IsFirstWrongKind (bodies_of classes library) n) → (g : ProgramFault) → end_of f ≡ Refused g → table_fault (classes_in classes) ≡ Some g
  refused_as (fault.Duplicate n) a b c d g e = let same : Duplicate n ≡ g = cc in twice n (a n refl) ∙ ap Some same
  refused_as (fault.SuperMissing n) a b c d g e = let same : SuperMissing n ≡ g = cc in missing n (b n refl) ∙ ap Some same
  refused_as (fault.SuperCycle n) a b c d g e = let same : SuperCycle n ≡ g = cc in cycle n (c n refl) ∙ ap Some same
  refused_as (fault.SuperKind n) a b c d g e = let same : SuperKind n ≡ g = cc in wrong n (d n refl) ∙ ap Some same
  refused_as fault.Memory a b c d g e = absurd cc
