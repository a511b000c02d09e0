-- What is built of the classes of a suite and the library is their program.
use Rattle.std.proofs.Common.{◌≡◌, List, map, sym, subst}
use Rattle.std.specs.Prelude.{All}
use Rattle.class_link.specs.declared.loaded.Loaded.{Loaded}
use Rattle.class_link.specs.declared.loaded.LibClass.{LibClass}
use Rattle.class_link.specs.Info.{Info, IsInfo}
use Rattle.class_table.specs.Faults.{HasRightKinds, look_of, AreProgram}
use Rattle.class_table.specs.Table.{AreDistinct, bodies_of, look}
use Rattle.mutant_runs.specs.Codes.{IsBoundedBody, BoundedAreNumbered}
use Rattle.lib_table.specs.Library.{library_meant}
use Rattle.library_laws.specs.Bounded.{AreBounded}
use Rattle.program_laws.specs.Bounded.{LinkedFilesAreBounded}
use Rattle.suite_program.specs.Building.{IsBuilt}
use Rattle.library_laws.specs.Beside.{program_of}
use Rattle.suite_program.specs.Programs.{classes_in, AreSpelled}
use Rattle.suite_program.proofs.AcceptedLaws.{IsLibrary, faultless}
use Rattle.suite_program.proofs.FileLaws.{are_files}
use Rattle.suite_program.proofs.NumberLaws.{numbered, as_many}
use Rattle.suite_program.proofs.ProgramLaws.{is_program, all_named, names_are}
use Rattle.suite_program.proofs.ReadyLaws.{BehindAccepted, are_bounded, library_accepted}

pub is_built : (classes : List Loaded) (library : List LibClass) (p : List Info) → IsLibrary library → AreSpelled classes → LinkedFilesAreBounded → AreBounded library_meant → BehindAccepted → BoundedAreNumbered
    → map (λ i. i.body) p ≡ bodies_of classes library → AreProgram (bodies_of classes library) → All IsInfo p → look p ≡ look_of (bodies_of classes library) → IsBuilt classes p
is_built classes library p lib spelled files_law library_law behind numbers_law bodies is meant looks =
    let program : look p ≡ program_of (classes_in classes) = is_program p classes library looks lib in
    let bounded : All (λ (i : Info). IsBoundedBody i.body) p = are_bounded p classes library files_law lib library_law spelled bodies in
    record {
      faultless = faultless classes library lib is;
      parts = record { library = library; made = bodies };
      program = program;
      files = are_files p classes library meant bodies;
      names = all_named p classes library meant bodies lib;
      first = numbered p classes library bodies;
      many = as_many p classes library bodies;
      kinds = subst HasRightKinds (sym looks) is.kinds;
      bounded = bounded;
      numbered = numbers_law p meant bounded;
      library = library_accepted p classes behind program (subst AreDistinct (names_are classes library lib) is.apart);
    }
