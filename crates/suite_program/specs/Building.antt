-- The steps to a program: what is built, before its code is verified (this project's own). No
-- public clause cites these.
use Rattle.std.specs.Prelude.{◌≡◌, ◌≤◌, List, length, All, Option, Some, None, Result, Err}
use Rattle.std.specs.Option.{option_or}
use Rattle.class_model.specs.declared.class.Class.{Class}
use Rattle.class_link.specs.declared.loaded.Loaded.{Loaded}
use Rattle.class_link.specs.Info.{Info}
use Rattle.class_table.specs.declared.fault.TableFault.{TableFault}
use Rattle.class_table.specs.declared.fault.TableFault.TheVariants as fault
use Rattle.class_table.specs.Faults.{HasRightKinds}
use Rattle.class_table.specs.Table.{look, names, name_at}
use Rattle.type_verifier.specs.declared.end.VerifyFault.{VerifyFault}
use Rattle.type_verifier.specs.Programs.{AreNumbered, IsLibraryAccepted, place_of}
use Rattle.mutant_runs.specs.Codes.{IsBoundedBody}
use Rattle.mutant_runs.specs.Programs.{files_of}
use Rattle.suite_program.specs.declared.fault.ProgramFault.{ProgramFault}
use Rattle.suite_program.specs.declared.fault.ProgramFault.TheVariants.{Duplicate, SuperMissing, SuperCycle, SuperKind}
use Rattle.suite_program.specs.declared.fault.ProgramEnd.{ProgramEnd}
use Rattle.suite_program.specs.declared.fault.ProgramEnd.TheVariants.{Refused}
use Rattle.suite_program.specs.declared.fault.ProgramEnd.TheVariants as end
use Rattle.suite_program.specs.Faults.{duplicate_of, super_fault, code_fault, first_refused}
use Rattle.library_laws.specs.Beside.{program_of}
use Rattle.suite_program.specs.Programs.{classes_in, class_file, names_in, HaveFirstNumbers, IsMadeOf}

-- ---- names and supers

-- The first fault of names and supers.
abbrev pub table_fault : List Class → Option ProgramFault
table_fault classes =
    option_or (duplicate_of (names_in classes)) (super_fault (program_of classes) (names_in classes))

-- The end of a table's fault.
abbrev pub end_of : TableFault → ProgramEnd
end_of (fault.Duplicate name) = Refused (Duplicate name)
end_of (fault.SuperMissing name) = Refused (SuperMissing name)
end_of (fault.SuperCycle name) = Refused (SuperCycle name)
end_of (fault.SuperKind name) = Refused (SuperKind name)
end_of fault.Memory = end.Memory

-- Where there is no program of these classes it is by their first fault of names and supers.
abbrev pub RefusesTable : {X : Type 0} → List Class → Result X ProgramEnd → Type 0
RefusesTable classes result =
    (f : ProgramFault) → result ≡ Err (Refused f) → table_fault classes ≡ Some f

-- It is the program of these classes, without a fault of names and supers; what the verifier asks
-- holds of it, and its codes are within the bounds of a class file.
pub record IsBuilt (classes : List Loaded) (p : List Info) : Type 0 where
  pub faultless : table_fault (classes_in classes) ≡ None
  pub parts : IsMadeOf classes p
  pub program : look p ≡ program_of (classes_in classes)
  pub files : files_of p ≡ class_file (classes_in classes)
  pub names : names p ≡ names_in (classes_in classes)
  pub first : HaveFirstNumbers p (classes_in classes)
  pub many : length classes ≤ length p
  pub kinds : HasRightKinds (look p)
  pub bounded : All (λ i. IsBoundedBody i.body) p
  pub numbered : AreNumbered p
  pub library : IsLibraryAccepted (look p)

-- ---- code

-- The fault of code that the verifier has found.
abbrev pub found_fault : List Info → VerifyFault → ProgramFault
found_fault p f = code_fault (look p) (name_at p f.class.0) (f.method, place_of f)

-- The first fault of the code of a program.
abbrev pub first_in : List Info → Option ProgramFault
first_in p = first_refused (look p) (names p)

-- Where an end refuses a program it is by the first fault of its code.
abbrev pub TellsFirst : List Info → ProgramEnd → Type 0
TellsFirst p e = (f : ProgramFault) → e ≡ Refused f → first_in p ≡ Some f

-- Where code is refused it is by the first fault.
abbrev pub RefusesCode : {X : Type 0} → List Info → Result X ProgramEnd → Type 0
RefusesCode p result = (f : ProgramFault) → result ≡ Err (Refused f) → first_in p ≡ Some f
