-- Whether the classes of a suite are a program (this project's own).
use Rattle.std.specs.Prelude.{◌≡◌, List, ◌++◌, Option, Some, None, Result, Ok, Err}
use Rattle.class_model.specs.declared.class.Class.{Class}
use Rattle.program_rules.specs.Programs.{Look}
use Rattle.class_link.specs.declared.loaded.Loaded.{Loaded}
use Rattle.suite_runs.specs.Below.{ClassFiles}
use Rattle.suite_runs.specs.Below.{first_fault}
use Rattle.suite_runs.specs.Below.{classes_in, class_file, program_of}
use Rattle.suite_runs.specs.Below.{ProgramEnd}
use Rattle.suite_runs.specs.Below.suite_program_declared_fault_ProgramEnd_TheVariants as end
use Rattle.suite_runs.specs.Below.{ProgramFault}
use Rattle.mutest_engine.specs.declared.suite.LoadedSuite.{LoadedSuite}
use Rattle.mutest_engine.specs.declared.stop.Stop.{Stop}
use Rattle.mutest_engine.specs.declared.stop.Stop.TheVariants as stop
use Rattle.mutest_engine.specs.declared.refusal.Refusal.{Refusal}
use Rattle.mutest_engine.specs.declared.refusal.Refusal.TheVariants.{BadProgram}

-- the classes of both folders, those of the tests behind the others
abbrev pub all_classes : LoadedSuite → List Loaded
all_classes s = s.classes ++ s.tests

-- Classes are refused by their first fault, if they have one.
abbrev pub unless_fault : Option ProgramFault → Result (Unit {0}) Refusal
unless_fault None = Ok tt
unless_fault (Some f) = Err (BadProgram f)

-- The classes are a program with the library, and its code is accepted.
abbrev pub accepted : List Class → Result (Unit {0}) Refusal
accepted classes = unless_fault (first_fault classes)

-- The same by the end that the code finds; want of memory is no fault.
abbrev pub IsStopOfProgram : ProgramEnd → Stop → Type 0
IsStopOfProgram (end.Refused f) s = s ≡ stop.Refused (BadProgram f)
IsStopOfProgram end.Memory s = s ≡ stop.WantOfMemory

-- The classes of a suite make a program.
abbrev pub linked : LoadedSuite → Result (Unit {0}) Refusal
linked s = accepted (classes_in (all_classes s))

-- The class file of each name of a suite, and its program.
abbrev pub suite_files : LoadedSuite → ClassFiles
suite_files s = class_file (classes_in (all_classes s))

abbrev pub program : LoadedSuite → Look
program s = program_of (classes_in (all_classes s))
