-- Why classes are no program, or no accepted one: the first fault (this project's own).
use Rattle.std.specs.Prelude.{◌≡◌, List, Option, Some, is_some, Result, Err, option_and_then}
use Rattle.std.specs.Option.{option_map, option_or}
use Rattle.class_model.specs.declared.class.Class.{Class}
use Rattle.class_order.specs.Supers.{is_super_missing, is_super_of_wrong_kind}
use Rattle.machine_rules.specs.Steps.{method_text}
use Rattle.program_rules.specs.Linked.{method_in}
use Rattle.program_rules.specs.Names.{Name}
use Rattle.program_rules.specs.Programs.{Look}
use Rattle.type_rules.specs.Faults.{Placed, class_fault}
use Rattle.suite_program.specs.Duplicates.{duplicate_in}
use Rattle.library_laws.specs.Beside.{program_of}
use Rattle.suite_program.specs.Programs.{names_in}
use Rattle.suite_program.specs.Supers.{is_own_super, least_with}
use Rattle.suite_program.specs.declared.fault.ProgramFault.{ProgramFault}
use Rattle.suite_program.specs.declared.fault.ProgramFault.TheVariants.{Duplicate, SuperMissing, SuperCycle, SuperKind, Code}
use Rattle.suite_program.specs.declared.fault.ProgramEnd.{ProgramEnd}
use Rattle.suite_program.specs.declared.fault.ProgramEnd.TheVariants.{Refused}

-- ---- names, supers

-- A name that stands twice.
abbrev pub duplicate_of : List Name → Option ProgramFault
duplicate_of ns = option_map Duplicate (duplicate_in ns)

-- A super that is missing, a class above itself, a super of a wrong kind: each is looked for in all
-- classes before the next.
abbrev pub super_fault : Look → List Name → Option ProgramFault
super_fault p ns =
    option_or (option_map SuperMissing (least_with (is_super_missing p) ns))
    (option_or (option_map SuperCycle (least_with (is_own_super p ns) ns))
    (option_map SuperKind (least_with (is_super_of_wrong_kind p) ns)))

-- ---- code

-- The fault of a class's code, with the method's name and descriptor.
abbrev pub code_fault : Look → Name → Placed → ProgramFault
code_fault p n f = Code n (method_text (method_in (p n) f.0)) f.1.at f.1.rule

-- The first one of the class of a name.
abbrev pub refused_code : Look → Name → Option ProgramFault
refused_code p n = option_map (code_fault p n) (class_fault p n)

-- The first one of the least class that is refused.
abbrev pub first_refused : Look → List Name → Option ProgramFault
first_refused p ns =
    option_and_then (refused_code p) (least_with (λ n. is_some (class_fault p n)) ns)

-- ---- all

-- The first fault of these classes with the library: of names, then of supers, then of code.
unfoldable pub first_fault : List Class → Option ProgramFault
first_fault classes =
    option_or (duplicate_of (names_in classes))
    (option_or (super_fault (program_of classes) (names_in classes))
    (first_refused (program_of classes) (names_in classes)))

-- Where these classes are refused it is by their first fault.
abbrev pub RefusesFirst : {X : Type 0} → List Class → Result X ProgramEnd → Type 0
RefusesFirst classes result =
    (f : ProgramFault) → result ≡ Err (Refused f) → first_fault classes ≡ Some f
