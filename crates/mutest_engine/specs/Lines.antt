-- The parts of the lines that tell refusals and faults (this project's own).
use Rattle.std.specs.Prelude.{ℕ, List, [], ◌++◌, codes, decimal, Option, Some, None}
use Rattle.std.specs.List.{flat_map}
use Rattle.class_model.specs.Fault.{value_of}
use Rattle.class_model.specs.declared.outcome.Outcome.{Outcome}
use Rattle.class_model.specs.declared.outcome.Outcome.TheVariants as outcome
use Rattle.class_model.specs.declared.fault.ClassFault.{ClassFault}

abbrev pub outcome_name : Outcome → List ℕ
outcome_name outcome.Passed = codes "Passed"
outcome_name (outcome.Failed c) = codes "Failed"
outcome_name outcome.TimedOut = codes "TimedOut"
outcome_name outcome.MemoryOut = codes "MemoryOut"

-- a line of a kind and what it names
unfoldable pub named_line : List ℕ → List ℕ → List ℕ
named_line kind named = kind ++ named ++ codes "\n"

-- a name and a number behind it
abbrev pub count_text : List ℕ → ℕ → List ℕ
count_text name number = name ++ codes " " ++ decimal number

-- a fault's number and its value; want of memory is no fault of a class
abbrev pub fault_text : ClassFault → Option ℕ → List ℕ
fault_text fault None = []
fault_text fault (Some number) = codes " " ++ decimal number ++ codes " " ++ decimal (value_of fault)

-- the line of a test whose original run didn't pass
unfoldable pub not_green_line : List ℕ × Outcome → List ℕ
not_green_line test =
    codes "mutest: NotGreen " ++ test.0 ++ named_line (codes " ") (outcome_name test.1)

abbrev pub not_green_lines : List (List ℕ × Outcome) → List ℕ
not_green_lines tests = flat_map not_green_line tests
