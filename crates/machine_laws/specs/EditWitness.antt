-- A program and an edit that meet the premises of the laws.
use Rattle.std.specs.Prelude.{ℕ, pos, List, [], ◌∷◌, Some, codes}
use Rattle.program_rules.specs.Kinds.{OfBoolean, OfInt}
use Rattle.program_rules.specs.Instructions.{Instruction, Pop, IntConstant, IntReturn}
use Rattle.program_rules.specs.Linked.{Linked}
use Rattle.program_rules.specs.Programs.{Look}
use Rattle.program_rules.specs.Library.{with_library}
use Rattle.program_rules.specs.Tests.{Test, plain_test}
use Rattle.machine_rules.specs.Runs.{Ran, run_of}
use Rattle.program_rules.specs.Samples.{small_class, small_method, class_t, f_code, f_first_return}
use Rattle.machine_rules.specs.Worked.{roomy}
use Rattle.machine_laws.specs.Edit.{Edit}
use Rattle.machine_laws.specs.EditLaws.{mutant_run}

-- A with its jump on line 3, its first return on line 5, and from the jump's target on line 4.
abbrev pub three_lines : List Instruction → ℕ → Linked
three_lines code target =
    small_class (small_method 9 (codes "f") (codes "(I)Z") (OfInt ∷ []) (Some OfBoolean) code
    (record { start = 0; line = 3 } ∷ record { start = 2; line = 5 }
    ∷ record { start = target; line = 4 } ∷ []) ∷ [])

-- That class and its test class.
abbrev pub three_line_program : List Instruction → ℕ → Look
three_line_program code target =
    with_library ((codes "A", three_lines code target) ∷ (codes "T", class_t) ∷ [])

-- `false` in place of what the first return gives. Two instructions stand behind it, and the jump
-- leads there.
abbrev pub first_return_edit : Edit
first_return_edit = record {
  class = codes "A";
  method = 0;
  at = 3;
  first = Pop;
  rest = IntConstant (pos 0) ∷ IntReturn ∷ [];
  max_stack = 1;
}

-- A as it was.
abbrev pub original : Look
original = three_line_program f_code 4

-- A with the edit.
abbrev pub mutant : Look
mutant = three_line_program (f_first_return (IntConstant (pos 0))) 6

-- The test at 0, which runs behind the edited instruction and never reaches its line, and the test
-- at -1, which reaches it.
abbrev pub zero_test : Test
zero_test = plain_test (codes "T") (codes "zero")

-- The test at -1.
abbrev pub neg_test : Test
neg_test = plain_test (codes "T") (codes "neg")

-- The run of a test on A as it was.
abbrev pub original_run : Test → Ran
original_run t = run_of original t roomy 1000000000

-- Under the limit that the original's run gives.
abbrev pub edited_run : Test → Ran
edited_run t = mutant_run mutant t roomy (original_run t)
