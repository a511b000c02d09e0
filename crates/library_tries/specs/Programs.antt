-- Small programs over the library: a class T whose static method builds something, calls what is
-- tried and compares what that gives; and what was told of its run by hand.
use Prim.Native.String.{String}
use Rattle.std.specs.Prelude.{◌≡◌, ℕ, ◌+◌, ℤ, List, [], ◌∷◌, ◌++◌, length, Some, None, codes}
use Rattle.program_rules.specs.Names.{Name}
use Rattle.program_rules.specs.Instructions.{Instruction, NullConstant, IntConstant, IfInts, IfSame, Pop, PlainReturn, Throw}
use Rattle.program_rules.specs.declared.operation.Comparison.TheVariants.{IsEqual}
use Rattle.program_rules.specs.Linked.{Linked, LinkedRow}
use Rattle.program_rules.specs.declared.call_kind.CallKind.TheVariants.{ClassWide}
use Rattle.program_rules.specs.Programs.{Look}
use Rattle.program_rules.specs.Library.{class_among, first_of}
use Rattle.machine_rules.specs.Outcomes.{Outcome, Passed}
use Rattle.machine_rules.specs.Runs.{With, Ran, run_of}
use Rattle.lib_table.specs.Library.{library_meant}
use Rattle.machine_tries.specs.Tries.{a_call, a_class, a_code, a_member, a_row, only_t, thrown_by, told}

-- A part of a program: code that gives nothing; code that has to give this int; code that has to
-- give the object that this instruction gives. Code is a straight line, and beside it stand the
-- steps that are taken inside of the written methods that it calls.
pub data Part : Type 0 where
  Does : List Instruction → ℕ → Part
  GivesInt : List Instruction → ℤ → ℕ → Part
  GivesSame : List Instruction → Instruction → ℕ → Part

-- ---- code

-- What throws NullPointerException, unless it is jumped over.
abbrev pub unless_jumped : List Instruction
unless_jumped = NullConstant ∷ Throw ∷ []

-- A part behind code. Where what it gives is the right one, the two instructions that compare go
-- on behind the part.
abbrev pub with_part : List Instruction → Part → List Instruction
with_part code (Does is n) = code ++ is
with_part code (GivesInt is z n) =
    code ++ (is ++ IntConstant z ∷ IfInts IsEqual (length code + length is + 4) ∷ unless_jumped)
with_part code (GivesSame is i n) =
    code ++ (is ++ i ∷ IfSame (length code + length is + 4) ∷ unless_jumped)

-- Parts behind code.
abbrev pub with_parts : List Instruction → List Part → List Instruction
with_parts code [] = code
with_parts code (x ∷ xs) = with_parts (with_part code x) xs

-- ---- steps

-- The steps of a part: one for each instruction, those inside, and two that compare.
abbrev pub steps_of : Part → ℕ
steps_of (Does is n) = length is + n
steps_of (GivesInt is z n) = length is + n + 2
steps_of (GivesSame is i n) = length is + n + 2

-- The steps of all parts.
abbrev pub all_steps : List Part → ℕ
all_steps [] = 0
all_steps (x ∷ xs) = steps_of x + all_steps xs

-- ---- programs

-- A program, and what was told of it: how it ends, and its steps.
pub record Try : Type 0 where
  pub code : List Instruction
  pub rows : List LinkedRow
  pub ends : Outcome
  pub steps : ℕ

-- These parts give what they have to. Steps: the begin of T, the call of its method, the parts, the
-- return.
abbrev pub passes : List Part → Try
passes xs = record {
  code = with_parts [] xs ++ PlainReturn ∷ [];
  rows = [];
  ends = Passed;
  steps = 2 + all_steps xs + 1;
}

-- Behind these parts this code throws an AssertionError, which nothing catches. Steps: as above, then
-- the code, those inside, of which one pops each frame, and the one that pops T's frame.
abbrev pub fails : List Part → List Instruction → ℕ → Try
fails xs is n = record {
  code = with_parts [] xs ++ (is ++ PlainReturn ∷ []);
  rows = [];
  ends = thrown_by (codes "java/lang/AssertionError");
  steps = 2 + all_steps xs + length is + n + 1;
}

-- The same, but an exception of this class is caught. Steps: as above, but the last one enters the
-- handler, of two instructions.
abbrev pub throws : String → List Part → List Instruction → ℕ → Try
throws class xs is n = record {
  code = with_parts [] xs ++ (is ++ (unless_jumped ++ Pop ∷ PlainReturn ∷ []));
  rows =
      a_row 0 (length (with_parts [] xs) + length is) (length (with_parts [] xs) + length is + 2)
      (Some (codes class)) ∷ [];
  ends = Passed;
  steps = 2 + all_steps xs + length is + n + 1 + 2;
}

-- ---- runs

-- The class T of a program.
abbrev pub class_of : Try → Linked
class_of t =
    a_class 33 (Some (codes "java/lang/Object")) [] []
    (a_member 9 (codes "t") (codes "()V") [] None (a_code 6 4 t.code t.rows) ∷ [])

-- A program of T and these classes.
abbrev pub with_classes : List (Name × Linked) → Linked → Look
with_classes library t n = first_of (class_among ((codes "T", t) ∷ []) n) (class_among library n)

-- Its run, in a heap of 1,000 words, with 16 frames and 10,000 steps.
abbrev pub run_with : List (Name × Linked) → Try → Ran
run_with library t =
    run_of (with_classes library (class_of t))
    (record {
      class = codes "T";
      method = codes "t";
      script = a_call (codes "T") (codes "t") ClassWide ∷ [];
      expected = None;
    })
    (record { heap = 1000; depth = 16 }) 10000

-- Beside these classes a program runs as it was told. No line is stated, so line 0 is reached.
abbrev pub RunsWith : List (Name × Linked) → Try → Type 0
RunsWith library t =
    run_with library t ≡ told (With t.ends) t.steps only_t ((codes "T", 0) ∷ [])

-- Beside the library it does.
abbrev pub AsTold : Try → Type 0
AsTold t = RunsWith library_meant t
