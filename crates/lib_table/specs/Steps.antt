-- The code of a written method: its instructions by names, its frames, and the entries that they
-- need in the constant pool of their class, in which each has entries of its own (JVMS 4.4).
use Prim.Native.String.{String}
use Rattle.std.specs.Prelude.{ℕ, ◌+◌, ℤ, false, List, [], ◌∷◌, ◌++◌, length, codes}
use Rattle.class_model.specs.declared.constant.Const.{Const}
use Rattle.class_model.specs.declared.constant.Const.TheVariants as const
use Rattle.class_model.specs.declared.instruction.Insn.{Insn}
use Rattle.class_model.specs.declared.instruction.Arg.TheVariants as arg
use Rattle.class_model.specs.declared.attribute.Code.{Code, roll-Code}
use Rattle.class_model.specs.declared.frame.Frame.{Frame}
use Rattle.program_rules.specs.Names.{Name}
use Rattle.lib_table.specs.Frames.{FrameAt, frame_table, frames_from, pool_of_frames, with_name}

-- An instruction by its opcode (JVMS 6.5).
pub data Step : Type 0 where
  -- without an operand
  Op : ℕ → Step
  -- a jump to an instruction
  Jump : ℕ → ℕ → Step
  -- `iinc` of a local
  Increment : ℕ → ℤ → Step
  -- `ldc` of a text
  Text : List ℕ → Step
  -- one that names a class
  Class : ℕ → Name → Step
  -- a call of a method by class, name and descriptor
  Call : ℕ → Name → Name → Name → Step

abbrev pub text : String → Step
text t = Text (codes t)

abbrev pub named : ℕ → String → Step
named op class = Class op (codes class)

abbrev pub call : ℕ → String → String → String → Step
call op class name desc = Call op (codes class) (codes name) (codes desc)

-- The entries that an instruction needs, behind so many; the first entry of a pool is number 1.
abbrev pub entries : ℕ → Step → List Const
entries n (Op op) = []
entries n (Jump op to) = []
entries n (Increment k z) = []
entries n (Text t) = const.Utf8 t ∷ const.Text (n + 1) ∷ []
entries n (Class op c) = const.Utf8 c ∷ const.Class (n + 1) ∷ []
entries n (Call op c m d) =
    const.Utf8 c
    ∷ const.Class (n + 1)
    ∷ const.Utf8 m
    ∷ const.Utf8 d
    ∷ const.Pair (n + 3) (n + 4)
    ∷ const.Method (n + 2) (n + 5)
    ∷ []

-- The instruction, whose entries stand behind so many; `iinc` is 0x84, `ldc` is 0x12.
abbrev pub instruction : ℕ → Step → Insn
instruction n (Op op) = record { op = op; wide = false; arg = arg.None }
instruction n (Jump op to) = record { op = op; wide = false; arg = arg.To to }
instruction n (Increment k z) = record { op = 0x84; wide = false; arg = arg.Inc k z }
instruction n (Text t) = record { op = 0x12; wide = false; arg = arg.Pool (n + 2) }
instruction n (Class op c) = record { op = op; wide = false; arg = arg.Pool (n + 2) }
instruction n (Call op c m d) = record { op = op; wide = false; arg = arg.Pool (n + 6) }

abbrev pub pool_from : List Const → List Step → List Const
pool_from pool [] = pool
pool_from pool (s ∷ ss) = pool_from (pool ++ entries (length pool) s) ss

abbrev pub code_from : List Insn → List Const → List Step → List Insn
code_from insns pool [] = insns
code_from insns pool (s ∷ ss) =
    code_from (insns ++ instruction (length pool) s ∷ []) (pool ++ entries (length pool) s) ss

-- A pool, and code that counts in it.
pub record Written : Type 0 where
  pub pool : List Const
  pub code : Code

abbrev pub code_of : List Insn → ℕ → List Frame → Code
code_of insns table frames =
    roll-Code (record {
      max_stack = 5;
      max_locals = 4;
      insns = insns;
      rows = [];
      attrs = frame_table table frames;
    })

-- A written method: its frames and its instructions.
pub record Method : Type 0 where
  pub frames : List FrameAt
  pub steps : List Step

abbrev pub method : List FrameAt → List Step → Method
method frames steps = record { frames = frames; steps = steps }

-- A method written behind a pool: the pool with what its instructions need and then what its frames
-- need, and its code.
abbrev pub written_behind : List Const → Method → Written
written_behind pool m = record {
  pool = pool_of_frames (with_name (pool_from pool m.steps)) m.frames;
  code =
      code_of (code_from [] pool m.steps) (length (pool_from pool m.steps) + 1)
      (frames_from (with_name (pool_from pool m.steps)) m.frames);
}
