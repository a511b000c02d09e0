-- What a step needs of the method of the running frame.
use Rattle.std.specs.Prelude.{◌≡◌, ℕ, ℤ, ◌⊎◌, ◌≤◌, Bool, List, [], map, Option, None, Some, slice_get}
use Rattle.std.specs.Option.{option_map}
use Rattle.program_rules.specs.Instructions as def
use Rattle.program_rules.specs.Kinds.{Kind}
use Rattle.program_rules.specs.Linked.{code_of, method_in}
use Rattle.program_rules.specs.Programs.{Look}
use Rattle.machine_rules.specs.State as rules
use Rattle.machine_rules.specs.Effects.{Current}
use Rattle.machine_rules.specs.Steps.{Fetched, fetch_from}
use Rattle.class_link.specs.declared.linked.Entry.{Entry}
use Rattle.class_link.specs.declared.linked.LinkedBody.TheVariants as body
use Rattle.class_link.specs.declared.linked.LinkedMethod.{LinkedMethod}
use Rattle.class_link.specs.Info.{Info}
use Rattle.class_link.specs.Symbols.{kind_of}
use Rattle.class_link.specs.View.{method_of}
use Rattle.class_table.specs.Table.{look, name_at, entries_at}
use Rattle.jvm_state.specs.declared.op.Op.{Op}
use Rattle.jvm_state.specs.Ops.{instruction_of}
use Rattle.jvm_code.specs.Decoded.{named_by, AreDecoded}
use Rattle.jvm_rows.specs.Effects.{RowOf}
use Rattle.jvm_unwind.specs.Unwinding.{AreHandlersOf}
use Rattle.jvm_act.specs.declared.methods.MethodCode.{MethodCode}

-- The code of the method at a place of a class, as a step needs it.
pub record IsCodeOf (p : List Info) (class place : ℕ) (m : MethodCode) : Type 0 where
  pub method : LinkedMethod
  pub there : method_in (look p (name_at p class)) place
      ≡ Some (method_of (entries_at p class) method)
  pub body : method.body ≡ body.Code m.linked
  pub result : method.result ≡ m.result
  pub ops : AreDecoded m.linked.instructions m.code.ops.items m.code.longs.items
  pub handlers : AreHandlersOf p class place m.handlers

-- The method at a place of a class has no code.
abbrev pub HasNoCode : List Info → ℕ → ℕ → Type 0
HasNoCode p class place = code_of (method_in (look p (name_at p class)) place) ≡ None

-- What an instruction in eight bytes means in a method of a class.
abbrev pub meaning : List Info → ℕ → MethodCode → Op → def.Instruction
meaning p class m op =
    instruction_of m.code.longs.items (named_by (entries_at p class) m.linked.switches) op

-- What a row may ask of the method.
abbrev pub current_of : MethodCode → Current
current_of m = record {
  result = option_map kind_of m.result;
  max_stack = m.linked.max_stack;
  initializes = m.handlers.initializes;
}

-- What is executed at a place of its code.
abbrev pub fetched : List Info → ℕ → MethodCode → ℕ → Option Fetched
fetched p class m at =
    fetch_from (current_of m) (option_map (meaning p class m) (slice_get m.code.ops.items at))
