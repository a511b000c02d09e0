-- Which types may stand in a frame that a method states, and how many (JVMS 4.10.1.2, 4.10.1.4).
use Rattle.std.specs.Prelude.{◌≡◌, ◌≤◌, ℕ, Bool, true, ◌&&◌, nat_le, List, Some, is_some}
use Rattle.std.specs.List.{list_all}
use Rattle.program_rules.specs.Names.{Name}
use Rattle.program_rules.specs.Instructions as rules
use Rattle.program_rules.specs.Linked as linked
use Rattle.type_rules.specs.Frames.{first_items, is_initializer, new_at, new_of}
use Rattle.class_link.specs.declared.instruction.Instruction.{Instruction}
use Rattle.class_link.specs.declared.linked.Entry.{Entry}
use Rattle.class_link.specs.declared.linked.Switch.{Switch}
use Rattle.class_link.specs.Opcodes.{on_class}
use Rattle.class_link.specs.View.{code_of, instruction_of, meaning_at}
use Rattle.vframes.specs.declared.named.Named.{Named}
use Rattle.vframes.specs.declared.slot_type.SlotType.{SlotType}
use Rattle.vframes.specs.declared.slot_type.SlotType.TheVariants as slot
use Rattle.vframes.specs.View.{types_in, words_of}
use Rattle.type_verifier.specs.declared.method.MethodCode.{MethodCode}

-- The rules' code; and a method of the rules with it.
abbrev pub code_in : MethodCode → linked.LinkedCode
code_in x = code_of x.linked.now.entries x.code.now

pub record IsOf (x : MethodCode) (m : linked.LinkedMethod) (c : linked.LinkedCode) : Type 0 where
  pub initializer : is_initializer m ≡ x.is_initializer
  pub code : c ≡ code_in x

-- Whether a `new` of this index names a class; whether an instruction is such a `new`, and whether
-- the one at a place is.
abbrev pub may_be_new : List Entry → ℕ → Bool
may_be_new es k = is_some (new_of (Some (on_class rules.New (meaning_at es k))))

abbrev pub is_new_in : List Entry → List Switch → Instruction → Bool
is_new_in es ss i = is_some (new_of (Some (instruction_of es ss i)))

abbrev pub has_new : MethodCode → ℕ → Bool
has_new x at = is_some (new_at (code_in x) at)

-- Whether a type may stand in a frame of the method.
abbrev pub stands : MethodCode → SlotType → Bool
stands x slot.UninitThis = x.is_initializer
stands x (slot.Uninit at) = has_new x at
stands x t = true

-- Whether types take no more than so many words, and each may stand there.
abbrev pub fits : MethodCode → ℕ → List SlotType → Bool
fits x max ts = nat_le (words_of ts) max && list_all (stands x) ts

-- These are the types of a method's receiver and of its arguments, which fit its locals.
pub record AreFirst (x : MethodCode) (ts : List SlotType) : Type 0 where
  pub names : List Named
  pub class : Name
  pub method : linked.LinkedMethod
  pub initializer : is_initializer method ≡ x.is_initializer
  pub types : types_in names ts ≡ first_items class method
  pub few : words_of ts ≤ x.code.now.max_locals
