-- The class that a mutant's edit makes (this project's own): one instruction of one method is
-- replaced by others.
use Rattle.std.specs.Prelude.{ℕ, zero, suc, ◌+◌, ◌-◌, ◌^◌, nat_lt, ℤ, pos, negsuc, Bool, true, false, not, ◌&&◌, List, [], ◌∷◌, ◌++◌, length, map, take, drop, slice_get, Option, Some, None, option_and_then, Result, Ok, Err, if◌then◌else◌}
use Rattle.std.specs.Int.RustNames.{int_le}
use Rattle.class_model.specs.declared.attribute.Attr.{Attr}
use Rattle.class_model.specs.declared.attribute.Code.{Code, roll-Code, out-Code}
use Rattle.class_model.specs.declared.attribute.Body.{Body}
use Rattle.class_model.specs.declared.attribute.Body.TheVariants as body
use Rattle.class_model.specs.declared.class.Class.{Class}
use Rattle.class_model.specs.declared.class.Member.{Member}
use Rattle.class_model.specs.declared.constant.Const.{Const}
use Rattle.class_model.specs.declared.edit.Edit.{Edit}
use Rattle.class_model.specs.declared.edit.NewInsn.{NewInsn}
use Rattle.class_model.specs.declared.edit.NewInsn.TheVariants.{Plain, Inc, EmptyText, Call}
use Rattle.class_model.specs.declared.fault.LayoutFault.{LayoutFault}
use Rattle.class_model.specs.declared.instruction.Arg.TheVariants as arg
use Rattle.class_model.specs.declared.instruction.Insn.{Insn}
use Rattle.mt_insn.specs.Code.{places, is_short}
use Rattle.mt_insn.specs.Code as insn_code
use Rattle.mt_attrs.specs.CodeParts.{attr_of, name_of, body_of}
use Rattle.mutator_ops.specs.Mutants.{code_in, code_of}
use Rattle.class_writer.specs.Writing.{layout}
use Rattle.mutant_apply.specs.Moved.{moved_place, moved_insn, moved_row, moved_tables}
use Rattle.mutant_apply.specs.Entries.{◌>>=◌, empty_string, method_of}
use Rattle.mutant_apply.specs.declared.parts.Parts.{Parts}

-- The place map of an edit.
abbrev pub mover : Edit → ℕ → ℕ
mover edit = moved_place edit.at (length edit.with - 1)

-- ---- new instructions (JVMS 6.5)

-- iinc without wide: the local is at most 255, and the constant takes one byte.
abbrev pub is_narrow : ℕ → ℤ → Bool
is_narrow local by = nat_lt local (2 ^ 8) && (int_le (negsuc 127) by && int_le by (pos 127))

abbrev pub increment : ℕ → ℤ → Insn
increment local by = record { op = 0x84; wide = not (is_narrow local by); arg = arg.Inc local by }

-- ldc_w and invokestatic, of an entry of the pool
abbrev pub of_entry : ℕ → ℕ × List Const → Option (Insn × List Const)
of_entry op entry = Some (record { op = op; wide = false; arg = arg.Pool entry.0 }, entry.1)

-- The instruction, with the entries that are added to the pool then. A plain one leads where it
-- led, moved. The constant of iinc has two bytes at most.
abbrev pub new_insn : List Const → (ℕ → ℕ) → NewInsn → List Const → Option (Insn × List Const)
new_insn pool mv (Plain insn) added = Some (moved_insn mv insn, added)
new_insn pool mv (Inc local by) added =
    if is_short by then Some (increment local by, added) else None
new_insn pool mv EmptyText added = empty_string pool added >>= of_entry 0x13
new_insn pool mv (Call class name desc) added =
    method_of pool class name desc added >>= of_entry 0xb8

-- One after the other: an entry that one adds serves the next.
abbrev pub new_insns :
    List Const → (ℕ → ℕ) → List NewInsn → List Const → Option (List Insn × List Const)
new_insns pool mv [] added = Some ([], added)
new_insns pool mv (new ∷ news) added =
    new_insn pool mv new added >>= λ first.
    new_insns pool mv news first.1 >>= λ others.
    Some (first.0 ∷ others.0, others.1)

-- ---- the code

-- The instructions with the new ones in the place of one.
abbrev pub edited_insns : Edit → List Insn → List Insn → List Insn
edited_insns edit new old =
    map (moved_insn (mover edit)) (take edit.at old) ++ new ++
    map (moved_insn (mover edit)) (drop (edit.at + 1) old)

-- The locals stay; the stack may grow higher by what the edit says.
abbrev pub code_with : Edit → Code → List Insn → Code
code_with edit code insns = roll-Code (record (out-Code code) {
  max_stack = (out-Code code).max_stack + edit.more_stack;
  insns = insns;
  rows = map (moved_row (mover edit)) (out-Code code).rows;
  attrs = moved_tables (mover edit) (places insns) (out-Code code).attrs;
})

-- The bounds of a code (JVMS 4.7.3): the height of the stack has two bytes, the code 65,535 bytes
-- at most, and a jump's offset two bytes.
abbrev pub is_laid_out : Result (List ℕ) LayoutFault → Bool
is_laid_out (Ok bytes) = true
is_laid_out (Err fault) = false

abbrev pub has_code_room : Edit → Code → List Insn → Bool
has_code_room edit code insns =
    nat_lt ((out-Code code).max_stack + edit.more_stack) (2 ^ 16)
    && is_laid_out (insn_code.layout insns)

abbrev pub parts_of : Edit → Code → List Insn × List Const → Option Parts
parts_of edit code new =
    if has_code_room edit code (edited_insns edit new.0 (out-Code code).insns)
    then Some
    (record {
      code = code_with edit code (edited_insns edit new.0 (out-Code code).insns);
      added = new.1;
    })
    else None

-- What an edit makes of a code, and what it adds to the pool.
abbrev pub edited_code : List Const → Edit → Code → Option Parts
edited_code pool edit code = new_insns pool (mover edit) edit.with [] >>= parts_of edit code

-- ---- the class

-- The code that an edit names: that of the method of its number.
abbrev pub named_code : Edit → Class → Option Code
named_code edit class =
    option_and_then (λ member. code_of member.attrs) (slice_get class.methods edit.method)

-- The parts of a class that an edit makes anew.
abbrev pub edited_parts : Edit → Class → Option Parts
edited_parts edit class = named_code edit class >>= edited_code class.pool edit

-- The attributes of a method with this code in the place of the first one.
abbrev pub with_code : Code → List Attr → List Attr
with_code new [] = []
with_code new (attr ∷ attrs) =
    elim (code_in (body_of attr)) [
      | Some code ↦ attr_of (name_of attr) (body.Code new) ∷ attrs
      | None ↦ attr ∷ with_code new attrs
    ]

abbrev pub member_with : Code → Member → Member
member_with new member = record member { attrs = with_code new member.attrs }

-- A list with the item at a place changed, the first place being 0; a list that ends before the
-- place is as it was.
abbrev pub changed_at : {X : Type 0} → ℕ → (X → X) → List X → List X
changed_at at change [] = []
changed_at zero change (x ∷ xs) = change x ∷ xs
changed_at (suc at) change (x ∷ xs) = x ∷ changed_at at change xs

-- The class with these parts. All else of it stays.
abbrev pub class_with : Edit → Class → Parts → Class
class_with edit class parts = record class {
  pool = class.pool ++ parts.added;
  methods = changed_at edit.method (member_with parts.code) class.methods;
}

-- a class with its bytes, where it has any
abbrev pub with_layout : Class → Result (List ℕ) LayoutFault → Option (Class × List ℕ)
with_layout class (Ok bytes) = Some (class, bytes)
with_layout class (Err fault) = None

-- The class that an edit makes, and its bytes; none exactly where a bound of the format is passed:
-- the pool's count, the constant of iinc, the stack's height, the code's length, a jump's offset,
-- or one that the class passed before.
abbrev pub applied : Class → Edit → Option (Class × List ℕ)
applied class edit =
    edited_parts edit class >>= λ parts.
    with_layout (class_with edit class parts) (layout (class_with edit class parts))
