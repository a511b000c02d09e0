-- What a row of the code's table means.
use Rattle.std.specs.Prelude.{◌≡◌, ℕ, false, List, [], ◌++◌, map, Option, Some, None, codes}
use Rattle.std.specs.List.{flat_map}
use Rattle.class_model.specs.declared.constant.Const.{Const}
use Rattle.class_model.specs.declared.constant.Const.TheVariants as const
use Rattle.class_model.specs.declared.instruction.Insn.{Insn}
use Rattle.class_model.specs.declared.instruction.Arg.TheVariants as arg
use Rattle.class_model.specs.declared.attribute.Code.{Code}
use Rattle.class_model.specs.declared.frame.Frame.{Frame}
use Rattle.class_model.specs.declared.frame.Shape.TheVariants as shape
use Rattle.program_rules.specs.Names.{Name}
use Rattle.class_link.specs.declared.loaded.LibBody.{LibBody}
use Rattle.class_link.specs.declared.loaded.LibBody.TheVariants as lib
use Rattle.class_link.specs.declared.loaded.LibMethod.{LibMethod}
use Rattle.class_link.specs.declared.loaded.LibField.{LibField}
use Rattle.class_link.specs.declared.loaded.LibClass.{LibClass}
use Rattle.lib_table.specs.declared.rows.ConstRow.{ConstRow}
use Rattle.lib_table.specs.declared.rows.ConstRow.TheVariants as const_row
use Rattle.lib_table.specs.declared.rows.InsnRow.{InsnRow}
use Rattle.lib_table.specs.declared.rows.InsnRow.TheVariants as insn_row
use Rattle.lib_table.specs.declared.rows.FrameRow.{FrameRow}
use Rattle.lib_table.specs.declared.rows.FrameRow.TheVariants as frame_row
use Rattle.lib_table.specs.declared.rows.CodeRow.{CodeRow}
use Rattle.lib_table.specs.declared.rows.MethodRow.{MethodRow}
use Rattle.lib_table.specs.declared.rows.MethodRow.TheVariants as row
use Rattle.lib_table.specs.declared.rows.ClassRow.{ClassRow}
use Rattle.lib_table.specs.declared.rows.ClassRow.TheVariants as class_row
use Rattle.lib_table.specs.Stated.{Row, pool_of_rows}
use Rattle.lib_table.specs.Steps.{Method, Written, code_of, written_behind}

abbrev pub const_of : ConstRow → Const
const_of (const_row.Utf8 t) = const.Utf8 t.now
const_of (const_row.Class n) = const.Class n
const_of (const_row.Text n) = const.Text n
const_of (const_row.Pair n d) = const.Pair n d
const_of (const_row.Method c p) = const.Method c p

abbrev pub insn_of : InsnRow → Insn
insn_of (insn_row.Op op) = record { op = op; wide = false; arg = arg.None }
insn_of (insn_row.Jump op to) = record { op = op; wide = false; arg = arg.To to }
insn_of (insn_row.Increment k z) = record { op = 0x84; wide = false; arg = arg.Inc k z }
insn_of (insn_row.Pool op n) = record { op = op; wide = false; arg = arg.Pool n }

abbrev pub frame_of : FrameRow → Frame
frame_of (frame_row.Same at) = record { at = at; shape = shape.Same false }
frame_of (frame_row.More at items) = record { at = at; shape = shape.Append items.now }

abbrev pub row_code : CodeRow → Code
row_code r = code_of (map insn_of r.insns.now) r.table (map frame_of r.frames.now)

-- What a row of the code's table says of a method written behind a pool.
abbrev pub row_behind : List Const → CodeRow → Written
row_behind pool r = record { pool = pool ++ map const_of r.pool.now; code = row_code r }

-- A row has what this method has behind these methods of its class.
abbrev pub IsWrittenBehind : List Row → Method → CodeRow → Type 0
IsWrittenBehind before m r =
    row_behind (pool_of_rows [] before) r ≡ written_behind (pool_of_rows [] before) m

abbrev pub method_with : ℕ → Name → Name → LibBody → LibMethod
method_with flags name desc body =
    record { name = name; desc = desc; flags = flags; body = body }

abbrev pub method_of : MethodRow → LibMethod
method_of (row.Native n name desc) = method_with 257 name.now desc.now (lib.Native n)
method_of (row.StaticNative n name desc) = method_with 265 name.now desc.now (lib.Native n)
method_of (row.Abstract name desc) = method_with 1025 name.now desc.now lib.Abstract
method_of (row.Written name desc code) =
    method_with 1 name.now desc.now (lib.Written (row_code code.now))
method_of (row.StaticWritten name desc code) =
    method_with 9 name.now desc.now (lib.Written (row_code code.now))

-- The entries of a method in the pool of its class.
abbrev pub entries_of : MethodRow → List Const
entries_of (row.Written name desc code) = map const_of code.now.pool.now
entries_of (row.StaticWritten name desc code) = map const_of code.now.pool.now
entries_of other = []

abbrev pub field_with : Name → Name → LibField
field_with name desc = record { name = name; desc = desc; flags = 2 }

abbrev pub class_with :
    ℕ → Name → Option Name → List Name → List LibField → List MethodRow → LibClass
class_with flags name parent interfaces fields rows = record {
  name = name;
  parent = parent;
  interfaces = interfaces;
  flags = flags;
  pool = flat_map entries_of rows;
  fields = fields;
  methods = map method_of rows;
}

abbrev pub class_of : ClassRow → LibClass
class_of (class_row.Class name parent is ms) =
    class_with 33 name.now (Some parent.now) (map (λ t. t.now) is.now) [] ms.now
class_of (class_row.FinalClass name parent is ms) =
    class_with 49 name.now (Some parent.now) (map (λ t. t.now) is.now) [] ms.now
class_of (class_row.AbstractClass name parent is ms) =
    class_with 1057 name.now (Some parent.now) (map (λ t. t.now) is.now) [] ms.now
class_of (class_row.Interface name is ms) =
    class_with 1537 name.now (Some (codes "java/lang/Object")) (map (λ t. t.now) is.now) []
    ms.now
class_of (class_row.Root name ms) = class_with 33 name.now None [] [] ms.now
class_of (class_row.WithFields name parent fs ms) =
    class_with 33 name.now (Some parent.now) []
    (map (λ f. field_with f.0.now f.1.now) fs.now) ms.now
