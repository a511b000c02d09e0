-- The rows of the instructions that name a class (JVMS 6.5), from its resolution on.
use Rattle.std.specs.Prelude.{ℕ, ◌≤◌, List, drop, length, Some, ⊤}
use Rattle.program_rules.specs.Kinds.{OfReference}
use Rattle.program_rules.specs.Names.{Name}
use Rattle.machine_rules.specs.Arrays.{makes_reference_array}
use Rattle.machine_rules.specs.TypeRows.{casts, casts_to, loads_class, tests, tests_for}
use Rattle.class_link.specs.Info.{Info}
use Rattle.class_table.specs.Table.{look}
use Rattle.jvm_frames.specs.Frames.{NumberedFrames, stack_of}
use Rattle.jvm_rows.specs.Effects.{RowOf}
use Rattle.jvm_rows.specs.Making.{array_row, class_row}
use Rattle.jvm_type_rows.specs.Instances.{cast_found_row, test_found_row}
use Rattle.jvm_members.specs.declared.classes.Purpose.{Purpose}
use Rattle.jvm_members.specs.declared.classes.Purpose.TheVariants as how

-- `anewarray`.
abbrev pub array_whole : List Info → Name → RowOf
array_whole p n = λ q room w f fs. makes_reference_array (look p) q w f fs room n

-- `ldc` of a class or an array type.
abbrev pub class_whole : List Info → Name → RowOf
class_whole p n = λ q room w f fs. loads_class (look p) q w f fs room n

-- `checkcast`, and the same of an object.
abbrev pub cast_whole : List Info → Name → RowOf
cast_whole p n = λ q room w f fs. casts (look p) q w f fs n

abbrev pub cast_object : List Info → Name → ℕ → RowOf
cast_object p n x = λ q room w f fs. casts_to (look p) q w f fs n (Some x)

-- `instanceof`, and the same of an object.
abbrev pub test_whole : List Info → Name → RowOf
test_whole p n = λ q room w f fs. tests (look p) q w f fs room n

abbrev pub test_object : List Info → Name → ℕ → RowOf
test_object p n x = λ q room w f fs. tests_for (look p) q w f fs room n (Some x) (drop 1 f.stack)

-- ---- by what is done with the class

-- The row of an instruction, but for null.
abbrev pub class_row_of : List Info → Name → Purpose → RowOf
class_row_of p n how.Load = class_whole p n
class_row_of p n how.MakeArray = array_whole p n
class_row_of p n (how.Cast x) = cast_object p n x
class_row_of p n (how.Test x) = test_object p n x

-- What is left of it once the class was resolved.
abbrev pub resolved_row : List Info → Name → Purpose → RowOf
resolved_row p n how.Load = class_row n
resolved_row p n how.MakeArray = array_row (OfReference n)
resolved_row p n (how.Cast x) = cast_found_row (look p) n x
resolved_row p n (how.Test x) = test_found_row (look p) n x

-- What is tested stands on the stack.
abbrev pub HasTested : Purpose → NumberedFrames → Type 0
HasTested how.Load s = ⊤
HasTested how.MakeArray s = ⊤
HasTested (how.Cast x) s = ⊤
HasTested (how.Test x) s = 1 ≤ length (stack_of s.frame)
