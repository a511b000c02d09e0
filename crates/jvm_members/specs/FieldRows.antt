-- The rows of fields and of new objects (JVMS 6.5), from the index in the constant pool on, and
-- what is left of them once what they name was resolved.
use Rattle.std.specs.Prelude.{if◌then◌else◌, List, ◌∷◌}
use Rattle.program_rules.specs.Instructions.{FieldRef}
use Rattle.program_rules.specs.Names.{Name, is_array_name}
use Rattle.program_rules.specs.Programs.{Family}
use Rattle.program_rules.specs.Resolution.{FieldAt}
use Rattle.machine_rules.specs.Effects.{NoRow}
use Rattle.machine_rules.specs.Fields.{gets_field, puts_field, gets_static, puts_static, instance_at, static_at, reads_field, writes_field}
use Rattle.machine_rules.specs.Initialisation.{when_ready}
use Rattle.machine_rules.specs.TypeRows.{makes_instance, makes_object}
use Rattle.class_link.specs.Info.{Info}
use Rattle.class_table.specs.Table.{look}
use Rattle.jvm_rows.specs.Effects.{RowOf}
use Rattle.jvm_rows.specs.Rows.{getting, storing}
use Rattle.jvm_rows.specs.Statics.{reading_row, writing_row}
use Rattle.jvm_members.specs.declared.access.Access.{Access}
use Rattle.jvm_members.specs.declared.access.Access.TheVariants as access

-- ---- fields of objects

-- `getfield`, and what is left of it once its field was found.
abbrev pub get_row : List Info → FieldRef → RowOf
get_row p r = λ q room w f fs. gets_field (look p) q w f fs room r

abbrev pub get_found : FieldAt → RowOf
get_found x = λ q room w f fs. instance_at q w f fs (reads_field q w f fs room) x

-- `putfield`.
abbrev pub put_row : List Info → FieldRef → RowOf
put_row p r = λ q room w f fs. puts_field (look p) q w f fs r

abbrev pub put_found : FieldAt → RowOf
put_found x = λ q room w f fs. instance_at q w f fs (writes_field q w f fs) x

-- The same by the instruction; and what is left of the rows once a slot was found.
abbrev pub instance_row : List Info → Access → FieldRef → RowOf
instance_row p access.Get r = get_row p r
instance_row p access.Put r = put_row p r

abbrev pub instance_found : Access → FieldAt → RowOf
instance_found access.Get x = get_found x
instance_found access.Put x = put_found x

abbrev pub slot_row : Access → FieldAt → RowOf
slot_row access.Get x = getting x
slot_row access.Put x = storing x

-- ---- static fields

-- `getstatic` and `putstatic`.
abbrev pub get_static_row : List Info → FieldRef → RowOf
get_static_row p r = λ q room w f fs. gets_static (look p) q w f fs room r

abbrev pub put_static_row : List Info → FieldRef → RowOf
put_static_row p r = λ q room w f fs. puts_static (look p) q w f fs r

-- What is left of it once the class of its field is ready.
abbrev pub accessing : Access → FieldAt → Family → RowOf
accessing access.Get = reading_row
accessing access.Put = writing_row

-- The row by the instruction, and what is left of it once its field was found.
abbrev pub static_row : List Info → Access → FieldRef → RowOf
static_row p access.Get r = get_static_row p r
static_row p access.Put r = put_static_row p r

abbrev pub static_found : List Info → Access → FieldAt → RowOf
static_found p k x = λ q room w f fs.
    static_at (look p) q w f fs (λ y u c. accessing k y c q room u f fs) x

-- ---- once a class is ready

-- A row that uses a class, by what it does once that is ready.
abbrev pub readying : List Info → Name → (Family → RowOf) → RowOf
readying p n uses = λ q room w f fs.
    when_ready (look p) q w (f ∷ fs) n (λ u c. uses c q room u f fs)

-- ---- new objects

-- `new`, and what is left of it once its class was found.
abbrev pub new_row : List Info → Name → RowOf
new_row p n = λ q room w f fs. makes_object (look p) q w f fs room n

abbrev pub new_found : List Info → Name → RowOf
new_found p n = λ q room w f fs.
    if is_array_name n then NoRow
    else when_ready (look p) q w (f ∷ fs) n (makes_instance q f fs room n)
