-- `multianewarray` (JVMS 6.5), once its class was resolved.
use Rattle.std.specs.Prelude.{◌≡◌, ◌&&◌, nat_lt, ℕ, ℤ, List, [], drop, map, unsigned_abs, if◌then◌else◌}
use Rattle.std.specs.Int.{is_negative}
use Rattle.std.specs.List.{list_any}
use Rattle.program_rules.specs.declared.value.Value.{Value}
use Rattle.program_rules.specs.declared.fault.Fault.TheVariants.{NegativeArraySizeException}
use Rattle.program_rules.specs.Names.{Name, class_behind}
use Rattle.machine_rules.specs.Effects.{Effect, NoRow}
use Rattle.machine_rules.specs.Arrays.{on_counts, has_dimensions, makes_arrays_in}
use Rattle.jvm_rows.specs.Effects.{RowOf}
use Rattle.jvm_rows.specs.Rows.{throwing}
use Rattle.jvm_rows.specs.Making.{made_row}
use Rattle.jvm_array_rows.specs.Built.{making}

-- So many counts stand on a stack, the outer one lowest.
abbrev pub TakesCounts : ℕ → List Value → List ℤ → Type 0
TakesCounts count stack zs =
    (go : List ℤ → List Value → Effect) →
    on_counts count [] stack go ≡ go zs (drop count stack)

-- They don't.
abbrev pub NoCounts : ℕ → List Value → Type 0
NoCounts count stack =
    (go : List ℤ → List Value → Effect) → on_counts count [] stack go ≡ NoRow

-- The row once the counts were read, none of which is below 0.
abbrev pub made_arrays_row : Name → ℕ → List ℕ → RowOf
made_arrays_row n count ns = made_row (making n ns) count

-- The row once the counts were read.
abbrev pub counted_row : Name → ℕ → List ℤ → RowOf
counted_row n count zs = λ q room w f fs.
    if list_any is_negative zs then throwing NegativeArraySizeException q room w f fs
    else made_arrays_row n count (map unsigned_abs zs) q room w f fs

-- The row where the class has so many dimensions.
abbrev pub dimensioned_row : Name → ℕ → RowOf
dimensioned_row n count = λ q room w f fs. makes_arrays_in q f fs room n count w

-- The row once its class was resolved.
abbrev pub arrays_row : Name → ℕ → RowOf
arrays_row n count = λ q room w f fs.
    if nat_lt 0 count && has_dimensions (class_behind n) n count
    then dimensioned_row n count q room w f fs else NoRow
