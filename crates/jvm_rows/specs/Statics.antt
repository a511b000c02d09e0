-- The rows of static fields, once the field was found and its class is initialised.
use Rattle.std.specs.Prelude.{◌≡◌, ℕ, List}
use Rattle.program_rules.specs.Kinds.{Kind}
use Rattle.program_rules.specs.Resolution.{FieldAt}
use Rattle.program_rules.specs.Programs.{Family}
use Rattle.machine_rules.specs.Fields.{reads_static, writes_static}
use Rattle.class_link.specs.Info.{Info}
use Rattle.class_table.specs.Table.{name_at}
use Rattle.jvm_rows.specs.Effects.{RowOf}

-- The rows of `getstatic` and of `putstatic`.
abbrev pub reading_row : FieldAt → Family → RowOf
reading_row x c = λ q room w f fs. reads_static f fs room x w c

abbrev pub writing_row : FieldAt → Family → RowOf
writing_row x c = λ q room w f fs. writes_static f fs x w c

-- A field is this one of a class by its number.
pub record IsStaticAt (p : List Info) (id at : ℕ) (k : Kind) (x : FieldAt) : Type 0 where
  pub class : x.class ≡ name_at p id
  pub place : x.place ≡ at
  pub kind : x.kind ≡ k
