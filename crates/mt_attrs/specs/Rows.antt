-- The exception table (JVMS 4.7.3). A row whose start or handler is no instruction, or whose end is
-- neither a later instruction nor the code's end, is told at its first byte.
use Rattle.std.specs.Prelude.{ℕ, ◌<◌, ◌^◌, List, ◌++◌, length, Ok}
use Rattle.std.specs.List.{AllByRecursion}
use Rattle.class_model.specs.declared.attribute.Row.{Row}
use Rattle.class_model.specs.declared.constant.Const.{Const}
use Rattle.codec_rules.specs.Sequence.{◌>>=◌}
use Rattle.mt_attrs.specs.Item.{PartReader, counted_at, u2}
use Rattle.mt_attrs.specs.Named.{is_caught, caught_at, IsIndex}
use Rattle.mt_attrs.specs.Places.{place_at, end_at, start_of, bound_of, IsPlace, IsEnd}

unfoldable pub row_at : List Const → List ℕ → ℕ → PartReader Row
row_at pool starts end input = do
  start ← place_at input.at starts input
  last ← end_at input.at starts end start.0 start.1
  handler ← place_at input.at starts last.1
  catch ← caught_at pool handler.1
  Ok (record { start = start.0; end = last.0; handler = handler.0; catch = catch.0 }, catch.1)

abbrev pub rows_at : List Const → List ℕ → ℕ → PartReader (List Row)
rows_at pool starts end input = counted_at (row_at pool starts end) input

abbrev pub row_bytes : List ℕ → ℕ → Row → List ℕ
row_bytes starts end row =
    u2 (start_of starts row.start) ++
    (u2 (bound_of starts end row.end) ++ (u2 (start_of starts row.handler) ++ u2 row.catch))

pub record IsRow (pool : List Const) (starts : List ℕ) (end : ℕ) (row : Row) : Type 0 where
  pub start : IsPlace starts row.start
  pub last : IsEnd starts end row.start row.end
  pub handler : IsPlace starts row.handler
  pub catch : IsIndex (is_caught pool) row.catch

abbrev pub AreRows : List Const → List ℕ → ℕ → List Row → Type 0
AreRows pool starts end rows = (length rows < 2 ^ 16) × AllByRecursion (IsRow pool starts end) rows
