-- LineNumberTable (JVMS 4.7.12): where each line begins, and the line. A row whose start is no
-- instruction is told at its first byte.
use Rattle.std.specs.Prelude.{ℕ, ◌<◌, ◌^◌, List, ◌++◌, length, Ok}
use Rattle.std.specs.Int.{w16}
use Rattle.std.specs.List.{AllByRecursion}
use Rattle.codec_rules.specs.Sequence.{◌>>=◌}
use Rattle.mt_attrs.specs.Item.{PartReader, number, counted_at, counted, u2}
use Rattle.mt_attrs.specs.Places.{place_at, start_of, IsPlace}

unfoldable pub line_at : List ℕ → PartReader (ℕ × ℕ)
line_at starts input = do
  start ← place_at input.at starts input
  line ← number w16 start.1
  Ok ((start.0, line.0), line.1)

abbrev pub lines_at : List ℕ → PartReader (List (ℕ × ℕ))
lines_at starts input = counted_at (line_at starts) input

abbrev pub line_bytes : List ℕ → ℕ × ℕ → List ℕ
line_bytes starts line = u2 (start_of starts line.0) ++ u2 line.1

abbrev pub lines_bytes : List ℕ → List (ℕ × ℕ) → List ℕ
lines_bytes starts lines = counted (line_bytes starts) lines

abbrev pub IsLine : List ℕ → ℕ × ℕ → Type 0
IsLine starts line = IsPlace starts line.0 × (line.1 < 2 ^ 16)

abbrev pub AreLines : List ℕ → List (ℕ × ℕ) → Type 0
AreLines starts lines = (length lines < 2 ^ 16) × AllByRecursion (IsLine starts) lines
