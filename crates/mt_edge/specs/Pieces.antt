-- How the bytes of a sink grow. This project's own.
use Rattle.std.specs.Prelude.{◌≡◌, ℕ, List, ◌++◌, Option, option_map}
use mathlib.Core.List.{IsPrefix}

-- by the whole piece; a sink that doesn't tell its bytes still doesn't
abbrev pub Grows : Option (List ℕ) → Option (List ℕ) → List ℕ → Type 0
Grows before now piece = now ≡ option_map (λ bytes. bytes ++ piece) before

-- by a beginning of the piece
abbrev pub GrowsBy : Option (List ℕ) → Option (List ℕ) → List ℕ → Type 0
GrowsBy before now piece = (part : List ℕ) × IsPrefix part piece × Grows before now part
