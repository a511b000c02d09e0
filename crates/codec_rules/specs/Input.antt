-- What is left of an input, and its place (this project's own).
use Rattle.std.specs.Prelude.{ℕ, ◌+◌, ◌<◌, ◌^◌, List, length, drop, slice_index}

-- The bytes that are left, and the place of the first of them: a byte offset from the front of a
-- file, where it is 0.
pub record Input : Type 0 where
  pub at : ℕ
  pub bytes : List ℕ

-- A list of numbers is one of bytes.
abbrev pub IsBytes : List ℕ → Type 0
IsBytes bytes = (i : ℕ) → slice_index bytes i < 256

-- What a cursor can show: bytes, whose places are 64 bits wide.
pub record IsInput (input : Input) : Type 0 where
  pub fits : input.at + length input.bytes < 2 ^ 64
  pub bytes : IsBytes input.bytes

-- what is left behind so many bytes
abbrev pub behind : ℕ → Input → Input
behind count input = record { at = input.at + count; bytes = drop count input.bytes }
