-- Places that ascend.
use Rattle.std.specs.Prelude.{ℕ, ◌^◌, ◌<◌, List, length, slice_index}

-- Each place is below the later ones.
abbrev pub Ascends : List ℕ → Type 0
Ascends places = (i j : ℕ) → i < j → j < length places → slice_index places i < slice_index places j

-- Each place is one of a code that has at most 65,535 bytes.
abbrev pub AreNear : List ℕ → Type 0
AreNear places = (i : ℕ) → slice_index places i < 2 ^ 16

-- Each number is that of one of so many.
abbrev pub AreBelow : ℕ → List ℕ → Type 0
AreBelow count numbers = (i : ℕ) → i < length numbers → slice_index numbers i < count
