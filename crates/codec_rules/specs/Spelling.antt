-- A spelling at a place, and what it is for a reading function to undo it (this project's own).
use Rattle.std.specs.Prelude.{◌≡◌, ℕ, ◌+◌, ◌<◌, List, [], ◌∷◌, ◌++◌, length, Ok}
use Rattle.std.specs.List.{AllByRecursion}
use Rattle.codec_rules.specs.Input.{Input, IsBytes}
use Rattle.codec_rules.specs.Reading.{Reader}

-- The bytes of a value that begins at a place. Most spellings are the same everywhere; the padding
-- of a switch is not.
abbrev pub Speller : Type 0 → Type 0
Speller A = ℕ → A → List ℕ

abbrev pub input_at : ℕ → List ℕ → Input
input_at at bytes = record { at = at; bytes = bytes }

-- These bytes were taken from the front of an input, and this is left of it.
pub record Takes (input : Input) (taken : List ℕ) (rest : Input) : Type 0 where
  pub parts : input.bytes ≡ taken ++ rest.bytes
  pub place : rest.at ≡ input.at + length taken
  pub rest_fits : IsBytes rest.bytes

-- Reading and spelling undo each other, for the values that are a P: what is read is a P and is
-- spelled by the bytes that were taken, and each P is read from its spelling, whatever comes behind
-- it.
pub record IsCodecAt {F A : Type 0} (read : Reader F A) (spell : Speller A) (P : A → Type 0) :
    Type 0 where
  pub takes :
      (input : Input) (value : A) (rest : Input) → IsBytes input.bytes →
      read input ≡ Ok (value, rest) → Takes input (spell input.at value) rest × P value
  pub again :
      (value : A) (at : ℕ) (rest : List ℕ) → P value →
      read (input_at at (spell at value ++ rest)) ≡
      Ok (value, input_at (at + length (spell at value)) rest)

-- Values one after the other, each spelled at its own place.
abbrev pub spelled_from : {A : Type 0} → Speller A → Speller (List A)
spelled_from spell at [] = []
spelled_from spell at (value ∷ values) =
    spell at value ++ spelled_from spell (at + length (spell at value)) values

-- No spelling is empty.
abbrev pub IsFilled : {A : Type 0} → Speller A → (A → Type 0) → Type 0
IsFilled {A} spell P = (at : ℕ) (value : A) → P value → 0 < length (spell at value)

-- The values are spelled by all of an input's bytes.
abbrev pub IsWhole : {A : Type 0} → Speller A → (A → Type 0) → Input → List A → Type 0
IsWhole spell P input values =
    (input.bytes ≡ spelled_from spell input.at values) × AllByRecursion P values
