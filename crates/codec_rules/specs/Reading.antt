-- Reading at the front of an input: the value and what is left, or the first fault (this project's
-- own).
use Rattle.std.specs.Prelude.{◌≡◌, ◌<◌, ℕ, zero, suc, List, [], ◌∷◌, ◌++◌, length, take, Result, Ok, Err, nat_lt, ◌==◌, if◌then◌else◌}
use Rattle.std.specs.Int.{Width, byte_len, from_be_bytes}
use Rattle.codec_rules.specs.Input.{Input, IsBytes, behind}
use Rattle.codec_rules.specs.Sequence.{◌>>=◌, or_fault}

-- A reading function of values A with faults F.
abbrev pub Reader : Type 0 → Type 0 → Type 0
Reader F A = Input → Result (A × Input) F

-- So many bytes. The fault, where too few are left, is the place where they begin.
abbrev pub bytes_at : ℕ → Reader ℕ (List ℕ)
bytes_at count input =
    if nat_lt (length input.bytes) count then Err input.at
    else Ok (take count input.bytes, behind count input)

-- An unsigned number, most significant byte first. The fault, where too few bytes are left, is the
-- place where it begins.
abbrev pub number_at : Width → Reader ℕ ℕ
number_at width input =
    if nat_lt (length input.bytes) (byte_len width) then Err input.at
    else Ok (from_be_bytes width (take (byte_len width) input.bytes), behind (byte_len width) input)

-- So many values, one after the other.
unfoldable pub many_at : {F A : Type 0} → Reader F A → ℕ → Reader F (List A)
many_at read zero input = Ok ([], input)
many_at read (suc count) input = do
  first ← read input
  others ← many_at read count first.1
  Ok (first.0 ∷ others.0, others.1)

-- Values one after the other until no byte is left, in so many turns. What is left after the last
-- turn is not looked at, so there have to be turns enough.
unfoldable pub whole_at : {F A : Type 0} → Reader F A → ℕ → Input → Result (List A) F
whole_at read zero input = Ok []
whole_at read (suc turns) input = if length input.bytes == 0 then Ok [] else do
  first ← read input
  others ← whole_at read turns first.1
  Ok (first.0 ∷ others)

-- Values one after the other until no byte is left. A reader whose every value takes a byte, as
-- `Shortens` says, has turns enough in as many as there are bytes.
abbrev pub until_end : {F A : Type 0} → Reader F A → Input → Result (List A) F
until_end read input = whole_at read (length input.bytes) input

-- What was read before, in front of what is still read.
abbrev pub with_front :
    {F A : Type 0} → List A → Result (List A × Input) F → Result (List A × Input) F
with_front front read = read >>= λ x. Ok (front ++ x.0, x.1)

-- The same where nothing is left.
abbrev pub with_values : {F A : Type 0} → List A → Result (List A) F → Result (List A) F
with_values front read = read >>= λ values. Ok (front ++ values)

-- Each value that is read leaves fewer bytes.
abbrev pub Shortens : {F A : Type 0} → Reader F A → Type 0
Shortens {F} {A} read =
    (input : Input) (value : A) (rest : Input) → IsBytes input.bytes →
    read input ≡ Ok (value, rest) → (length rest.bytes < length input.bytes) × IsBytes rest.bytes

-- A part of a stated length, which a value has to fill: `cut` is the fault where fewer bytes are
-- left, and `more` that where the value ends before its part does.
unfoldable pub filling_at : {F A : Type 0} → (ℕ → F) → F → ℕ → Reader F A → Reader F A
filling_at cut more count read input = do
  part ← or_fault cut (bytes_at count input)
  value ← read (record { at = input.at; bytes = part.0 })
  if length value.1.bytes == 0 then Ok (value.0, part.1) else Err more
