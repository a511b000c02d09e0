-- The items that a history is made of (this project's own): numbers, most significant byte first,
-- and runs of bytes. An item of which too few bytes remain is told at its first byte.
use Rattle.std.specs.Prelude.{◌<◌, ◌+◌, ◌^◌, ℕ, zero, suc, Bool, List, [], ◌∷◌, ◌++◌, length}
use Rattle.std.specs.Prelude.{Option, Some, None, Result, Ok, Err, if◌then◌else◌}
use Rattle.std.specs.Int.{w8, w16, w32, w64, to_be_bytes}
use Rattle.std.specs.List.{flat_map}
use Rattle.class_model.specs.Text.{IsUnits, text, units_of}
use Rattle.codec_rules.specs.Input.{Input}
use Rattle.codec_rules.specs.Meets.{Reads}
use Rattle.codec_rules.specs.Reading.{Reader, bytes_at, number_at}
use Rattle.codec_rules.specs.Sequence.{◌>>=◌, or_fault}
use Rattle.program_rules.specs.Names.{Name}
use Rattle.history_rules.specs.declared.fault.HistoryFault.{HistoryFault}
use Rattle.history_rules.specs.declared.fault.HistoryFault.TheVariants.{HistoryBad, Memory}

-- A reading function of a part of a history.
abbrev pub FileReader : Type 0 → Type 0
FileReader A = Reader HistoryFault A

-- A call reads a part of a history as the definition does, or runs out of memory.
abbrev pub ReadsFile :
    {A : Type 0} → FileReader A → Input → Input → Result A HistoryFault → Type 0
ReadsFile read old new result = Reads Memory read old new result

abbrev pub u1_at : FileReader ℕ
u1_at input = or_fault HistoryBad (number_at w8 input)

abbrev pub u2_at : FileReader ℕ
u2_at input = or_fault HistoryBad (number_at w16 input)

abbrev pub u4_at : FileReader ℕ
u4_at input = or_fault HistoryBad (number_at w32 input)

abbrev pub u8_at : FileReader ℕ
u8_at input = or_fault HistoryBad (number_at w64 input)

-- So many bytes.
abbrev pub take_at : ℕ → FileReader (List ℕ)
take_at count input = or_fault HistoryBad (bytes_at count input)

-- An item that has to pass a test; else it is told at its first byte.
abbrev pub where_at : {A : Type 0} → FileReader A → (A → Bool) → FileReader A
where_at read test input = read input >>= λ x. if test x.0 then Ok x else Err (HistoryBad input.at)

-- ---- texts

-- The name that the bytes of a text spell, or the place where they begin.
abbrev pub name_or : ℕ → Option Name → Result Name HistoryFault
name_or at None = Err (HistoryBad at)
name_or at (Some name) = Ok name

-- The number of bytes, and a name in modified UTF-8.
unfoldable pub text_at : FileReader Name
text_at input = do
  len ← u2_at input
  bytes ← take_at len.0 len.1
  name ← name_or len.1.at (units_of bytes.0)
  Ok (name, bytes.1)

-- A name that has to pass a test; else it is told at the first byte behind the text's length.
abbrev pub text_where : (Name → Bool) → FileReader Name
text_where test input =
    text_at input >>= λ x. if test x.0 then Ok x else Err (HistoryBad (input.at + 2))

abbrev pub text_bytes : Name → List ℕ
text_bytes name = to_be_bytes w16 (length (text name)) ++ text name

abbrev pub IsText : Name → Type 0
IsText name = IsUnits name × (length (text name) < 2 ^ 16)

-- ---- lists

-- Values one after the other, where those before tell what has to be known to read the next one.
unfoldable pub many_by :
    {F S A : Type 0} → (S → Reader F A) → (S → A → S) → S → ℕ → Reader F (List A)
many_by read next known zero input = Ok ([], input)
many_by read next known (suc count) input = do
  first ← read known input
  others ← many_by read next (next known first.0) count first.1
  Ok (first.0 ∷ others.0, others.1)

-- What each of them has to be.
abbrev pub AllBy : {S A : Type 0} → (S → A → Type 0) → (S → A → S) → S → List A → Type 0
AllBy P next known [] = Unit {0}
AllBy P next known (value ∷ values) = P known value × AllBy P next (next known value) values

-- What is known behind them.
abbrev pub known_by : {S A : Type 0} → (S → A → S) → S → List A → S
known_by next known [] = known
known_by next known (value ∷ values) = known_by next (next known value) values

-- A count, and so many values.
abbrev pub counted_by :
    {S A : Type 0} → (S → FileReader A) → (S → A → S) → S → FileReader (List A)
counted_by read next known input = u4_at input >>= λ n. many_by read next known n.0 n.1

abbrev pub counted_bytes : {A : Type 0} → (A → List ℕ) → List A → List ℕ
counted_bytes bytes values = to_be_bytes w32 (length values) ++ flat_map bytes values
