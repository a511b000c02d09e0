-- Places in the code of a method, which are numbers of instructions in what is read (this project's
-- own). `starts` has the place of each instruction, and a place takes two bytes.
use Rattle.std.specs.Prelude.{ℕ, ◌+◌, ◌≤◌, ◌<◌, ◌^◌, nat_lt, ◌==◌, List, [], ◌∷◌, ◌++◌, length, slice_index, Option, Some, None, option_and_then, Ok, if◌then◌else◌}
use Rattle.std.specs.Int.{w16}
use Rattle.class_model.specs.declared.fault.ClassFault.TheVariants as fault
use Rattle.codec_rules.specs.Sequence.{◌>>=◌}
use Rattle.mt_insn.specs.Targets.{number_of, narrowed}
use Rattle.mt_attrs.specs.Item.{PartReader, number, found_or}

-- An instruction by its place. One that is none is told at `first`.
abbrev pub place_at : ℕ → List ℕ → PartReader ℕ
place_at first starts input =
    number w16 input >>= λ place.
    found_or (fault.BadTarget first) (number_of starts place.0) >>= λ n. Ok (n, place.1)

-- An instruction by how far its place is behind another one.
abbrev pub delta_at : ℕ → List ℕ → ℕ → PartReader ℕ
delta_at first starts next input =
    number w16 input >>= λ delta.
    found_or (fault.BadTarget first) (number_of starts (next + delta.0)) >>= λ n. Ok (n, delta.1)

abbrev pub above : ℕ → ℕ → Option ℕ
above start n = if nat_lt start n then Some n else None

-- The end of what begins at an instruction: a later instruction, or behind the last one, at the
-- code's end.
abbrev pub end_of : List ℕ → ℕ → ℕ → ℕ → Option ℕ
end_of starts end start place =
    option_and_then (above start)
    (if place == end then narrowed (length starts) else number_of starts place)

abbrev pub end_at : ℕ → List ℕ → ℕ → ℕ → PartReader ℕ
end_at first starts end start input =
    number w16 input >>= λ place.
    found_or (fault.BadTarget first) (end_of starts end start place.0) >>= λ n. Ok (n, place.1)

-- ---- bytes

abbrev pub start_of : List ℕ → ℕ → ℕ
start_of starts n = slice_index starts n

-- where an instruction begins, or for the number behind the last one where the code ends
abbrev pub bound_of : List ℕ → ℕ → ℕ → ℕ
bound_of starts end n = slice_index (starts ++ end ∷ []) n

-- The number of an instruction, whose place has two bytes.
abbrev pub IsPlace : List ℕ → ℕ → Type 0
IsPlace starts n = (n < length starts) × (n < 2 ^ 32) × (start_of starts n < 2 ^ 16)

-- The number of an instruction that is so far behind another one.
abbrev pub IsBehind : List ℕ → ℕ → ℕ → ℕ → Type 0
IsBehind starts next room n =
    (n < length starts) × (n < 2 ^ 32) × (next ≤ start_of starts n)
    × (start_of starts n < next + room)

-- The number of an instruction behind this one, or the number behind the last one.
abbrev pub IsEnd : List ℕ → ℕ → ℕ → ℕ → Type 0
IsEnd starts end start n =
    (n ≤ length starts) × (n < 2 ^ 32) × (bound_of starts end n < 2 ^ 16) × (start < n)
