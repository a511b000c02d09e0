-- Items of an attribute (JVMS 4.7), and the content of a stated length that they stand in (this
-- project's own).
use Rattle.std.specs.Prelude.{◌≡◌, ℕ, zero, suc, ◌+◌, Bool, List, [], ◌∷◌, ◌++◌, Option, Result, Ok, Err, ok_or, nat_le, nat_lt, ◌==◌, ◌&&◌, length, take, if◌then◌else◌}
use Rattle.std.specs.Int.{Width, byte_len, w8, w16, w32, to_be_bytes}
use Rattle.std.specs.List.{flat_map}
use Rattle.class_model.specs.declared.fault.ClassFault.{ClassFault}
use Rattle.class_model.specs.declared.fault.ClassFault.TheVariants as fault
use Rattle.codec_rules.specs.Input.{Input, behind}
use Rattle.codec_rules.specs.Meets.{Reads}
use Rattle.codec_rules.specs.Reading.{Reader, bytes_at, number_at, many_at}
use Rattle.codec_rules.specs.Sequence.{◌>>=◌, or_fault}
use Rattle.mt_attrs.specs.declared.fault.ItemFault.{ItemFault}
use Rattle.mt_attrs.specs.declared.fault.ItemFault.TheVariants as item_fault

-- A reading function of a part of an attribute. Its input ends where the innermost attribute around
-- it does, or where the file does.
abbrev pub PartReader : Type 0 → Type 0
PartReader A = Reader ItemFault A

abbrev pub want_of_memory : ItemFault
want_of_memory = item_fault.Bad fault.Memory

-- A call reads a part of an attribute as the definition does, or runs out of memory.
abbrev pub ReadsPart : {A : Type 0} → PartReader A → Input → Input → Result A ItemFault → Type 0
ReadsPart read old new result = Reads want_of_memory read old new result

-- The same of a call that gives its value seen by `view`.
abbrev pub ReadsBy :
    {X Y : Type 0} → (X → Y) → PartReader Y → Input → Input → Result X ItemFault → Type 0
ReadsBy view read old new (Ok value) = read old ≡ Ok (view value, new)
ReadsBy view read old new (Err e) = read old ≡ Err e

-- an unsigned number
abbrev pub number : Width → PartReader ℕ
number width input = or_fault (λ at. item_fault.Short at (byte_len width)) (number_at width input)

-- so many bytes, which are one item
abbrev pub some_bytes : ℕ → PartReader (List ℕ)
some_bytes count input = or_fault (λ at. item_fault.Short at count) (bytes_at count input)

-- A number that has to pass a test. Else there is a fault that is told where the number stands and
-- what it is.
abbrev pub number_where : Width → (ℕ → Bool) → (ℕ → ℕ → ClassFault) → PartReader ℕ
number_where width test refusal input =
    number width input >>= λ n.
    if test n.0 then Ok n else Err (item_fault.Bad (refusal input.at n.0))

-- what was found, or a fault
abbrev pub found_or : {A : Type 0} → ClassFault → Option A → Result A ItemFault
found_or e found = ok_or found (item_fault.Bad e)

-- a count, and so many values
abbrev pub counted_at : {A : Type 0} → PartReader A → PartReader (List A)
counted_at read input = number w16 input >>= λ count. many_at read count.0 count.1

-- Values one after the other, where each tells what has to be known to read the next one.
unfoldable pub many_by :
    {F S A : Type 0} → (S → Reader F A) → (S → A → S) → S → ℕ → Reader F (List A)
many_by read next known zero input = Ok ([], input)
many_by read next known (suc count) input = do
  first ← read known input
  others ← many_by read next (next known first.0) count first.1
  Ok (first.0 ∷ others.0, others.1)

abbrev pub spelled_by : {S A : Type 0} → (S → A → List ℕ) → (S → A → S) → S → List A → List ℕ
spelled_by spell next known [] = []
spelled_by spell next known (value ∷ values) =
    spell known value ++ spelled_by spell next (next known value) values

abbrev pub AllBy : {S A : Type 0} → (S → A → Type 0) → (S → A → S) → S → List A → Type 0
AllBy P next known [] = Unit {0}
AllBy P next known (value ∷ values) = P known value × AllBy P next (next known value) values

-- ---- the content of an attribute, whose length is stated

-- the bytes that the stated length gives to the content, as far as they are there
abbrev pub front : ℕ → Input → Input
front count input = record { at = input.at; bytes = take count input.bytes }

-- What comes of what was read of content that begins in an attribute, so many bytes being left of
-- it. The content has to end where the stated length says, at `end`. An item that crosses that end
-- and stands whole in the file, which ends at `file_end`, is told at the first byte of the
-- attribute; one that the file or an attribute around it cuts is short still.
abbrev pub closing : {A : Type 0} → ℕ → ℕ → ℕ → Bool → ℕ → Result A ItemFault → Result A ItemFault
closing file_end first end whole left (Ok value) =
    if whole && (left == 0) then Ok value else Err (item_fault.Bad (fault.BadLength first))
closing file_end first end whole left (Err (item_fault.Short at need)) =
    if nat_lt end (at + need) && nat_le (at + need) file_end
    then Err (item_fault.Bad (fault.BadLength first))
    else Err (item_fault.Short at need)
closing file_end first end whole left (Err (item_fault.Bad e)) = Err (item_fault.Bad e)

-- the same of a reading function, with what it left
abbrev pub closed :
    {A : Type 0} → ℕ → ℕ → ℕ → Bool → Result (A × Input) ItemFault → Result A ItemFault
closed file_end first end whole (Ok x) =
    closing file_end first end whole (length x.1.bytes) (Ok x.0)
closed file_end first end whole (Err e) = closing file_end first end whole 0 (Err e)

-- A stated length, and content of that length, in an attribute that begins at `first`.
abbrev pub content : {A : Type 0} → ℕ → ℕ → PartReader A → PartReader A
content file_end first read input = do
  len ← number w32 input
  value ← closed file_end first (len.1.at + len.0) (nat_le len.0 (length len.1.bytes))
      (read (front len.0 len.1))
  Ok (value, behind len.0 len.1)

-- A stated length, and so many bytes, which are one item.
abbrev pub carried_at : PartReader (List ℕ)
carried_at input = number w32 input >>= λ len. some_bytes len.0 len.1

-- ---- bytes

abbrev pub u1 : ℕ → List ℕ
u1 n = to_be_bytes w8 n

abbrev pub u2 : ℕ → List ℕ
u2 n = to_be_bytes w16 n

abbrev pub u4 : ℕ → List ℕ
u4 n = to_be_bytes w32 n

-- content behind its length
abbrev pub sized : List ℕ → List ℕ
sized bytes = u4 (length bytes) ++ bytes

-- values behind their count
abbrev pub counted : {A : Type 0} → (A → List ℕ) → List A → List ℕ
counted spell values = u2 (length values) ++ flat_map spell values
