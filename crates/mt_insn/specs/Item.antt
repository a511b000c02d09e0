-- The items that instructions are made of (JVMS 6.5): numbers, most significant byte first,
-- unsigned or in two's complement, and runs of bytes. `at` is the place in the file of the
-- instruction's first byte: where the code ends inside an item, the instruction passes the code's
-- end, which is told there.
use Rattle.std.specs.Prelude.{◌≡◌, ℕ, ℤ, List, Result, Ok, Err}
use Rattle.std.specs.Int.{w8, w16, w32, cast_signed}
use Rattle.class_model.specs.declared.fault.ClassFault.{ClassFault}
use Rattle.class_model.specs.declared.fault.ClassFault.TheVariants as fault
use Rattle.codec_rules.specs.Input.{Input}
use Rattle.codec_rules.specs.Meets.{Fails, Reads}
use Rattle.codec_rules.specs.Reading.{Reader, bytes_at, number_at}
use Rattle.codec_rules.specs.Sequence.{◌>>=◌, or_fault}

-- A reading function of a part of the code. A place of its input counts from the code's first byte.
abbrev pub CodeReader : Type 0 → Type 0
CodeReader A = Reader ClassFault A

abbrev pub passes_end : ℕ → ℕ → ClassFault
passes_end at place = fault.BadLength at

abbrev pub bytes_in : ℕ → ℕ → CodeReader (List ℕ)
bytes_in at count input = or_fault (passes_end at) (bytes_at count input)

abbrev pub u1_in : ℕ → CodeReader ℕ
u1_in at input = or_fault (passes_end at) (number_at w8 input)

abbrev pub u2_in : ℕ → CodeReader ℕ
u2_in at input = or_fault (passes_end at) (number_at w16 input)

abbrev pub u4_in : ℕ → CodeReader ℕ
u4_in at input = or_fault (passes_end at) (number_at w32 input)

abbrev pub s1_in : ℕ → CodeReader ℤ
s1_in at input = u1_in at input >>= λ x. Ok (cast_signed w8 x.0, x.1)

abbrev pub s2_in : ℕ → CodeReader ℤ
s2_in at input = u2_in at input >>= λ x. Ok (cast_signed w16 x.0, x.1)

abbrev pub s4_in : ℕ → CodeReader ℤ
s4_in at input = u4_in at input >>= λ x. Ok (cast_signed w32 x.0, x.1)

-- A call reads a part of the code as the definition does, or runs out of memory.
abbrev pub ReadsCode : {A : Type 0} → CodeReader A → Input → Input → Result A ClassFault → Type 0
ReadsCode read old new result = Reads fault.Memory read old new result

-- The same of a call that lends the bytes.
abbrev pub ReadsBytes :
    {X : Type 0} → (X → List ℕ) → CodeReader (List ℕ) → Input → Input → Result X ClassFault → Type 0
ReadsBytes view read old new (Ok bytes) = read old ≡ Ok (view bytes, new)
ReadsBytes view read old new (Err e) = Fails fault.Memory e (read old)
