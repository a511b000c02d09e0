-- The items that a class file is made of (JVMS 4): unsigned numbers of one, two and four bytes,
-- most significant byte first, and runs of bytes. An item of which too few bytes remain is
-- Truncated, at its first byte.
use Rattle.std.specs.Prelude.{ℕ, List, Result}
use Rattle.std.specs.Int.{w8, w16, w32}
use Rattle.class_model.specs.declared.fault.ClassFault.{ClassFault}
use Rattle.class_model.specs.declared.fault.ClassFault.TheVariants as class_fault
use Rattle.codec_rules.specs.Input.{Input}
use Rattle.codec_rules.specs.Meets.{Reads}
use Rattle.codec_rules.specs.Reading.{Reader, bytes_at, number_at}
use Rattle.codec_rules.specs.Sequence.{or_fault}

-- A reading function of an item of a class file.
abbrev pub ItemReader : Type 0 → Type 0
ItemReader A = Reader ClassFault A

abbrev pub u1_at : ItemReader ℕ
u1_at input = or_fault class_fault.Truncated (number_at w8 input)

abbrev pub u2_at : ItemReader ℕ
u2_at input = or_fault class_fault.Truncated (number_at w16 input)

abbrev pub u4_at : ItemReader ℕ
u4_at input = or_fault class_fault.Truncated (number_at w32 input)

-- So many bytes.
abbrev pub take_at : ℕ → ItemReader (List ℕ)
take_at count input = or_fault class_fault.Truncated (bytes_at count input)

-- A call reads an item of a class file as the definition does, or runs out of memory.
abbrev pub ReadsItem : {A : Type 0} → ItemReader A → Input → Input → Result A ClassFault → Type 0
ReadsItem read old new result = Reads class_fault.Memory read old new result
