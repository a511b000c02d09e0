-- The written methods pass their test.
use Rattle.std.proofs.Common.{◌≡◌, true, refl}
use Rattle.std.specs.Char.Utf16.{utf16_chars}
use Rattle.class_model.specs.DescriptorReading.{parameters_at}
use Rattle.class_link.specs.Opcodes.{instruction_by}
use Rattle.lib_table.specs.Written.{written_methods}
use Rattle.lib_table.specs.Typed.{are_typed}

pub typed : are_typed written_methods ≡ true
unfolding written_methods parameters_at instruction_by utf16_chars
typed = refl
