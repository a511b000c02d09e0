-- The bytes that a text is assembled to are the class file of the class that it states.
use Rattle.std.proofs.Common.{ℕ, List}
use Rattle.asm_laws.specs.Spelled.{IsSpelled}
use Rattle.mutest_engine.specs.Decided.{IsAssembledTo}

pub class_spelled : (text bytes : List ℕ) → IsSpelled text bytes → IsAssembledTo text bytes
class_spelled text bytes is = (is.class, is.stated, is.spelled.form, is.spelled.text)
