use Rattle.std.proofs.Common.{◌≡◌, drop}
use Rattle.mutest_words.specs.Numbers.{decimal_from}
use Rattle.mutest_words.proofs.number.decimal.Given as goal

abbrev pub invariant-loop-byte : goal.invariant-loop-byte
invariant-loop-byte l = decimal_from l.value (drop l.byte-index l.bytes) ≡ decimal_from 0 l.bytes
