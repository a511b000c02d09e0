use Rattle.codec_rules.proofs.Numbers.{number_codec, wide8, wide16, wide32, wide64}
use Rattle.std.specs.Int.{w8, w16, w32, w64}
use Rattle.codec_rules.proofs.numbers_are_read_as_spelled.Goals as goal

pub returns-clause-w8 : goal.returns-clause-w8
returns-clause-w8 g c = λ fault. number_codec fault w8 wide8

pub returns-clause-w16 : goal.returns-clause-w16
returns-clause-w16 g c = λ fault. number_codec fault w16 wide16

pub returns-clause-w32 : goal.returns-clause-w32
returns-clause-w32 g c = λ fault. number_codec fault w32 wide32

pub returns-clause-w64 : goal.returns-clause-w64
returns-clause-w64 g c = λ fault. number_codec fault w64 wide64
