use Rattle.jvm_state.proofs.operating.convert.Goals as goal

pub returns-in-IntToLong : goal.returns-in-IntToLong
returns-in-IntToLong c = rw c.in-IntToLong.is c.int_to_long.ensures

pub returns-in-LongToInt : goal.returns-in-LongToInt
returns-in-LongToInt c = rw c.in-LongToInt.is c.narrow_long.ensures

pub returns-in-IntToByte : goal.returns-in-IntToByte
returns-in-IntToByte c = rw c.in-IntToByte.is c.narrow_int.ensures

pub returns-in-IntToChar : goal.returns-in-IntToChar
returns-in-IntToChar c = rw c.in-IntToChar.is c.narrow_int-in-IntToChar.ensures

pub returns-in-IntToShort : goal.returns-in-IntToShort
returns-in-IntToShort c = rw c.in-IntToShort.is c.narrow_int-in-IntToShort.ensures
