use Rattle.std.proofs.Common.{◌≡◌, ◌∷◌, ◌++◌, refl, ap, sym, ◌∙◌}
use Rattle.type_rules.specs.Rows.{row, gives}
use Rattle.vframes.specs.View.{type_of, types_in}
use Rattle.vframes.specs.FrameView.{types_of}
use Rattle.type_rows.proofs.arithmetic_rows.convert.Goals as goal

pub returns-in_ok-int_to_long-in-IntToLong : goal.returns-in_ok-int_to_long-in-IntToLong
unfolding row
returns-in_ok-int_to_long-in-IntToLong c ns s at e = rw c.in-IntToLong.is (c.in_ok-int_to_long-in-IntToLong.ensures ns s at e)

pub returns-in_ok-long_to_int-in-LongToInt : goal.returns-in_ok-long_to_int-in-LongToInt
unfolding row
returns-in_ok-long_to_int-in-LongToInt c ns s at e = rw c.in-LongToInt.is (c.in_ok-long_to_int-in-LongToInt.ensures ns s at e)

pub returns-in_ok-int_to_int-in-IntToByte : goal.returns-in_ok-int_to_int-in-IntToByte
unfolding row
returns-in_ok-int_to_int-in-IntToByte c ns s at e = rw c.in-IntToByte.is (c.in_ok-int_to_int-in-IntToByte.ensures.byte ns s at e)

pub returns-in_ok-int_to_int-in-IntToChar : goal.returns-in_ok-int_to_int-in-IntToChar
unfolding row
returns-in_ok-int_to_int-in-IntToChar c ns s at e = rw c.in-IntToChar.is (c.in_ok-int_to_int-in-IntToChar.ensures.char ns s at e)

pub returns-in_ok-int_to_int-in-IntToShort : goal.returns-in_ok-int_to_int-in-IntToShort
unfolding row
returns-in_ok-int_to_int-in-IntToShort c ns s at e = rw c.in-IntToShort.is (c.in_ok-int_to_int-in-IntToShort.ensures.short ns s at e)
