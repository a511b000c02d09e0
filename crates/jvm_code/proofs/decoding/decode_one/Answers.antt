use Rattle.class_link.specs.View as view
use Rattle.jvm_code.specs.Decoded.{named_by}
use Rattle.jvm_code.proofs.decoding.decode_one.Goals as goal

pub returns-in-ArrayLoad : goal.returns-in-ArrayLoad
unfolding view.instruction_of
returns-in-ArrayLoad c = rw c.in-ArrayLoad.is (λ es ss longs h. c.array_load.ensures longs (named_by es ss))

pub returns-in-ArrayStore : goal.returns-in-ArrayStore
unfolding view.instruction_of
returns-in-ArrayStore c = rw c.in-ArrayStore.is (λ es ss longs h. c.array_store.ensures longs (named_by es ss))

pub returns-in-IntOperation : goal.returns-in-IntOperation
unfolding view.instruction_of
returns-in-IntOperation c = rw c.in-IntOperation.is (λ es ss longs h. c.int_operation.ensures longs (named_by es ss))

pub returns-in-LongOperation : goal.returns-in-LongOperation
unfolding view.instruction_of
returns-in-LongOperation c = rw c.in-LongOperation.is (λ es ss longs h. c.long_operation.ensures longs (named_by es ss))

pub returns-in-IntShift : goal.returns-in-IntShift
unfolding view.instruction_of
returns-in-IntShift c = rw c.in-IntShift.is (λ es ss longs h. c.int_shift.ensures longs (named_by es ss))

pub returns-in-LongShift : goal.returns-in-LongShift
unfolding view.instruction_of
returns-in-LongShift c = rw c.in-LongShift.is (λ es ss longs h. c.long_shift.ensures longs (named_by es ss))

pub returns-in-Convert : goal.returns-in-Convert
unfolding view.instruction_of
returns-in-Convert c = rw c.in-Convert.is (λ es ss longs h. c.conversion.ensures longs (named_by es ss))

pub returns-in-IfInt : goal.returns-in-IfInt
unfolding view.instruction_of
returns-in-IfInt c = rw c.in-IfInt.is (λ es ss longs h. c.if_int.ensures longs (named_by es ss))

pub returns-in-IfInts : goal.returns-in-IfInts
unfolding view.instruction_of
returns-in-IfInts c = rw c.in-IfInts.is (λ es ss longs h. c.if_ints.ensures longs (named_by es ss))
