use Rattle.std.proofs.Common.{rules}
use Rattle.std.specs.Int.{w32}
use Rattle.std.proofs.lemmas.Int.{to_z-of_z}
use mir.Val.{SFits}
use Rattle.machine_rules.specs.Steps.{act}
use Rattle.jvm_state.specs.Ops.{instruction_of, left_by}
use Rattle.jvm_state.proofs.acting.act.Goals as goal

pub returns-in-Nop-clause-runs : goal.returns-in-Nop-clause-runs
unfolding act instruction_of left_by
returns-in-Nop-clause-runs g c = rw c.in-Nop.is (λ named p q kind starts. c.go_on.ensures c.args.locals.now)

pub returns-in-NullConstant-clause-runs : goal.returns-in-NullConstant-clause-runs
unfolding act instruction_of left_by
returns-in-NullConstant-clause-runs g c = rw c.in-NullConstant.is (λ named p q kind starts. c.push_null.ensures c.args.locals.now)

pub returns-in-IntConstant-clause-runs : goal.returns-in-IntConstant-clause-runs
unfolding act instruction_of left_by
returns-in-IntConstant-clause-runs g c =
    let f : SFits w32 c.in-IntConstant.z = search rules in
    rw c.in-IntConstant.is (λ named p q kind starts. (simp to_z-of_z at c.push_int.ensures) c.args.locals.now)

pub returns-in-LongConstant-clause-runs : goal.returns-in-LongConstant-clause-runs
unfolding act instruction_of left_by
returns-in-LongConstant-clause-runs g c = rw c.in-LongConstant.is (λ named p q kind starts. c.push_listed.ensures p q kind starts c.args.locals.now)

pub returns-in-Pop-clause-runs : goal.returns-in-Pop-clause-runs
unfolding act instruction_of left_by
returns-in-Pop-clause-runs g c = rw c.in-Pop.is (λ named p q kind starts. c.pop.ensures c.args.locals.now)

pub returns-in-Pop2-clause-runs : goal.returns-in-Pop2-clause-runs
unfolding act instruction_of left_by
returns-in-Pop2-clause-runs g c = rw c.in-Pop2.is (λ named p q kind starts. c.pop_two.ensures c.args.locals.now)

pub returns-in-Dup-clause-runs : goal.returns-in-Dup-clause-runs
unfolding act instruction_of left_by
returns-in-Dup-clause-runs g c = rw c.in-Dup.is (λ named p q kind starts. c.dup.ensures c.args.locals.now)

pub returns-in-DupX1-clause-runs : goal.returns-in-DupX1-clause-runs
unfolding act instruction_of left_by
returns-in-DupX1-clause-runs g c = rw c.in-DupX1.is (λ named p q kind starts. c.dup_under_one.ensures c.args.locals.now)

pub returns-in-DupX2-clause-runs : goal.returns-in-DupX2-clause-runs
unfolding act instruction_of left_by
returns-in-DupX2-clause-runs g c = rw c.in-DupX2.is (λ named p q kind starts. c.dup_under_two.ensures c.args.locals.now)

pub returns-in-Dup2-clause-runs : goal.returns-in-Dup2-clause-runs
unfolding act instruction_of left_by
returns-in-Dup2-clause-runs g c = rw c.in-Dup2.is (λ named p q kind starts. c.dup_two.ensures c.args.locals.now)

pub returns-in-Dup2X1-clause-runs : goal.returns-in-Dup2X1-clause-runs
unfolding act instruction_of left_by
returns-in-Dup2X1-clause-runs g c = rw c.in-Dup2X1.is (λ named p q kind starts. c.dup_two_under_one.ensures c.args.locals.now)

pub returns-in-Dup2X2-clause-runs : goal.returns-in-Dup2X2-clause-runs
unfolding act instruction_of left_by
returns-in-Dup2X2-clause-runs g c = rw c.in-Dup2X2.is (λ named p q kind starts. c.dup_two_under_two.ensures c.args.locals.now)

pub returns-in-Swap-clause-runs : goal.returns-in-Swap-clause-runs
unfolding act instruction_of left_by
returns-in-Swap-clause-runs g c = rw c.in-Swap.is (λ named p q kind starts. c.swap.ensures c.args.locals.now)

pub returns-in-IntPlus-clause-runs : goal.returns-in-IntPlus-clause-runs
unfolding act instruction_of left_by
returns-in-IntPlus-clause-runs g c = rw c.in-IntPlus.is (λ named p q kind starts. c.operate_int.ensures q c.args.locals.now)

pub returns-in-IntMinus-clause-runs : goal.returns-in-IntMinus-clause-runs
unfolding act instruction_of left_by
returns-in-IntMinus-clause-runs g c = rw c.in-IntMinus.is (λ named p q kind starts. c.operate_int-in-IntMinus.ensures q c.args.locals.now)

pub returns-in-IntTimes-clause-runs : goal.returns-in-IntTimes-clause-runs
unfolding act instruction_of left_by
returns-in-IntTimes-clause-runs g c = rw c.in-IntTimes.is (λ named p q kind starts. c.operate_int-in-IntTimes.ensures q c.args.locals.now)

pub returns-in-IntDivide-clause-runs : goal.returns-in-IntDivide-clause-runs
unfolding act instruction_of left_by
returns-in-IntDivide-clause-runs g c = rw c.in-IntDivide.is (λ named p q kind starts. c.operate_int-in-IntDivide.ensures q c.args.locals.now)

pub returns-in-IntRemainder-clause-runs : goal.returns-in-IntRemainder-clause-runs
unfolding act instruction_of left_by
returns-in-IntRemainder-clause-runs g c = rw c.in-IntRemainder.is (λ named p q kind starts. c.operate_int-in-IntRemainder.ensures q c.args.locals.now)

pub returns-in-IntBitAnd-clause-runs : goal.returns-in-IntBitAnd-clause-runs
unfolding act instruction_of left_by
returns-in-IntBitAnd-clause-runs g c = rw c.in-IntBitAnd.is (λ named p q kind starts. c.operate_int-in-IntBitAnd.ensures q c.args.locals.now)

pub returns-in-IntBitOr-clause-runs : goal.returns-in-IntBitOr-clause-runs
unfolding act instruction_of left_by
returns-in-IntBitOr-clause-runs g c = rw c.in-IntBitOr.is (λ named p q kind starts. c.operate_int-in-IntBitOr.ensures q c.args.locals.now)

pub returns-in-IntBitXor-clause-runs : goal.returns-in-IntBitXor-clause-runs
unfolding act instruction_of left_by
returns-in-IntBitXor-clause-runs g c = rw c.in-IntBitXor.is (λ named p q kind starts. c.operate_int-in-IntBitXor.ensures q c.args.locals.now)

pub returns-in-LongPlus-clause-runs : goal.returns-in-LongPlus-clause-runs
unfolding act instruction_of left_by
returns-in-LongPlus-clause-runs g c = rw c.in-LongPlus.is (λ named p q kind starts. c.operate_long.ensures q c.args.locals.now)

pub returns-in-LongMinus-clause-runs : goal.returns-in-LongMinus-clause-runs
unfolding act instruction_of left_by
returns-in-LongMinus-clause-runs g c = rw c.in-LongMinus.is (λ named p q kind starts. c.operate_long-in-LongMinus.ensures q c.args.locals.now)

pub returns-in-LongTimes-clause-runs : goal.returns-in-LongTimes-clause-runs
unfolding act instruction_of left_by
returns-in-LongTimes-clause-runs g c = rw c.in-LongTimes.is (λ named p q kind starts. c.operate_long-in-LongTimes.ensures q c.args.locals.now)

pub returns-in-LongDivide-clause-runs : goal.returns-in-LongDivide-clause-runs
unfolding act instruction_of left_by
returns-in-LongDivide-clause-runs g c = rw c.in-LongDivide.is (λ named p q kind starts. c.operate_long-in-LongDivide.ensures q c.args.locals.now)

pub returns-in-LongRemainder-clause-runs : goal.returns-in-LongRemainder-clause-runs
unfolding act instruction_of left_by
returns-in-LongRemainder-clause-runs g c = rw c.in-LongRemainder.is (λ named p q kind starts. c.operate_long-in-LongRemainder.ensures q c.args.locals.now)

pub returns-in-LongBitAnd-clause-runs : goal.returns-in-LongBitAnd-clause-runs
unfolding act instruction_of left_by
returns-in-LongBitAnd-clause-runs g c = rw c.in-LongBitAnd.is (λ named p q kind starts. c.operate_long-in-LongBitAnd.ensures q c.args.locals.now)

pub returns-in-LongBitOr-clause-runs : goal.returns-in-LongBitOr-clause-runs
unfolding act instruction_of left_by
returns-in-LongBitOr-clause-runs g c = rw c.in-LongBitOr.is (λ named p q kind starts. c.operate_long-in-LongBitOr.ensures q c.args.locals.now)

pub returns-in-LongBitXor-clause-runs : goal.returns-in-LongBitXor-clause-runs
unfolding act instruction_of left_by
returns-in-LongBitXor-clause-runs g c = rw c.in-LongBitXor.is (λ named p q kind starts. c.operate_long-in-LongBitXor.ensures q c.args.locals.now)

pub returns-in-IntNegate-clause-runs : goal.returns-in-IntNegate-clause-runs
unfolding act instruction_of left_by
returns-in-IntNegate-clause-runs g c = rw c.in-IntNegate.is (λ named p q kind starts. c.negate_int.ensures c.args.locals.now)

pub returns-in-LongNegate-clause-runs : goal.returns-in-LongNegate-clause-runs
unfolding act instruction_of left_by
returns-in-LongNegate-clause-runs g c = rw c.in-LongNegate.is (λ named p q kind starts. c.negate_long.ensures c.args.locals.now)

pub returns-in-IntShiftLeft-clause-runs : goal.returns-in-IntShiftLeft-clause-runs
unfolding act instruction_of left_by
returns-in-IntShiftLeft-clause-runs g c = rw c.in-IntShiftLeft.is (λ named p q kind starts. c.shift_int.ensures c.args.locals.now)

pub returns-in-IntShiftRight-clause-runs : goal.returns-in-IntShiftRight-clause-runs
unfolding act instruction_of left_by
returns-in-IntShiftRight-clause-runs g c = rw c.in-IntShiftRight.is (λ named p q kind starts. c.shift_int-in-IntShiftRight.ensures c.args.locals.now)

pub returns-in-IntShiftUnsigned-clause-runs : goal.returns-in-IntShiftUnsigned-clause-runs
unfolding act instruction_of left_by
returns-in-IntShiftUnsigned-clause-runs g c = rw c.in-IntShiftUnsigned.is (λ named p q kind starts. c.shift_int-in-IntShiftUnsigned.ensures c.args.locals.now)

pub returns-in-LongShiftLeft-clause-runs : goal.returns-in-LongShiftLeft-clause-runs
unfolding act instruction_of left_by
returns-in-LongShiftLeft-clause-runs g c = rw c.in-LongShiftLeft.is (λ named p q kind starts. c.shift_long.ensures c.args.locals.now)

pub returns-in-LongShiftRight-clause-runs : goal.returns-in-LongShiftRight-clause-runs
unfolding act instruction_of left_by
returns-in-LongShiftRight-clause-runs g c = rw c.in-LongShiftRight.is (λ named p q kind starts. c.shift_long-in-LongShiftRight.ensures c.args.locals.now)

pub returns-in-LongShiftUnsigned-clause-runs : goal.returns-in-LongShiftUnsigned-clause-runs
unfolding act instruction_of left_by
returns-in-LongShiftUnsigned-clause-runs g c = rw c.in-LongShiftUnsigned.is (λ named p q kind starts. c.shift_long-in-LongShiftUnsigned.ensures c.args.locals.now)

pub returns-in-IntToLong-clause-runs : goal.returns-in-IntToLong-clause-runs
unfolding act instruction_of left_by
returns-in-IntToLong-clause-runs g c = rw c.in-IntToLong.is (λ named p q kind starts. c.convert.ensures c.args.locals.now)

pub returns-in-LongToInt-clause-runs : goal.returns-in-LongToInt-clause-runs
unfolding act instruction_of left_by
returns-in-LongToInt-clause-runs g c = rw c.in-LongToInt.is (λ named p q kind starts. c.convert-in-LongToInt.ensures c.args.locals.now)

pub returns-in-IntToByte-clause-runs : goal.returns-in-IntToByte-clause-runs
unfolding act instruction_of left_by
returns-in-IntToByte-clause-runs g c = rw c.in-IntToByte.is (λ named p q kind starts. c.convert-in-IntToByte.ensures c.args.locals.now)

pub returns-in-IntToChar-clause-runs : goal.returns-in-IntToChar-clause-runs
unfolding act instruction_of left_by
returns-in-IntToChar-clause-runs g c = rw c.in-IntToChar.is (λ named p q kind starts. c.convert-in-IntToChar.ensures c.args.locals.now)

pub returns-in-IntToShort-clause-runs : goal.returns-in-IntToShort-clause-runs
unfolding act instruction_of left_by
returns-in-IntToShort-clause-runs g c = rw c.in-IntToShort.is (λ named p q kind starts. c.convert-in-IntToShort.ensures c.args.locals.now)

pub returns-in-LongCompare-clause-runs : goal.returns-in-LongCompare-clause-runs
unfolding act instruction_of left_by
returns-in-LongCompare-clause-runs g c = rw c.in-LongCompare.is (λ named p q kind starts. c.compare_longs.ensures c.args.locals.now)

pub returns-in-IfEqual-clause-runs : goal.returns-in-IfEqual-clause-runs
unfolding act instruction_of left_by
returns-in-IfEqual-clause-runs g c = rw c.in-IfEqual.is (λ named p q kind starts. c.branch_on_int.ensures c.args.locals.now)

pub returns-in-IfUnequal-clause-runs : goal.returns-in-IfUnequal-clause-runs
unfolding act instruction_of left_by
returns-in-IfUnequal-clause-runs g c = rw c.in-IfUnequal.is (λ named p q kind starts. c.branch_on_int-in-IfUnequal.ensures c.args.locals.now)

pub returns-in-IfLess-clause-runs : goal.returns-in-IfLess-clause-runs
unfolding act instruction_of left_by
returns-in-IfLess-clause-runs g c = rw c.in-IfLess.is (λ named p q kind starts. c.branch_on_int-in-IfLess.ensures c.args.locals.now)

pub returns-in-IfAtLeast-clause-runs : goal.returns-in-IfAtLeast-clause-runs
unfolding act instruction_of left_by
returns-in-IfAtLeast-clause-runs g c = rw c.in-IfAtLeast.is (λ named p q kind starts. c.branch_on_int-in-IfAtLeast.ensures c.args.locals.now)

pub returns-in-IfGreater-clause-runs : goal.returns-in-IfGreater-clause-runs
unfolding act instruction_of left_by
returns-in-IfGreater-clause-runs g c = rw c.in-IfGreater.is (λ named p q kind starts. c.branch_on_int-in-IfGreater.ensures c.args.locals.now)

pub returns-in-IfAtMost-clause-runs : goal.returns-in-IfAtMost-clause-runs
unfolding act instruction_of left_by
returns-in-IfAtMost-clause-runs g c = rw c.in-IfAtMost.is (λ named p q kind starts. c.branch_on_int-in-IfAtMost.ensures c.args.locals.now)

pub returns-in-IfsEqual-clause-runs : goal.returns-in-IfsEqual-clause-runs
unfolding act instruction_of left_by
returns-in-IfsEqual-clause-runs g c = rw c.in-IfsEqual.is (λ named p q kind starts. c.branch_on_ints.ensures c.args.locals.now)

pub returns-in-IfsUnequal-clause-runs : goal.returns-in-IfsUnequal-clause-runs
unfolding act instruction_of left_by
returns-in-IfsUnequal-clause-runs g c = rw c.in-IfsUnequal.is (λ named p q kind starts. c.branch_on_ints-in-IfsUnequal.ensures c.args.locals.now)

pub returns-in-IfsLess-clause-runs : goal.returns-in-IfsLess-clause-runs
unfolding act instruction_of left_by
returns-in-IfsLess-clause-runs g c = rw c.in-IfsLess.is (λ named p q kind starts. c.branch_on_ints-in-IfsLess.ensures c.args.locals.now)

pub returns-in-IfsAtLeast-clause-runs : goal.returns-in-IfsAtLeast-clause-runs
unfolding act instruction_of left_by
returns-in-IfsAtLeast-clause-runs g c = rw c.in-IfsAtLeast.is (λ named p q kind starts. c.branch_on_ints-in-IfsAtLeast.ensures c.args.locals.now)

pub returns-in-IfsGreater-clause-runs : goal.returns-in-IfsGreater-clause-runs
unfolding act instruction_of left_by
returns-in-IfsGreater-clause-runs g c = rw c.in-IfsGreater.is (λ named p q kind starts. c.branch_on_ints-in-IfsGreater.ensures c.args.locals.now)

pub returns-in-IfsAtMost-clause-runs : goal.returns-in-IfsAtMost-clause-runs
unfolding act instruction_of left_by
returns-in-IfsAtMost-clause-runs g c = rw c.in-IfsAtMost.is (λ named p q kind starts. c.branch_on_ints-in-IfsAtMost.ensures c.args.locals.now)

pub returns-in-IfSame-clause-runs : goal.returns-in-IfSame-clause-runs
unfolding act instruction_of left_by
returns-in-IfSame-clause-runs g c = rw c.in-IfSame.is (λ named p q kind starts. c.branch_on_references.ensures c.args.locals.now)

pub returns-in-IfNotSame-clause-runs : goal.returns-in-IfNotSame-clause-runs
unfolding act instruction_of left_by
returns-in-IfNotSame-clause-runs g c = rw c.in-IfNotSame.is (λ named p q kind starts. c.branch_on_references-in-IfNotSame.ensures c.args.locals.now)

pub returns-in-IfNull-clause-runs : goal.returns-in-IfNull-clause-runs
unfolding act instruction_of left_by
returns-in-IfNull-clause-runs g c = rw c.in-IfNull.is (λ named p q kind starts. c.branch_on_null.ensures c.args.locals.now)

pub returns-in-IfNotNull-clause-runs : goal.returns-in-IfNotNull-clause-runs
unfolding act instruction_of left_by
returns-in-IfNotNull-clause-runs g c = rw c.in-IfNotNull.is (λ named p q kind starts. c.branch_on_null-in-IfNotNull.ensures c.args.locals.now)

pub returns-in-Goto-clause-runs : goal.returns-in-Goto-clause-runs
unfolding act instruction_of left_by
returns-in-Goto-clause-runs g c = rw c.in-Goto.is (λ named p q kind starts. c.go_to.ensures c.args.locals.now)
