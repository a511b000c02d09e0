use Rattle.std.proofs.Common.{◌≡◌, ◌+◌, [], get_or, arith}
use Rattle.type_rules.specs.Assignability.{width}
use Rattle.vframes.specs.declared.slot_type.SlotType.TheVariants as slot
use Rattle.vframes.specs.View.{type_of}
use Rattle.vframes.proofs.Words.{words_next, words_taken}
use Rattle.vframes.proofs.stack.words_of.Goals as goal

pub overflow_add-words : goal.overflow_add-words
overflow_add-words c =
    let most = words_taken c.loop-t.t-index c.args.types.now in
    omega (arith, c.loop-t.invariant, most, c.width.ensures.small, c.loop-t-test.true)

pub loop-t-preserved : goal.loop-t-preserved
loop-t-preserved c =
    let i = c.loop-t.t-index in
    let types = c.args.types.now in
    let next = words_next types i slot.Top c.loop-t-test.true in
    let w : c.width.result ≡ width (type_of [] (get_or types i slot.Top)) = c.width.ensures.value [] in
    omega (arith, c.loop-t.invariant, next, w)
