use Rattle.jvm_layout.proofs.SlotCounts.{slot_some}
use Rattle.jvm_layout.proofs.slots.slot_of.Goals as goal

pub returns-in-Some-clause-some : goal.returns-in-Some-clause-some
returns-in-Some-clause-some c =
    slot_some c.args.p.now c.args.root c.args.class c.args.place c.count_before-own.result c.in-Some.count c.behind-over.result c.narrow.result
    c.count_before-own.ensures c.behind-over.ensures.behind c.in-Some.ensures.some c.narrow.ensures.some
