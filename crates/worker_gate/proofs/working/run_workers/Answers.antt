use Rattle.std.proofs.Common.{◌<◌, length, sym, ap, ◌∙◌, subst, slice_index_or}
use Rattle.worker_gate.specs.Workers.{MayBegin}
use Rattle.worker_gate.proofs.Ready.{ready_at, planned_at}
use Rattle.worker_gate.proofs.working.run_workers.Goals as goal

pub for_each_mut-requires-clause-accepts : goal.for_each_mut-requires-clause-accepts
for_each_mut-requires-clause-accepts g c κs within = λ i p lt is.
    let shared = c.args.table.now.table.shared in
    let hands = g.C.Hands in
    let same = c.as_mut_slice.ensures.value in
    let begun = ready_at shared.table_id shared.key c.args.jobs.items c.started-ends.result.items c.started-ends.ensures.jobs c.requires.ready c.started-ends.ensures.idle in
    let planned = planned_at hands.reading hands.job shared.key c.args.plan.now c.args.jobs.items c.started-ends.result.items c.started-ends.ensures.jobs c.requires.plans in
    let under = subst (λ n. i < n) (ap length same) lt in
    subst (MayBegin hands.reading hands.job shared.table_id shared.key c.args.plan.now) (sym (is ∙ ap (λ l. slice_index_or l i p.now) same)) (record { begun = begun i p.now under; plan = planned i p.now under })
