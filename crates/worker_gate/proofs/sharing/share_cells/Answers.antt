use Rattle.std.proofs.Common.{◌∙◌, ◌+◌, sym, ap, subst, arith}
use Rattle.worker_gate.specs.Ends.{IsPlanOf}
use Rattle.worker_gate.specs.Settled.{parts_of}
use Rattle.worker_gate.specs.Sharing.{HasCountedNothing}
use Rattle.std.specs.Prelude.{All}
use Rattle.worker_gate.proofs.Leaving.{may_settle}
use Rattle.worker_gate.proofs.Shares.{left_are, left_err, parts_fit, places_long, plan_is, ready_all, runs_at, shared_ok, stand_so}
use Rattle.worker_gate.proofs.sharing.share_cells.Goals as goal

pub plan_for-requires : goal.plan_for-requires
plan_for-requires g c = stand_so g.C.Hands.reading c.requires.job c.args.cells c.requires.of

pub run_workers-requires-clause-ready : goal.run_workers-requires-clause-ready
run_workers-requires-clause-ready g c κs within =
    let shared = c.in_ok-table.table.table.shared in
    ready_all shared.table_id shared.key c.in_ok-table.seats.items c.jobs_of-jobs.result.items c.jobs_of-jobs.ensures.seats c.in_ok-table.ensures.seats c.in_ok-table.ensures.idle c.jobs_of-jobs.ensures.idle

pub run_workers-requires-clause-plans : goal.run_workers-requires-clause-plans
run_workers-requires-clause-plans g c κs within = λ k d lt.
    let hands = g.C.Hands in
    let key = c.in_ok-table.table.table.shared.key in
    let sizes = c.in_ok-table.ensures.sizes in
    subst (λ ms. IsPlanOf hands.reading key ms c.in_ok-plan.plan)
    (sym (runs_at hands.job c.requires.job c.args.hands.items c.jobs_of-jobs.result.items c.jobs_of-jobs.ensures.hands c.requires.each k d lt))
    (plan_is hands.reading hands.job c.args.cells c.in_ok-plan.plan key c.requires.job c.requires.of c.in_ok-plan.ensures (sizes.1 ∙ c.len-number.ensures) sizes.0)

pub settle-requires-clause-bound : goal.settle-requires-clause-bound
settle-requires-clause-bound g c =
    let hands = g.C.Hands in
    let shared = c.in_ok-table.table.table.shared in
    let left = left_are hands.reading hands.job c.args.cells c.args.hands.items c.args.meter.now c.requires c.in_ok-plan.plan shared.table_id shared.key c.in_ok-table.seats.items c.jobs_of-jobs.result.items c.in-Ok.left.items c.jobs_of-jobs.ensures.seats c.in_ok-table.ensures.seats c.jobs_of-jobs.ensures.hands c.in-Ok.ensures.count c.in-Ok.ensures.ends in
    parts_fit hands.reading hands.job c.args.cells c.args.hands.items c.args.meter.now c.requires c.in_ok-plan.plan shared.table_id shared.key c.in_ok-table.seats.items c.jobs_of-jobs.result.items c.in-Ok.left.items left (c.in_ok-table.ensures.sizes.2 ∙ c.len-workers.ensures ∙ c.args.hands.ok.0) c.jobs_of-jobs.new.meter c.jobs_of-jobs.ensures.meter

pub settle-requires-clause-seated : goal.settle-requires-clause-seated
settle-requires-clause-seated g c =
    let hands = g.C.Hands in
    let shared = c.in_ok-table.table.table.shared in
    let left = left_are hands.reading hands.job c.args.cells c.args.hands.items c.args.meter.now c.requires c.in_ok-plan.plan shared.table_id shared.key c.in_ok-table.seats.items c.jobs_of-jobs.result.items c.in-Ok.left.items c.jobs_of-jobs.ensures.seats c.in_ok-table.ensures.seats c.jobs_of-jobs.ensures.hands c.in-Ok.ensures.count c.in-Ok.ensures.ends in
    (may_settle hands.reading shared.table_id shared.key c.in_ok-plan.plan.all c.in_ok-plan.plan.order c.requires.job c.in-Ok.left.items left).seated

pub give_back-requires-clause-idle : goal.give_back-requires-clause-idle
give_back-requires-clause-idle g c = subst (All HasCountedNothing) (sym c.in-Err.ensures.back) c.jobs_of-jobs.ensures.idle

pub ends_at-requires-clause-room : goal.ends_at-requires-clause-room
ends_at-requires-clause-room g c =
    let hands = g.C.Hands in
    let shared = c.in_ok-table.table.table.shared in
    let left = left_are hands.reading hands.job c.args.cells c.args.hands.items c.args.meter.now c.requires c.in_ok-plan.plan shared.table_id shared.key c.in_ok-table.seats.items c.jobs_of-jobs.result.items c.in-Ok.left.items c.jobs_of-jobs.ensures.seats c.in_ok-table.ensures.seats c.jobs_of-jobs.ensures.hands c.in-Ok.ensures.count c.in-Ok.ensures.ends in
    let sizes = c.in_ok-table.ensures.sizes in
    let long = places_long hands.reading hands.job c.args.cells c.args.hands.items c.args.meter.now c.requires c.in_ok-plan.plan shared.table_id shared.key c.in_ok-table.seats.items c.jobs_of-jobs.result.items c.in-Ok.left.items left c.in_ok-plan.ensures (sizes.1 ∙ c.len-number.ensures) c.in-Ok-settle.places c.in-Ok-settle.ensures.settled in
    let room = c.in_ok-room_for_seats.ensures.ends in
    let number = c.len-number.ensures in
    omega (arith, long, room, number)

pub returns-in-Ok-settle : goal.returns-in-Ok-settle
returns-in-Ok-settle g c =
    let hands = g.C.Hands in
    let shared = c.in_ok-table.table.table.shared in
    let left = left_are hands.reading hands.job c.args.cells c.args.hands.items c.args.meter.now c.requires c.in_ok-plan.plan shared.table_id shared.key c.in_ok-table.seats.items c.jobs_of-jobs.result.items c.in-Ok.left.items c.jobs_of-jobs.ensures.seats c.in_ok-table.ensures.seats c.jobs_of-jobs.ensures.hands c.in-Ok.ensures.count c.in-Ok.ensures.ends in
    let sizes = c.in_ok-table.ensures.sizes in
    shared_ok hands.reading hands.job c.args.cells c.args.hands.items c.args.meter.now c.requires c.in_ok-plan.plan shared.table_id shared.key c.in-Ok.left.items c.in-Ok-settle.places c.settle.new.meter c.ends_at.result c.in_ok-plan.ensures (sizes.1 ∙ c.len-number.ensures) (sizes.2 ∙ c.len-workers.ensures ∙ c.args.hands.ok.0) left c.in-Ok-settle.ensures.settled (c.settle.ensures.meter ∙ ap (λ m. m + parts_of c.in-Ok.left.items) c.jobs_of-jobs.ensures.meter) c.ends_at.ensures

pub returns-in-Ok : goal.returns-in-Ok
returns-in-Ok g c =
    let hands = g.C.Hands in
    let shared = c.in_ok-table.table.table.shared in
    let left = left_are hands.reading hands.job c.args.cells c.args.hands.items c.args.meter.now c.requires c.in_ok-plan.plan shared.table_id shared.key c.in_ok-table.seats.items c.jobs_of-jobs.result.items c.in-Ok.left.items c.jobs_of-jobs.ensures.seats c.in_ok-table.ensures.seats c.jobs_of-jobs.ensures.hands c.in-Ok.ensures.count c.in-Ok.ensures.ends in
    let sizes = c.in_ok-table.ensures.sizes in
    left_err hands.reading hands.job c.args.cells c.args.hands.items c.args.meter.now c.requires c.in_ok-plan.plan shared.table_id shared.key c.in_ok-table.seats.items c.jobs_of-jobs.result.items c.in-Ok.left.items left (sizes.2 ∙ c.len-workers.ensures ∙ c.args.hands.ok.0) c.jobs_of-jobs.new.meter c.settle.new.meter _ c.jobs_of-jobs.ensures.meter c.settle.ensures.meter
