use Rattle.std.proofs.Common.{sym, subst}
use Rattle.std.specs.Prelude.{Ok, Err}
use Rattle.worker_gate.specs.Sharing.{MayShare}
use Rattle.worker_checks.specs.Rows.{job_of, row_reading}
use Rattle.worker_checks.proofs.Plans.{may_share, said}
use Rattle.worker_checks.proofs.jobs.do_rows.Goals as goal

pub share-requires-after_bounds : goal.share-requires-after_bounds
share-requires-after_bounds g c κs within =
    let hands = c.in_ok-hands.hands in
    subst (λ cs. MayShare row_reading job_of cs hands.items c.args.meter.now)
    (sym c.in_ok-cells.ensures)
    (may_share c.args.found c.args.all hands.items c.args.workers c.args.meter.now c.in_ok-hands.ensures.count c.requires.some c.requires.few c.requires.meter c.in_ok-hands.ensures.fresh)

pub returns-in-Ok : goal.returns-in-Ok
returns-in-Ok g c = said c.args.found c.args.all c.in_ok-hands.hands.items c.args.workers c.args.meter.now c.share.new.meter c.in_ok-cells.cells (Ok c.in-Ok.ends) c.in_ok-cells.ensures c.in_ok-hands.ensures.count c.in_ok-hands.ensures.fresh c.in-Ok.ensures

pub returns-in-Err : goal.returns-in-Err
returns-in-Err g c = said c.args.found c.args.all c.in_ok-hands.hands.items c.args.workers c.args.meter.now c.share.new.meter c.in_ok-cells.cells (Err _) c.in_ok-cells.ensures c.in_ok-hands.ensures.count c.in_ok-hands.ensures.fresh c.in-Err.ensures
