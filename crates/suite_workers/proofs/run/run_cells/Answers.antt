use denote.Param.Send.{sendable}
use Rattle.suite_workers.proofs.Sharing.{worker_send}
use Rattle.suite_workers.proofs.RunAll.{all_said, may_share, no_ends}
use Rattle.suite_workers.proofs.run.run_cells.Goals as goal

pub share_cells-requires-after_bounds : goal.share_cells-requires-after_bounds
share_cells-requires-after_bounds g c κs within = may_share c.runs_keep_limits.ensures c.args.program.now c.args.setup.now c.args.workers c.args.meter.now c.requires c.in_ok-hands.hands.items c.in_ok-cells.cells c.in_ok-hands.ensures.count c.in_ok-hands.ensures.each c.in_ok-cells.ensures

pub returns-in-Ok : goal.returns-in-Ok
returns-in-Ok g c = all_said c.runs_keep_limits.ensures c.args.program.now c.args.setup.now c.args.workers c.args.meter.now c.requires c.in_ok-hands.hands.items c.in_ok-cells.cells c.in_ok-hands.ensures.count c.in_ok-hands.ensures.each c.in_ok-cells.ensures c.share_cells.new.meter c.in-Ok.ends c.said_of.result c.in-Ok.ensures c.said_of.ensures

pub returns-in-Err : goal.returns-in-Err
returns-in-Err g c = no_ends c.runs_keep_limits.ensures c.args.program.now c.args.setup.now c.args.workers c.args.meter.now c.requires c.in_ok-hands.hands.items c.in_ok-cells.cells c.in_ok-hands.ensures.count c.in_ok-hands.ensures.each c.in_ok-cells.ensures c.share_cells.new.meter _ c.in-Err.ensures

pub share_cells-requires-send-C : goal.share_cells-requires-send-C
share_cells-requires-send-C g c κs within = search (worker_send, sendable) depth 60 fits 60000
