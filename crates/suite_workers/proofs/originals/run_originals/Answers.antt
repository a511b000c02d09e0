use Rattle.std.proofs.Common.{◌≡◌, ◌∙◌, arith, subst, true, IfOk}
use denote.Param.Send.{sendable}
use Rattle.suite_workers.specs.Cells.{AreListed}
use Rattle.suite_workers.specs.Saying.{kept_all}
use Rattle.suite_workers.proofs.OriginalRuns.{all_known, may_share, no_ends}
use Rattle.suite_workers.proofs.Sharing.{original_worker_send}
use Rattle.suite_workers.proofs.originals.run_originals.Goals as goal

pub every_test-requires : goal.every_test-requires
every_test-requires g c = let few = c.requires.starts.may.few in omega (arith, few)

pub share_cells-requires-after_bounds : goal.share_cells-requires-after_bounds
share_cells-requires-after_bounds g c κs within =
    let every = c.as_slice.ensures ∙ c.in_ok-covering.ensures in
    may_share c.args.program.now c.args.setup.now c.runs_keep_limits.ensures c.requires.starts.may c.args.workers c.args.meter.now c.requires c.in_ok-hands.hands.items c.in_ok-cells.cells c.in_ok-hands.ensures.count c.in_ok-hands.ensures.each
    (subst (λ covering. AreListed covering true c.in_ok-cells.cells) every c.in_ok-cells.ensures)

pub share_cells-requires-send-C : goal.share_cells-requires-send-C
share_cells-requires-send-C g c κs within = search (original_worker_send, sendable) depth 60 fits 60000

pub returns-in-Ok : goal.returns-in-Ok
returns-in-Ok g c =
    let every = c.as_slice.ensures ∙ c.in_ok-covering.ensures in
    let again = c.as_slice-in-Ok.ensures ∙ c.in_ok-covering.ensures in
    all_known c.args.program.now c.args.setup.now c.runs_keep_limits.ensures c.requires.starts.may c.args.workers c.args.meter.now c.requires c.in_ok-hands.hands.items c.in_ok-cells.cells c.in_ok-hands.ensures.count c.in_ok-hands.ensures.each
    (subst (λ covering. AreListed covering true c.in_ok-cells.cells) every c.in_ok-cells.ensures)
    c.share_cells.new.meter c.in-Ok.ends c.known_by.result c.in-Ok.ensures
    (subst (λ covering. IfOk c.known_by.result (λ ks. ks ≡ kept_all true covering c.in-Ok.ends.items)) again c.known_by.ensures)

pub returns : goal.returns
returns g c =
    let every = c.as_slice.ensures ∙ c.in_ok-covering.ensures in
    no_ends c.args.program.now c.args.setup.now c.runs_keep_limits.ensures c.requires.starts.may c.args.workers c.args.meter.now c.requires c.in_ok-hands.hands.items c.in_ok-cells.cells c.in_ok-hands.ensures.count c.in_ok-hands.ensures.each
    (subst (λ covering. AreListed covering true c.in_ok-cells.cells) every c.in_ok-cells.ensures)
    c.share_cells.new.meter _ c.in-Err.ensures
