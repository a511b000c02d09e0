use Rattle.std.proofs.Common.{◌∙◌, sym}
use Rattle.jvm_step.proofs.Readied.{fit_kind}
use Rattle.jvm_step.proofs.calling.call_fit.Goals as goal

pub returns-clause-row : goal.returns-clause-row
returns-clause-row c =
    fit_kind c.args.p.now c.args.site c.head_at-head.result c.args.kind c.head_at-head.ensures c.in_ok-turn.turn
    c.call_by.new.frames c.args.world.now c.call_by.new.world
    (sym c.is_fit.ensures ∙ c.if-not-is_fit.false) c.in_ok-turn.ensures.row
