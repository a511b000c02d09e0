use Rattle.std.proofs.Common.{refl, subst, ◌∙◌}
use Rattle.worker_gate.specs.Ends.{Turned}
use Rattle.worker_gate.proofs.Loop.{begins, same_more, turned_more, turned_left, turned_wants, noted_wants, working_wants}
use Rattle.worker_gate.proofs.working.work_in.Goals as goal

pub loop-init : goal.loop-init
loop-init g c =
    let shared = c.args.table.now.table.shared in
    (refl, record { place = refl; worker = refl }, begins g.C.Hands.reading shared.table_id shared.key c.args.plan.now (g.C.Hands.job c.args.end.now.job.hands) c.args.end.now c.requires.begun)

pub loop-preserved : goal.loop-preserved
loop-preserved g c =
    let shared = c.args.table.now.table.shared in
    let r = g.C.Hands.reading in
    let turned = subst (λ ms. Turned r shared.table_id shared.key c.args.plan.now ms c.turn.new.end c.turn.result) c.loop.invariant.0 c.turn.ensures.turned in (
      c.turn.ensures.job ∙ c.loop.invariant.0,
      same_more c.args.end.now c.loop.end c.turn.new.end c.loop.invariant.1 c.turn.ensures.same,
      turned_more r shared.table_id shared.key c.args.plan.now (g.C.Hands.job c.args.end.now.job.hands) c.turn.new.end c.turn.result c.in-Ok-true.field-0 c.in-Ok-true.is c.in-Ok-true.field-0-test turned,
    )

pub returns-in-Ok-false : goal.returns-in-Ok-false
returns-in-Ok-false g c =
    let shared = c.args.table.now.table.shared in
    let r = g.C.Hands.reading in
    let turned = subst (λ ms. Turned r shared.table_id shared.key c.args.plan.now ms c.turn.new.end c.turn.result) c.loop.invariant.0 c.turn.ensures.turned in
    let same = same_more c.args.end.now c.loop.end c.turn.new.end c.loop.invariant.1 c.turn.ensures.same in
    record {
      place = same.place;
      worker = same.worker;
      left = turned_left r shared.table_id shared.key c.args.plan.now (g.C.Hands.job c.args.end.now.job.hands) c.turn.new.end c.turn.result c.in-Ok-false.field-0 c.in-Ok-false.is c.in-Ok-false.field-0-test turned;
    }

pub returns-in-Err : goal.returns-in-Err
returns-in-Err g c =
    let shared = c.args.table.now.table.shared in
    let r = g.C.Hands.reading in
    let ms = g.C.Hands.job c.args.end.now.job.hands in
    let turned = subst (λ ms. Turned r shared.table_id shared.key c.args.plan.now ms c.turn.new.end c.turn.result) c.loop.invariant.0 c.turn.ensures.turned in
    let same = same_more c.args.end.now c.loop.end c.turn.new.end c.loop.invariant.1 c.turn.ensures.same in
    record {
      place = same.place;
      worker = same.worker;
      left = noted_wants r shared.table_id shared.key c.args.plan.now ms c.turn.new.end _ refl refl
          (turned_wants r shared.table_id shared.key c.args.plan.now ms c.turn.new.end c.turn.result c.in-Err.field-0 c.in-Err.is turned);
    }

pub returns : goal.returns
returns g c =
    let shared = c.args.table.now.table.shared in
    let r = g.C.Hands.reading in
    let ms = g.C.Hands.job c.args.end.now.job.hands in
    let same = c.loop.invariant.1 in
    record {
      place = same.place;
      worker = same.worker;
      left = noted_wants r shared.table_id shared.key c.args.plan.now ms c.loop.end _ refl refl
          (working_wants r shared.table_id shared.key c.args.plan.now ms c.loop.end c.loop.invariant.2);
    }
