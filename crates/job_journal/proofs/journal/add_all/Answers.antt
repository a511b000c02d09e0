use Rattle.std.proofs.Common.{subst}
use Rattle.std.specs.Prelude.{IfSome}
use Rattle.record_rules.specs.declared.profile_number.TheConstants.{PROFILE_NUMBER}
use Rattle.job_journal.specs.Keeping.{IsAcknowledged}
use Rattle.job_journal.proofs.Standing.{one_more_stands}
use Rattle.job_journal.proofs.journal.add_all.Goals as goal

pub loop-made-preserved : goal.loop-made-preserved
loop-made-preserved g c =
    let new = g.K.Keeper.kept c.add.new.self.keeper in
    let durable = g.K.Keeper.durable c.add.new.self.keeper in
    let d = c.made-item.result in
    let ack = subst (λ x. IfSome new (IsAcknowledged PROFILE_NUMBER durable (g.M.KnownRecord.entry x.now))) c.made-item.is c.in_ok-add.ensures.kept in
    one_more_stands PROFILE_NUMBER durable (λ m. g.M.KnownRecord.entry m.now) c.args.due.now c.loop-made.made-index d (g.K.Keeper.kept c.loop-made.state.keeper) new c.loop-made-test.true c.add.ensures.longer c.loop-made.invariant ack
