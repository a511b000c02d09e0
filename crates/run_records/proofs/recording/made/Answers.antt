use Rattle.run_records.proofs.Made.{record_is}
use Rattle.run_records.proofs.recording.made.Goals as goal

pub returns-in-With : goal.returns-in-With
returns-in-With c =
    record_is c.args.p.now c.args.test.now c.args.limits c.args.limit c.args.given c.in-With.outcome c.in-With.is c.requires
    c.in_ok-lists-in-With.lists c.in_ok-entry-in-With.entry c.in_ok-lists-in-With.ensures c.in_ok-entry-in-With.ensures
