use Rattle.std.proofs.Common.{sym, subst}
use Rattle.run_records.specs.Asking.{asked}
use Rattle.run_records.specs.Recorded.{IsRecordedOf}
use Rattle.true_records.proofs.Kept.{are_kept}
use Rattle.true_records.proofs.recording.record.Goals as goal

pub kept-told-requires : goal.kept-told-requires
kept-told-requires c =
    are_kept c.class_files_are_a_profile.ensures c.fitting_records_are_formed.ensures c.true_records_change_nothing.ensures.kept
    (asked c.args.p.now c.args.test.now c.args.limits c.args.limit) c.in_ok-recorded.recorded c.requires.reusable c.in_ok-recorded.ensures.entry

pub returns-clause-entry : goal.returns-clause-entry
returns-clause-entry c =
    subst (IsRecordedOf (asked c.args.p.now c.args.test.now c.args.limits c.args.limit)) (sym c.kept-told.ensures) c.in_ok-recorded.ensures.entry
