use Rattle.std.proofs.Common.{refl}
use Rattle.record_rules.specs.declared.profile_number.TheConstants.{PROFILE_NUMBER}
use Rattle.run_journal.specs.Reading.{Parts}
use Rattle.job_journal.proofs.Standing.{opened, opened_loaded, safe_stands}
use Rattle.job_journal.proofs.state.JournalState.open.Goals as goal

pub invariant_of-state : goal.invariant_of-state
invariant_of-state g c =
    let o = c.in-Ok.ensures.opened in
    let parts : Parts = record { known = record { classes = c.in-Ok.numbers; records = c.in-Ok.records }; closing = o.closing } in
    (opened g.M.KnownRecord.holds PROFILE_NUMBER (g.K.Keeper.kept c.args.keeper) (g.K.Keeper.kept c.open_text.new.keeper) (g.K.Keeper.durable c.open_text.new.keeper) (g.K.Keeper.writing c.open_text.new.keeper) c.new-tables.result c.len.result parts o.read o.grown o.synced c.new-tables.ensures.numbers c.new-tables.ensures.tables c.len.ensures).0

pub returns-in-Ok-clause-loaded : goal.returns-in-Ok-clause-loaded
returns-in-Ok-clause-loaded g c =
    let o = c.in-Ok.ensures.opened in
    let parts : Parts = record { known = record { classes = c.in-Ok.numbers; records = c.in-Ok.records }; closing = o.closing } in
    opened_loaded PROFILE_NUMBER (g.K.Keeper.kept c.args.keeper) (g.K.Keeper.kept c.open_text.new.keeper) c.len.result parts o.read o.grown c.len.ensures

pub returns-in-Ok-clause-safe : goal.returns-in-Ok-clause-safe
returns-in-Ok-clause-safe g c =
    let o = c.in-Ok.ensures.opened in
    let parts : Parts = record { known = record { classes = c.in-Ok.numbers; records = c.in-Ok.records }; closing = o.closing } in
    let keeps = (opened g.M.KnownRecord.holds PROFILE_NUMBER (g.K.Keeper.kept c.args.keeper) (g.K.Keeper.kept c.open_text.new.keeper) (g.K.Keeper.durable c.open_text.new.keeper) (g.K.Keeper.writing c.open_text.new.keeper) c.new-tables.result c.len.result parts o.read o.grown o.synced c.new-tables.ensures.numbers c.new-tables.ensures.tables c.len.ensures).0 in
    safe_stands PROFILE_NUMBER (g.K.Keeper.durable c.open_text.new.keeper) c.len.result c.new-tables.result (g.K.Keeper.kept c.open_text.new.keeper) (keeps.current refl)
