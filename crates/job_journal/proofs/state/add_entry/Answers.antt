use Rattle.std.proofs.Common.{ℕ, List, Option, Some, false, refl, sym, subst}
use Rattle.record_rules.specs.declared.profile_number.TheConstants.{PROFILE_NUMBER}
use Rattle.record_rules.specs.declared.record.RunRecord.{RunRecord}
use Rattle.job_journal.specs.Tables.{Adds}
use Rattle.job_journal.proofs.Standing.{stopped, found_keeps, grown_keeps, broken_keeps, on_ok, on_err, by_err, grown_either, same_grown, gains, found_gains, not_again}
use Rattle.job_journal.proofs.state.add_entry.Goals as goal

pub returns-in_err-added-clause-err : goal.returns-in_err-added-clause-err
returns-in_err-added-clause-err g c =
    by_err c.from_residual.result
    (λ more le. stopped g.M.KnownRecord.holds PROFILE_NUMBER (g.K.Keeper.kept c.args.keeper.now) (g.K.Keeper.durable c.args.keeper.now) (g.K.Keeper.writing c.args.keeper.now) (g.K.Keeper.writing c.args.keeper.now) c.args.tables.now c.add.new.self c.args.loaded false 0 more c.requires.keeps le)

pub returns-in_err-added-clause-longer : goal.returns-in_err-added-clause-longer
returns-in_err-added-clause-longer g c = same_grown (g.K.Keeper.kept c.args.keeper.now)

pub returns-in-None-clause-ok : goal.returns-in-None-clause-ok
returns-in-None-clause-ok g c =
    (found_keeps g.M.KnownRecord.holds PROFILE_NUMBER (g.K.Keeper.kept c.args.keeper.now) (g.K.Keeper.durable c.args.keeper.now) (g.K.Keeper.writing c.args.keeper.now) c.args.tables.now c.add.new.self c.args.loaded 0 c.entry-entry.result.now c.requires.keeps
    (subst (λ (o : Option (List ℕ)). Adds c.entry-entry.result.now c.args.tables.now c.add.new.self o) c.in-None.is c.in_ok-added.ensures)).0

pub returns-in-None-clause-kept : goal.returns-in-None-clause-kept
returns-in-None-clause-kept g c =
    (found_keeps g.M.KnownRecord.holds PROFILE_NUMBER (g.K.Keeper.kept c.args.keeper.now) (g.K.Keeper.durable c.args.keeper.now) (g.K.Keeper.writing c.args.keeper.now) c.args.tables.now c.add.new.self c.args.loaded 0 (g.M.KnownRecord.entry c.args.made.now) c.requires.keeps
    (subst (λ (o : Option (List ℕ)). Adds (g.M.KnownRecord.entry c.args.made.now) c.args.tables.now c.add.new.self o) c.in-None.is
    (subst (λ (r : RunRecord). Adds r c.args.tables.now c.add.new.self c.in_ok-added.added) c.entry-entry.ensures.value c.in_ok-added.ensures))).1

pub returns-in-None-clause-gained : goal.returns-in-None-clause-gained
returns-in-None-clause-gained g c =
    found_gains PROFILE_NUMBER (g.K.Keeper.durable c.args.keeper.now) c.args.loaded (g.K.Keeper.kept c.args.keeper.now) (g.K.Keeper.kept c.args.keeper.now) c.args.tables.now c.add.new.self (g.M.KnownRecord.entry c.args.made.now) (c.requires.keeps.current refl)
    (subst (λ (o : Option (List ℕ)). Adds (g.M.KnownRecord.entry c.args.made.now) c.args.tables.now c.add.new.self o) c.in-None.is
    (subst (λ (r : RunRecord). Adds r c.args.tables.now c.add.new.self c.in_ok-added.added) c.entry-entry.ensures.value c.in_ok-added.ensures))

pub returns-in-None-clause-longer : goal.returns-in-None-clause-longer
returns-in-None-clause-longer g c = same_grown (g.K.Keeper.kept c.args.keeper.now)

pub returns-in-Some-clause-ok : goal.returns-in-Some-clause-ok
returns-in-Some-clause-ok g c =
    let r = g.M.KnownRecord.entry c.args.made.now in
    let adds = subst (λ (o : Option (List ℕ)). Adds r c.args.tables.now c.add.new.self o) c.in-Some.is (subst (λ (x : RunRecord). Adds x c.args.tables.now c.add.new.self c.in_ok-added.added) c.entry-entry.ensures.value c.in_ok-added.ensures) in
    on_ok c.put_piece.result
    (λ grows synced. (grown_keeps g.M.KnownRecord.holds PROFILE_NUMBER (g.K.Keeper.kept c.args.keeper.now) (g.K.Keeper.kept c.put_piece.new.keeper) (g.K.Keeper.durable c.args.keeper.now) (g.K.Keeper.durable c.put_piece.new.keeper) (g.K.Keeper.writing c.args.keeper.now) (g.K.Keeper.writing c.put_piece.new.keeper) c.args.tables.now c.add.new.self c.args.loaded 0 c.as_slice-bytes.result.now r c.requires.form c.entry-entry.ensures.known c.requires.keeps
    (subst (λ (x : List ℕ). Adds r c.args.tables.now c.add.new.self (Some x)) (sym c.as_slice-bytes.ensures) adds) grows synced c.put_piece.ensures.cause.later).0)
    c.put_piece.ensures.ok c.put_piece.ensures.synced

pub returns-in-Some-clause-kept : goal.returns-in-Some-clause-kept
returns-in-Some-clause-kept g c =
    let r = g.M.KnownRecord.entry c.args.made.now in
    let adds = subst (λ (o : Option (List ℕ)). Adds r c.args.tables.now c.add.new.self o) c.in-Some.is (subst (λ (x : RunRecord). Adds x c.args.tables.now c.add.new.self c.in_ok-added.added) c.entry-entry.ensures.value c.in_ok-added.ensures) in
    on_ok c.put_piece.result
    (λ grows synced. (grown_keeps g.M.KnownRecord.holds PROFILE_NUMBER (g.K.Keeper.kept c.args.keeper.now) (g.K.Keeper.kept c.put_piece.new.keeper) (g.K.Keeper.durable c.args.keeper.now) (g.K.Keeper.durable c.put_piece.new.keeper) (g.K.Keeper.writing c.args.keeper.now) (g.K.Keeper.writing c.put_piece.new.keeper) c.args.tables.now c.add.new.self c.args.loaded 0 c.as_slice-bytes.result.now r c.requires.form c.entry-entry.ensures.known c.requires.keeps
    (subst (λ (x : List ℕ). Adds r c.args.tables.now c.add.new.self (Some x)) (sym c.as_slice-bytes.ensures) adds) grows synced c.put_piece.ensures.cause.later).1)
    c.put_piece.ensures.ok c.put_piece.ensures.synced

pub returns-in-Some-clause-gained : goal.returns-in-Some-clause-gained
returns-in-Some-clause-gained g c =
    let r = g.M.KnownRecord.entry c.args.made.now in
    let adds = subst (λ (o : Option (List ℕ)). Adds r c.args.tables.now c.add.new.self o) c.in-Some.is (subst (λ (x : RunRecord). Adds x c.args.tables.now c.add.new.self c.in_ok-added.added) c.entry-entry.ensures.value c.in_ok-added.ensures) in
    on_ok c.put_piece.result
    (λ grows synced. gains PROFILE_NUMBER (g.K.Keeper.durable c.args.keeper.now) c.args.loaded (g.K.Keeper.kept c.args.keeper.now) (g.K.Keeper.kept c.put_piece.new.keeper) c.args.tables.now c.add.new.self c.as_slice-bytes.result.now r (c.requires.keeps.current refl)
    (subst (λ (x : List ℕ). Adds r c.args.tables.now c.add.new.self (Some x)) (sym c.as_slice-bytes.ensures) adds) grows)
    c.put_piece.ensures.ok c.put_piece.ensures.synced

pub returns-in-Some-clause-again : goal.returns-in-Some-clause-again
returns-in-Some-clause-again g c = λ is.
    let r = g.M.KnownRecord.entry c.args.made.now in
    let adds = subst (λ (o : Option (List ℕ)). Adds r c.args.tables.now c.add.new.self o) c.in-Some.is (subst (λ (x : RunRecord). Adds x c.args.tables.now c.add.new.self c.in_ok-added.added) c.entry-entry.ensures.value c.in_ok-added.ensures) in
    absurd (not_again PROFILE_NUMBER (g.K.Keeper.durable c.args.keeper.now) c.args.loaded (g.K.Keeper.kept c.args.keeper.now) c.args.tables.now c.add.new.self _ r (c.requires.keeps.current refl) adds is)

pub returns-in-Some-clause-err : goal.returns-in-Some-clause-err
returns-in-Some-clause-err g c =
    let r = g.M.KnownRecord.entry c.args.made.now in
    let adds = subst (λ (o : Option (List ℕ)). Adds r c.args.tables.now c.add.new.self o) c.in-Some.is (subst (λ (x : RunRecord). Adds x c.args.tables.now c.add.new.self c.in_ok-added.added) c.entry-entry.ensures.value c.in_ok-added.ensures) in
    on_err c.put_piece.result
    (λ grows more le. broken_keeps g.M.KnownRecord.holds PROFILE_NUMBER (g.K.Keeper.kept c.args.keeper.now) (g.K.Keeper.kept c.put_piece.new.keeper) (g.K.Keeper.durable c.args.keeper.now) (g.K.Keeper.durable c.put_piece.new.keeper) (g.K.Keeper.writing c.args.keeper.now) (g.K.Keeper.writing c.put_piece.new.keeper) c.args.tables.now c.add.new.self c.args.loaded 0 more c.as_slice-bytes.result.now grows.0 r c.requires.form c.entry-entry.ensures.known c.requires.keeps
    (subst (λ (x : List ℕ). Adds r c.args.tables.now c.add.new.self (Some x)) (sym c.as_slice-bytes.ensures) adds) grows.1 grows.2 c.put_piece.ensures.durable le)
    c.put_piece.ensures.err

pub returns-in-Some-clause-longer : goal.returns-in-Some-clause-longer
returns-in-Some-clause-longer g c = grown_either c.put_piece.result (g.K.Keeper.kept c.args.keeper.now) (g.K.Keeper.kept c.put_piece.new.keeper) c.as_slice-bytes.result.now c.put_piece.ensures.ok c.put_piece.ensures.err
