use Rattle.std.proofs.Common.{refl, subst, sym}
use Rattle.history_file.specs.Rows.{IsNumbered}
use Rattle.new_history.specs.declared.needed.Needed.{Needed}
use Rattle.new_history.specs.declared.needed.Needed.TheVariants.{Old}
use Rattle.suite_workers.specs.declared.said.KnownRun.{KnownRun}
use Rattle.suite_runs.specs.Keeping.{IsKeptAs, IsOf}
use Rattle.suite_runs.proofs.KeptAs.{found_kept}
use Rattle.suite_runs.proofs.records.needed_of.Goals as goal

pub returns-in-Some : goal.returns-in-Some
returns-in-Some c = λ h of.
    let x : Needed = Old c.in-Some.row c.in-Found.found.limit in
    subst (λ (k : KnownRun). IsKeptAs h k x) (sym c.in-Found.is)
    (found_kept h c.in-Found.found c.in-Some.row.now x (subst IsNumbered c.history-history.ensures c.texts-texts.ensures.known) (subst (IsOf h) c.in-Found.is of) c.in-Some.ensures c.limit_fits.ensures refl (λ r. r))
