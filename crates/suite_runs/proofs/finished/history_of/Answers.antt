use Rattle.std.proofs.Common.{subst, sym}
use Rattle.history_file.specs.Rows.{Numbered}
use Rattle.suite_workers.specs.declared.old_records.OldRecords.{OldRecords}
use Rattle.suite_runs.specs.Ending.{numbered_in}
use Rattle.suite_runs.specs.Keeping.{NewEnds}
use Rattle.suite_runs.proofs.finished.history_of.Goals as goal

pub returns-in-None : goal.returns-in-None
returns-in-None c =
    subst (λ (o : OldRecords). NewEnds (numbered_in o) c.args.needed.now c.new_of.result) (sym c.in-None.is)
    (subst (λ (h : Numbered). NewEnds h c.args.needed.now c.new_of.result) c.new-none.ensures c.new_of.ensures)

pub returns-in-Of : goal.returns-in-Of
returns-in-Of c =
    subst (λ (o : OldRecords). NewEnds (numbered_in o) c.args.needed.now c.new_of-in-Of.result) (sym c.in-Of.is)
    (subst (λ (h : Numbered). NewEnds h c.args.needed.now c.new_of-in-Of.result) c.history.ensures c.new_of-in-Of.ensures)
