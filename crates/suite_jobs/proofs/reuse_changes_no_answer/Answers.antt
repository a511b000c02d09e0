use Rattle.suite_jobs.proofs.Same.{stay_the_same}
use Rattle.suite_jobs.proofs.Alike.{no_answer, new_true}
use Rattle.suite_jobs.proofs.reuse_changes_no_answer.Goals as goal

pub returns : goal.returns
returns c =
    let own = c.runs_are_own.ensures in
    let same = stay_the_same own in
    record { runs = same; answer = no_answer own same; records = new_true own }
