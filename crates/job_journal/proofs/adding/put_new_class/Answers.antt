use Rattle.std.proofs.Common.{◌∙◌, ◌++◌, ℕ, List, ap}
use Rattle.run_journal.specs.Contents.{class_content}
use Rattle.run_journal.specs.Entries.{entry_bytes, good_entry}
use Rattle.job_journal.proofs.adding.put_new_class.Goals as goal

pub returns-clause-out : goal.returns-clause-out
returns-clause-out c =
    let is = c.as_slice-2.ensures ∙ c.in_ok-content.ensures ∙ ap (λ (x : List ℕ). class_content x) c.as_slice.ensures in
    c.in_ok-put_entry.ensures ∙ ap (λ (x : List ℕ). c.args.out.now ++ entry_bytes (good_entry x)) is
