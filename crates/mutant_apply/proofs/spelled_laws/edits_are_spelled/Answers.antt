use Rattle.mutant_apply.proofs.SpelledKeeping.{edits_spelled}
use Rattle.mutant_apply.proofs.spelled_laws.edits_are_spelled.Goals as goal

pub returns : goal.returns
returns c = edits_spelled c.what_is_spelled_is_named.ensures c.what_is_spelled_is_written.ensures c.what_is_written_is_spelled.ensures c.edit_keeps_form.ensures c.applied_is_made.ensures
