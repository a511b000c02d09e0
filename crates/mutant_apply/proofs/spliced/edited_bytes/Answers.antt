use Rattle.std.proofs.Common.{◌≡◌, rules, Some}
use Rattle.std.specs.Prelude.{slice_get}
use Rattle.mutant_apply.proofs.spliced.edited_bytes.Goals as goal

pub edited_method-requires-clause-method : goal.edited_method-requires-clause-method
edited_method-requires-clause-method c = search rules
