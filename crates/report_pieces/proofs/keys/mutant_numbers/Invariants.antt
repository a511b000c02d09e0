use Rattle.std.proofs.Common.{◌≡◌, ◌++◌, drop}
use Rattle.report_pieces.specs.FileKey.{keys_in, files_in, mutant_keys}
use Rattle.report_pieces.specs.Groups.{keys_at}
use Rattle.report_pieces.proofs.keys.mutant_numbers.Given as goal

abbrev pub invariant-loop-mutant : goal.invariant-loop-mutant
invariant-loop-mutant l = keys_at (keys_in l.program) l.numbers.items ++ mutant_keys (files_in l.program) (drop l.mutant-index l.mutants) ≡ mutant_keys (files_in l.program) l.mutants
