use Rattle.std.proofs.Common.{◌≡◌, ◌++◌, drop}
use Rattle.report_pieces.specs.Pieces.{pieces_text, mutant_pieces, mutants_text}
use Rattle.report_pieces.proofs.mutants.put_mutants.Given as goal

abbrev pub invariant-loop-number : goal.invariant-loop-number
invariant-loop-number l = l.text ++ pieces_text 93 l.later (mutant_pieces l.ids l.mutants l.verdicts (drop l.number-index l.numbers)) ≡ l.fn.text ++ mutants_text l.ids l.mutants l.verdicts l.numbers
