use Rattle.std.proofs.Common.{◌++◌, ◌∙◌}
use Rattle.report_pieces.specs.Pieces.{mutant_piece, mutants_text}
use Rattle.report_pieces.proofs.Growing.{number_more, numbers_done}
use Rattle.report_pieces.proofs.mutants.put_mutants.Goals as goal

pub loop-number-preserved : goal.loop-number-preserved
loop-number-preserved c = number_more 93 (mutant_piece c.args.ids.now c.args.mutants.now c.args.verdicts.now) c.args.numbers.now c.loop-number.number-index (c.args.text.now ++ mutants_text c.args.ids.now c.args.mutants.now c.args.verdicts.now c.args.numbers.now) c.loop-number.text c.put_mutant_of.new.text c.loop-number.later c.put_mutant_of.new.later c.loop-number-test.true c.in_ok-put_mutant_of.ensures c.loop-number.invariant

pub returns : goal.returns
returns c = c.in_ok-put.ensures ∙ numbers_done 93 (mutant_piece c.args.ids.now c.args.mutants.now c.args.verdicts.now) c.args.numbers.now c.loop-number.number-index (c.args.text.now ++ mutants_text c.args.ids.now c.args.mutants.now c.args.verdicts.now c.args.numbers.now) c.loop-number.text c.loop-number.later c.loop-number-test.false c.loop-number.invariant
