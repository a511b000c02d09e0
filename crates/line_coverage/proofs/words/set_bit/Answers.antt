use Rattle.line_coverage.proofs.Walks.{bit_set}
use Rattle.line_coverage.proofs.words.set_bit.Goals as goal

pub returns : goal.returns
returns c = bit_set c.args.words.now c.args.at c.args.bit c.requires.at c.requires.bit
