use Rattle.std.proofs.Common.{◌∙◌}
use Rattle.line_coverage.proofs.Bits.{count_is}
use Rattle.line_coverage.proofs.tests.count_word.Goals as goal

pub returns : goal.returns
returns c = c.from.ensures ∙ count_is c.args.word c.ranges.word.fits
