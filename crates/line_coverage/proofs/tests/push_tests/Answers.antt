use Rattle.std.proofs.Common.{◌+◌, ◌*◌, ◌∙◌}
use Rattle.line_coverage.proofs.Walks.{at_place}
use Rattle.line_coverage.proofs.tests.push_tests.Goals as goal

pub push_place-requires : goal.push_place-requires
push_place-requires c = λ b below set. c.requires (64 * c.loop-at.at + b) (at_place c.args.words.now c.loop-at.at b below ∙ set)
