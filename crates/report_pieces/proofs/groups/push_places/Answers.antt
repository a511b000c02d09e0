use Rattle.std.proofs.Common.{arith}
use Rattle.std.proofs.lemmas.Grind.{text_groups}
use Rattle.report_pieces.proofs.groups.push_places.Goals as goal

pub returns-clause-lists : goal.returns-clause-lists
returns-clause-lists c = λ q. grind (arith, text_groups)

pub returns-clause-keys : goal.returns-clause-keys
returns-clause-keys c = λ q. grind (arith, text_groups)
