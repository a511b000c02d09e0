use Rattle.mutest_words.proofs.Read.{are_read}
use Rattle.mutest_words.proofs.laws.commands_are_read.Goals as goal

pub returns : goal.returns
returns c = are_read
