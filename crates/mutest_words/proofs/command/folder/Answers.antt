use Rattle.mutest_words.proofs.WordLaws.{folder_stays}
use Rattle.mutest_words.proofs.command.folder.Goals as goal

pub returns-in-None : goal.returns-in-None
unfolding lib.Utf8.encode
returns-in-None c = folder_stays c.args.word.now c.in-None.ensures.cases
