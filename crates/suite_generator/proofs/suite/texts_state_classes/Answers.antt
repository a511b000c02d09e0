use Rattle.suite_generator.proofs.StatedLaws.{texts_state}
use Rattle.suite_generator.proofs.suite.texts_state_classes.Goals as goal

pub returns : goal.returns
returns c = texts_state
