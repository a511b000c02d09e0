use Rattle.suite_generator.specs.Suite.{AreFilesOf}
use Rattle.suite_generator.specs.Texts.{class_text, test_text}
use Rattle.suite_generator.proofs.suite.made_suite.Given as goal

abbrev pub invariant-loop-number : goal.invariant-loop-number
invariant-loop-number l = record {
  classes : AreFilesOf class_text l.number l.classes.items;
  tests : AreFilesOf test_text l.number l.tests.items;
}
