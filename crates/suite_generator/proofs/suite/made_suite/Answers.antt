use Rattle.suite_generator.specs.Texts.{class_text, test_text}
use Rattle.suite_generator.proofs.SuiteLaws.{one_more}
use Rattle.suite_generator.proofs.suite.made_suite.Goals as goal

pub loop-number-preserved : goal.loop-number-preserved
loop-number-preserved c = record {
  classes = one_more class_text c.loop-number.number c.loop-number.classes.items c.push.new.self.items c.in_ok-class.class c.in_ok-push.ensures.items c.loop-number.invariant.classes c.in_ok-class.ensures;
  tests = one_more test_text c.loop-number.number c.loop-number.tests.items c.push-in-loop-number.new.self.items c.in_ok-test.test c.in_ok-push-2.ensures.items c.loop-number.invariant.tests c.in_ok-test.ensures;
}
