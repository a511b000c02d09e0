use Rattle.suite_generator.proofs.texts.class_text.Goals as goal

pub returns : goal.returns
returns c = c.in_ok-text.ensures.ok
