use Rattle.std.proofs.Common.{◌≡◌, subst}
use Rattle.suite_generator.specs.Stated.{StatesClass}
use Rattle.suite_generator.specs.Texts.{test_text}
use Rattle.suite_generator.proofs.suite.test_file.Goals as goal

pub assembled-requires : goal.assembled-requires
assembled-requires c =
    let bytes = c.in_ok-text.ensures in
    let lent = c.as_str.ensures.value in
    let same : test_text c.args.number ≡ c.as_str.result.now = cc in
    let both = c.texts_state_classes.ensures c.args.number c.requires in
    subst StatesClass same both.1
