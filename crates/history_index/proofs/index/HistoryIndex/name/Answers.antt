use Rattle.std.proofs.Common.{◌≡◌, ◌∙◌, None, Some, ap, subst, sym}
use Rattle.std.specs.Prelude.{◌↔◌, IsTrue, if◌then◌else◌}
use Rattle.class_model.specs.Text.{text, units_of}
use Rattle.history_index.specs.Numbers.{number_in}
use Rattle.history_index.proofs.Named.{name_told}
use Rattle.history_index.proofs.index.HistoryIndex.name.Goals as goal

pub returns-clause-number : goal.returns-clause-number
returns-clause-number c =
    let texts = c.args.self.now.history.texts in
    let name = c.args.name.now in
    let spelled = c.in_ok-spelled.spelled in
    let is : c.as_slice-bytes.result.now ≡ text name = c.as_slice-bytes.ensures ∙ c.in_ok-text.ensures in
    let told = subst (λ b. IsTrue spelled ↔ (units_of b ≡ Some name)) is c.in_ok-spelled.ensures in
    c.number_of-number.ensures ∙ ap (λ b. if spelled then number_in texts b else None) is ∙ sym (name_told texts name spelled c.tests-tests.ensures.known.history.texts told)
