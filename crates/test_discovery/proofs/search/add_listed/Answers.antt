use Rattle.std.proofs.Common.{◌≡◌, ◌∙◌, sym, ap, true}
use Rattle.std.specs.List.{flat_map}
use Rattle.test_discovery.specs.declared.marks.Part.TheVariants.{After, AfterAll}
use Rattle.test_discovery.specs.Rules.{is_test_class}
use Rattle.test_discovery.specs.Scripts.{calls_as, fixture_with}
use Rattle.test_discovery.proofs.Whole.{adds_listed}
use Rattle.test_discovery.proofs.search.add_listed.Goals as goal

pub returns : goal.returns
returns c =
    let flat = c.as_slice-5.result.now in
    let after = c.in_ok-after.ensures ∙ ap (flat_map (calls_as After)) c.as_slice.ensures.value in
    let after_all = c.in_ok-after_all.ensures ∙ ap (flat_map (calls_as AfterAll)) c.as_slice-2.ensures.value in
    let test : is_test_class c.args.class.now flat ≡ true =
    ap (is_test_class c.args.class.now) (c.as_slice-5.ensures ∙ sym c.as_slice-3.ensures) ∙ sym c.is_test_class.ensures ∙ c.if-not-is_test_class.false in
    adds_listed c.args.class.now c.args.by_class.items flat c.in_ok-fixture.fixture c.args.tests.now c.add_checked.new.tests c.add_checked.result (c.as_slice-5.ensures ∙ c.in_ok-listed.ensures) test
    (c.in_ok-fixture.ensures
    ∙ ap (λ l. fixture_with l c.in_ok-after.after c.in_ok-after_all.after_all) (c.as_slice-4.ensures ∙ sym c.as_slice-5.ensures)
    ∙ ap (λ a. fixture_with flat a c.in_ok-after_all.after_all) after
    ∙ ap (λ a. fixture_with flat (flat_map (calls_as After) c.args.by_class.items) a) after_all) c.add_checked.ensures
