use Rattle.std.proofs.Common.{◌∙◌, ap, ap₂, sym, Some, rules}
use Rattle.clap.specs.Words.{Rule, app_of, rule_of, with_rule}
use Rattle.clap.specs.declared.builder.action.ArgAction.TheVariants.{Set}
use Rattle.mutest_words.specs.Given.{plain_rule}
use Rattle.mutest_words.proofs.Parsed.{with_more}
use Rattle.mutest_words.proofs.given.with_plain.Goals as goal

pub loop-name-preserved : goal.loop-name-preserved
loop-name-preserved c =
    let made = c.action-plain.ensures in
    let rule = ap rule_of made ∙ ap (λ (r : Rule). record r { action = Some Set }) c.new.ensures.rule in
    let lt = c.loop-name-test.true in
    c.in_ok-command.ensures.shape (search rules)
    ∙ ap₂ with_rule c.loop-name.invariant rule
    ∙ sym (with_more plain_rule c.args.names.now c.loop-name.name-index _ (app_of c.args.command) (search rules))
