use Rattle.std.proofs.Common.{◌∙◌, ap, ap₂, sym, Some, rules, slice_index_or}
use Rattle.clap.specs.Words.{Rule, app_of, rule_of, with_rule}
use Rattle.clap.specs.declared.builder.action.ArgAction.TheVariants.{SetTrue}
use Rattle.clap.specs.declared.builder.arg.Arg.{Arg}
use Rattle.mutest_words.specs.Given.{flag_rule}
use Rattle.mutest_words.proofs.Parsed.{with_more}
use Rattle.mutest_words.proofs.given.with_flags.Goals as goal

pub loop-name-preserved : goal.loop-name-preserved
loop-name-preserved c =
    let name = slice_index_or c.args.names.now c.loop-name.name-index _ in
    let made = c.action-flag.ensures ∙ ap (λ (a : Arg). record a { action = Some SetTrue }) c.long.ensures in
    let rule = ap rule_of made ∙ ap (λ (r : Rule). record r { long = Some name.now; action = Some SetTrue }) c.new.ensures.rule in
    let lt = c.loop-name-test.true in
    c.in_ok-command.ensures.shape (search rules)
    ∙ ap₂ with_rule c.loop-name.invariant rule
    ∙ sym (with_more flag_rule c.args.names.now c.loop-name.name-index _ (app_of c.args.command) (search rules))
