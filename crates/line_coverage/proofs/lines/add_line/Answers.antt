use Rattle.std.proofs.Common.{◌∙◌, [], Some, ap, rules, subst, sym}
use Rattle.std.specs.HashMap.{UpdatesBy}
use Rattle.std.specs.Option.{option_map_or}
use Rattle.line_coverage.specs.Lines.{same_line}
use Rattle.line_coverage.proofs.Kept.{line_added, line_kept, words_lent}
use Rattle.line_coverage.proofs.lines.add_line.Goals as goal

pub returns-clause-ok : goal.returns-clause-ok
returns-clause-ok c = λ p t.
    let written = c.lines-3-1.given.1 (search rules) in
    line_added c.args.lines.now c.lines-3-1.given.0 c.args.line c.or_default-words.result.now.items c.add_test.new.words t c.args.test
    (subst (λ n. UpdatesBy same_line (same_line c.args.line) c.args.lines.now n (Some c.add_test.new.words)) (sym written) (c.in_ok-lines.ensures.update.0 c.add_test.new.words))
    (words_lent _ c.or_default-words.result.now c.or_default-words.ensures.value ∙ ap (λ o. option_map_or (λ ws. ws.items) o []) c.in_ok-lines.ensures.value)
    (c.in_ok-add_test.ensures.ok t) p

pub returns-clause-others : goal.returns-clause-others
returns-clause-others c = λ p t apart.
    let written = c.lines-3-1.given.1 (search rules) in
    line_kept c.args.lines.now c.lines-3-1.given.0 c.args.line c.or_default-words.result.now.items c.add_test.new.words t
    (subst (λ n. UpdatesBy same_line (same_line c.args.line) c.args.lines.now n (Some c.add_test.new.words)) (sym written) (c.in_ok-lines.ensures.update.0 c.add_test.new.words))
    (words_lent _ c.or_default-words.result.now c.or_default-words.ensures.value ∙ ap (λ o. option_map_or (λ ws. ws.items) o []) c.in_ok-lines.ensures.value)
    (c.add_test.ensures.others t apart) p

pub returns-in_err-add_test-clause-others : goal.returns-in_err-add_test-clause-others
returns-in_err-add_test-clause-others c = λ p t apart.
    let written = c.lines-3-1.given.1 (search rules) in
    line_kept c.args.lines.now c.lines-3-1.given.0 c.args.line c.or_default-words.result.now.items c.add_test.new.words t
    (subst (λ n. UpdatesBy same_line (same_line c.args.line) c.args.lines.now n (Some c.add_test.new.words)) (sym written) (c.in_ok-lines.ensures.update.0 c.add_test.new.words))
    (words_lent _ c.or_default-words.result.now c.or_default-words.ensures.value ∙ ap (λ o. option_map_or (λ ws. ws.items) o []) c.in_ok-lines.ensures.value)
    (c.add_test.ensures.others t apart) p
