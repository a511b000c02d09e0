use Rattle.std.proofs.Common.{◌∙◌, List, subst}
use Rattle.history_rules.specs.Entries as history
use Rattle.new_history.specs.Numbering.{NumbersEntries}
use Rattle.new_history.proofs.Taking.{row_put}
use Rattle.new_history.proofs.rows.made_row.Goals as goal

pub returns : goal.returns
returns c =
    row_put c.args.numbers.now c.name.new.self c.name-2.new.self c.end.new.self c.entries.new.self c.args.made.now c.in_ok-test_class.test_class c.in_ok-test_method.test_method c.in_ok-end.end c.in_ok-consulted.consulted c.in_ok-reached.reached
    c.in_ok-test_class.ensures c.in_ok-test_method.ensures c.in_ok-end.ensures
    (subst (λ (es : List history.Entry). NumbersEntries es c.end.new.self c.entries.new.self c.in_ok-consulted.consulted) c.as_slice.ensures c.in_ok-consulted.ensures)
    (c.in_ok-reached.ensures ∙ c.as_slice-2.ensures)
