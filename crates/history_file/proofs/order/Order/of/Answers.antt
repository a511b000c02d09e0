use Rattle.std.proofs.Common.{◌∙◌, ℕ, [], List, length, ap₂, subst, sym}
use Rattle.history_rules.specs.Histories.{classes_behind}
use Rattle.history_file.specs.Writing.{AreRows, records_in}
use Rattle.history_file.proofs.order.Order.of.Goals as goal

pub put_rows-requires-clause-there : goal.put_rows-requires-clause-there
put_rows-requires-clause-there c = subst (λ (cs : List (List ℕ)). AreRows (length cs) c.args.rows.now) (sym c.in_ok-order.ensures.classes) c.requires.rows

pub returns-clause-order : goal.returns-clause-order
returns-clause-order c = (c.in_ok-put_rows.ensures []).order

pub returns-clause-classes : goal.returns-clause-classes
returns-clause-classes c = (c.in_ok-put_rows.ensures []).classes ∙ c.in_ok-order.ensures.classes

pub returns-clause-used : goal.returns-clause-used
returns-clause-used c = λ texts.
    (c.in_ok-put_rows.ensures texts).used
    ∙ ap₂ (λ (used classes : List (List ℕ)). classes_behind used (records_in texts classes c.args.rows.now)) c.in_ok-order.ensures.used c.in_ok-order.ensures.classes
