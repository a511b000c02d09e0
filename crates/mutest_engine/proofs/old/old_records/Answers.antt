use Rattle.std.proofs.Common.{◌∙◌, Ok, ap, sym, subst}
use Rattle.std.specs.Prelude.{All}
use Rattle.history_file.specs.Rows.{Numbered, records_of}
use Rattle.history_rules.specs.Laws.{IsFormed}
use Rattle.mutest_engine.proofs.old.old_records.Goals as goal

pub returns-clause-value : goal.returns-clause-value
returns-clause-value c = c.in_ok-history.ensures.value ∙ ap (λ (h : Numbered). Ok (records_of h)) (sym c.in_ok-index.ensures)

pub returns-clause-form : goal.returns-clause-form
returns-clause-form c = subst (λ (h : Numbered). All IsFormed (records_of h)) (sym c.in_ok-index.ensures) c.in_ok-history.ensures.form
