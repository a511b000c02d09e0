use Rattle.std.proofs.Common.{rules, ◌∙◌, ap, not}
use Rattle.std.specs.Prelude.{filter}
use Rattle.std.proofs.lemmas.Fn.{filter_same}
use Rattle.history_rules.specs.Histories.{is_failed}
use Rattle.history_file.specs.Rows.{outcome_of}
use Rattle.history_file.proofs.records.without_failed.Goals as goal

pub returns : goal.returns
returns c = λ texts.
    c.from_vec.ensures
    ∙ filter_same _ (λ r. not (is_failed (outcome_of texts r.end))) _ (λ x b f' k. search rules) _ _ c.retain.ensures.filtered
    ∙ ap (filter (λ r. not (is_failed (outcome_of texts r.end)))) c.into_vec-rows.ensures
