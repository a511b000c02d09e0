use Rattle.std.proofs.Common.{◌++◌, ◌∙◌, ap}
use Rattle.report_schema.specs.Report.{line_from_1}
use Rattle.report_pieces.specs.Pieces.{id_pieces, covered_text, killers_text, location_text, state_text}
use Rattle.report_pieces.proofs.Growing.{four}
use Rattle.report_pieces.proofs.mutants.put_mutant.Goals as goal

pub returns : goal.returns
returns c =
    four c.args.text.now (covered_text c.args.ids.now c.args.mutant.now c.args.verdict.now) (killers_text (id_pieces c.args.ids.now c.args.verdict.now.killers)) (location_text (line_from_1 c.args.mutant.now.line)) (state_text c.args.mutant.now c.args.verdict.now.state) c.put_covered.new.text c.put_killers.new.text c.put_location.new.text c.put_state.new.text
    c.in_ok-put_covered.ensures
    (c.in_ok-put_killers.ensures ∙ ap (λ ns. c.put_covered.new.text ++ killers_text (id_pieces c.args.ids.now ns)) c.as_slice.ensures)
    (c.in_ok-put_location.ensures ∙ ap (λ n. c.put_killers.new.text ++ location_text n) c.line_from_1.ensures)
    c.in_ok-put_state.ensures
