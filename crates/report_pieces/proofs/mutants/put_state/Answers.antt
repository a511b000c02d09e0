use Rattle.std.proofs.Common.{◌++◌, ◌∙◌, codes, ap}
use Rattle.class_model.specs.MutatorName.{mutator_name}
use Rattle.report_schema.specs.Report.{status, status_reason}
use Rattle.report_pieces.specs.Pieces.{quoted, reason_text}
use Rattle.report_pieces.proofs.Growing.{six}
use Rattle.report_pieces.proofs.mutants.put_state.Goals as goal

pub returns : goal.returns
returns c =
    six c.args.text.now (codes ",\"mutatorName\":") (quoted (mutator_name c.args.mutant.now.mutator)) (codes ",\"status\":") (quoted (status c.args.state.now)) (reason_text (status_reason c.args.state.now)) (codes "}") c.put.new.text c.put_string.new.text c.put-2.new.text c.put_string-2.new.text c.put_reason.new.text c.put-3.new.text
    c.in_ok-put.ensures
    (c.in_ok-put_string.ensures ∙ ap (λ s. c.put.new.text ++ quoted s) c.name.ensures)
    c.in_ok-put-2.ensures
    (c.in_ok-put_string-2.ensures ∙ ap (λ s. c.put-2.new.text ++ quoted s) c.status.ensures)
    c.in_ok-put_reason.ensures
    c.in_ok-put-3.ensures
