use Rattle.std.proofs.Common.{◌++◌, ◌∙◌, codes, ap}
use Rattle.mutator_ops.specs.Printing.{id_text}
use Rattle.report_pieces.specs.Pieces.{quoted, ids_text}
use Rattle.report_pieces.proofs.Growing.{four}
use Rattle.report_pieces.proofs.mutants.put_covered.Goals as goal

pub returns : goal.returns
returns c =
    four c.args.text.now (codes "{\"coveredBy\":") (ids_text c.args.ids.now c.args.verdict.now.covering) (codes ",\"id\":") (quoted (id_text c.args.mutant.now)) c.put.new.text c.put_ids.new.text c.put-2.new.text c.put_string.new.text
    c.in_ok-put.ensures
    (c.in_ok-put_ids.ensures ∙ ap (λ ns. c.put.new.text ++ ids_text c.args.ids.now ns) c.as_slice.ensures)
    c.in_ok-put-2.ensures
    (c.in_ok-put_string.ensures ∙ ap (λ s. c.put-2.new.text ++ quoted s) (c.as_str.ensures.value ∙ c.in_ok-id.ensures))
