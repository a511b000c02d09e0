use Rattle.std.proofs.Common.{◌++◌, ◌∙◌, codes, ap}
use Rattle.report_schema.specs.Report.{text_or_empty, source_of}
use Rattle.report_pieces.specs.Pieces.{quoted, mutants_text}
use Rattle.report_pieces.proofs.Growing.{six}
use Rattle.report_pieces.proofs.files.put_file.Goals as goal

pub returns : goal.returns
returns c =
    let input = c.args.input.now in
    six c.args.text.now (quoted (text_or_empty c.args.group.now.key)) (codes ":{\"language\":\"java\",\"mutants\":[") (mutants_text c.args.ids.now input.mutants input.verdicts c.args.group.now.numbers) (codes ",\"source\":") (quoted (source_of input.sources c.args.index)) (codes "}") c.put_string.new.text c.put.new.text c.put_mutants.new.text c.put-2.new.text c.put_string-2.new.text c.put-3.new.text
    (c.in_ok-put_string.ensures ∙ ap (λ s. c.args.text.now ++ quoted s) (c.text_or_empty.ensures ∙ ap text_or_empty c.as_slice.ensures))
    c.in_ok-put.ensures
    (c.in_ok-put_mutants.ensures ∙ (λ i. c.put.new.text ++ mutants_text c.args.ids.now (c.as_slice-2.ensures i) (c.as_slice-3.ensures i) (c.as_slice-4.ensures i)))
    c.in_ok-put-2.ensures
    (c.in_ok-put_string-2.ensures ∙ ap (λ s. c.put-2.new.text ++ quoted s) (c.source_of.ensures ∙ ap (λ ss. source_of ss c.args.index) c.as_slice-5.ensures))
    c.in_ok-put-3.ensures
