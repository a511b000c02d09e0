use Rattle.std.proofs.Common.{◌++◌, ◌∙◌, codes, ap}
use Rattle.report_schema.specs.Report.{text_or_empty}
use Rattle.report_pieces.specs.Pieces.{quoted, tests_text}
use Rattle.report_pieces.proofs.Growing.{four}
use Rattle.report_pieces.proofs.files.put_test_file.Goals as goal

pub returns : goal.returns
returns c =
    four c.args.text.now (quoted (text_or_empty c.args.group.now.key)) (codes ":{\"tests\":[") (tests_text c.args.tests.now c.args.group.now.numbers) (codes "}") c.put_string.new.text c.put.new.text c.put_tests.new.text c.put-2.new.text
    (c.in_ok-put_string.ensures ∙ ap (λ s. c.args.text.now ++ quoted s) (c.text_or_empty.ensures ∙ ap text_or_empty c.as_slice.ensures))
    c.in_ok-put.ensures
    (c.in_ok-put_tests.ensures ∙ ap (λ ns. c.put.new.text ++ tests_text c.args.tests.now ns) c.as_slice-2.ensures)
    c.in_ok-put-2.ensures
