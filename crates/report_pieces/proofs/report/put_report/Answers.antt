use Rattle.std.proofs.Common.{◌++◌, ◌∙◌, codes, ap}
use Rattle.report_pieces.specs.Pieces.{files_text, test_files_text}
use Rattle.report_pieces.proofs.Growing.{five}
use Rattle.report_pieces.proofs.report.put_report.Goals as goal

pub returns : goal.returns
returns c =
    let input = c.args.input.now in
    five c.args.text.now (codes "{\"files\":{") (files_text c.args.ids.now input input.files) (codes ",\"schemaVersion\":\"1\",\"testFiles\":{") (test_files_text input.tests input.test_files) (codes ",\"thresholds\":{\"high\":80,\"low\":60}}") c.put.new.text c.put_files.new.text c.put-2.new.text c.put_test_files.new.text c.put-3.new.text
    c.in_ok-put.ensures
    (c.in_ok-put_files.ensures ∙ ap (λ gs. c.put.new.text ++ files_text c.args.ids.now input gs) c.as_slice.ensures)
    c.in_ok-put-2.ensures
    (c.in_ok-put_test_files.ensures ∙ (λ i. c.put-2.new.text ++ test_files_text (c.as_slice-2.ensures i) (c.as_slice-3.ensures i)))
    c.in_ok-put-3.ensures
