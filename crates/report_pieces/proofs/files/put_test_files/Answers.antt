use Rattle.std.proofs.Common.{◌++◌}
use Rattle.report_pieces.specs.Pieces.{test_files_text}
use Rattle.report_pieces.proofs.Growing.{test_file_more}
use Rattle.report_pieces.proofs.files.put_test_files.Goals as goal

pub loop-group-preserved : goal.loop-group-preserved
loop-group-preserved c = test_file_more c.args.tests.now c.args.groups.now c.loop-group.group-index c.group-item.result (c.args.text.now ++ test_files_text c.args.tests.now c.args.groups.now) c.loop-group.text c.put_comma.new.text c.put_test_file.new.text c.loop-group.later c.put_comma.new.later c.loop-group-test.true c.group-item.is c.in_ok-put_comma.ensures.text c.in_ok-put_comma.ensures.later c.in_ok-put_test_file.ensures c.loop-group.invariant
