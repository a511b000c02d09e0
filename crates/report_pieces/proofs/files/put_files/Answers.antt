use Rattle.std.proofs.Common.{◌++◌}
use Rattle.report_pieces.specs.Pieces.{files_text}
use Rattle.report_pieces.proofs.Growing.{file_more}
use Rattle.report_pieces.proofs.files.put_files.Goals as goal

pub loop-index-preserved : goal.loop-index-preserved
loop-index-preserved c = file_more c.args.ids.now c.args.input.now c.args.groups.now c.loop-index.index c.index-groups-index.result (c.args.text.now ++ files_text c.args.ids.now c.args.input.now c.args.groups.now) c.loop-index.text c.put_comma.new.text c.put_file.new.text c.loop-index.later c.put_comma.new.later c.loop-index-test.true c.index-groups-index.is c.in_ok-put_comma.ensures.text c.in_ok-put_comma.ensures.later c.in_ok-put_file.ensures c.loop-index.invariant
