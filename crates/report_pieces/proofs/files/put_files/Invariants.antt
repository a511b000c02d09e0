use Rattle.std.proofs.Common.{◌≡◌, ◌++◌, drop}
use Rattle.report_pieces.specs.Pieces.{pieces_text, file_pieces, files_text}
use Rattle.report_pieces.proofs.files.put_files.Given as goal

abbrev pub invariant-loop-index : goal.invariant-loop-index
invariant-loop-index l = l.text ++ pieces_text 125 l.later (file_pieces l.ids l.input l.index (drop l.index l.groups)) ≡ l.fn.text ++ files_text l.ids l.input l.groups
