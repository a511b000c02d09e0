use Rattle.std.proofs.Common.{◌≡◌, drop}
use Rattle.report_pieces.specs.FileKey.{stated_among}
use Rattle.report_pieces.proofs.class_file.stated_among.Given as goal

abbrev pub invariant-loop-attr : goal.invariant-loop-attr
invariant-loop-attr l = stated_among l.pool (drop l.attr-index l.attrs) ≡ stated_among l.pool l.attrs
