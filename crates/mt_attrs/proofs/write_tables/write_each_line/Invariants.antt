use Rattle.std.proofs.Common.{◌≡◌, ◌++◌, take}
use Rattle.std.specs.List.{flat_map}
use Rattle.mt_attrs.specs.Lines.{line_bytes}
use Rattle.mt_attrs.proofs.write_tables.write_each_line.Given as goal

abbrev pub invariant-loop-line : goal.invariant-loop-line
invariant-loop-line l = l.out ≡ l.fn.out ++ flat_map (line_bytes l.starts) (take l.line-index l.lines)
