use Rattle.std.proofs.Common.{◌≡◌, take, map}
use Rattle.lib_table.specs.Rows.{insn_of}
use Rattle.lib_table.proofs.building.insns.Given as goal

abbrev pub invariant-loop-row : goal.invariant-loop-row
invariant-loop-row l = l.insns.items ≡ map insn_of (take l.row-index l.rows)
