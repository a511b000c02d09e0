use Rattle.std.proofs.Common.{◌≡◌, take}
use Rattle.mutator_ops.specs.Printing.{id_lines}
use Rattle.mutator_ops.proofs.printing.id_lines.Given as goal

abbrev pub invariant-loop-m : goal.invariant-loop-m
invariant-loop-m l = l.text ≡ id_lines (take l.m-index l.mutants)
