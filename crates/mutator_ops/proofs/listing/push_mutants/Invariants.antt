use Rattle.std.proofs.Common.{◌≡◌, ◌++◌, take}
use Rattle.mutator_ops.specs.Mutants.{mutants_by}
use Rattle.mutator_ops.proofs.listing.push_mutants.Given as goal

abbrev pub invariant-loop-mutator : goal.invariant-loop-mutator
invariant-loop-mutator l = l.mutants ≡ l.initial.mutants ++ mutants_by (take l.mutator-index l.table) l.place l.at l.insn
