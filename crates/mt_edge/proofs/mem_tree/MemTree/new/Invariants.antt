use Rattle.std.proofs.Common.{◌≡◌}
use Rattle.mt_edge.specs.Held.{files_of, files_in}
use Rattle.mt_edge.proofs.mem_tree.MemTree.new.Given as goal

abbrev pub invariant-loop-path : goal.invariant-loop-path
invariant-loop-path l = files_of l.held ≡ files_in l.yielded
