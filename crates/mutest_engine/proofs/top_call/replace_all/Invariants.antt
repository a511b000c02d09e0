use Rattle.std.proofs.Common.{◌≡◌, ◌≤◌, map, drop}
use Rattle.std.specs.Prelude.{Option}
use Rattle.mt_edge.specs.Files.{Files}
use Rattle.mutest_engine.specs.Answers.{write_of}
use Rattle.mutest_engine.specs.Ends.{all_written, LeavesWrites}
use Rattle.mutest_engine.specs.declared.top_call.Unwritten.{Unwritten}
use Rattle.mutest_engine.proofs.top_call.replace_all.Given as goal

abbrev pub invariant-loop-write : goal.invariant-loop-write
invariant-loop-write g l = record {
  done : all_written (map write_of (drop l.write-index l.writes)) (g.T.Tree.holds l.tree) ≡ all_written (map write_of l.writes) (g.T.Tree.holds l.initial.tree);
  left : (u : Unwritten) (new : Option Files) → LeavesWrites (map write_of (drop l.write-index l.writes)) (g.T.Tree.holds l.tree) new u → LeavesWrites (map write_of l.writes) (g.T.Tree.holds l.initial.tree) new u;
  later : g.T.Tree.writing l.initial.tree ≤ g.T.Tree.writing l.tree;
  unread : g.T.Tree.reading l.tree ≡ g.T.Tree.reading l.initial.tree;
}
