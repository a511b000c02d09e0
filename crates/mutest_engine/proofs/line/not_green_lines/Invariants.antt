use Rattle.std.proofs.Common.{◌≡◌, take}
use Rattle.mutest_engine.specs.Lines.{not_green_lines}
use Rattle.mutest_engine.proofs.line.not_green_lines.Given as goal

abbrev pub invariant-loop-test : goal.invariant-loop-test
invariant-loop-test l = l.lines ≡ not_green_lines (take l.test-index l.tests)
