use Rattle.std.proofs.Common.{take}
use Rattle.line_coverage.specs.Lines.{AddsToLines, KeepsOtherRuns}
use Rattle.line_coverage.proofs.lines.add_lines.Given as goal

abbrev pub invariant-loop-class : goal.invariant-loop-class
invariant-loop-class l = record {
  ok : AddsToLines (take l.class-index l.reached) l.test l.fn.lines l.lines;
  others : KeepsOtherRuns l.test l.fn.lines l.lines;
}
