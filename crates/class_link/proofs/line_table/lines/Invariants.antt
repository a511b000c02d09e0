use Rattle.std.proofs.Common.{◌≡◌, List, length}
use Rattle.program_rules.specs.Linked.{LinkedLine}
use Rattle.class_link.specs.Lines.{AreStartsOf, AreLinesOf}
use Rattle.class_link.proofs.LineLaws.{line_before}
use Rattle.class_link.proofs.line_table.lines.Given as goal

abbrev pub invariant-loop-start : goal.invariant-loop-start
invariant-loop-start l = record {
  long : length l.lines.items ≡ l.start-index;
  line : (rows : List LinkedLine) → AreStartsOf l.starts rows → l.line ≡ line_before l.start-index rows;
  lines : (rows : List LinkedLine) → AreStartsOf l.starts rows → AreLinesOf l.lines.items rows;
}
