use Rattle.std.proofs.Common.{arith}
use Rattle.class_link.specs.View.{line_of}
use Rattle.class_link.proofs.LineLaws.{starts_here, starts_past}
use Rattle.class_link.proofs.line_table.note_start.Goals as goal

pub returns-then-start-starts : goal.returns-then-start-starts
returns-then-start-starts c = λ rows h. starts_here c.args.starts.now rows (line_of c.args.row.now) h

pub returns-else-start-starts : goal.returns-else-start-starts
returns-else-start-starts c = λ rows h. starts_past c.args.starts.now rows (line_of c.args.row.now) (omega (arith, c.if-start-starts.false)) h
