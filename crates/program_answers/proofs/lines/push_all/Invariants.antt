use Rattle.class_table.specs.Seen.{IsConsultedOf}
use Rattle.program_answers.proofs.lines.push_all.Given as goal

abbrev pub invariant-loop-number : goal.invariant-loop-number
invariant-loop-number l = IsConsultedOf l.program l.seen
