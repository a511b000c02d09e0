use Rattle.history_file.proofs.Counted.{HalfClasses}
use Rattle.history_file.proofs.classes.read_counted_classes.Given as goal

abbrev pub invariant-loop : goal.invariant-loop
invariant-loop l = HalfClasses l.count l.counter l.fn.cur l.cur l.seen l.classes
