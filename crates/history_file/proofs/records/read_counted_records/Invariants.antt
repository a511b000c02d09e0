use Rattle.std.proofs.Common.{map}
use Rattle.history_file.proofs.Counted.{HalfFound}
use Rattle.history_file.proofs.records.read_counted_records.Given as goal

abbrev pub invariant-loop-i : goal.invariant-loop-i
invariant-loop-i l = HalfFound l.version (map (λ s. s.now) l.classes) l.count l.i l.file l.fn.cur l.cur l.found
