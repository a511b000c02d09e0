use Rattle.std.proofs.Common.{map}
use Rattle.history_file.specs.Texts.{HasRoom}
use Rattle.history_file.proofs.Halfway.{Halfway}
use Rattle.history_file.proofs.entries.read_counted_entries.Given as goal

abbrev pub invariant-loop : goal.invariant-loop
invariant-loop l = Halfway (map (λ s. s.now) l.classes) l.fn.used l.stamp l.count l.counter l.fn.texts l.texts l.fn.cur l.cur l.used l.entries × HasRoom l.texts l.cur
