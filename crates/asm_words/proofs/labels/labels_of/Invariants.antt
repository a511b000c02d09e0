use Rattle.std.proofs.Common.{◌≡◌, ◌+◌, ◌≤◌, ◌++◌, drop}
use Rattle.asm_words.specs.Labels.{labels_from, insns_in}
use Rattle.asm_words.proofs.labels.labels_of.Given as goal

abbrev pub invariant-loop-line : goal.invariant-loop-line
invariant-loop-line l = record { known : l.known ++ labels_from l.total (drop l.line-index l.lines) ≡ labels_from 0 l.lines; total : l.total + insns_in (drop l.line-index l.lines) ≡ insns_in l.lines; few : l.total ≤ l.line-index }
