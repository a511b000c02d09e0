use Rattle.std.proofs.Common.{◌≡◌, ◌+◌, ◌<◌, drop}
use Rattle.std.specs.Prelude.{sum_by}
use Rattle.class_model.specs.TextVerdicts.{words}
use Rattle.asm_words.proofs.entry.call_words.Given as goal

abbrev pub invariant-loop-kind : goal.invariant-loop-kind
invariant-loop-kind l = record { sum : l.count + sum_by words (drop l.kind-index l.args) ≡ 1 + sum_by words l.args; few : l.count < 256 }
