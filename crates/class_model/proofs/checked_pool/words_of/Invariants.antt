use Rattle.std.proofs.Common.{◌≡◌, ◌+◌, ◌*◌, ◌≤◌, drop}
use Rattle.std.specs.Prelude.{sum_by}
use Rattle.class_model.specs.TextVerdicts.{words}
use Rattle.class_model.proofs.checked_pool.words_of.Given as goal

abbrev pub invariant-loop-kind : goal.invariant-loop-kind
invariant-loop-kind l = record { sum : l.sum + sum_by words (drop l.kind-index l.args) ≡ sum_by words l.args; few : l.sum ≤ 2 * l.kind-index }
