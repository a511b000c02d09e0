use Rattle.std.proofs.Common.{◌≡◌, ◌++◌, map, take}
use Rattle.new_history.proofs.history.all_texts.Given as goal

abbrev pub invariant-loop-text : goal.invariant-loop-text
invariant-loop-text l = map (λ s. s.now) l.texts ≡ map (λ s. s.now) l.fn.old ++ take l.text-index l.fresh
