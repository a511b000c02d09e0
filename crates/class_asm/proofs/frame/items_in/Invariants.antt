use Rattle.std.proofs.Common.{◌≡◌, ◌++◌, drop}
use Rattle.std.specs.Option.{option_map}
use Rattle.class_asm.specs.Frames.{items_from, items_in}
use Rattle.class_asm.proofs.frame.items_in.Given as goal

abbrev pub invariant-loop-word : goal.invariant-loop-word
invariant-loop-word l = option_map (λ later. l.items ++ later) (items_from l.labels l.is_new (drop l.word-index l.words)) ≡ items_in l.labels l.words
