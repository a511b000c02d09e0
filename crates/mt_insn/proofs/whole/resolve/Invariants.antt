use Rattle.std.proofs.Common.{◌≡◌, ◌+◌, ◌^◌, ◌<◌}
use Rattle.std.specs.List.{AllByRecursion}
use Rattle.std.specs.Vec.Iter.{into_iter_items}
use Rattle.codec_rules.specs.Reading.{with_values}
use Rattle.mt_insn.specs.Targets.{resolved}
use Rattle.mt_insn.proofs.whole.resolve.Given as goal

abbrev pub invariant-loop-placed : goal.invariant-loop-placed
invariant-loop-placed l = (with_values l.all (resolved l.base l.starts (into_iter_items l.placed-iterator)) ≡ resolved l.base l.starts l.fn.insns) × AllByRecursion (λ p. l.base + p.place < 2 ^ 64) (into_iter_items l.placed-iterator)
