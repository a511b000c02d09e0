use Rattle.std.proofs.Common.{◌≡◌, ◌-◌, ◌≤◌, List, length, drop, reverse, []}
use Rattle.std.specs.Prelude.{ℤ}
use Rattle.program_rules.specs.declared.value.Value.{Value}
use Rattle.machine_rules.specs.Effects.{Effect}
use Rattle.machine_rules.specs.Arrays.{on_counts}
use Rattle.jvm_frames.specs.Frames.{stack_of}
use Rattle.jvm_array_rows.proofs.counts.counts_on.Given as goal

abbrev pub invariant-loop-counts : goal.invariant-loop-counts
invariant-loop-counts l = record {
  read : (go : List ℤ → List Value → Effect) → on_counts l.count [] (stack_of l.frames.frame) go ≡ on_counts (l.count - length l.counts.items) (reverse l.counts.items) (drop (length l.counts.items) (stack_of l.frames.frame)) go;
  within : length l.counts.items ≤ l.count;
  there : length l.counts.items ≤ length (stack_of l.frames.frame);
}

abbrev pub decreases-loop-counts : goal.decreases-loop-counts
decreases-loop-counts l = l.count - length l.counts.items
