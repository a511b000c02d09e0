use Rattle.std.proofs.Common.{◌≡◌, ◌+◌}
use Rattle.jvm_frames.specs.Frames.{HasWords}
use Rattle.jvm_natives.proofs.arguments.args_of.Given as goal

abbrev pub invariant-loop-left : goal.invariant-loop-left
invariant-loop-left l = record {
  args : HasWords l.args.count l.args.words l.frames;
  count : l.args.count + l.left ≡ l.count;
}

abbrev pub decreases-loop-left : goal.decreases-loop-left
decreases-loop-left l = l.left
