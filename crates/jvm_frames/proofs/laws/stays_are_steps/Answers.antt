use Rattle.jvm_frames.proofs.RunSteps.{steps_of_runs}
use Rattle.jvm_frames.proofs.laws.stays_are_steps.Goals as goal

pub returns : goal.returns
returns c = steps_of_runs
