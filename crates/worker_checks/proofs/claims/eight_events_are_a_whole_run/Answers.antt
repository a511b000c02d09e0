use Rattle.worker_checks.proofs.ThreeCells.{are_answered, is_whole}
use Rattle.worker_checks.proofs.claims.eight_events_are_a_whole_run.Goals as goal

pub returns : goal.returns
returns c = record { answers = are_answered; whole = is_whole }
