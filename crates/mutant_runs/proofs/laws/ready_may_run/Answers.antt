use Rattle.mutant_runs.proofs.ReadyLaws.{ready_runs}
use Rattle.mutant_runs.proofs.laws.ready_may_run.Goals as goal

pub returns : goal.returns
returns c =
    ready_runs c.accepted_classes_have_room.ensures.named
    c.accepted_code_has_room_for_what_it_catches.ensures.bounded
