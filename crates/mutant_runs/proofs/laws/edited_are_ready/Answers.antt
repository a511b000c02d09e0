use Rattle.mutant_runs.proofs.ReadyLaws.{edited_ready}
use Rattle.mutant_runs.proofs.laws.edited_are_ready.Goals as goal

pub returns : goal.returns
returns c =
    edited_ready c.put_classes_stay_alike.ensures c.kinds_stay_right.ensures.put
    c.edited_programs_are_accepted.ensures.accepted c.edited_programs_are_accepted.ensures.library
    c.instructions_have_numbers.ensures.numbered c.instructions_have_numbers.ensures.put
