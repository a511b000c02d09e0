use Rattle.std.proofs.Common.{◌∙◌, ap, sym}
use Rattle.machine_rules.specs.Runs.{StuckAt}
use Rattle.jvm_run.specs.Ending.{ending_in}
use Rattle.jvm_run.proofs.Placed.{next_place}
use Rattle.jvm_run.proofs.places.call_place.Goals as goal

pub returns-in_ok-ending-in-Some : goal.returns-in_ok-ending-in-Some
returns-in_ok-ending-in-Some c =
    c.in_ok-ending-in-Some.ensures
    ∙ ap (λ x. ending_in (StuckAt x)) (sym (next_place c.args.script.now.rest c.in-Some.call.now c.in-Some.ensures.next))
