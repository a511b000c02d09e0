use Rattle.std.proofs.Common.{◌≡◌, ◌∙◌, Some, ap, sym}
use Rattle.suite_program.proofs.CodeLaws.{found_first}
use Rattle.suite_program.proofs.accepting.refusal.Goals as goal

pub returns-in-Ok : goal.returns-in-Ok
returns-in-Ok c f e =
    let same : c.in-Ok.found ≡ f = cc in
    found_first c.first_faults_are_found.ensures.none c.first_faults_are_found.ensures.first c.args.p.now c.args.fault c.requires ∙ ap Some (sym c.in-Ok.ensures ∙ same)
