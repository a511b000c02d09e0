use Rattle.std.proofs.Common.{◌≡◌, ◌∙◌, Err, ap, sym}
use Rattle.suite_program.specs.declared.fault.ProgramEnd.TheVariants.{Refused}
use Rattle.suite_program.proofs.AcceptedLaws.{refused_as}
use Rattle.suite_program.proofs.BuiltLaws.{is_built}
use Rattle.suite_program.proofs.building.built.Goals as goal

pub returns-in-Ok-clause-built : goal.returns-in-Ok-clause-built
returns-in-Ok-clause-built c =
    is_built c.args.classes c.in_ok-library.library c.in-Ok.program c.in_ok-library.ensures.meant c.requires c.linked_files_are_bounded.ensures c.library_is_bounded.ensures c.library_is_accepted_behind.ensures c.instructions_have_numbers.ensures.numbered
    c.in-Ok.ensures.classes c.in-Ok.ensures.program c.in-Ok.ensures.meant c.in-Ok.ensures.looks

pub returns-in-Err-clause-refused : goal.returns-in-Err-clause-refused
returns-in-Err-clause-refused c f e =
    let end : c.end_of.result ≡ Refused f = cc in
    refused_as c.args.classes c.in_ok-library.library c.in_ok-library.ensures.meant c.in-Err.fault
    (λ n e. c.in-Err.ensures.duplicate n (ap Err e)) (λ n e. c.in-Err.ensures.missing n (ap Err e)) (λ n e. c.in-Err.ensures.cycle n (ap Err e)) (λ n e. c.in-Err.ensures.kind n (ap Err e))
    f (sym c.end_of.ensures ∙ end)
