use Rattle.std.proofs.Common.{◌≡◌, Err, ap}
use Rattle.suite_program.specs.Programs.{classes_in}
use Rattle.suite_program.specs.declared.fault.ProgramEnd.TheVariants.{Refused}
use Rattle.suite_program.proofs.FirstLaws.{first_none, first_of_code, first_of_table, is_ready}
use Rattle.suite_program.proofs.building.program_of.Goals as goal

pub returns-in-Ok-accept-clause-accepted : goal.returns-in-Ok-accept-clause-accepted
returns-in-Ok-accept-clause-accepted c = first_none c.args.classes c.in-Ok.program c.in-Ok.ensures.built c.in-Ok-accept.ensures.none

pub returns-in-Ok-accept-clause-ready : goal.returns-in-Ok-accept-clause-ready
returns-in-Ok-accept-clause-ready c = is_ready c.args.classes c.in-Ok.program c.in-Ok.ensures.built c.in-Ok-accept.ensures.accepted

pub returns-in-Err-accept-clause-refused : goal.returns-in-Err-accept-clause-refused
returns-in-Err-accept-clause-refused c f e =
    let end : c.in-Err-accept.end ≡ Refused f = cc in
    first_of_code c.args.classes c.in-Ok.program c.in-Ok.ensures.built f (c.in-Err-accept.ensures.refused f (ap Err end))

pub returns-in-Err-clause-refused : goal.returns-in-Err-clause-refused
returns-in-Err-clause-refused c f e = first_of_table (classes_in c.args.classes) f (c.in-Err.ensures.refused f e)
