use Rattle.std.proofs.Common.{◌≡◌, length, subst}
use Rattle.type_verifier.specs.Programs.{FoundAmong, IsFirstRefused}
use Rattle.type_verifier.proofs.ProgramLaws.{all_accepted, first_refused}
use Rattle.type_verifier.proofs.programs.verify.Goals as goal

pub returns-in-None-clause-yes : goal.returns-in-None-clause-yes
returns-in-None-clause-yes c =
    let p = c.args.program.now in
    all_accepted p (subst (FoundAmong p (length p)) c.in-None.is c.in_ok-found.ensures)

pub returns-in-Some-clause-no : goal.returns-in-Some-clause-no
returns-in-Some-clause-no c f e =
    let p = c.args.program.now in
    let same : c.in-Some.found.fault ≡ f = cc in
    subst (IsFirstRefused p) same (first_refused p c.in-Some.found (subst (FoundAmong p (length p)) c.in-Some.is c.in_ok-found.ensures))
