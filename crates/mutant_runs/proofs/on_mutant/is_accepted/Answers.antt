use Rattle.std.proofs.Common.{◌∙◌, ap, subst, Option}
use Rattle.std.specs.Prelude.{is_none}
use Rattle.class_table.specs.Table.{number_of}
use Rattle.type_verifier.specs.declared.pass.Fault.{Fault}
use Rattle.mutant_runs.specs.Promises.{TellsViable}
use Rattle.mutant_runs.proofs.Codes.{methods_short}
use Rattle.mutant_runs.proofs.Judging.{named, viable_told}
use Rattle.mutant_runs.proofs.on_mutant.is_accepted.Goals as goal

pub fault_of_method-requires-clause-number : goal.fault_of_method-requires-clause-number
fault_of_method-requires-clause-number c =
    let p = c.args.program.now in
    let m = c.args.mutant.now in
    let is = c.edits_are_judged_by_their_method.ensures p m c.args.id.0 c.args.edited.now c.is_program.ensures c.requires.ready c.requires.fit c.requires.edit in
    ap (number_of p) (named p m c.args.id.0 c.args.edited.now c.requires.made is) ∙ c.requires.edit.number

pub fault_of_method-requires-clause-short : goal.fault_of_method-requires-clause-short
fault_of_method-requires-clause-short c = methods_short c.args.edited.now c.requires.made.put.meant c.requires.made.bounded

pub returns-in-Some : goal.returns-in-Some
returns-in-Some c =
    let p = c.args.program.now in
    let m = c.args.mutant.now in
    let is = c.edits_are_judged_by_their_method.ensures p m c.args.id.0 c.args.edited.now c.is_program.ensures c.requires.ready c.requires.fit c.requires.edit in
    subst (λ (r : Option Fault). TellsViable p m (is_none r)) c.in-Some.is
    (viable_told p m c.args.id.0 c.args.edited.now c.requires.made is c.in_ok-fault.fault c.in_ok-fault.ensures)

pub returns-in-None : goal.returns-in-None
returns-in-None c =
    let p = c.args.program.now in
    let m = c.args.mutant.now in
    let is = c.edits_are_judged_by_their_method.ensures p m c.args.id.0 c.args.edited.now c.is_program.ensures c.requires.ready c.requires.fit c.requires.edit in
    subst (λ (r : Option Fault). TellsViable p m (is_none r)) c.in-None.is
    (viable_told p m c.args.id.0 c.args.edited.now c.requires.made is c.in_ok-fault.fault c.in_ok-fault.ensures)
