use Rattle.std.proofs.Common.{◌∙◌, sym, ap, subst}
use Rattle.class_model.specs.Text.{text}
use Rattle.type_verifier.specs.Programs.{ClassFaultIs}
use Rattle.type_verifier.proofs.ProgramLaws.{behind, passes, refused}
use Rattle.type_verifier.proofs.programs.consider.Goals as goal

pub returns-then-not-is_before : goal.returns-then-not-is_before
returns-then-not-is_before c all =
    let bytes = c.in_ok-name.ensures ∙ ap text (c.name.ensures.value ∙ sym c.info.ensures.named) in
    behind c.args.program.now c.args.id.0 c.args.found.now c.in_ok-name.name bytes (sym c.is_before.ensures ∙ c.if-not-is_before.true) all

pub returns-in-Some : goal.returns-in-Some
returns-in-Some c all =
    let bytes = c.in_ok-name.ensures ∙ ap text (c.name.ensures.value ∙ sym c.info.ensures.named) in
    refused c.args.program.now c.args.id.0 c.args.found.now c.in_ok-name.name c.in-Some.fault c.requires.within bytes (sym c.is_before.ensures ∙ c.if-not-is_before.false) (subst (ClassFaultIs c.args.program.now c.args.id.0) c.in-Some.is c.in_ok-fault.ensures) all

pub returns-in-None : goal.returns-in-None
returns-in-None c all = passes c.args.program.now c.args.id.0 c.args.found.now all (subst (ClassFaultIs c.args.program.now c.args.id.0) c.in-None.is c.in_ok-fault.ensures)
