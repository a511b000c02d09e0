use Rattle.std.proofs.Common.{◌≡◌, ◌∙◌, sym, ap}
use Rattle.class_link.specs.Info.{class_of}
use Rattle.class_order.specs.Graph.{supers_of}
use Rattle.class_table.specs.Table.{look, name_at}
use Rattle.class_family.proofs.Upwards.{ends, goes_on, never_none}
use Rattle.class_family.proofs.rising.superclass.Goals as goal

pub returns-then-not-names_superclass-clause-ends : goal.returns-then-not-names_superclass-clause-ends
returns-then-not-names_superclass-clause-ends c = ends c.args.program.now c.args.id.0 (class_of c.info.result.now) c.len-len.ensures.form c.info.ensures.class (sym c.names_superclass.ensures ∙ c.if-not-names_superclass.true)

pub returns-in_err-first-clause-ends : goal.returns-in_err-first-clause-ends
returns-in_err-first-clause-ends c =
    let p = c.args.program.now in
    absurd (never_none (name_at p) (look p (name_at p c.args.id.0)) (class_of c.info.result.now) (supers_of c.links.result.now) c.info.ensures.class (sym c.names_superclass.ensures ∙ c.if-not-names_superclass.false) c.links.ensures.named (sym c.super_at.ensures ∙ c.in_err-first.was))

pub returns-clause-goes_on : goal.returns-clause-goes_on
returns-clause-goes_on c =
    let p = c.args.program.now in
    goes_on p c.args.id.0 (class_of c.info.result.now) (supers_of c.links.result.now) c.in_ok-first.first c.len-len.ensures.form c.info.ensures.class (sym c.names_superclass.ensures ∙ c.if-not-names_superclass.false) c.links.ensures.named (sym c.super_at.ensures ∙ c.in_ok-first.was)
