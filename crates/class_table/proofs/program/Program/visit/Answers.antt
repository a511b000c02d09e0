use Rattle.std.proofs.Common.{◌≡◌, ◌∙◌, ◌++◌, ◌∷◌, [], refl, sym, ap, arith}
use Rattle.std.proofs.lemmas.Grind.{common_steps}
use Rattle.std.proofs.lemmas.Result.{on_ok_weaker}
use Rattle.program_rules.specs.Programs.{consult_one}
use Rattle.class_order.specs.Graph.{supers_of}
use Rattle.class_table.specs.declared.tasks.Task.TheVariants.{Close}
use Rattle.class_table.specs.Table.{look}
use Rattle.class_table.specs.Walked.{visits_of, passes, enters}
use Rattle.class_table.proofs.program.Program.visit.Goals as goal

pub returns-then-is_marked-clause-visits : goal.returns-then-is_marked-clause-visits
returns-then-is_marked-clause-visits c = passes (c.is_marked.ensures.0 c.if-is_marked.true) refl refl

pub returns-clause-visits : goal.returns-clause-visits
returns-clause-visits c =
    let p = c.args.self.now in
    let pushed : c.push.new.self.items ≡ c.args.tasks.now.items ++ Close c.args.id.0 ∷ [] = grind (arith, common_steps) in
    let noted = c.in_ok-note.ensures.names ∙ ap (λ n. consult_one (look p) n c.args.seen.now.names) (c.name.ensures.value ∙ sym c.info.ensures.named) in
    let over = supers_of c.links.result.now in
    on_ok_weaker c.push_supers.result (λ told. enters over c.links.ensures noted (told ∙ ap (λ l. l ++ visits_of over) pushed)) c.push_supers.ensures

pub returns-clause-kept : goal.returns-clause-kept
returns-clause-kept c = on_ok_weaker c.push_supers.result (λ told. c.in_ok-note.ensures.kept) c.push_supers.ensures
