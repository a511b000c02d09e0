use Rattle.std.proofs.Common.{◌++◌, ◌∷◌, [], sym, subst}
use Rattle.std.proofs.lemmas.Result.{on_ok_weaker}
use Rattle.class_table.specs.Walked.{AreTasks, Makes}
use Rattle.class_table.proofs.Visiting.{last_task, visit_made, close_made, close_known}
use Rattle.class_table.proofs.program.Program.make.Goals as goal

pub visit-requires-clause-class : goal.visit-requires-clause-class
visit-requires-clause-class c =
    let ts = c.args.tasks.now.items in
    let names = c.args.seen.now.names in
    let h = subst (λ t. AreTasks c.args.self.now names (ts ++ t ∷ [])) c.in-Visit.is c.requires.tasks in
    last_task c.args.self.now ts _ names h

pub returns-in-Visit-clause-made : goal.returns-in-Visit-clause-made
returns-in-Visit-clause-made c =
    let p = c.args.self.now in
    let ts = c.args.tasks.now.items in
    let old = c.args.seen.now in
    let h = subst (λ t. AreTasks p old.names (ts ++ t ∷ [])) c.in-Visit.is c.requires.tasks in
    let made = visit_made p c.len-len.ensures.form c.in-Visit.class ts c.visit.new.tasks.items old c.visit.new.seen c.requires.seen h in
    on_ok_weaker c.visit.result (λ told. subst (λ t. Makes p t old ts c.visit.new.seen c.visit.new.tasks.items) (sym c.in-Visit.is) (made told)) c.visit.ensures.visits

pub mark-requires-clause-class : goal.mark-requires-clause-class
mark-requires-clause-class c =
    let ts = c.args.tasks.now.items in
    let names = c.args.seen.now.names in
    let h = subst (λ t. AreTasks c.args.self.now names (ts ++ t ∷ [])) c.in-Close.is c.requires.tasks in
    (last_task c.args.self.now ts _ names h).0

pub mark-requires-clause-walked : goal.mark-requires-clause-walked
mark-requires-clause-walked c =
    let ts = c.args.tasks.now.items in
    let names = c.args.seen.now.names in
    let h = subst (λ t. AreTasks c.args.self.now names (ts ++ t ∷ [])) c.in-Close.is c.requires.tasks in
    λ k. close_known c.args.self.now c.len-len.ensures.form c.in-Close.class ts names h k

pub returns-in-Close-clause-made : goal.returns-in-Close-clause-made
returns-in-Close-clause-made c =
    let p = c.args.self.now in
    let ts = c.args.tasks.now.items in
    let old = c.args.seen.now in
    let h = subst (λ t. AreTasks p old.names (ts ++ t ∷ [])) c.in-Close.is c.requires.tasks in
    subst (λ t. Makes p t old ts c.mark.new.self ts) (sym c.in-Close.is) (close_made p c.len-len.ensures.form c.in-Close.class ts old c.mark.new.self h c.mark.ensures.names)
