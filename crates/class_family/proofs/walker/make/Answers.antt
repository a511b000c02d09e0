use Rattle.std.proofs.Common.{◌++◌, ◌∷◌, [], sym, subst}
use Rattle.class_family.specs.Walks.{order_of, names_of, AreTasks, Makes}
use Rattle.class_family.proofs.Walking.{last_task, enter_made, leave_made}
use Rattle.class_family.proofs.walker.make.Goals as goal

pub enter-requires-clause-class : goal.enter-requires-clause-class
enter-requires-clause-class c =
    let p = c.args.program.now in
    let order = order_of c.args.way in
    let ts = c.args.tasks.now.items in
    let ns = names_of p c.args.seen.now in
    last_task order p ts _ ns (subst (λ t. AreTasks order p ns (ts ++ t ∷ [])) c.in-Enter.is c.requires.tasks)

pub leave-requires-clause-class : goal.leave-requires-clause-class
leave-requires-clause-class c =
    let p = c.args.program.now in
    let order = order_of c.args.way in
    let ts = c.args.tasks.now.items in
    let ns = names_of p c.args.seen.now in
    (last_task order p ts _ ns (subst (λ t. AreTasks order p ns (ts ++ t ∷ [])) c.in-Leave.is c.requires.tasks)).0

pub leave-requires-clause-walked : goal.leave-requires-clause-walked
leave-requires-clause-walked c =
    let p = c.args.program.now in
    let order = order_of c.args.way in
    let ts = c.args.tasks.now.items in
    let ns = names_of p c.args.seen.now in
    last_task order p ts _ ns (subst (λ t. AreTasks order p ns (ts ++ t ∷ [])) c.in-Leave.is c.requires.tasks)

pub returns-in_ok-enter-in-Enter-clause-made : goal.returns-in_ok-enter-in-Enter-clause-made
returns-in_ok-enter-in-Enter-clause-made c =
    let p = c.args.program.now in
    let order = order_of c.args.way in
    let ts = c.args.tasks.now.items in
    let old = c.args.seen.now in
    let h = subst (λ t. AreTasks order p (names_of p old) (ts ++ t ∷ [])) c.in-Enter.is c.requires.tasks in
    subst (λ t. Makes order p t old ts c.enter.new.seen c.enter.new.tasks.items) (sym c.in-Enter.is) (enter_made order p c.len-len.ensures.form c.in-Enter.class ts c.enter.new.tasks.items old c.enter.new.seen c.requires.seen h c.in_ok-enter-in-Enter.ensures.enters)

pub returns-in_ok-leave-in-Leave-clause-made : goal.returns-in_ok-leave-in-Leave-clause-made
returns-in_ok-leave-in-Leave-clause-made c =
    let p = c.args.program.now in
    let order = order_of c.args.way in
    let ts = c.args.tasks.now.items in
    let old = c.args.seen.now in
    let h = subst (λ t. AreTasks order p (names_of p old) (ts ++ t ∷ [])) c.in-Leave.is c.requires.tasks in
    subst (λ t. Makes order p t old ts c.leave.new.seen ts) (sym c.in-Leave.is) (leave_made order p c.len-len.ensures.form c.in-Leave.class ts old c.leave.new.seen h c.in_ok-leave-in-Leave.ensures.leaves)
