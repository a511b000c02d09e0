use Rattle.std.proofs.Common.{◌≡◌, ◌∙◌, ◌++◌, ◌∷◌, [], sym, ap, arith}
use Rattle.std.proofs.lemmas.Grind.{common_steps}
use Rattle.class_order.specs.Graph.{supers_of}
use Rattle.class_family.specs.declared.tasks.Task.TheVariants.{Enter}
use Rattle.class_family.specs.Walks.{enters_of}
use Rattle.class_family.proofs.Pushing.{append_nil, taken_some, taken_none}
use Rattle.class_family.proofs.tasks.push_at.Goals as goal

pub returns-in_ok-push : goal.returns-in_ok-push
returns-in_ok-push c =
    let pushed : c.push.new.self.items ≡ c.args.tasks.now.items ++ Enter c.in-Some.over ∷ [] = grind (arith, common_steps) in
    pushed ∙ ap (λ l. c.args.tasks.now.items ++ enters_of l) (sym (taken_some (supers_of c.args.links.now) c.args.at c.in-Some.over (sym c.super_at.ensures ∙ c.in-Some.is)))

pub returns-in_default : goal.returns-in_default
returns-in_default c =
    sym (append_nil c.args.tasks.now.items) ∙ ap (λ l. c.args.tasks.now.items ++ enters_of l) (sym (taken_none (supers_of c.args.links.now) c.args.at (sym c.super_at.ensures ∙ c.in_default.is)))
