use Rattle.std.proofs.Common.{◌≡◌, ◌∙◌, ◌∷◌, [], sym, ap, arith}
use Rattle.std.proofs.lemmas.Grind.{common_steps}
use Rattle.class_family.specs.declared.tasks.Task.TheVariants.{Enter}
use Rattle.class_family.specs.Walks.{order_of, add_in, names_of, wanted}
use Rattle.class_family.proofs.Walking.{all_found}
use Rattle.class_family.proofs.walker.find_all.Goals as goal

pub returns : goal.returns
returns c =
    let p = c.args.program.now in
    let order = order_of c.args.way in
    let pushed : c.push.new.self.items ≡ Enter c.args.id.0 ∷ [] = grind (arith, common_steps) in
    all_found order p c.args.id.0 c.args.seen.now c.run.new.seen c.requires.found (c.in_ok-run.ensures.names ∙ ap (λ l. add_in (wanted order p l) (names_of p c.args.seen.now)) pushed) c.in_ok-run.ensures.kept
