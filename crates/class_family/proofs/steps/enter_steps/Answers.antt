use Rattle.std.proofs.Common.{◌≡◌, ◌∙◌, ◌++◌, ap, sym, refl}
use Rattle.std.specs.Prelude.{is_some}
use Rattle.program_rules.specs.Linked.{is_interface}
use Rattle.class_order.specs.Graph.{supers_of}
use Rattle.class_link.specs.Info.{class_of}
use Rattle.class_table.specs.Table.{look, name_at}
use Rattle.class_family.specs.Walks.{order_of, enters_of, steps_among, AddsSteps}
use Rattle.class_family.proofs.Levels.{steps_named, steps_of}
use Rattle.class_family.proofs.steps.enter_steps.Goals as goal

pub returns : goal.returns
returns c =
    let p = c.args.program.now in
    let order = order_of c.args.way in
    let over = supers_of c.links.result.now in
    let class = class_of c.info-info.result.now in
    record {
      over = steps_among order (is_some class.parent) (is_interface class.flags) over;
      named = steps_named (name_at p) order (look p (name_at p c.args.id.0)) class over c.info-info.ensures.class c.links.ensures.named;
      within = λ k b e. let r = steps_of order (is_some class.parent) (is_interface class.flags) over k b e in c.links.ensures.within r.0 b r.1;
      tasks =
          c.in_ok-push_steps.ensures
          ∙ ap (λ x. c.args.tasks.now.items ++ enters_of (steps_among order x c.is_interface.result over)) c.names_superclass.ensures
          ∙ ap (λ x. c.args.tasks.now.items ++ enters_of (steps_among order (is_some class.parent) x over)) c.is_interface.ensures;
    }
