use Rattle.std.proofs.Common.{◌∙◌, ◌++◌, ap, true}
use Rattle.std.specs.Prelude.{is_some}
use Rattle.class_order.specs.Graph.{supers_of}
use Rattle.program_rules.specs.Programs.{Beginning}
use Rattle.class_link.specs.Info.{class_of}
use Rattle.class_table.specs.Table.{look, name_at}
use Rattle.class_family.specs.Walks.{enters_of, interfaces_among}
use Rattle.class_family.proofs.Levels.{interfaces_named, steps_of}
use Rattle.class_family.proofs.steps.enter_interfaces.Goals as goal

pub returns : goal.returns
returns c =
    let p = c.args.program.now in
    let over = supers_of c.links.result.now in
    let class = class_of c.info-info.result.now in
    record {
      over = interfaces_among (is_some class.parent) over;
      named = interfaces_named (name_at p) (look p (name_at p c.args.id.0)) class over c.info-info.ensures.class c.links.ensures.named;
      within = λ k b e. let r = steps_of Beginning (is_some class.parent) true over k b e in c.links.ensures.within r.0 b r.1;
      tasks =
          c.in_ok-push_interfaces.ensures
          ∙ ap (λ x. c.args.tasks.now.items ++ enters_of (interfaces_among x over)) c.names_superclass.ensures;
    }
