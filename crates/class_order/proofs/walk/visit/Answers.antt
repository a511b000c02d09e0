use Rattle.std.proofs.Common.{◌∙◌, ap, Some}
use Rattle.std.proofs.lemmas.Result.{on_ok_weaker}
use Rattle.class_order.proofs.Steps.{enter_kept, enter_met, enter_class}
use Rattle.class_order.proofs.walk.visit.Goals as goal

pub run-requires-clause-walk : goal.run-requires-clause-walk
run-requires-clause-walk c = enter_kept c.args.links.now c.args.walk.now c.requires.walk c.requires.start c.enter.new.walk c.args.class (c.standing.ensures ∙ ap Some c.in-New.is) c.in_ok-enter.ensures

pub returns-clause-met : goal.returns-clause-met
returns-clause-met c = on_ok_weaker c.run.result (enter_met c.args.links.now c.args.walk.now c.requires.walk c.requires.start c.enter.new.walk c.args.class (c.standing.ensures ∙ ap Some c.in-New.is) c.in_ok-enter.ensures c.run.new.walk) c.run.ensures.met

pub returns-clause-class : goal.returns-clause-class
returns-clause-class c = on_ok_weaker c.run.result (enter_class c.args.links.now c.args.walk.now c.requires.walk c.requires.start c.enter.new.walk c.args.class (c.standing.ensures ∙ ap Some c.in-New.is) c.in_ok-enter.ensures c.run.new.walk) c.run.ensures.met
