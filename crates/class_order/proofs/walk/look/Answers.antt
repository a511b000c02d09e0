use Rattle.std.proofs.Common.{◌∙◌, sym, subst, length, ◌<◌}
use Rattle.class_order.proofs.Steps.{open_class, open_looked, finish_kept, finish_less, meet_kept, meet_met, meet_less, meets_looked}
use Rattle.class_order.proofs.walk.look.Goals as goal

pub looked_at-looked-requires : goal.looked_at-looked-requires
looked_at-looked-requires c = open_looked c.args.links.now c.args.walk.now c.requires.walk c.args.at c.class_at-class.result c.class_at-class.ensures

pub next_super-requires : goal.next_super-requires
next_super-requires c = open_class c.args.links.now c.args.walk.now c.requires.walk c.args.at c.class_at-class.result c.class_at-class.ensures

pub returns-in_default-clause-walk : goal.returns-in_default-clause-walk
returns-in_default-clause-walk c = finish_kept c.args.links.now c.args.walk.now c.requires.walk c.finish.new.walk c.args.at c.class_at-class.result c.looked_at-looked.result c.requires.last c.class_at-class.ensures c.looked_at-looked.ensures (sym c.next_super.ensures.named ∙ c.in_default.is) c.finish.ensures

pub returns-in_default-clause-falls : goal.returns-in_default-clause-falls
returns-in_default-clause-falls c = finish_less c.args.links.now c.args.walk.now c.finish.new.walk c.args.at c.requires.last c.finish.ensures

pub count-requires-clause-class : goal.count-requires-clause-class
count-requires-clause-class c = subst (λ l. c.class_at-class.result < length l) (sym (meets_looked c.in-Some.up c.args.walk.now c.meet.new.walk c.in_ok-meet.ensures)) (open_looked c.args.links.now c.args.walk.now c.requires.walk c.args.at c.class_at-class.result c.class_at-class.ensures)

pub returns-clause-walk : goal.returns-clause-walk
returns-clause-walk c = meet_kept c.args.links.now c.args.walk.now c.requires.walk c.meet.new.walk c.count.new.walk c.args.at c.class_at-class.result c.looked_at-looked.result c.in-Some.up c.class_at-class.ensures c.requires.part c.looked_at-looked.ensures (sym c.next_super.ensures.named ∙ c.in-Some.is) c.count.ensures c.in_ok-meet.ensures

pub returns-clause-met : goal.returns-clause-met
returns-clause-met c = meet_met c.args.links.now c.args.walk.now c.requires.walk c.meet.new.walk c.count.new.walk c.args.at c.class_at-class.result c.looked_at-looked.result c.in-Some.up c.class_at-class.ensures c.requires.part c.looked_at-looked.ensures (sym c.next_super.ensures.named ∙ c.in-Some.is) c.count.ensures c.in_ok-meet.ensures

pub returns-clause-falls : goal.returns-clause-falls
returns-clause-falls c = meet_less c.args.links.now c.args.walk.now c.count.new.walk c.meet.new.walk c.class_at-class.result c.looked_at-looked.result c.in-Some.up c.looked_at-looked.ensures (sym c.next_super.ensures.named ∙ c.in-Some.is) c.count.ensures c.in_ok-meet.ensures
