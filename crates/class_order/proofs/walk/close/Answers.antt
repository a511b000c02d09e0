use Rattle.std.proofs.Common.{◌≡◌, ◌∙◌, inl, inr, sym, length, ◌+◌, true}
use Rattle.std.specs.Prelude.{nat_eq}
use Rattle.std.specs.List.{list_any}
use Rattle.class_order.specs.Graph.{supers_at}
use Rattle.class_order.proofs.Steps.{open_class, open_found, rank_left, close_one_kept, close_one_met, close_one_less, close_part_kept, close_part_met, close_part_less}
use Rattle.class_order.proofs.walk.close.Goals as goal

pub names_itself-is_own_super-requires : goal.names_itself-is_own_super-requires
names_itself-is_own_super-requires c = open_class c.args.links.now c.args.walk.now c.requires.walk c.args.bound c.class_at-class.result c.class_at-class.ensures

pub close_one-requires-clause-rank : goal.close_one-requires-clause-rank
close_one-requires-clause-rank c = rank_left c.args.links.now c.args.walk.now c.requires.walk c.requires.few c.args.bound c.class_at-class.result c.class_at-class.ensures

pub close_one-requires-clause-class : goal.close_one-requires-clause-class
close_one-requires-clause-class c = open_found c.args.links.now c.args.walk.now c.requires.walk c.args.bound c.class_at-class.result c.class_at-class.ensures

pub returns-then-not-is_own_super-clause-walk : goal.returns-then-not-is_own_super-clause-walk
returns-then-not-is_own_super-clause-walk c = close_one_kept c.args.links.now c.args.walk.now c.requires.walk c.close_one.new.walk c.args.bound c.class_at-class.result c.requires.last c.requires.path c.class_at-class.ensures (c.is_alone-is_alone.ensures.0 c.if-is_alone.true) (sym c.names_itself-is_own_super.ensures ∙ c.if-not-is_own_super.true) c.close_one.ensures

pub returns-then-not-is_own_super-clause-met : goal.returns-then-not-is_own_super-clause-met
returns-then-not-is_own_super-clause-met c = close_one_met c.args.links.now c.args.walk.now c.requires.walk c.close_one.new.walk c.args.bound c.class_at-class.result c.requires.last c.requires.path c.class_at-class.ensures c.close_one.ensures

pub returns-then-not-is_own_super-clause-falls : goal.returns-then-not-is_own_super-clause-falls
returns-then-not-is_own_super-clause-falls c = close_one_less c.args.links.now c.args.walk.now c.close_one.new.walk c.class_at-class.result c.args.bound c.args.bound (c.requires.walk.placed c.args.bound c.class_at-class.result c.class_at-class.ensures) c.requires.last c.close_one.ensures

pub close_part-requires-clause-classes : goal.close_part-requires-clause-classes
close_part-requires-clause-classes c = open_found c.args.links.now c.args.walk.now c.requires.walk

several : (c : goal.After-close_part) → length c.args.walk.now.stack.items ≡ c.args.bound + 1 → list_any (nat_eq c.class_at-class.result) (supers_at c.args.links.now c.class_at-class.result) ≡ true
several c alone =
    elim c.else-is_alone.either [
      | inl e ↦ sym c.names_itself-is_own_super.ensures ∙ e.1
      | inr e ↦ (let a = c.is_alone-is_alone.ensures.1 alone in absurd cc)
    ]

pub returns-clause-walk : goal.returns-clause-walk
returns-clause-walk c = close_part_kept c.args.links.now c.args.walk.now c.requires.walk c.close_part.new.walk c.args.bound c.class_at-class.result c.requires.last c.requires.path c.class_at-class.ensures (several c) c.close_part.ensures

pub returns-clause-met : goal.returns-clause-met
returns-clause-met c = close_part_met c.args.links.now c.args.walk.now c.requires.walk c.close_part.new.walk c.args.bound c.class_at-class.result c.requires.last c.requires.path c.class_at-class.ensures (several c) c.close_part.ensures

pub returns-clause-falls : goal.returns-clause-falls
returns-clause-falls c = close_part_less c.args.links.now c.args.walk.now c.close_part.new.walk c.args.bound c.requires.last c.close_part.ensures
