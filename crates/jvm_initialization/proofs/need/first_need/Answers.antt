use Rattle.std.proofs.Common.{◌∙◌, ◌+◌, ◌++◌, ◌∷◌, [], refl, ap, map}
use Rattle.class_table.specs.Table.{look, name_at}
use Rattle.jvm_initialization.specs.Needs.{need_among}
use Rattle.jvm_initialization.proofs.Setting.{none_left}
use Rattle.jvm_initialization.proofs.Needing.{next_among, last_among}
use Rattle.jvm_initialization.proofs.need.first_need.Goals as goal

pub loop-at-init : goal.loop-at-init
loop-at-init c v m = refl

pub need_of_one-need-requires-clause-class : goal.need_of_one-need-requires-clause-class
need_of_one-need-requires-clause-class c =
    c.requires.ids c.loop-at.at c.class_at-id.result.0 c.class_at-id.ensures

pub loop-at-preserved : goal.loop-at-preserved
loop-at-preserved c v m =
    let p = c.args.p.now in
    let ids = c.args.ids.now in
    let k = c.loop-at.at in
    let a = c.class_at-id.result.0 in
    c.loop-at.invariant v m
    ∙ next_among p ids _ k a (name_at p c.args.last.0 ∷ []) c.need_of_one-need.result v refl
    c.class_at-id.ensures (λ rest. c.need_of_one-need.ensures.need v rest m)
    ∙ c.is_ready.ensures.ready c.if-not-is_ready.false p _

pub returns-then-not-is_ready-clause-need : goal.returns-then-not-is_ready-clause-need
returns-then-not-is_ready-clause-need c v m =
    let p = c.args.p.now in
    let ids = c.args.ids.now in
    let k = c.loop-at.at in
    let a = c.class_at-id.result.0 in
    c.loop-at.invariant v m
    ∙ next_among p ids (k + 1) k a (name_at p c.args.last.0 ∷ []) c.need_of_one-need.result v refl
    c.class_at-id.ensures (λ rest. c.need_of_one-need.ensures.need v rest m)
    ∙ c.is_ready.ensures.other c.if-not-is_ready.true p _

pub returns-clause-need : goal.returns-clause-need
returns-clause-need c v m =
    let p = c.args.p.now in
    c.loop-at.invariant v m
    ∙ ap (λ l. need_among (look p) (map (name_at p) l ++ name_at p c.args.last.0 ∷ []) v) (none_left c.args.ids.now c.loop-at.at c.loop-at-test.false)
    ∙ last_among p c.args.last.0 c.need_of_one.result v (λ rest. c.need_of_one.ensures.need v rest m)
