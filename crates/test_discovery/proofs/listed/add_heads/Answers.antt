use Rattle.std.proofs.Common.{◌∙◌, sym, ap, true, cond, ◌||◌, take}
use Rattle.std.specs.List.{list_any}
use Rattle.std.specs.Ordering.{is_eq}
use Rattle.std.proofs.lemmas.List.Folds.{list_any_more}
use Rattle.class_model.specs.declared.class.Member.{Member}
use Rattle.test_discovery.specs.Listed.{head_of, same_head}
use Rattle.test_discovery.specs.Heads.{head_cmp, has_head}
use Rattle.test_discovery.proofs.Lists.{alike, or_last}
use Rattle.test_discovery.proofs.listed.add_heads.Goals as goal

pub loop-member-preserved : goal.loop-member-preserved
loop-member-preserved c = λ head.
    let is = λ (m : Member). same_head (head_of c.args.pool.now m) head in
    let m = c.member-item.result in
    let i = c.loop-member.member-index in
    let before = has_head c.args.heads.now head in
    let any = list_any is (take i c.args.members.now) in
    c.in_ok-insert.ensures.updates.0 head
    ∙ ap (λ k. cond (is_eq (head_cmp k head)) true (has_head c.loop-member.heads head)) c.in_ok-head_of.ensures
    ∙ ap (λ x. cond x true (has_head c.loop-member.heads head)) (alike (head_of c.args.pool.now m) head)
    ∙ ap (λ x. cond (is m) true x) (c.loop-member.invariant head)
    ∙ or_last (is m) before any
    ∙ ap (λ x. before || (any || is x)) c.member-item.is
    ∙ ap (λ x. before || x) (sym (list_any_more is c.args.members.now i m c.loop-member-test.true))
