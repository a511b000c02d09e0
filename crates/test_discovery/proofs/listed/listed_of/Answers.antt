use Rattle.std.proofs.Common.{◌∙◌, ◌||◌, sym, ap, map, take}
use Rattle.std.specs.List.{list_any}
use Rattle.test_discovery.specs.Listed.{head_of, same_head, declares, declares_any, listed_of}
use Rattle.test_discovery.specs.Heads.{has_head}
use Rattle.test_discovery.proofs.Lists.{above_step, any_next}
use Rattle.test_discovery.proofs.listed.listed_of.Goals as goal

pub loop-class-preserved : goal.loop-class-preserved
loop-class-preserved c =
    let cs = c.args.classes.now in
    let i = c.loop-class.class-index in
    let x = c.class-item.result in
    let lower = c.loop-class.lower in (
      above_step (λ r. r.now) cs i x c.loop-class.listed.items c.push.new.self.items _ (has_head lower) (listed_of (map (λ r. r.now) cs)) c.loop-class-test.true c.class-item.is c.in_ok-push.ensures.items c.in_ok-listed_in.ensures c.loop-class.invariant.1 c.loop-class.invariant.0,
      λ head.
          c.in_ok-add_heads.ensures head
          ∙ ap (λ pool. has_head lower head || list_any (λ m. same_head (head_of pool m) head) c.as_slice-in-loop-class.result.now) c.as_slice.ensures
          ∙ ap (λ ms. has_head lower head || list_any (λ m. same_head (head_of x.now.pool m) head) ms) c.as_slice-in-loop-class.ensures
          ∙ ap (λ b. b || declares head x.now) (c.loop-class.invariant.1 head)
          ∙ ap (λ y. declares_any (map (λ r. r.now) (take i cs)) head || declares head y.now) c.class-item.is
          ∙ sym (any_next (declares head) (λ r. r.now) cs i x c.loop-class-test.true),
    )
