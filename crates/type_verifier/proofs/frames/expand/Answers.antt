use Rattle.std.proofs.Common.{◌≡◌, ◌+◌, [], ◌∷◌, drop, reverse, arith, subst}
use Rattle.std.proofs.lemmas.Grind.{common_steps}
use Rattle.type_verifier.specs.Steps.{FrameBy}
use Rattle.type_verifier.proofs.Expanding.{HasExpanded, begin, one_more, one_fails, all_expanded}
use Rattle.type_verifier.proofs.frames.expand.Goals as goal

pub next_frame-requires : goal.next_frame-requires
next_frame-requires c = c.loop-difference.invariant.right

pub loop-difference-init : goal.loop-difference-init
loop-difference-init c =
    begin c.args.method.now c.args.first.now c.first_locals.new.store.items c.in_ok-before.before c.in_ok-before.ensures c.requires c.args.differences.now c.new-frames.result.items c.new-frames.ensures.items

pub loop-difference-preserved : goal.loop-difference-preserved
loop-difference-preserved c =
    let x = c.args.method.now in
    let all = c.args.differences.now in
    let k = c.loop-difference.difference-index in
    let d = c.difference-item.result in
    let store = c.loop-difference.store.items in
    let new = c.next_frame.new.store.items in
    let before = c.loop-difference.before in
    let frames = c.loop-difference.frames.items in
    let split : drop k all ≡ d ∷ drop (k + 1) all = grind (arith, common_steps) in
    one_more x (reverse c.args.first.now) all (drop (k + 1) all) store new before frames c.put.new.frames.items d c.in-Some.frame
    (subst (λ left. HasExpanded x (reverse c.args.first.now) all left store before frames) split c.loop-difference.invariant)
    c.in_ok-next.ensures.kept (subst (FrameBy x store new before d) c.in-Some.is c.in_ok-next.ensures.by)
    c.in_ok-put-in-Some.ensures.put c.in_ok-put-in-Some.ensures.kept

pub returns-in-None : goal.returns-in-None
returns-in-None c =
    let x = c.args.method.now in
    let all = c.args.differences.now in
    let k = c.loop-difference.difference-index in
    let d = c.difference-item.result in
    let store = c.loop-difference.store.items in
    let new = c.next_frame.new.store.items in
    let before = c.loop-difference.before in
    let frames = c.loop-difference.frames.items in
    let split : drop k all ≡ d ∷ drop (k + 1) all = grind (arith, common_steps) in
    one_fails x c.args.first.now all store before frames (drop (k + 1) all) d
    (subst (λ left. HasExpanded x (reverse c.args.first.now) all left store before frames) split c.loop-difference.invariant)
    (subst (FrameBy x store new before d) c.in-None.is c.in_ok-next.ensures.by)

pub returns : goal.returns
returns c =
    let all = c.args.differences.now in
    let k = c.loop-difference.difference-index in
    let none : drop k all ≡ [] = grind (arith, common_steps, c.loop-difference-test.false) in
    all_expanded c.args.method.now c.args.first.now all c.loop-difference.store.items c.loop-difference.before c.loop-difference.frames.items (drop k all) none c.loop-difference.invariant c.new-stated.result c.new-stated.ensures
