use Rattle.std.proofs.Common.{◌≡◌, length, Some, subst, sym, true, reverse, ◌∙◌, ◌∷◌}
use Rattle.std.specs.Vec.{with_items}
use Rattle.std.proofs.lemmas.List.{with_items_is}
use Rattle.machine_rules.specs.Effects.{NoRow}
use Rattle.jvm_state.specs.Stores.{AreBelow, IsFrame, StepsTo, StaysAt}
use Rattle.jvm_frames.specs.Frames.{GoOn, replacing, pushing, frames_in, has_room_for, numbered}
use Rattle.jvm_frames.proofs.Keeping.{stands}
use Rattle.jvm_frames.proofs.Dropping.{lowered, lowered_frame, words_are, words_fit, put_goes, put_below, put_goes_on, there_in, in_running, on_running}
use Rattle.jvm_frames.proofs.frames.Frames.put.Goals as goal

pub overflow_sub-frame : goal.overflow_sub-frame
overflow_sub-frame c =
    let xs = c.self.inside.slots.items in
    let f = c.in-Some.frame in
    let words = c.words_of-words.result in
    let h = stands xs c.self.inside.frame f c.self.inside.callers.items c.in-Some.is c.self.invariant in
    words_fit xs f c.args.count words h.0 (words_are xs c.operands_of.result.now c.deref.result.now f c.args.count words c.words_of-words.ensures c.operands_of.ensures c.deref.ensures.value)

pub push_in-requires-clause-frame : goal.push_in-requires-clause-frame
push_in-requires-clause-frame c =
    let xs = c.self.inside.slots.items in
    let f = c.in-Some.frame in
    let words = c.words_of-words.result in
    let h = stands xs c.self.inside.frame f c.self.inside.callers.items c.in-Some.is c.self.invariant in
    let e = words_are xs c.operands_of.result.now c.deref.result.now f c.args.count words c.words_of-words.ensures c.operands_of.ensures c.deref.ensures.value in
    let there = there_in xs c.self.inside.frame f c.self.inside.callers.items c.args.self.now c.args.count c.self.view_is c.in-Some.is c.requires.count in
    subst (λ ys. IsFrame ys (lowered f words)) (sym c.deref_mut.ensures.value) (lowered_frame xs f c.args.count words h.0 there e)

pub unreachable-requires : goal.unreachable-requires
unreachable-requires c =
    let xs = c.self.inside.slots.items in
    let cs = c.self.inside.callers.items in
    let f = c.in-Some.frame in
    let n = c.args.count in
    let v = c.args.v in
    let words = c.words_of-words.result in
    let new = c.push_in.new.slots in
    let h = stands xs c.self.inside.frame f cs c.in-Some.is c.self.invariant in
    let e = words_are xs c.operands_of.result.now c.deref.result.now f n words c.words_of-words.ensures c.operands_of.ensures c.deref.ensures.value in
    let there = there_in xs c.self.inside.frame f cs c.args.self.now n c.self.view_is c.in-Some.is c.requires.count in
    let room = in_running (λ k. has_room_for n v k ≡ true) xs c.self.inside.frame f cs c.args.self.now c.self.view_is c.in-Some.is c.requires.room in
    let stays = subst (λ ys. StaysAt (pushing v f.top) (λ w k fs. NoRow) ys new (lowered f words) c.push_in.new.f) c.deref_mut.ensures.value c.if-not-push_in.ensures.pushes in
    put_goes_on v xs new f c.push_in.new.f n words h.0 there e room stays

pub invariant_of-self-2 : goal.invariant_of-self-2
invariant_of-self-2 c =
    let xs = c.self.inside.slots.items in
    let cs = c.self.inside.callers.items in
    let f = c.in-Some.frame in
    let n = c.args.count in
    let v = c.args.v in
    let words = c.words_of-words.result in
    let new = c.push_in.new.slots in
    let g = c.push_in.new.f in
    let h = stands xs c.self.inside.frame f cs c.in-Some.is c.self.invariant in
    let e = words_are xs c.operands_of.result.now c.deref.result.now f n words c.words_of-words.ensures c.operands_of.ensures c.deref.ensures.value in
    let there = there_in xs c.self.inside.frame f cs c.args.self.now n c.self.view_is c.in-Some.is c.requires.count in
    let steps = subst (λ ys. StepsTo (pushing v f.top) ys new (lowered f words) g) c.deref_mut.ensures.value c.if-not-push_in.ensures.pushes in
    let same : length new ≡ length xs = subst (λ ys. length new ≡ length ys) c.deref_mut.ensures.value c.push_in.ensures.len in
    subst (λ ys. AreBelow ys (length ys) (g ∷ reverse cs)) (sym (with_items_is c.self.inside.slots new (c.push_in.ensures.len ∙ c.deref_mut.ensures.len)))
    (put_below v xs new f g cs n words h there e steps same)

pub returns : goal.returns
returns c =
    let xs = c.self.inside.slots.items in
    let cs = c.self.inside.callers.items in
    let f = c.in-Some.frame in
    let n = c.args.count in
    let v = c.args.v in
    let words = c.words_of-words.result in
    let new = c.push_in.new.slots in
    let g = c.push_in.new.f in
    let h = stands xs c.self.inside.frame f cs c.in-Some.is c.self.invariant in
    let e = words_are xs c.operands_of.result.now c.deref.result.now f n words c.words_of-words.ensures c.operands_of.ensures c.deref.ensures.value in
    let there = there_in xs c.self.inside.frame f cs c.args.self.now n c.self.view_is c.in-Some.is c.requires.count in
    let steps = subst (λ ys. StepsTo (pushing v f.top) ys new (lowered f words) g) c.deref_mut.ensures.value c.if-not-push_in.ensures.pushes in
    let same : length new ≡ length xs = subst (λ ys. length new ≡ length ys) c.deref_mut.ensures.value c.push_in.ensures.len in
    on_running (λ k s. GoOn (replacing n v k.room) k s (frames_in (with_items c.self.inside.slots new).items (Some g) cs)) xs c.self.inside.frame f cs c.args.self.now c.self.view_is c.in-Some.is
    (subst (λ ys. GoOn (replacing n v f.top) (numbered xs f) (frames_in xs (Some f) cs) (frames_in ys (Some g) cs)) (sym (with_items_is c.self.inside.slots new (c.push_in.ensures.len ∙ c.deref_mut.ensures.len)))
    (put_goes v xs new f g cs n words h there e steps same))
