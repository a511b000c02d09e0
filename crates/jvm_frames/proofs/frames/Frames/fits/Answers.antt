use Rattle.std.proofs.Common.{◌≡◌, ap, ◌∙◌}
use Rattle.std.specs.Prelude.{nat_le}
use Rattle.jvm_frames.specs.Frames.{has_room_for}
use Rattle.jvm_frames.proofs.Keeping.{stands}
use Rattle.jvm_frames.proofs.Dropping.{words_are, words_fit, room_is, on_running}
use Rattle.jvm_frames.proofs.frames.Frames.fits.Goals as goal

pub overflow_sub-left : goal.overflow_sub-left
overflow_sub-left c =
    let xs = c.self.inside.slots.items in
    let f = c.in-Some.frame in
    let words = c.words_of-words.result in
    let h = stands xs c.self.inside.frame f c.self.inside.callers.items c.in-Some.is c.self.invariant in
    words_fit xs f c.args.count words h.0 (words_are xs c.operands_of.result.now c.deref.result.now f c.args.count words c.words_of-words.ensures c.operands_of.ensures c.deref.ensures.value)

pub returns : goal.returns
returns c =
    let xs = c.self.inside.slots.items in
    let f = c.in-Some.frame in
    let n = c.args.count in
    let words = c.words_of-words.result in
    let h = stands xs c.self.inside.frame f c.self.inside.callers.items c.in-Some.is c.self.invariant in
    let e = words_are xs c.operands_of.result.now c.deref.result.now f n words c.words_of-words.ensures c.operands_of.ensures c.deref.ensures.value in
    on_running (λ k s. c.is_within.result ≡ has_room_for n c.args.v k) xs c.self.inside.frame f c.self.inside.callers.items c.args.self.now c.self.view_is c.in-Some.is
    (c.is_within.ensures ∙ ap (λ m. nat_le m f.top) (room_is xs f n words c.width.result c.args.v h.0 e c.width.ensures))
