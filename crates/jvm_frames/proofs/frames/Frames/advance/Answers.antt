use Rattle.std.proofs.Common.{◌≡◌, length, Some, subst, sym, reverse, ◌∷◌}
use Rattle.jvm_state.specs.Stores.{AreBelow}
use Rattle.jvm_frames.specs.Frames.{frames_in, numbered, advanced}
use Rattle.jvm_frames.proofs.Keeping.{stands}
use Rattle.jvm_frames.proofs.Dropping.{words_are, words_fit, advance_below, advance_result, there_in, on_running}
use Rattle.jvm_frames.proofs.frames.Frames.advance.Goals as goal

pub go_on-requires-clause-words : goal.go_on-requires-clause-words
go_on-requires-clause-words c =
    let xs = c.self.inside.slots.items in
    let f = c.in-Some.frame in
    let words = c.words_of-words.result in
    let h = stands xs c.self.inside.frame f c.self.inside.callers.items c.in-Some.is c.self.invariant in
    words_fit xs f c.args.count words h.0 (words_are xs c.operands_of.result.now c.deref.result.now f c.args.count words c.words_of-words.ensures c.operands_of.ensures c.deref.ensures.value)

pub invariant_of-self-2 : goal.invariant_of-self-2
invariant_of-self-2 c =
    let xs = c.self.inside.slots.items in
    let cs = c.self.inside.callers.items in
    let f = c.in-Some.frame in
    let words = c.words_of-words.result in
    let h = stands xs c.self.inside.frame f cs c.in-Some.is c.self.invariant in
    let e = words_are xs c.operands_of.result.now c.deref.result.now f c.args.count words c.words_of-words.ensures c.operands_of.ensures c.deref.ensures.value in
    let there = there_in xs c.self.inside.frame f cs c.args.self.now c.args.count c.self.view_is c.in-Some.is c.requires.count in
    subst (λ g. AreBelow xs (length xs) (g ∷ reverse cs)) (sym c.go_on.ensures) (advance_below xs f cs c.args.count words h there e)

pub returns : goal.returns
returns c =
    let xs = c.self.inside.slots.items in
    let cs = c.self.inside.callers.items in
    let f = c.in-Some.frame in
    let words = c.words_of-words.result in
    let h = stands xs c.self.inside.frame f cs c.in-Some.is c.self.invariant in
    let e = words_are xs c.operands_of.result.now c.deref.result.now f c.args.count words c.words_of-words.ensures c.operands_of.ensures c.deref.ensures.value in
    let there = there_in xs c.self.inside.frame f cs c.args.self.now c.args.count c.self.view_is c.in-Some.is c.requires.count in
    on_running (λ k s. frames_in xs (Some c.go_on.new.frame) cs ≡ record s { frame = Some (advanced c.args.count k) }) xs c.self.inside.frame f cs c.args.self.now c.self.view_is c.in-Some.is
    (subst (λ g. frames_in xs (Some g) cs ≡ record (frames_in xs (Some f) cs) { frame = Some (advanced c.args.count (numbered xs f)) }) (sym c.go_on.ensures) (advance_result xs f cs c.args.count words h there e))
