use Rattle.std.proofs.Common.{◌≡◌, ◌≤◌, arith, Some, subst, sym}
use Rattle.jvm_frames.specs.Frames.{called, frames_in, AreFrames}
use Rattle.jvm_frames.proofs.Keeping.{stands, frames_are, some_args, words_within, of_running, kept_frames, entered_below, entered_result}
use Rattle.jvm_frames.proofs.frames.Frames.enter.Goals as goal

pub enter-requires-clause-args : goal.enter-requires-clause-args
enter-requires-clause-args c =
    let xs = c.self.inside.slots.items in
    let cs = c.self.inside.callers.items in
    let f = c.in-Some.caller in
    let args = some_args xs c.self.inside.frame f cs c.args.self.now c.args.args.count c.args.args.words c.self.view_is c.in-Some.is c.requires.args in
    let within : c.args.args.words ≤ f.sp = words_within xs f (stands xs c.self.inside.frame f cs c.in-Some.is c.self.invariant).0 c.args.args.count c.args.args.words args in
    omega (arith, within)

pub overflow_sub-caller : goal.overflow_sub-caller
overflow_sub-caller c =
    let xs = c.self.inside.slots.items in
    let cs = c.self.inside.callers.items in
    let f = c.in-Some.caller in
    let args = some_args xs c.self.inside.frame f cs c.args.self.now c.args.args.count c.args.args.words c.self.view_is c.in-Some.is c.requires.args in
    words_within xs f (stands xs c.self.inside.frame f cs c.in-Some.is c.self.invariant).0 c.args.args.count c.args.args.words args

pub invariant_of-self : goal.invariant_of-self
invariant_of-self c =
    let xs = c.self.inside.slots.items in
    let cs = c.self.inside.callers.items in
    let f = c.in-Some.caller in
    frames_are c.enter.new.slots.items c.self.inside.frame f cs c.in-Some.is
    (kept_frames xs c.enter.new.slots.items f _ (stands xs c.self.inside.frame f cs c.in-Some.is c.self.invariant) c.enter.ensures.below c.enter.ensures.more)

pub invariant_of-self-in_err-push : goal.invariant_of-self-in_err-push
invariant_of-self-in_err-push c =
    let xs = c.self.inside.slots.items in
    let cs = c.self.inside.callers.items in
    let f = c.in-Some.caller in
    subst (λ t. AreFrames c.enter.new.slots.items c.self.inside.frame t) (sym c.in_err-push.ensures.items)
    (frames_are c.enter.new.slots.items c.self.inside.frame f cs c.in-Some.is
    (kept_frames xs c.enter.new.slots.items f _ (stands xs c.self.inside.frame f cs c.in-Some.is c.self.invariant) c.enter.ensures.below c.enter.ensures.more))

pub invariant_of-self-2 : goal.invariant_of-self-2
invariant_of-self-2 c =
    let xs = c.self.inside.slots.items in
    let cs = c.self.inside.callers.items in
    let f = c.in-Some.caller in
    let n = c.args.args.count in
    let w = c.args.args.words in
    let args = some_args xs c.self.inside.frame f cs c.args.self.now n w c.self.view_is c.in-Some.is c.requires.args in
    entered_below xs c.enter.new.slots.items f c.in_ok-callee.callee cs c.push.new.self.items n w c.args.class.0 c.args.method c.args.max_locals c.args.max_stack (stands xs c.self.inside.frame f cs c.in-Some.is c.self.invariant) args c.in_ok-callee.ensures.entered c.enter.ensures.more c.in_ok-push.ensures.items

pub returns : goal.returns
returns c =
    let xs = c.self.inside.slots.items in
    let cs = c.self.inside.callers.items in
    let f = c.in-Some.caller in
    let n = c.args.args.count in
    let w = c.args.args.words in
    let args = some_args xs c.self.inside.frame f cs c.args.self.now n w c.self.view_is c.in-Some.is c.requires.args in
    let g = c.in_ok-callee.callee in
    of_running (λ h s. frames_in c.enter.new.slots.items (Some g) c.push.new.self.items ≡ called n c.args.class.0 c.args.method c.args.max_locals c.args.max_stack h s.callers) xs c.self.inside.frame f cs c.args.self.now c.self.view_is c.in-Some.is
    (entered_result xs c.enter.new.slots.items f g cs c.push.new.self.items n w c.args.class.0 c.args.method c.args.max_locals c.args.max_stack (stands xs c.self.inside.frame f cs c.in-Some.is c.self.invariant) args c.in_ok-callee.ensures.entered c.enter.ensures.more c.in_ok-push.ensures.items)
