use Rattle.std.proofs.Common.{◌≡◌, Some, ◌-◌}
use Rattle.jvm_frames.specs.Frames.{cut, frames_in}
use Rattle.jvm_frames.proofs.Keeping.{stands, some_args, words_within, of_running, cut_below, cut_result}
use Rattle.jvm_frames.proofs.frames.Frames.cut.Goals as goal

pub overflow_sub-frame : goal.overflow_sub-frame
overflow_sub-frame c =
    let xs = c.self.inside.slots.items in
    let cs = c.self.inside.callers.items in
    let f = c.in-Some.frame in
    let args = some_args xs c.self.inside.frame f cs c.args.self.now c.args.args.count c.args.args.words c.self.view_is c.in-Some.is c.requires in
    words_within xs f (stands xs c.self.inside.frame f cs c.in-Some.is c.self.invariant).0 c.args.args.count c.args.args.words args

pub invariant_of-self-2 : goal.invariant_of-self-2
invariant_of-self-2 c =
    let xs = c.self.inside.slots.items in
    let cs = c.self.inside.callers.items in
    let f = c.in-Some.frame in
    let args = some_args xs c.self.inside.frame f cs c.args.self.now c.args.args.count c.args.args.words c.self.view_is c.in-Some.is c.requires in
    cut_below xs f cs c.args.args.count c.args.args.words (stands xs c.self.inside.frame f cs c.in-Some.is c.self.invariant) args

pub returns : goal.returns
returns c =
    let xs = c.self.inside.slots.items in
    let cs = c.self.inside.callers.items in
    let f = c.in-Some.frame in
    let args = some_args xs c.self.inside.frame f cs c.args.self.now c.args.args.count c.args.args.words c.self.view_is c.in-Some.is c.requires in
    of_running (λ g s. frames_in xs (Some (record f { sp = f.sp - c.args.args.words })) cs ≡ record s { frame = Some (cut c.args.args.count g) }) xs c.self.inside.frame f cs c.args.self.now c.self.view_is c.in-Some.is
    (cut_result xs f cs c.args.args.count c.args.args.words (stands xs c.self.inside.frame f cs c.in-Some.is c.self.invariant) args)
