use Rattle.std.proofs.Common.{◌≡◌, ◌+◌, ◌-◌, length, map, take, subst, sym}
use Rattle.std.proofs.lemmas.List.{length-map}
use Rattle.program_rules.specs.Kinds.{height_of}
use Rattle.class_link.specs.Symbols.{kind_of}
use Rattle.jvm_state.specs.Slots.{stack_in}
use Rattle.jvm_state.specs.Stores.{operands_at}
use Rattle.jvm_frames.specs.Frames.{AreArgs, TakesArgs}
use Rattle.jvm_frames.proofs.Taking.{args_counted}
use Rattle.jvm_frames.proofs.Keeping.{of_running}
use Rattle.jvm_frames.proofs.frames.Frames.args.Goals as goal

pub returns-clause-some : goal.returns-clause-some
returns-clause-some c =
    let xs = c.self.inside.slots.items in
    let cs = c.self.inside.callers.items in
    let f = c.in_ok-frame.frame in
    let ks = c.args.kinds.now in
    let here : c.operands_of.result.now ≡ operands_at xs f = subst (λ ys. c.operands_of.result.now ≡ operands_at ys f) c.deref.ensures.value c.operands_of.ensures in
    let words = subst (λ os. c.in_ok-below.below + height_of (take (length ks) (stack_in os f.sp)) ≡ f.sp) here c.in_ok-below.ensures.words in
    let takes = subst (λ os. TakesArgs (map kind_of ks) (stack_in os f.sp)) here c.in_ok-below.ensures.some in
    let frame = of_running (λ g s. AreArgs (length ks) (f.sp - c.in_ok-below.below) g.stack) xs c.self.inside.frame f cs c.args.self.now c.self.view_is c.in_ok-frame.was in
    let kinds = of_running (λ g s. TakesArgs (map kind_of ks) g.stack) xs c.self.inside.frame f cs c.args.self.now c.self.view_is c.in_ok-frame.was in
    record {
      takes = kinds takes;
      args = frame (args_counted ks (stack_in (operands_at xs f) f.sp) c.in_ok-below.below f.sp takes words);
      count = sym (length-map ks kind_of);
    }
